-- What a datagram says, as it is held, on the line, and as it is handed out. Assumes nothing.
use Rattle.std.specs.Prelude.{ℕ, List, take, Option}
use Rattle.std.specs.Option.{option_map}
use Rattle.terms.specs.declared.side.Side.{Side}
use Rattle.terms.specs.Short.{held}
use Rattle.channel.specs.declared.datagram.Datagram.{Datagram}
use Rattle.channel.specs.declared.datagram.Header.{Header}

-- the transfer identifiers at the two ends of a datagram, and its bytes
pub record Body : Type 0 where
  pub source : ℕ
  pub target : ℕ
  pub bytes : List ℕ

abbrev pub body : ℕ → ℕ → List ℕ → Body
body s t bs = record { source = s; target = t; bytes = bs }

-- a datagram on the line, with the side that it comes from
pub record Packet : Type 0 where
  pub from : Side
  pub body : Body

abbrev pub packet : Side → Body → Packet
packet f b = record { from = f; body = b }

-- what a place in memory holds
abbrev pub holds : Datagram → Body
holds d = body d.source d.target (held d.bytes)

-- what a header and the front of a buffer say
abbrev pub in_front : Header → List ℕ → Body
in_front h buf = body h.source h.target (take h.len buf)

-- what a take has handed out, by its answer and its buffer
abbrev pub handed : Option Header → List ℕ → Option Body
handed o buf = option_map (λ h. in_front h buf) o

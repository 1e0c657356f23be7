-- What a ring means as a channel. Assumes nothing.
use Rattle.std.specs.Prelude.{ℕ, Option}
use mathlib.Core.List.{Memᴰ}
use Rattle.terms.specs.declared.side.Side.{Side}
use Rattle.terms.specs.Sides.{opposite}
use Rattle.channel.specs.Packet.{Packet, Body}
use Rattle.channel.specs.Tallies.{tally_in}
use Rattle.ring.specs.declared.ring.Ring.{Ring}
use Rattle.ring.specs.Waiting.{waiting, Appended, Removed}

-- a packet is afloat while it waits for the side that it does not come from
abbrev pub ring_afloat : Ring → Packet → Type 0
ring_afloat r p = Memᴰ p.body (waiting r (opposite p.from))

abbrev pub ring_tally : Ring → Side → ℕ
ring_tally r = tally_in r.tallies

-- a put adds to the queue for the other side
abbrev pub ring_posts : Ring → Packet → Ring → Type 0
ring_posts before p after = Appended (opposite p.from) p.body before after

-- a take hands out the oldest, and none only if none waits
abbrev pub ring_hands : Ring → Side → Option Body → Ring → Type 0
ring_hands before side got after = Removed side got before after

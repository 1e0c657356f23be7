-- Which packets were put, and in which order. Assumes nothing.
use Rattle.std.specs.Prelude.{◌≡◌, ℕ, ◌<◌, List, [], ◌∷◌, ◌++◌, length, replicate, Ok, Err, Result}
use Rattle.terms.specs.declared.refusal.Refusal.{Refusal}
use Rattle.terms.specs.declared.refusal.Refusal.TheVariants.{Malformed}
use Rattle.channel.specs.Packet.{Packet}

-- these packets were put, in this order: one step of the channel's own for each
pub data Sent {S : Type 0} (posts : S → Packet → S → Type 0) : S → List Packet → S → Type 0 where
  none : {s : S} → Sent posts s [] s
  more : {s t u : S} {ps : List Packet} {p : Packet} → Sent posts s ps t → posts t p u → Sent posts s (ps ++ (p ∷ [])) u

-- what was sent up to a state and what was sent from there on are sent in this order
abbrev pub SentInTurn : {S : Type 0} → (S → Packet → S → Type 0) → Type 0
SentInTurn {S} posts = (s t u : S) (ps qs : List Packet) → Sent posts s ps t → Sent posts t qs u → Sent posts s (ps ++ qs) u

-- a packet was put so many times, or else is too long, and nothing changed
abbrev pub SentAll : {S X : Type 0} → (S → Packet → S → Type 0) → S → S → Packet → ℕ → Result X Refusal → Type 0
SentAll posts s t p n (Ok v) = Sent posts s (replicate n p) t
SentAll posts s t p n (Err e) = (1472 < length p.body.bytes) × (0 < n) × (e ≡ Malformed) × (t ≡ s)

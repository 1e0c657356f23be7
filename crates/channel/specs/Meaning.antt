-- What the calls of a channel answer and leave. Assumes nothing.
use Rattle.std.specs.Prelude.{◌≡◌, ℕ, ◌+◌, ◌-◌, ◌^◌, ◌<◌, ◌≤◌, min, ◌⊎◌, List, length, drop, Some, None, Ok, Err, Option, Result}
use Rattle.terms.specs.declared.refusal.Refusal.{Refusal}
use Rattle.terms.specs.declared.refusal.Refusal.TheVariants.{Malformed, ShortBuffer}
use Rattle.terms.specs.declared.side.Side.{Side}
use Rattle.terms.specs.Sides.{opposite}
use Rattle.channel.specs.declared.datagram.Header.{Header}
use Rattle.channel.specs.Packet.{Packet, packet, in_front}

-- one more, but never past the largest tally, 4,294,967,295
abbrev pub raised : ℕ → ℕ
raised n = min (n + 1) (2 ^ 32 - 1)

-- the tallies before and after a put by a side
pub record Raised (side : Side) (before after : Side → ℕ) : Type 0 where
  pub own : after side ≡ raised (before side)
  pub other : after (opposite side) ≡ before (opposite side)

-- an accepted put over a channel that was s and is t: what is afloat was afloat before or is the new packet
pub record Posted {S : Type 0} (afloat : S → Packet → Type 0) (tally : S → Side → ℕ) (s t : S) (new : Packet) : Type 0 where
  pub fits : length new.body.bytes ≤ 1472
  pub within : (p : Packet) → afloat t p → afloat s p ⊎ (p ≡ new)
  pub tallies : Raised new.from (tally s) (tally t)

-- a put is refused above 1,472 bytes, and then changes nothing
abbrev pub Put : {S X : Type 0} → (S → Packet → Type 0) → (S → Side → ℕ) → S → S → Packet → Result X Refusal → Type 0
Put afloat tally s t new (Ok v) = Posted afloat tally s t new
Put afloat tally s t new (Err e) = (1472 < length new.body.bytes) × (e ≡ Malformed) × (t ≡ s)

-- a packet handed out: it was afloat, for that side, and the buffer, which was `before` and is `after`, is unchanged past it
pub record HandedOut (was_afloat : Packet → Type 0) (side : Side) (h : Header) (before after : List ℕ) : Type 0 where
  pub fits : h.len ≤ 1472
  pub was : was_afloat (packet (opposite side) (in_front h after))
  pub rest : drop h.len after ≡ drop h.len before

abbrev pub Answered : (Packet → Type 0) → Side → List ℕ → List ℕ → Option Header → Type 0
Answered was_afloat side before after None = after ≡ before
Answered was_afloat side before after (Some h) = HandedOut was_afloat side h before after

-- an accepted take: what is afloat was afloat before, and no tally changes
pub record Taken {S : Type 0} (afloat : S → Packet → Type 0) (tally : S → Side → ℕ) (s t : S) (side : Side) (before after : List ℕ) (o : Option Header) : Type 0 where
  pub room : 1472 ≤ length before
  pub answer : Answered (afloat s) side before after o
  pub within : (p : Packet) → afloat t p → afloat s p
  pub tallies : (x : Side) → tally t x ≡ tally s x

-- a take is refused with a buffer under 1,472 bytes, and then changes nothing
abbrev pub Take : {S : Type 0} → (S → Packet → Type 0) → (S → Side → ℕ) → S → S → Side → List ℕ → List ℕ → Result (Option Header) Refusal → Type 0
Take afloat tally s t side before after (Ok o) = Taken afloat tally s t side before after o
Take afloat tally s t side before after (Err e) =
    (length before < 1472) × (e ≡ ShortBuffer) × (t ≡ s) × (after ≡ before)

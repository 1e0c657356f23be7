-- What a tap has recorded, and what its calls add. Assumes nothing.
use Rattle.std.specs.Prelude.{◌≡◌, List, [], ◌∷◌, ◌++◌, map, length, take, cond, nat_lt, Some, None, Option}
use Rattle.terms.specs.declared.side.Side.{Side}
use Rattle.terms.specs.Sides.{opposite}
use Rattle.channel.specs.Packet.{Packet, Body, packet, holds}
use Rattle.tap.specs.declared.tap.Way.{Way}
use Rattle.tap.specs.declared.tap.Way.TheVariants.{Put, Taken}
use Rattle.tap.specs.declared.tap.Passed.{Passed}
use Rattle.tap.specs.declared.tap.Tap.{Tap}

-- a packet that passed, and which way
pub record Passage : Type 0 where
  pub way : Way
  pub packet : Packet

abbrev pub passed : Passed → Passage
passed p = record { way = p.way; packet = packet p.from (holds p.datagram) }

-- what is recorded, in order
abbrev pub recorded : {C : Type 0} → Tap C → List Passage
recorded t = map passed (take t.count t.entries.now)

-- the passage is recorded last, unless every entry is in use
abbrev pub Noted : {C : Type 0} → Passage → Tap C → Tap C → Type 0
Noted p s t = (recorded t ≡ recorded s ++ cond (nat_lt s.count (length s.entries.now)) (p ∷ []) []) × (length t.entries.now ≡ length s.entries.now)

-- a put over a tap: it is a put over the channel below, and the packet is recorded
abbrev pub tap_posts : {C : Type 0} → (C → Packet → C → Type 0) → Tap C → Packet → Tap C → Type 0
tap_posts posts s p t = posts s.channel p t.channel × Noted (record { way = Put; packet = p }) s t

-- a take over a tap: it is a take over the channel below, and what is handed out is recorded
abbrev pub TakenNoted : {C : Type 0} → Side → Option Body → Tap C → Tap C → Type 0
TakenNoted side None s t = (recorded t ≡ recorded s) × (length t.entries.now ≡ length s.entries.now)
TakenNoted side (Some b) s t = Noted (record { way = Taken; packet = packet (opposite side) b }) s t

abbrev pub tap_hands : {C : Type 0} → (C → Side → Option Body → C → Type 0) → Tap C → Side → Option Body → Tap C → Type 0
tap_hands hands s side b t = hands s.channel side b t.channel × TakenNoted side b s t

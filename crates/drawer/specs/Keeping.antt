-- What a drawer keeps, and what its calls do with that. Assumes nothing.
use Rattle.std.specs.Prelude.{◌≡◌, ℕ, Bool, true, false, cond, List, [], ◌∷◌, ◌++◌, map, length, take, drop, Some, None, Option, nat_lt, slice_get}
use Rattle.terms.specs.declared.side.Side.{Side}
use Rattle.terms.specs.declared.side.Side.TheVariants.{Shield, Cabin}
use Rattle.channel.specs.Packet.{Packet, Body, packet, holds}
use Rattle.channel.specs.Tallies.{tally_in}
use Rattle.queue.specs.Queued.{queued}
use Rattle.drawer.specs.declared.drawer.Kept.{Kept}
use Rattle.drawer.specs.declared.drawer.Drawer.{Drawer}

-- the packet in a slot
abbrev pub packet_of : Kept → Packet
packet_of k = packet k.from (holds k.datagram)

-- what a drawer keeps, in the order in which it came
abbrev pub keeps : Drawer → List Packet
keeps d = map packet_of (take d.count d.slots.now)

-- how many packets a drawer can keep
abbrev pub room : Drawer → ℕ
room d = length d.slots.now

-- the picks that are left, the next one first
abbrev pub picks_left : Drawer → List ℕ
picks_left d = queued d.picks

-- a drawer of room for 32 that keeps nothing, with those picks, and on which nothing was put
pub record Fresh (given : List ℕ) (d : Drawer) : Type 0 where
  pub empty : keeps d ≡ []
  pub room : room d ≡ 32
  pub picks : picks_left d ≡ given
  pub unused : (side : Side) → tally_in d.tallies side ≡ 0

-- the new one is kept last while there is room, and else is lost; all else stays
pub record OneKept (new : Packet) (before after : Drawer) : Type 0 where
  pub kept : keeps after ≡ keeps before ++ cond (nat_lt (length (keeps before)) (room before)) (new ∷ []) []
  pub room : room after ≡ room before
  pub picks : picks_left after ≡ picks_left before

-- whether a packet from one side is for the other
abbrev pub is_for : Side → Side → Bool
is_for Shield Shield = false
is_for Shield Cabin = true
is_for Cabin Shield = true
is_for Cabin Cabin = false

-- what a packet says, if it is for a side
abbrev pub for_side : Side → Option Packet → Option Body
for_side side None = None
for_side side (Some p) = cond (is_for side p.from) (Some p.body) None

-- what the picks tell a take for a side to hand out
abbrev pub picked : Side → List Packet → List ℕ → Option Body
picked side ps [] = None
picked side ps (n ∷ ns) = for_side side (slice_get ps n)

-- what was got is what the next pick tells, and that pick is used up; all else stays
pub record Drawn (side : Side) (got : Option Body) (before after : Drawer) : Type 0 where
  pub told : got ≡ picked side (keeps before) (picks_left before)
  pub picks : picks_left after ≡ drop 1 (picks_left before)
  pub kept : keeps after ≡ keeps before
  pub room : room after ≡ room before

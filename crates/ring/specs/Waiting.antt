-- What waits in a ring, and what its calls do with that. Assumes nothing.
use Rattle.std.specs.Prelude.{◌≡◌, ℕ, cond, List, [], ◌∷◌, ◌++◌, map, length, drop, Option, nat_lt, slice_get}
use Rattle.terms.specs.declared.side.Side.{Side}
use Rattle.terms.specs.declared.side.Side.TheVariants.{Shield, Cabin}
use Rattle.terms.specs.Sides.{opposite}
use Rattle.channel.specs.Packet.{Body, holds}
use Rattle.channel.specs.Tallies.{tally_in}
use Rattle.queue.specs.Queued.{queued, places}
use Rattle.ring.specs.declared.ring.Ring.{Ring}

-- what waits for a side, the oldest first
abbrev pub waiting : Ring → Side → List Body
waiting r Shield = map holds (queued r.to_shield)
waiting r Cabin = map holds (queued r.to_cabin)

-- how many can wait for a side
abbrev pub places_for : Ring → Side → ℕ
places_for r Shield = places r.to_shield
places_for r Cabin = places r.to_cabin

-- a ring of 16 places a side, in which nothing waits, and on which nothing was put
pub record Fresh (r : Ring) : Type 0 where
  pub empty : (side : Side) → waiting r side ≡ []
  pub places : (side : Side) → places_for r side ≡ 16
  pub unused : (side : Side) → tally_in r.tallies side ≡ 0

-- the new one is last in the queue for a side, or lost while no place is free there; all else stays
pub record Appended (side : Side) (new : Body) (before after : Ring) : Type 0 where
  pub there : waiting after side ≡ waiting before side ++ cond (nat_lt (length (waiting before side)) (places_for before side)) (new ∷ []) []
  pub here : waiting after (opposite side) ≡ waiting before (opposite side)
  pub places : (s : Side) → places_for after s ≡ places_for before s

-- what was got is the first in the queue for a side, or none if none waited, and waits no more; all else stays
pub record Removed (side : Side) (got : Option Body) (before after : Ring) : Type 0 where
  pub front : got ≡ slice_get (waiting before side) 0
  pub there : waiting after side ≡ drop 1 (waiting before side)
  pub here : waiting after (opposite side) ≡ waiting before (opposite side)
  pub places : (s : Side) → places_for after s ≡ places_for before s

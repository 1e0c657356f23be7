-- The number and the word of each side. Assumes nothing.
use Rattle.std.specs.Prelude.{ℕ, List, codes}
use Rattle.terms.specs.declared.side.Side.{Side}
use Rattle.terms.specs.declared.side.Side.TheVariants.{Shield, Cabin}

abbrev pub side_number : Side → ℕ
side_number Shield = 0
side_number Cabin = 1

abbrev pub side_word : Side → List ℕ
side_word Shield = codes "shield"
side_word Cabin = codes "cabin"

-- the side at the other end of the line
abbrev pub opposite : Side → Side
opposite Shield = Cabin
opposite Cabin = Shield

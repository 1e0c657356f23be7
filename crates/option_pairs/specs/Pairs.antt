-- Option pairs: which bytes are which pairs, and whether a name comes twice. Assumes nothing.
use Rattle.std.specs.Prelude.{◌≡◌, ℕ, Bool, false, ◌||◌, List, [], ◌∷◌, map}
use Rattle.std.specs.Char.{to_ascii_lowercase}
use Rattle.std.specs.List.{AllByRecursion}
use Rattle.std.specs.Str.{bytes_eq}
use Rattle.grammar.specs.Grammar.{Pair, Good, pairs}

-- the bytes bs are the pairs ps
abbrev pub Are : List Pair → List ℕ → Type 0
Are ps bs = AllByRecursion Good ps × (pairs ps ≡ bs)

-- one of the pairs has the name, without regard to the case of A to Z
abbrev pub has_name : List ℕ → List Pair → Bool
has_name n [] = false
has_name n (p ∷ ps) = bytes_eq (map to_ascii_lowercase p.name) (map to_ascii_lowercase n) || has_name n ps

-- a name comes twice
abbrev pub twice : List Pair → Bool
twice [] = false
twice (p ∷ ps) = has_name p.name ps || twice ps

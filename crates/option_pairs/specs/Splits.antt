-- The first pair of bytes. Assumes nothing.
use Rattle.std.specs.Prelude.{◌≡◌, ℕ, ◌<◌, List, length, Some, None, Option}
use Rattle.std.specs.Borrow.{Bor}
use Rattle.grammar.specs.Grammar.{Pair as PairOf}
use Rattle.grammar.specs.Meaning.{Cut}
use Rattle.option_pairs.specs.declared.pairs.Pairs.{Pairs}
use Rattle.option_pairs.specs.declared.pairs.Pair.{Pair}

-- the name and the value of a pair
abbrev pub as_pair : Pair → PairOf
as_pair p = record { name = p.name.now; value = p.value.now }

-- bs is a name of at least one byte, a zero, a value, a zero, and rest
pub record Begins (n v rest bs : List ℕ) : Type 0 where
  pub some : 0 < length n
  pub after : List ℕ
  pub name : Cut n after bs
  pub value : Cut v rest after

-- what is answered to the bytes bs: the pair that they begin with and what is left, or none
abbrev pub Splits : List ℕ → Option (Pair × Bor (List ℕ)) → Type 0
Splits bs (Some s) = Begins s.0.name.now s.0.value.now s.1.now bs
Splits bs None = (n v rest : List ℕ) → Begins n v rest bs → ⊥

-- the next of the pairs comes, and those after it are left; none where the bytes left begin with none
abbrev pub TakesPair : Pairs → Option Pair → Pairs → Type 0
TakesPair s (Some p) t = Begins p.name.now p.value.now t.0.now s.0.now
TakesPair s None t = Splits s.0.now None × (t.0.now ≡ s.0.now)

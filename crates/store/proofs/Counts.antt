-- How many drafts are open, as one changes. Assumes nothing.
use Rattle.std.proofs.Common.{◌≡◌, ℕ, ◌+◌, ◌<◌, Bool, cond, List, length, get_or, set, is_some, Some, None, count_by, Option, sym, refl, ap, ◌∙◌}
use Rattle.std.specs.Option.{option_map}
use Rattle.std.proofs.lemmas.List.Sums.{sum_by-set}

pub open_mapped : {X Y : Type 0} (f : X → Y) (o : Option X) → is_some (option_map f o) ≡ is_some o
open_mapped f None = refl
open_mapped f (Some x) = refl

-- a count where one element is set
pub count_set : {X : Type 0} (p : X → Bool) (xs : List X) (i : ℕ) (had y z : X) → i < length xs → get_or xs i z ≡ had → count_by p (set xs i y) + cond (p had) 1 0 ≡ count_by p xs + cond (p y) 1 0
count_set p xs i had y z h is =
    ap (λ x. count_by p (set xs i y) + cond (p x) 1 0) (sym is) ∙ sum_by-set (λ x. cond (p x) 1 0) xs i y z h

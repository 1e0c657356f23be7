-- A map that is told the position of each element keeps the length. Assumes nothing.
use Rattle.std.specs.Prelude.{◌≡◌, ℕ, suc, List, [], ◌∷◌, length, refl}
use Rattle.std.proofs.Common.{ap}
use Rattle.pages.specs.Layout.{imap}

pub length-imap : {X Y : Type 0} (f : ℕ → X → Y) (xs : List X) → length (imap f xs) ≡ length xs
length-imap f [] = refl
length-imap f (x ∷ xs) = ap suc (length-imap (λ i. f (suc i)) xs)

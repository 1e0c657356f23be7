-- A page that is written over as a whole. Assumes nothing.
use Rattle.std.proofs.Common.{◌≡◌, ℕ, ◌+◌, ◌≤◌, List, [], ◌++◌, length, drop, sym, ap, ◌∙◌, subst, arith}
use Rattle.std.proofs.lemmas.List.{append-nil, drop_all}
use Rattle.store.specs.Memory.{overwritten}

-- a piece as long as the page is all that is left of it
pub whole_over : (text piece : List ℕ) (at : ℕ) → length text ≡ 64 → length piece ≡ 64 → at + length piece ≤ 64 → piece ≡ overwritten text at piece
whole_over text piece at long whole fits =
    let front : at ≡ 0 = omega arith in
    let none : drop (length piece) text ≡ [] = drop_all (length piece) text (omega arith) in
    subst (λ k. piece ≡ overwritten text k piece) (sym front) (sym (ap (λ x. piece ++ x) none ∙ append-nil piece))

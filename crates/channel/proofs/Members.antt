-- What is in a list with perhaps one more.
use Rattle.std.proofs.Common.{◌≡◌, Bool, true, false, cond, ◌⊎◌, List, [], ◌∷◌, ◌++◌, inl, inr, ⊎_elim}
use mathlib.Core.List.Memᴰ
use mathlib.Core.List.{Memᴰ}

-- it is of the list, or that one
pub of_more : {X : Type 0} (xs : List X) (y x : X) (t : Bool) → Memᴰ x (xs ++ cond t (y ∷ []) []) → Memᴰ x xs ⊎ (x ≡ y)
of_more xs y x true m = ⊎_elim inl (λ k. inr (Memᴰ.eq_of_singleton k)) (Memᴰ.append_cases xs m)
of_more xs y x false m = ⊎_elim inl (λ k. absurd (Memᴰ.not-nil k)) (Memᴰ.append_cases xs m)

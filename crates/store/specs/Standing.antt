-- No call alters or removes a filed item. Assumes nothing.
use Rattle.std.specs.Prelude.{◌≡◌, ℕ, Bool, List, ◌++◌, Result}
use Rattle.terms.specs.declared.refusal.Refusal.{Refusal}
use Rattle.store.specs.Meaning.{Item, Draft, Opened, Appended, Filed, Struck}

-- the items before are the first of the items after, in their order
abbrev pub Stand : {S : Type 0} → (S → List Item) → S → S → Type 0
Stand items s t = (more : List Item) × (items t ≡ items s ++ more)

-- whatever a call answers, accepted or refused, the filed items stand
abbrev pub ItemsStand : {S : Type 0} → (S → List Item) → (S → List Draft) → (S → Bool) → (S → ℕ → List ℕ → Bool) → Type 0
ItemsStand {S} items drafts opens takes =
    (s t : S) (d : ℕ) (bytes : List ℕ) (r : Result (Unit {0}) Refusal) → (Opened items drafts opens s t d r → Stand items s t) × (Appended items drafts takes s t d bytes r → Stand items s t) × (Filed items drafts s t d bytes r → Stand items s t) × (Struck items drafts opens s t d r → Stand items s t)

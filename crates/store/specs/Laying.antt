-- What laying in an item through draft 4 answers and leaves. Assumes nothing.
use Rattle.std.specs.Prelude.{◌≡◌, ℕ, Bool, true, false, ◌⊎◌, List, [], ◌∷◌, ◌++◌, take, is_some, Some, None, Ok, Err, Result, slice_set}
use Rattle.terms.specs.declared.refusal.Refusal.{Refusal}
use Rattle.terms.specs.declared.refusal.Refusal.TheVariants.{NotTaken}
use Rattle.store.specs.Meaning.{Item, Draft, draft_at, part, open_refusal, name_refusal, file_refusal, Answers, Laid}

-- the draft is absent; if it was open, one can be opened, and if not, nothing changed
pub record Discarded {S : Type 0} (items : S → List Item) (drafts : S → List Draft) (opens : S → Bool) (s t : S) (d : ℕ) : Type 0 where
  pub same : items t ≡ items s
  pub absent : drafts t ≡ slice_set (drafts s) d None
  pub free : is_some (draft_at (drafts s) d) ≡ true → opens t ≡ true
  pub untouched : is_some (draft_at (drafts s) d) ≡ false → t ≡ s

-- a draft is filed, or else discarded
abbrev pub Settled : {S X : Type 0} → (S → List Item) → (S → List Draft) → (S → Bool) → S → S → ℕ → List ℕ → Result X Refusal → Type 0
Settled items drafts opens s t d n r =
    Answers r (file_refusal (items s) (drafts s) d n) (Discarded items drafts opens s t d) (λ _. Laid items drafts s t d n)

-- Draft 4, with the first k bytes of the text, does not take the piece that follows.
pub record Rejected {S : Type 0} (items : S → List Item) (drafts : S → List Draft) (takes : S → ℕ → List ℕ → Bool) (s u : S) (text : List ℕ) : Type 0 where
  pub k : ℕ
  pub same : items u ≡ items s
  pub begun : drafts u ≡ slice_set (drafts s) 4 (Some (take k text))
  pub refused : takes u 4 (part text k 1468) ≡ false

-- the whole text was added to draft 4, or a piece of it was not taken
abbrev pub CopiedIn : {S X : Type 0} → (S → List Item) → (S → List Draft) → (S → ℕ → List ℕ → Bool) → S → S → List ℕ → Result X Refusal → Type 0
CopiedIn items drafts takes s t text (Ok v) = (items t ≡ items s) × (drafts t ≡ slice_set (drafts s) 4 (Some text))
CopiedIn items drafts takes s t text (Err e) = (e ≡ NotTaken) × Rejected items drafts takes s t text

-- A refused item leaves the items and drafts as they were: draft 4 cannot be opened, or a piece is not taken, or the name stands against it.
abbrev pub ItemLaid : {S X : Type 0} → (S → List Item) → (S → List Draft) → (S → Bool) → (S → ℕ → List ℕ → Bool) → S → S → List ℕ → List ℕ → Result X Refusal → Type 0
ItemLaid items drafts opens takes s t n text (Ok v) =
    (open_refusal (drafts s) (opens s) 4 ≡ None) × (name_refusal (items s) n ≡ None) × (items t ≡ items s ++ (record { name = n; bytes = text } ∷ [])) × (drafts t ≡ drafts s)
ItemLaid {S} items drafts opens takes s t n text (Err e) =
    (items t ≡ items s) × (drafts t ≡ drafts s) × (((open_refusal (drafts s) (opens s) 4 ≡ Some e) × (t ≡ s)) ⊎ ((open_refusal (drafts s) (opens s) 4 ≡ None) × (opens t ≡ true) × (((e ≡ NotTaken) × ((u : S) × Rejected items drafts takes s u text)) ⊎ (name_refusal (items s) n ≡ Some e))))

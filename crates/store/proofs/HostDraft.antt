-- What draft 4 holds, and what striking leaves of it. Assumes nothing.
use Rattle.std.proofs.Common.{◌≡◌, ℕ, ◌<◌, Bool, false, List, length, set, is_some, Some, None, Ok, Err, Result, sym, refl, ap, ◌∙◌, arith}
use Rattle.std.proofs.lemmas.List.{set-get_or, get_or-set_same}
use Rattle.terms.specs.declared.refusal.Refusal.{Refusal}
use Rattle.store.specs.Meaning.{Item, Draft, draft_at, Struck}
use Rattle.store.specs.Laying.{Discarded}

absent : (o : Draft) → is_some o ≡ false → o ≡ None
absent None h = refl
absent (Some x) h = grind arith

-- an absent draft is struck already
pub set_absent : (ds : List Draft) (d : ℕ) → is_some (draft_at ds d) ≡ false → set ds d None ≡ ds
set_absent ds d h = ap (set ds d) (sym (absent (draft_at ds d) h)) ∙ set-get_or ds d None

pub held : (ds es : List Draft) (b : List ℕ) → length ds ≡ 5 → es ≡ set ds 4 (Some b) → draft_at es 4 ≡ Some b
held ds es b five is =
    let in-d : 4 < length ds = omega arith in
    ap (λ x. draft_at x 4) is ∙ get_or-set_same ds 4 (Some b) None in-d

-- struck, or absent before, the draft is absent after
pub discarded : {S X : Type 0} (items : S → List Item) (drafts : S → List Draft) (opens : S → Bool) (a b : S) (r : Result X Refusal) → Struck items drafts opens a b 4 r → Discarded items drafts opens a b 4
discarded items drafts opens a b (Ok v) h =
    record { same = h.1.0; absent = h.1.1; free = λ _. h.1.2; untouched = λ gone. absurd (grind arith) }
discarded items drafts opens a b (Err e) h =
    let gone : is_some (draft_at (drafts a) 4) ≡ false = grind arith in
    record { same = ap items h.1; absent = ap drafts h.1 ∙ sym (set_absent (drafts a) 4 gone); free = λ there. absurd (grind arith); untouched = λ _. h.1 }

-- One piece of a text after another goes to draft 4. Assumes nothing.
use Rattle.std.proofs.Common.{◌≡◌, ℕ, ◌≤◌, min, Bool, true, false, cond, ltb, List, [], ◌∷◌, ◌++◌, length, take, set, is_some, Some, None, sym, refl, ap, ◌∙◌, arith}
use Rattle.std.proofs.lemmas.List.{take_all, take_at, drop_at, append-nil, length-append}
use Rattle.std.proofs.lemmas.Bool.Decides.{nat_tests}
use Rattle.terms.specs.declared.refusal.Refusal.{Refusal}
use Rattle.terms.specs.declared.refusal.Refusal.TheVariants.{OutOfRange, NotTaken, DraftState}
use Rattle.store.specs.Meaning.{Item, Draft, draft_at, part, append_refusal}
use Rattle.store.specs.Laying.{Rejected}
use Rattle.store.proofs.HostDraft.{held}

-- an open draft refuses a short piece only by not taking it
only_taken : (t : Bool) (o : Draft) (b : List ℕ) → o ≡ Some b → (piece : List ℕ) → length piece ≤ 1468 → (e : Refusal) → cond (ltb 1468 (length piece)) (Some OutOfRange) (cond (is_some o) (cond t None (Some NotTaken)) (Some DraftState)) ≡ Some e → (e ≡ NotTaken) × (t ≡ false)
only_taken true o b is piece short e why = absurd (grind (arith, nat_tests))
only_taken false o b is piece short e why = (grind (arith, nat_tests), refl)

-- the first n of what is left, or all of it
first_cut : (a b : List ℕ) (n : ℕ) → length a ≡ min n (length (a ++ b)) → take n (a ++ b) ≡ a
first_cut a [] n h = take_all n (a ++ []) (omega (arith, ap length (append-nil a))) ∙ append-nil a
first_cut a (x ∷ b) n h = take_at a (x ∷ b) n (omega (arith, length-append a (x ∷ b)))

-- Draft 4 of u holds what is done of the text, and the next piece is offered.
module _ {S : Type 0} (items : S → List Item) (drafts : S → List Draft) (takes : S → ℕ → List ℕ → Bool) (s u : S) (text done left piece more : List ℕ)
    (five : length (drafts s) ≡ 5) (whole : text ≡ done ++ left) (next : left ≡ piece ++ more) (long : length piece ≡ min 1468 (length left)) (same : items u ≡ items s) (begun : drafts u ≡ set (drafts s) 4 (Some done)) where
  there : draft_at (drafts u) 4 ≡ Some done
  there = held (drafts s) (drafts u) done five begun

  piece_is : part text (length done) 1468 ≡ piece
  piece_is =
      ap (λ xs. part xs (length done) 1468) whole
      ∙ ap (take 1468) (drop_at done left (length done) refl ∙ next)
      ∙ first_cut piece more 1468 (long ∙ ap (λ xs. min 1468 (length xs)) next)

  pub rejected : (v : S) (e : Refusal) → append_refusal (drafts u) (takes u 4 piece) 4 piece ≡ Some e → v ≡ u → (e ≡ NotTaken) × Rejected items drafts takes s v text
  rejected v e why still =
      let is = there in
      let no' : (e ≡ NotTaken) × (takes u 4 piece ≡ false) = only_taken (takes u 4 piece) (draft_at (drafts u) 4) _ is piece (omega arith) e why in (
        no'.0,
        record {
          k = length done;
          same = ap items still ∙ same;
          begun = ap drafts still ∙ begun ∙ ap (λ b. set (drafts s) 4 (Some b)) (sym (ap (take (length done)) whole ∙ take_at done left (length done) refl));
          refused = ap (λ w. takes w 4 (part text (length done) 1468)) still ∙ ap (takes u 4) piece_is ∙ no'.1;
        },
      )

-- The texts of an owner's pages, as pages come and go. Assumes nothing.
use Rattle.std.proofs.Common.{◌≡◌, ℕ, zero, suc, ◌+◌, ◌*◌, ◌%◌, ◌<◌, ◌≤◌, Bool, true, false, cond, not, List, [], ◌∷◌, ◌++◌, map, length, get_or, take, drop, set, Some, None, Option, MatchOption, IfSome, sym, refl, ap, ◌∙◌, subst, ⊎_elim, arith}
use native.Mathlib.Nat.{ℕ_set}
use lib.Seq.{take-append-add}
use Rattle.std.proofs.lemmas.List.{append-nil, append_assoc, length-append, length_push, length-set, length-take-le, length-drop, get_or-drop, take-append-le, set_split, set-get_or}
use Rattle.std.proofs.lemmas.Slice.{take-put_mid}
use Rattle.std.proofs.lemmas.Bool.{eq-eqb, eqb-true, cases_Bool}
use Rattle.store.specs.Memory.{overwritten}
use Rattle.pages.specs.Layout.{same, texts, flat, content, need, without, passed, Last, Extended}
use Rattle.pages.specs.declared.parts.Page.{Page}
use Rattle.store.specs.declared.owner.Owner.{Owner}
use Rattle.store.specs.declared.owner.Owner.TheVariants.{Draft, Item}

pub same_refl : (w : Owner) → same w w ≡ true
same_refl (Draft a) = eq-eqb a a refl
same_refl (Item a) = eq-eqb a a refl

pub same_is : (w v : Owner) → same w v ≡ true → w ≡ v
same_is (Draft a) (Draft b) h = ap Draft (eqb-true a b h)
same_is (Draft a) (Item b) h = grind arith
same_is (Item a) (Draft b) h = grind arith
same_is (Item a) (Item b) h = ap Item (eqb-true a b h)

pub differs : (w v : Owner) → (w ≡ v → ⊥) → same w v ≡ false
differs w v ne = ⊎_elim (λ (t : same w v ≡ true). absurd (ne (same_is w v t))) (λ (f : same w v ≡ false). f) (cases_Bool (same w v))

pub same_sym : (w v : Owner) → same w v ≡ same v w
same_sym (Draft a) (Draft b) = grind arith
same_sym (Draft a) (Item b) = refl
same_sym (Item a) (Draft b) = refl
same_sym (Item a) (Item b) = grind arith

-- pages of one owner and one text are the same
pub page_same : (p q : Page) → p.owner ≡ q.owner → p.text ≡ q.text → p ≡ q
page_same p q o t =
    let P : List ℕ → Type 0 = λ x. (h : length x ≡ 64) → p ≡ record { owner = p.owner; text = x; whole = h } in
    let same_text : P q.text = subst P t (λ h. ap (λ (e : length p.text ≡ 64). record { owner = p.owner; text = p.text; whole = e }) (ℕ_set _ _ p.whole h)) in
    same_text q.whole ∙ ap (λ w. record { owner = w; text = q.text; whole = q.whole }) o

added : (b : Bool) (t : List ℕ) (xs ys : List (List ℕ)) → cond b (t ∷ (xs ++ ys)) (xs ++ ys) ≡ cond b (t ∷ xs) xs ++ ys
added true t xs ys = refl
added false t xs ys = refl

pub texts-append : (w : Owner) (ps qs : List Page) → texts w (ps ++ qs) ≡ texts w ps ++ texts w qs
texts-append w [] qs = refl
texts-append w (p ∷ ps) qs = ap (λ ts. cond (same w p.owner) (p.text ∷ ts) ts) (texts-append w ps qs) ∙ added (same w p.owner) p.text (texts w ps) (texts w qs)

-- every page is whole
pub length-flat : (w : Owner) (ps : List Page) → length (flat (texts w ps)) ≡ 64 * length (texts w ps)
length-flat w [] = refl
length-flat w (p ∷ ps) =
    ⊎_elim
    (λ (t : same w p.owner ≡ true). let rest = length-flat w ps in rw t (length-append p.text (flat (texts w ps)) ∙ omega (arith, p.whole)))
    (λ (f : same w p.owner ≡ false). rw f (length-flat w ps))
    (cases_Bool (same w p.owner))

pub length-content : (w : Owner) (ps : List Page) (n : ℕ) → length (texts w ps) ≡ need n → length (content ps w n) ≡ n
length-content w ps n is = length-take-le n (flat (texts w ps)) (omega (arith, length-flat w ps))

-- the pages of one owner given back
module _ (who : Owner) where
  pub without_other : (w : Owner) → (w ≡ who → ⊥) → (ps : List Page) → texts w (without who ps) ≡ texts w ps
  without_other w ne [] = refl
  without_other w ne (p ∷ ps) =
      ⊎_elim
      (λ (t : same who p.owner ≡ true). rw (t, differs w p.owner (λ e. ne (e ∙ sym (same_is who p.owner t)))) (without_other w ne ps))
      (λ (f : same who p.owner ≡ false). rw f (ap (λ ts. cond (same w p.owner) (p.text ∷ ts) ts) (without_other w ne ps)))
      (cases_Bool (same who p.owner))

  pub without_own : (ps : List Page) → texts who (without who ps) ≡ []
  without_own [] = refl
  without_own (p ∷ ps) =
      ⊎_elim
      (λ (t : same who p.owner ≡ true). rw t (without_own ps))
      (λ (f : same who p.owner ≡ false). rw (f, f) (without_own ps))
      (cases_Bool (same who p.owner))

  pub without_length : (ps : List Page) → length (without who ps) + length (texts who ps) ≡ length ps
  without_length [] = refl
  without_length (p ∷ ps) =
      ⊎_elim
      (λ (t : same who p.owner ≡ true). rw t (omega (arith, without_length ps)))
      (λ (f : same who p.owner ≡ false). rw f (omega (arith, without_length ps)))
      (cases_Bool (same who p.owner))

-- the pages of one owner passed to another, who had none
module _ (from to : Owner) (ne : from ≡ to → ⊥) where
  pub passed_other : (w : Owner) → (w ≡ from → ⊥) → (w ≡ to → ⊥) → (ps : List Page) → texts w (map (passed from to) ps) ≡ texts w ps
  passed_other w nf nt [] = refl
  passed_other w nf nt (p ∷ ps) =
      ⊎_elim
      (λ (t : same from p.owner ≡ true). rw (t, differs w to nt, differs w p.owner (λ e. nf (e ∙ sym (same_is from p.owner t)))) (passed_other w nf nt ps))
      (λ (f : same from p.owner ≡ false). rw f (ap (λ ts. cond (same w p.owner) (p.text ∷ ts) ts) (passed_other w nf nt ps)))
      (cases_Bool (same from p.owner))

  pub passed_from : (ps : List Page) → texts from (map (passed from to) ps) ≡ []
  passed_from [] = refl
  passed_from (p ∷ ps) =
      ⊎_elim
      (λ (t : same from p.owner ≡ true). rw (t, differs from to ne) (passed_from ps))
      (λ (f : same from p.owner ≡ false). rw (f, f) (passed_from ps))
      (cases_Bool (same from p.owner))

  pub passed_to : (ps : List Page) → length (texts to ps) ≡ 0 → texts to (map (passed from to) ps) ≡ texts from ps
  passed_to [] none = refl
  passed_to (p ∷ ps) none =
      ⊎_elim
      (λ (t : same to p.owner ≡ true). absurd (let z = rw t at none in omega arith))
      (λ (g : same to p.owner ≡ false).
      let rest = passed_to ps (rw g at none) in
      ⊎_elim
      (λ (t : same from p.owner ≡ true). rw (t, same_refl to) (ap (λ ts. p.text ∷ ts) rest))
      (λ (f : same from p.owner ≡ false). rw (f, g) rest)
      (cases_Bool (same from p.owner)))
      (cases_Bool (same to p.owner))

pub flat_append : (ts us : List (List ℕ)) → flat (ts ++ us) ≡ flat ts ++ flat us
flat_append [] us = refl
flat_append (t ∷ ts) us = ap (λ x. t ++ x) (flat_append ts us) ∙ sym (append_assoc t (flat ts) (flat us))

pub take_past : (a b : List ℕ) (n k : ℕ) → length a + k ≡ n → take n (a ++ b) ≡ a ++ take k b
take_past a b n k is = ap (λ i. take i (a ++ b)) (sym is) ∙ take-append-add a b k

-- a part written on the last of the texts
flat_more : (ts : List (List ℕ)) (t part : List ℕ) (n at : ℕ) → length (flat ts) + at ≡ n → at ≤ length t → take (n + length part) (flat (ts ++ overwritten t at part ∷ [])) ≡ take n (flat (ts ++ t ∷ [])) ++ part
flat_more ts t part n at is le =
    let put : List ℕ = overwritten t at part in
    let one : take (at + length part) put ≡ take at t ++ part = take-put_mid at (length part) t part (at + length part) refl le in
    ap (take (n + length part)) (flat_append ts (put ∷ []) ∙ ap (λ x. flat ts ++ x) (append-nil put))
    ∙ take_past (flat ts) put (n + length part) (at + length part) (omega arith)
    ∙ ap (λ x. flat ts ++ x) one
    ∙ sym (append_assoc (flat ts) (take at t) part)
    ∙ ap (λ x. x ++ part) (sym (ap (take n) (flat_append ts (t ∷ []) ∙ ap (λ x. flat ts ++ x) (append-nil t)) ∙ take_past (flat ts) t n at is))

texts_one : (w : Owner) (p : Page) → p.owner ≡ w → texts w (p ∷ []) ≡ p.text ∷ []
texts_one w p is = rw (ap (same w) is ∙ same_refl w)

texts_none : (v : Owner) (p : Page) (ps : List Page) → (v ≡ p.owner → ⊥) → texts v (p ∷ ps) ≡ texts v ps
texts_none v p ps ne = rw (differs v p.owner ne)

-- a new page, or more on the last one
pub extended_new : (ps : List Page) (w : Owner) (n : ℕ) (part t : List ℕ) (p : Page) → p.owner ≡ w → p.text ≡ overwritten t 0 part → length (texts w ps) ≡ need n → n % 64 ≡ 0 → 0 < length part → length part ≤ 64 → Extended ps (ps ++ p ∷ []) w n part
extended_new ps w n part t p is text has start some fit =
    let ts = texts w ps in
    let whole = length-flat w ps in
    let now-texts : texts w (ps ++ p ∷ []) ≡ ts ++ overwritten t 0 part ∷ [] = texts-append w ps (p ∷ []) ∙ ap (λ x. ts ++ x) (texts_one w p is ∙ ap (λ x. x ∷ []) text) in
    let long : length (flat ts) ≡ n = omega arith in
    let le : n ≤ length (flat ts) = omega arith in
    record {
      others = λ v ne. texts-append v ps (p ∷ []) ∙ ap (λ x. texts v ps ++ x) (texts_none v p [] (λ e. ne (e ∙ is))) ∙ append-nil (texts v ps);
      bytes = ap (λ x. take (n + length part) (flat x)) now-texts ∙ flat_more ts t part n 0 (omega arith) (omega arith) ∙ ap (λ x. x ++ part) (ap (take n) (flat_append ts (t ∷ [])) ∙ take-append-le n (flat ts) (flat (t ∷ [])) le);
      pages = ap length now-texts ∙ length_push ts (overwritten t 0 part) ∙ omega arith;
      grown = omega (arith, length_push ps p);
    }

pub extended_last : (ps : List Page) (w : Owner) (n k : ℕ) (part : List ℕ) (p q : Page) → Last w ps k → p ≡ get_or ps k p → q.owner ≡ p.owner → q.text ≡ overwritten p.text (n % 64) part → length (texts w ps) ≡ need n → (n % 64 ≡ 0 → ⊥) → n % 64 + length part ≤ 64 → Extended ps (set ps k q) w n part
extended_last ps w n k part p q last is own text has start fit =
    let ts = texts w (take k ps) in
    let mine : p.owner ≡ w = ap (λ x. x.owner) is ∙ last.1 p in
    let was : ps ≡ take k ps ++ p ∷ drop (suc k) ps = sym (set-get_or ps k p) ∙ ap (set ps k) (sym is) ∙ set_split ps k p last.0 in
    let split : (r : Page) → r.owner ≡ w → texts w (take k ps ++ r ∷ drop (suc k) ps) ≡ ts ++ r.text ∷ [] =
    λ r o. texts-append w (take k ps) (r ∷ drop (suc k) ps) ∙ ap (λ x. ts ++ x) (texts-append w (r ∷ []) (drop (suc k) ps) ∙ ap (λ x. texts w (r ∷ []) ++ x) last.2 ∙ append-nil (texts w (r ∷ [])) ∙ texts_one w r o) in
    let before : texts w ps ≡ ts ++ p.text ∷ [] = ap (texts w) was ∙ split p mine in
    let after : texts w (set ps k q) ≡ ts ++ overwritten p.text (n % 64) part ∷ [] = ap (texts w) (set_split ps k q last.0) ∙ split q (own ∙ mine) ∙ ap (λ x. ts ++ x ∷ []) text in
    let whole = length-flat w (take k ps) in
    let one = ap length before ∙ length_push ts p.text in
    let long : length (flat ts) + n % 64 ≡ n = omega arith in
    let le : n % 64 ≤ length p.text = omega (arith, p.whole) in
    let other : (v : Owner) → (v ≡ w → ⊥) → (r : Page) → r.owner ≡ w → texts v (take k ps ++ r ∷ drop (suc k) ps) ≡ texts v (take k ps) ++ texts v (drop (suc k) ps) =
    λ v ne r o. texts-append v (take k ps) (r ∷ drop (suc k) ps) ∙ ap (λ x. texts v (take k ps) ++ x) (texts_none v r (drop (suc k) ps) (λ e. ne (e ∙ o))) in
    record {
      others = λ v ne. ap (texts v) (set_split ps k q last.0) ∙ other v ne q (own ∙ mine) ∙ sym (other v ne p mine) ∙ ap (texts v) (sym was);
      bytes = ap (λ x. take (n + length part) (flat x)) after ∙ flat_more ts p.text part n (n % 64) long le ∙ ap (λ x. take n (flat x) ++ part) (sym before);
      pages = ap length after ∙ length_push ts (overwritten p.text (n % 64) part) ∙ omega arith;
      grown = omega (arith, length-set ps k q);
    }

-- one part after another
pub extended_both : (ps qs rs : List Page) (w : Owner) (n m : ℕ) (a b : List ℕ) → n + length a ≡ m → Extended ps qs w n a → Extended qs rs w m b → Extended ps rs w n (a ++ b)
extended_both ps qs rs w n m a b at h g =
    let long : n + length (a ++ b) ≡ m + length b = omega (arith, length-append a b) in
    let pages' = ap need long in
    let mid = ap need at in
    record {
      others = λ v ne. g.others v ne ∙ h.others v ne;
      bytes = ap (content rs w) long ∙ g.bytes ∙ ap (λ x. x ++ b) (ap (content qs w) (sym at) ∙ h.bytes) ∙ append_assoc (content ps w n) a b;
      pages = g.pages ∙ sym pages';
      grown = omega (arith, h.grown, g.grown);
    }

-- no page is the owner's
no_texts : (w : Owner) (ps : List Page) → ((k : ℕ) (z : Page) → k < length ps → same w (get_or ps k z).owner ≡ false) → texts w ps ≡ []
no_texts w [] h = refl
no_texts w (p ∷ ps) h =
    ap (λ b. cond b (p.text ∷ texts w ps) (texts w ps)) (h zero p (omega arith)) ∙ no_texts w ps (λ k z lt. h (suc k) z (omega arith))

-- where the search for an owner's last page ends
pub last_is : (w : Owner) (ps : List Page) (r : Option ℕ) → MatchOption r ((k : ℕ) (z : Page) → k < length ps → same w (get_or ps k z).owner ≡ false) (λ k. (k < length ps) × ((z : Page) → same w (get_or ps k z).owner ≡ true)) → IfSome r (λ k. (j : ℕ) (z : Page) → k < j → j < length ps → same w (get_or ps j z).owner ≡ false) → MatchOption r (texts w ps ≡ []) (λ k. Last w ps k)
last_is w ps None h after = no_texts w ps h
last_is w ps (Some k) h after = (
  h.0,
  (λ z. sym (same_is w (get_or ps k z).owner (h.1 z))),
  no_texts w (drop (suc k) ps) (λ j z lt.
      ap (λ p. same w p.owner) (get_or-drop (suc k) ps j z) ∙ after (suc k + j) z (omega arith) (omega (arith, length-drop (suc k) ps))),
)

-- without an owner's pages, those from a place on from which all are the owner's are none
pub without_front : (w : Owner) (ps : List Page) (n : ℕ) → ((j : ℕ) (z : Page) → n ≤ j → j < length ps → same w (get_or ps j z).owner ≡ true) → without w (take n ps) ≡ without w ps
without_front w [] zero h = refl
without_front w [] (suc n) h = refl
without_front w (p ∷ ps) zero h = rw (h 0 p (omega arith) (omega arith)) (without_front w ps zero (λ j z lo hi. h (suc j) z (omega arith) (omega (arith, hi))))
without_front w (p ∷ ps) (suc n) h =
    ap (λ xs. cond (not (same w p.owner)) (p ∷ xs) xs) (without_front w ps n (λ j z lo hi. h (suc j) z (omega (arith, lo)) (omega (arith, hi))))

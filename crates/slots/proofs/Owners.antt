-- What stays true as a slot changes hands. Assumes nothing.
use Rattle.std.proofs.Common.{◌≡◌, ℕ, zero, suc, ◌+◌, ◌<◌, Bool, true, false, cond, ltb, ◌≢◌, List, [], ◌∷◌, ◌++◌, map, length, get_or, set, is_some, is_none, Some, None, MatchOption, count_by, Option, sym, refl, ap, ◌∙◌, subst, ⊎_elim, arith, length-set}
use Rattle.std.specs.Option.{option_map}
use Rattle.std.proofs.lemmas.List.{get_or-set_same, get_or-set_other, get_or_push, get_or_append_left, length_push, length-map}
use Rattle.std.proofs.lemmas.List.Sums.{sum_by-cons, count_by-le-length}
use Rattle.std.proofs.lemmas.List.Quantifiers.{position-Some}
use Rattle.std.proofs.lemmas.Bool.{cases_eq, lt-ltb, le-ltb}
use Rattle.std.specs.List.{position as first_place}
use Rattle.store.specs.Meaning.{room_for}
use Rattle.store.proofs.Positions.{first_next}
use Rattle.store.proofs.Counts.{count_set, open_mapped}
use Rattle.slots.specs.Layout.{content, drafts_of, Held, Filings, Begun, Tally, item_of, items_of}
use Rattle.store.specs.declared.owner.Owner.{Owner}
use Rattle.store.specs.declared.owner.Owner.TheVariants.{Draft, Item}
use Rattle.slots.specs.declared.parts.Extent.{Extent}
use Rattle.store.specs.declared.entry.Entry.{Entry}

-- a draft as the store means it
pub draft_of : (mem : List ℕ) (size : ℕ) (ds : List (Option Extent)) (d : ℕ) → get_or (drafts_of mem size ds) d None ≡ option_map (content mem size) (get_or ds d None)
draft_of mem size [] d = refl
draft_of mem size (x ∷ ds) zero = refl
draft_of mem size (x ∷ ds) (suc d) = draft_of mem size ds d

pub draft_is : (mem : List ℕ) (size : ℕ) (ds : List (Option Extent)) (d : ℕ) (o : Option Extent) → get_or ds d None ≡ o → get_or (drafts_of mem size ds) d None ≡ option_map (content mem size) o
draft_is mem size ds d o is = draft_of mem size ds d ∙ ap (option_map (content mem size)) is

-- whether it is open
pub open_is : (mem : List ℕ) (size : ℕ) (ds : List (Option Extent)) (d : ℕ) → is_some (get_or (drafts_of mem size ds) d None) ≡ is_some (get_or ds d None)
open_is mem size ds d = ap is_some (draft_of mem size ds d) ∙ open_mapped (content mem size) (get_or ds d None)

-- how many drafts are open
count_drafts : (f : Extent → List ℕ) (ds : List (Option Extent)) → count_by is_some (map (option_map f) ds) ≡ count_by is_some ds
count_drafts f [] = refl
count_drafts f (o ∷ ds) =
    sum_by-cons (λ x. cond (is_some x) 1 0) (option_map f o) (map (option_map f) ds)
    ∙ ap (λ b. cond b 1 0 + count_by is_some (map (option_map f) ds)) (open_mapped f o)
    ∙ ap (λ k. cond (is_some o) 1 0 + k) (count_drafts f ds)
    ∙ sym (sum_by-cons (λ x. cond (is_some x) 1 0) o ds)

pub room_is : (mem : List ℕ) (size : ℕ) (fs : List (Entry Extent)) (ds : List (Option Extent)) → room_for (items_of mem size fs) (drafts_of mem size ds) ≡ ltb (length fs + count_by is_some ds) 16
room_is mem size fs ds =
    ap (λ k. ltb (k + count_by is_some (drafts_of mem size ds)) 16) (length-map fs (item_of mem size))
    ∙ ap (λ k. ltb (length fs + k) 16) (count_drafts (content mem size) ds)

-- one that fails the test leaves the count below the length
pub count_below : {X : Type 0} (p : X → Bool) (xs : List X) (i : ℕ) (y z : X) → i < length xs → p (get_or xs i z) ≡ false → p y ≡ true → count_by p xs < length xs
count_below p xs i y z h no' yes' =
    let moved = rw (no', yes') at (count_set p xs i _ y z h refl) in
    let most = rw (length-set xs i y) at (count_by-le-length p (set xs i y)) in
    omega arith

-- where the search for a slot that nobody owns ends
unmapped : (o : Option ℕ) → option_map suc o ≡ None → o ≡ None
unmapped None h = refl
unmapped (Some i) h = absurd (cc)

all_owned : (owners : List (Option Owner)) → first_place is_none owners ≡ None → count_by is_some owners ≡ length owners
all_owned [] h = refl
all_owned (None ∷ os) h = absurd (cc (first_next is_none None os))
all_owned (Some o ∷ os) h =
    omega (arith, sum_by-cons (λ x. cond (is_some x) 1 0) (Some o) os, all_owned os (unmapped (first_place is_none os) (sym (first_next is_none (Some o) os) ∙ h)))

none_is : (o : Option Owner) → is_none o ≡ true → o ≡ None
none_is None h = refl
none_is (Some o) h = absurd (cc)

pub free_is : (owners : List (Option Owner)) (n : ℕ) (r : Option ℕ) → length owners ≡ 16 → count_by is_some owners ≡ n → r ≡ first_place is_none owners → MatchOption r (ltb n 16 ≡ false) (λ s. (ltb n 16 ≡ true) × (s < 16) × (get_or owners s None ≡ None))
free_is owners n None long count is = le-ltb _ _ (omega (arith, all_owned owners (sym is)))
free_is owners n (Some i) long count is =
    let at = position-Some is_none owners i None (sym is) in
    let free = none_is (get_or owners i None) at.1 in
    (lt-ltb _ _ (omega (arith, count_below is_some owners i (Some (Draft 0)) None at.0 (ap is_some free) refl)), omega arith, free)

pub only : (P : Extent → Type 0) (e : Extent) → P e → (x : Extent) → Some e ≡ Some x → P x
only P e p x q = let same : e ≡ x = cc in subst P same p

-- nobody's, or draft d's
abbrev pub Ours : ℕ → Option Owner → Type 0
Ours d None = Unit {0}
Ours d (Some (Draft k)) = k ≡ d
Ours d (Some (Item i)) = ⊥

-- Slot s, which was nobody's or draft d's, passes to `who`, as that draft becomes `o`.
module _ (size : ℕ) (owners : List (Option Owner)) (ds : List (Option Extent)) (s d : ℕ) (who was : Option Owner) (o had : Option Extent)
    (in-s : s < length owners) (in-d : d < length ds) (was-is : get_or owners s None ≡ was) (had-is : get_or ds d None ≡ had) (ours : Ours d was) where
  filings_kept : (fs : List (Entry Extent)) → Filings size owners fs → Filings size (set owners s who) fs
  filings_kept fs h i z lt =
      let old = h i z lt in
      let ne : (get_or fs i z).kept.slot ≢ s = λ e. subst (Ours d) (sym was-is ∙ ap (λ k. get_or owners k None) (sym e) ∙ old.2) ours in
      (old.0, old.1, get_or-set_other owners s _ who None ne ∙ old.2)

  begun_kept : ((e : Extent) → o ≡ Some e → Held size (set owners s who) (Draft d) e) → Begun size owners ds → Begun size (set owners s who) (set ds d o)
  begun_kept own h k e is =
      ⊎_elim
      (λ (same : k ≡ d). subst (λ n. Held size (set owners s who) (Draft n) e) (sym same) (own e (sym (get_or-set_same ds d o None in-d) ∙ subst (λ n. get_or (set ds d o) n None ≡ Some e) same is)))
      (λ (other : k ≡ d → ⊥).
      let old = h k e (sym (get_or-set_other ds d k o None other) ∙ is) in
      let ne : e.slot ≢ s = λ q. other (subst (Ours d) (sym was-is ∙ ap (λ n. get_or owners n None) (sym q) ∙ old.2) ours) in
      (old.0, old.1, get_or-set_other owners s _ who None ne ∙ old.2))
      (cases_eq k d)

  tally_kept : (fs gs : List (Entry Extent)) → cond (is_some who) 1 0 + cond (is_some had) 1 0 + length fs ≡ length gs + cond (is_some o) 1 0 + cond (is_some was) 1 0 → Tally owners fs ds → Tally (set owners s who) gs (set ds d o)
  tally_kept fs gs even h =
      let slots' = count_set is_some owners s was who None in-s was-is in
      let drafts' = count_set is_some ds d had o None in-d had-is in
      omega arith

  -- all three; `gs` are the items after, if not those before
  pub handed : (fs gs : List (Entry Extent)) → cond (is_some who) 1 0 + cond (is_some had) 1 0 + length fs ≡ length gs + cond (is_some o) 1 0 + cond (is_some was) 1 0 → ((e : Extent) → o ≡ Some e → Held size (set owners s who) (Draft d) e) → Filings size owners fs → Begun size owners ds → Tally owners fs ds → Filings size (set owners s who) fs × Begun size (set owners s who) (set ds d o) × Tally (set owners s who) gs (set ds d o)
  handed fs gs even own f b t = (filings_kept fs f, begun_kept own b, tally_kept fs gs even t)

  -- where the slot is nobody's then, one can be opened
  pub room_after : (fs gs : List (Entry Extent)) → cond (is_some who) 1 0 + cond (is_some had) 1 0 + length fs ≡ length gs + cond (is_some o) 1 0 + cond (is_some was) 1 0 → Tally owners fs ds → length owners ≡ 16 → is_some who ≡ false → ltb (length gs + count_by is_some (set ds d o)) 16 ≡ true
  room_after fs gs even t long free =
      let n = length-set owners s who in
      let in-s' : s < length (set owners s who) = omega arith in
      let few = count_below is_some (set owners s who) s (Some (Draft 0)) None in-s' (ap is_some (get_or-set_same owners s who None in-s) ∙ free) refl in
      lt-ltb _ _ (omega (arith, tally_kept fs gs even t))

pub filings_push : (size : ℕ) (owners : List (Option Owner)) (fs : List (Entry Extent)) (f : Entry Extent) → Held size owners (Item (length fs)) f.kept → Filings size owners fs → Filings size owners (fs ++ f ∷ [])
filings_push size owners fs f own h i z lt =
    ⊎_elim
    (λ (last : i ≡ length fs). rw (last, get_or_push fs f z (length fs) refl) own)
    (λ (other : i ≡ length fs → ⊥).
    let earlier : i < length fs = omega (arith, length_push fs f) in
    rw (get_or_append_left fs (f ∷ []) z i earlier) (h i z earlier))
    (cases_eq i (length fs))

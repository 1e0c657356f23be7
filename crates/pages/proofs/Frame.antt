-- What stays of the meaning as one draft's pages change. Assumes nothing.
use Rattle.std.proofs.Common.{◌≡◌, ℕ, zero, suc, ◌+◌, ◌-◌, ◌<◌, ◌≤◌, cond, ltb, leb, List, [], ◌∷◌, ◌++◌, map, length, get_or, take, set, is_some, Some, None, Ok, Err, sum_by, count_by, Option, Result, unwrap_or, sym, refl, ap, ◌∙◌, subst, ⊎_elim, arith}
use Rattle.std.specs.Option.{option_map}
use Rattle.std.proofs.lemmas.List.{get_or-set_same, get_or-set_other, length-map, length_push}
use Rattle.std.proofs.lemmas.List.Sums.{sum_by-set, sum_by-cons, sum_by_push}
use Rattle.std.proofs.lemmas.Bool.{cases_eq}
use Rattle.terms.specs.declared.refusal.Refusal.{Refusal}
use Rattle.terms.specs.declared.refusal.Refusal.TheVariants.{OutOfRange, DraftState}
use Rattle.store.specs.Drafts.{held_refusal}
use Rattle.store.specs.Meaning.{Answers, strike_refusal, draft_at, text_at, no_item, position, room_for, Distinct, Draft as ADraft, Item as AnItem}
use Rattle.store.proofs.Counts.{open_mapped}
use Rattle.store.proofs.Positions.{distinct_push}
use Rattle.terms.specs.Named.{name_text}
use Rattle.pages.specs.Layout.{imap, texts, flat, content, item_of, items_of, draft_of, drafts_of, drafted, filed_len, need, fits, passed, Begun, Filings, Tally}
use Rattle.pages.specs.declared.parts.Page.{Page}
use Rattle.store.specs.declared.entry.Entry.{Entry}
use Rattle.store.specs.declared.owner.Owner.{Owner}
use Rattle.store.specs.declared.owner.Owner.TheVariants.{Draft, Item}
use Rattle.pages.specs.Indexed.{length-imap}
use Rattle.pages.proofs.Indexed.{imap-set, imap-push, get_or-imap, imap_same, imap_same_but}
use Rattle.pages.proofs.Texts.{length-content, passed_other, passed_from, passed_to, without_length}

-- a draft as the store means it
pub draft_is : (ps : List Page) (ds : List (Option ℕ)) (d : ℕ) (o : Option ℕ) → d < length ds → get_or ds d None ≡ o → draft_at (drafts_of ps ds) d ≡ draft_of ps d o
draft_is ps ds d o lt is = get_or-imap (draft_of ps) ds d None None lt ∙ ap (draft_of ps d) is

-- whether it is open
draft_from : (f : ℕ → Option ℕ → ADraft) → ((i : ℕ) (o : Option ℕ) → is_some (f i o) ≡ is_some o) → (ds : List (Option ℕ)) (d : ℕ) → is_some (get_or (imap f ds) d None) ≡ is_some (get_or ds d None)
draft_from f h [] d = refl
draft_from f h (o ∷ ds) zero = h 0 o
draft_from f h (o ∷ ds) (suc d) = draft_from (λ i. f (suc i)) (λ i. h (suc i)) ds d

pub open_is : (ps : List Page) (ds : List (Option ℕ)) (d : ℕ) → is_some (draft_at (drafts_of ps ds) d) ≡ is_some (get_or ds d None)
open_is ps ds d = draft_from (draft_of ps) (λ i. open_mapped (content ps (Draft i))) ds d

-- what is kept of an open draft, by what the store means and by its pages
pub told_drafted : (ps : List Page) (ds : List (Option ℕ)) (d : ℕ) (r : Result ℕ Refusal) → length ps ≤ 256 → Begun ps ds → Answers r (held_refusal ds d) (Unit {0}) (λ n. (d < 5) × (get_or ds d None ≡ Some n)) → Answers r (strike_refusal (drafts_of ps ds) d) (Unit {0}) (λ n. (d < 5) × (get_or ds d None ≡ Some n) × (length (texts (Draft d) ps) ≡ need n) × (n ≤ 16384))
told_drafted ps ds d (Ok n) few begun h =
    let has : length (texts (Draft d) ps) ≡ need n = begun d ∙ ap (λ x. need (unwrap_or x 0)) h.1.1 in
    (ap (λ b. cond (ltb 4 d) (Some OutOfRange) (cond b None (Some DraftState))) (open_is ps ds d) ∙ h.0, (h.1.0, h.1.1, has, omega (arith, without_length (Draft d) ps)))
told_drafted ps ds d (Err e) few begun h =
    (ap (λ b. cond (ltb 4 d) (Some OutOfRange) (cond b None (Some DraftState))) (open_is ps ds d) ∙ h.0, tt)

-- how long it is
length-draft : (ps : List Page) (d : ℕ) (o : Option ℕ) → length (texts (Draft d) ps) ≡ need (unwrap_or o 0) → length (unwrap_or (draft_of ps d o) []) ≡ unwrap_or o 0
length-draft ps d None is = refl
length-draft ps d (Some n) is = length-content (Draft d) ps n is

pub items_same : (ps qs : List Page) (fs : List (Entry ℕ)) → ((i : ℕ) → i < length fs → texts (Item i) qs ≡ texts (Item i) ps) → items_of qs fs ≡ items_of ps fs
items_same ps qs fs h = imap_same (item_of qs) (item_of ps) fs (λ i f lt. let e = h i lt in ap (λ ts. record { name = (item_of ps i f).name; bytes = take f.kept (flat ts) }) e)

draft_same : (ps qs : List Page) (k : ℕ) (o : Option ℕ) → texts (Draft k) qs ≡ texts (Draft k) ps → draft_of qs k o ≡ draft_of ps k o
draft_same ps qs k o e = ap (λ ts. option_map (λ n. take n (flat ts)) o) e

-- The pages become qs as draft d, which was `had`, becomes o; other drafts keep their pages.
module _ (ps qs : List Page) (ds : List (Option ℕ)) (d : ℕ) (had o : Option ℕ) (in-d : d < length ds) (had-is : get_or ds d None ≡ had)
    (others : (k : ℕ) → (k ≡ d → ⊥) → texts (Draft k) qs ≡ texts (Draft k) ps) where
  pub drafts_set : drafts_of qs (set ds d o) ≡ set (drafts_of ps ds) d (draft_of qs d o)
  drafts_set = imap-set (draft_of qs) ds d o ∙ imap_same_but (draft_of qs) (draft_of ps) ds d (draft_of qs d o) (λ k x ne. draft_same ps qs k x (others k ne))

  pub begun_set : length (texts (Draft d) qs) ≡ need (unwrap_or o 0) → Begun ps ds → Begun qs (set ds d o)
  begun_set own h k =
      ⊎_elim
      (λ (same : k ≡ d). subst (λ j. length (texts (Draft j) qs) ≡ need (drafted (set ds d o) j)) (sym same) (own ∙ ap (λ x. need (unwrap_or x 0)) (sym (get_or-set_same ds d o None in-d))))
      (λ (other : k ≡ d → ⊥). ap length (others k other) ∙ h k ∙ ap (λ x. need (unwrap_or x 0)) (sym (get_or-set_other ds d k o None other)))
      (cases_eq k d)

  -- how the pages in use change with it
  pub used_set : length (texts (Draft d) qs) ≡ need (unwrap_or o 0) → Begun ps ds → sum_by (λ x. need (length (unwrap_or x []))) (drafts_of qs (set ds d o)) + need (unwrap_or had 0) ≡ sum_by (λ x. need (length (unwrap_or x []))) (drafts_of ps ds) + need (unwrap_or o 0)
  used_set own h =
      let f : ADraft → ℕ = λ x. need (length (unwrap_or x [])) in
      let in' : d < length (drafts_of ps ds) = omega (arith, length-imap (draft_of ps) ds) in
      let was = ap f (draft_is ps ds d had in-d had-is) ∙ ap need (length-draft ps d had (h d ∙ ap (λ x. need (unwrap_or x 0)) had-is)) in
      let is = ap need (length-draft qs d o own) in
      let moved = sum_by-set f (drafts_of ps ds) d (draft_of qs d o) None in' in
      let all = ap (sum_by f) drafts_set in
      omega arith

-- how many drafts are open
count-imap : (f : ℕ → Option ℕ → ADraft) → ((i : ℕ) (o : Option ℕ) → is_some (f i o) ≡ is_some o) → (ds : List (Option ℕ)) → count_by is_some (imap f ds) ≡ count_by is_some ds
count-imap f h [] = refl
count-imap f h (o ∷ ds) =
    let rest = count-imap (λ i. f (suc i)) (λ i. h (suc i)) ds in
    sum_by-cons (λ x. cond (is_some x) 1 0) (f 0 o) (imap (λ i. f (suc i)) ds) ∙ ap (λ b. cond b 1 0 + count_by is_some (imap (λ i. f (suc i)) ds)) (h 0 o) ∙ ap (λ k. cond (is_some o) 1 0 + k) rest ∙ sym (sum_by-cons (λ x. cond (is_some x) 1 0) o ds)

pub room_is : (ps : List Page) (fs : List (Entry ℕ)) (ds : List (Option ℕ)) → room_for (items_of ps fs) (drafts_of ps ds) ≡ ltb (length fs + count_by is_some ds) 16
room_is ps fs ds =
    ap (λ k. ltb (k + count_by is_some (drafts_of ps ds)) 16) (length-imap (item_of ps) fs) ∙ ap (λ k. ltb (length fs + k) 16) (count-imap (draft_of ps) (λ d. open_mapped (content ps (Draft d))) ds)

apart_drafts : (k d : ℕ) → (k ≡ d → ⊥) → Draft k ≡ Draft d → ⊥
apart_drafts k d ne e = ne (cc)

no_item_draft : (i d : ℕ) → Item i ≡ Draft d → ⊥
no_item_draft i d e = cc

-- One draft changes, and its pages with it: no other owner's do.
module _ (ps qs : List Page) (fs : List (Entry ℕ)) (ds : List (Option ℕ)) (d : ℕ) (had o : Option ℕ) (in-d : d < length ds) (had-is : get_or ds d None ≡ had)
    (others : (v : Owner) → (v ≡ Draft d → ⊥) → texts v qs ≡ texts v ps) where
  rest : (k : ℕ) → (k ≡ d → ⊥) → texts (Draft k) qs ≡ texts (Draft k) ps
  rest k ne = others (Draft k) (apart_drafts k d ne)

  pub items_kept : items_of qs fs ≡ items_of ps fs
  items_kept = items_same ps qs fs (λ i lt. others (Item i) (no_item_draft i d))

  pub drafts_kept : drafts_of qs (set ds d o) ≡ set (drafts_of ps ds) d (draft_of qs d o)
  drafts_kept = drafts_set ps qs ds d had o in-d had-is rest

  pub kept : length (texts (Draft d) qs) ≡ need (unwrap_or o 0) → length qs + need (unwrap_or had 0) ≡ length ps + need (unwrap_or o 0) → Begun ps ds → Filings ps fs → Tally ps fs ds → Distinct (items_of ps fs) → Begun qs (set ds d o) × Filings qs fs × Tally qs fs (set ds d o) × Distinct (items_of qs fs)
  kept own grown begun filings tally apart =
      let moved = used_set ps qs ds d had o in-d had-is rest own begun in
      let items = ap (sum_by (λ x. need (length x.bytes))) items_kept in
      (begun_set ps qs ds d had o in-d had-is rest own begun, (λ i. ap length (others (Item i) (no_item_draft i d)) ∙ filings i), omega arith, subst Distinct (sym items_kept) apart)

-- the length of an item
pub filed_at : (fs : List (Entry ℕ)) (i : ℕ) (x : Entry ℕ) → i < length fs → filed_len fs i ≡ (get_or fs i x).kept
filed_at [] i x lt = absurd (omega arith)
filed_at (f ∷ fs) zero x lt = refl
filed_at (f ∷ fs) (suc i) x lt = filed_at fs i x (omega arith)

filed_past : (fs : List (Entry ℕ)) → filed_len fs (length fs) ≡ 0
filed_past [] = refl
filed_past (f ∷ fs) = filed_past fs

filed_last : (fs : List (Entry ℕ)) (f : Entry ℕ) → filed_len (fs ++ f ∷ []) (length fs) ≡ f.kept
filed_last [] f = refl
filed_last (x ∷ fs) f = filed_last fs f

filed_other : (fs : List (Entry ℕ)) (f : Entry ℕ) (i : ℕ) → (i ≡ length fs → ⊥) → filed_len (fs ++ f ∷ []) i ≡ filed_len fs i
filed_other [] f zero ne = absurd (ne refl)
filed_other [] f (suc i) ne = refl
filed_other (x ∷ fs) f zero ne = refl
filed_other (x ∷ fs) f (suc i) ne = filed_other fs f i (λ e. ne (omega arith))

-- the bytes of an item, and none past the last
bytes_from : (ps : List Page) (g : ℕ → ℕ) (fs : List (Entry ℕ)) (i : ℕ) → (get_or (imap (λ k. item_of ps (g k)) fs) i no_item).bytes ≡ content ps (Item (g i)) (filed_len fs i)
bytes_from ps g [] i = refl
bytes_from ps g (f ∷ fs) zero = refl
bytes_from ps g (f ∷ fs) (suc i) = bytes_from ps (λ k. g (suc k)) fs i

pub bytes_is : (ps : List Page) (fs : List (Entry ℕ)) (i : ℕ) → (get_or (items_of ps fs) i no_item).bytes ≡ content ps (Item i) (filed_len fs i)
bytes_is ps fs i = bytes_from ps (λ k. k) fs i

pub bytes_length : (ps : List Page) (fs : List (Entry ℕ)) (i : ℕ) → Filings ps fs → length (get_or (items_of ps fs) i no_item).bytes ≡ filed_len fs i
bytes_length ps fs i h = ap length (bytes_is ps fs i) ∙ length-content (Item i) ps (filed_len fs i) (h i)

-- entries have the names of their items
names_from : (ps : List Page) (g : ℕ → ℕ) (fs : List (Entry ℕ)) → map (λ f. name_text f.name) fs ≡ map (λ x. x.name) (imap (λ k. item_of ps (g k)) fs)
names_from ps g [] = refl
names_from ps g (f ∷ fs) = ap (λ ns. name_text f.name ∷ ns) (names_from ps (λ k. g (suc k)) fs)

pub names_are : (ps : List Page) (fs : List (Entry ℕ)) → map (λ f. name_text f.name) fs ≡ map (λ x. x.name) (items_of ps fs)
names_are ps fs = names_from ps (λ k. k) fs

-- A draft becomes the last item.
module _ (ps : List Page) (fs : List (Entry ℕ)) (ds : List (Option ℕ)) (d n : ℕ) (f : Entry ℕ) (in-d : d < length ds) (is : get_or ds d None ≡ Some n) (long : f.kept ≡ n)
    (begun : Begun ps ds) (filings : Filings ps fs) where
  abbrev to : Owner
  to = Item (length fs)

  abbrev qs : List Page
  qs = map (passed (Draft d) to) ps

  apart_from : Draft d ≡ to → ⊥
  apart_from e = no_item_draft (length fs) d (sym e)

  drafts_rest : (k : ℕ) → (k ≡ d → ⊥) → texts (Draft k) qs ≡ texts (Draft k) ps
  drafts_rest k ne = passed_other (Draft d) to apart_from (Draft k) (apart_drafts k d ne) (λ e. no_item_draft (length fs) k (sym e)) ps

  items_rest : (i : ℕ) → (i ≡ length fs → ⊥) → texts (Item i) qs ≡ texts (Item i) ps
  items_rest i ne = passed_other (Draft d) to apart_from (Item i) (no_item_draft i d) (λ e. ne (cc)) ps

  new_texts : texts to qs ≡ texts (Draft d) ps
  new_texts = passed_to (Draft d) to apart_from ps (filings (length fs) ∙ ap need (filed_past fs))

  gone : texts (Draft d) qs ≡ []
  gone = passed_from (Draft d) to apart_from ps

  abbrev new : AnItem
  new = record { name = name_text f.name; bytes = content ps (Draft d) n }

  pub items_filed : items_of qs (fs ++ f ∷ []) ≡ items_of ps fs ++ new ∷ []
  items_filed =
      imap-push (item_of qs) fs f
      ∙ ap (λ xs. xs ++ item_of qs (length fs) f ∷ []) (items_same ps qs fs (λ i lt. items_rest i (λ e. omega arith)))
      ∙ ap (λ b. items_of ps fs ++ record { name = name_text f.name; bytes = b } ∷ []) (ap (λ ts. take f.kept (flat ts)) new_texts ∙ ap (content ps (Draft d)) long)

  pub drafts_filed : drafts_of qs (set ds d None) ≡ set (drafts_of ps ds) d None
  drafts_filed = drafts_set ps qs ds d (Some n) None in-d is drafts_rest

  has : length (texts (Draft d) ps) ≡ need n
  has = begun d ∙ ap (λ x. need (unwrap_or x 0)) is

  pub filed : Tally ps fs ds → Begun qs (set ds d None) × Filings qs (fs ++ f ∷ []) × Tally qs (fs ++ f ∷ []) (set ds d None)
  filed tally =
      let bytes = length-content (Draft d) ps n has in
      let moved = used_set ps qs ds d (Some n) None in-d is drafts_rest (ap length gone) begun in
      let items = ap (sum_by (λ x. need (length x.bytes))) items_filed ∙ sum_by_push (λ x. need (length x.bytes)) (items_of ps fs) new in
      let one = ap need bytes in
      let same-long = length-map ps (passed (Draft d) to) in (
        begun_set ps qs ds d (Some n) None in-d is drafts_rest (ap length gone) begun,
        (λ i.
            ⊎_elim
            (λ (last : i ≡ length fs). subst (λ k. length (texts (Item k) qs) ≡ need (filed_len (fs ++ f ∷ []) k)) (sym last) (ap length new_texts ∙ has ∙ ap need (sym long ∙ sym (filed_last fs f))))
            (λ (other : i ≡ length fs → ⊥). ap length (items_rest i other) ∙ filings i ∙ ap need (sym (filed_other fs f i other)))
            (cases_eq i (length fs))),
        omega arith,
      )

  -- all that holds after
  abbrev After : List Page → List (Entry ℕ) → Type 0
  After rs gs = Begun rs (set ds d None) × Filings rs gs × Tally rs gs (set ds d None) × Distinct (items_of rs gs) × (items_of rs gs ≡ items_of ps fs ++ new ∷ []) × (drafts_of rs (set ds d None) ≡ set (drafts_of ps ds) d None) × (length rs ≡ length ps) × (length gs ≡ length fs + 1)

  pub after_filing : (rs : List Page) (gs : List (Entry ℕ)) → rs ≡ qs → gs ≡ fs ++ f ∷ [] → position (name_text f.name) (items_of ps fs) ≡ None → Tally ps fs ds → Distinct (items_of ps fs) → After rs gs
  after_filing rs gs rs-is gs-is absent tally apart =
      let h = filed tally in
      let all : After qs (fs ++ f ∷ []) = (h.0, h.1, h.2, subst Distinct (sym items_filed) (distinct_push (items_of ps fs) new absent apart), items_filed, drafts_filed, length-map ps (passed (Draft d) to), length_push fs f) in
      let P : List Page → Type 0 = λ x. After x gs in
      subst P (sym rs-is) (subst (After qs) (sym gs-is) all)

-- what an open draft holds, and whether it takes a piece
pub text_is : (ps : List Page) (ds : List (Option ℕ)) (d n : ℕ) → d < length ds → get_or ds d None ≡ Some n → text_at (drafts_of ps ds) d ≡ content ps (Draft d) n
text_is ps ds d n in-d is = ap (λ o. unwrap_or o []) (draft_is ps ds d (Some n) in-d is)

pub fits_is : (ps : List Page) (fs : List (Entry ℕ)) (ds : List (Option ℕ)) (d n limit : ℕ) (piece : List ℕ) → d < length ds → get_or ds d None ≡ Some n → length (texts (Draft d) ps) ≡ need n → Tally ps fs ds → fits limit (items_of ps fs) (drafts_of ps ds) d piece ≡ leb (length ps + (need (n + length piece) - need n)) limit
fits_is ps fs ds d n limit piece in-d is has tally =
    let long = ap length (text_is ps ds d n in-d is) ∙ length-content (Draft d) ps n has in
    ap (λ k. leb (k + (need (length (text_at (drafts_of ps ds) d) + length piece) - need (length (text_at (drafts_of ps ds) d)))) limit) (sym tally)
    ∙ ap (λ k. leb (length ps + (need (k + length piece) - need k)) limit) long

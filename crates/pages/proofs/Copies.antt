-- A copy out of pages, one after another. Assumes nothing.
use Rattle.std.proofs.Common.{◌≡◌, ℕ, ◌+◌, ◌-◌, ◌<◌, ◌≤◌, min, true, false, cond, List, [], ◌∷◌, ◌++◌, length, get_or, take, drop, sym, ap, ◌∙◌, ⊎_elim, arith}
use borrow.Rule.Slice.PartMut.{put_mid}
use lib.Seq.{drop-append-add}
use Rattle.std.proofs.lemmas.List.{append-nil, append_assoc, length-append, length-take, take_all, take-take, drop-take, length-take-le, drop_all, take-append-le, drop-append-le, take_at, drop_at, drop-drop, take_more}
use Rattle.std.proofs.lemmas.Bool.{cases_lt}
use Rattle.store.specs.Meaning.{part}
use Rattle.store.proofs.Parts.{part_is}
use Rattle.pages.specs.Layout.{same, texts, flat}
use Rattle.pages.specs.declared.parts.Page.{Page}
use Rattle.store.specs.declared.owner.Owner.{Owner}
use Rattle.pages.proofs.Texts.{texts-append, flat_append, take_past}

-- as many as are left of two lists, one after the other
take_two : (a b : List ℕ) (n : ℕ) → take n (a ++ b) ≡ take n a ++ take (n - length (take n a)) b
take_two a b n =
    ⊎_elim
    (λ (few : length a < n).
    let all = take_all n a (omega arith) in
    take_past a b n (n - length a) (omega arith) ∙ ap (λ x. x ++ take (n - length x) b) (sym all))
    (λ (full : n ≤ length a).
    let none : n - length (take n a) ≡ 0 = simp length-take (omega arith) in
    take-append-le n a b full ∙ sym (append-nil (take n a)) ∙ ap (λ k. take n a ++ take k b) (sym none))
    (cases_lt (length a) n)

drop_two : (a b : List ℕ) (n : ℕ) → drop n (a ++ b) ≡ drop n a ++ drop (n - length a) b
drop_two a b n =
    ⊎_elim
    (λ (past : length a < n).
    let more : length a + (n - length a) ≡ n = omega arith in
    ap (λ k. drop k (a ++ b)) (sym more) ∙ drop-append-add a b (n - length a) ∙ ap (λ x. x ++ drop (n - length a) b) (sym (drop_all n a (omega arith))))
    (λ (within : n ≤ length a).
    let none : n - length a ≡ 0 = omega arith in
    drop-append-le n a b within ∙ ap (λ k. drop n a ++ drop k b) (sym none))
    (cases_lt (length a) n)

part_two : (a b : List ℕ) (from n : ℕ) → part (a ++ b) from n ≡ part a from n ++ part b (from - length a) (n - length (part a from n))
part_two a b from n = ap (take n) (drop_two a b from) ∙ take_two (drop from a) (drop (from - length a) b) n

-- the pages before gave their part of the bytes, and one more page is copied
pub copied : (before t buf was got : List ℕ) (from done skip s m : ℕ) → length t ≡ 64 → buf ≡ part before from (length was) ++ drop done was → done ≡ length (part before from (length was)) → skip ≡ from - length before → s ≡ min skip 64 → m ≡ min (64 - s) (length was - done) → got ≡ take m (drop s t) → (put_mid done m buf got ≡ part (before ++ t) from (length was) ++ drop (done + m) was) × (done + m ≡ length (part (before ++ t) from (length was))) × (skip - s ≡ from - length (before ++ t))
copied before t buf was got from done skip s m whole is at left s-is m-is got-is =
    let n = length was in
    let head = part before from n in
    let room : m ≡ min (length t - skip) (n - done) = omega arith in
    let p = part_is t skip (n - done) m room in
    let same_place : take m (drop s t) ≡ take m (drop skip t) =
    ⊎_elim
    (λ (past : 64 < skip). let none : m ≡ 0 = omega arith in ap (λ k. take k (drop s t)) none ∙ ap (λ k. take k (drop skip t)) (sym none))
    (λ (within : skip ≤ 64). let here : s ≡ skip = omega arith in ap (λ k. take m (drop k t)) here)
    (cases_lt 64 skip) in
    let two : part (before ++ t) from n ≡ head ++ got = part_two before t from n ∙ ap (λ k. head ++ part t k (n - length head)) (sym left) ∙ ap (λ k. head ++ part t skip (n - k)) (sym at) ∙ ap (λ x. head ++ x) (sym (got-is ∙ same_place ∙ p.0)) in
    let got-long : length got ≡ m = ap length (got-is ∙ same_place ∙ p.0) ∙ p.1 in (
      ap (λ b. put_mid done m b got) is
          ∙ ap (λ x. x ++ (got ++ drop m (drop done (head ++ drop done was)))) (take_at head (drop done was) done (sym at))
          ∙ ap (λ x. head ++ (got ++ drop m x)) (drop_at head (drop done was) done (sym at))
          ∙ ap (λ x. head ++ (got ++ x)) (drop-drop m done was)
          ∙ sym (append_assoc head got (drop (done + m) was))
          ∙ ap (λ x. x ++ drop (done + m) was) (sym two),
      omega (arith, ap length two, length-append head got),
      omega (arith, length-append before t),
    )

-- one page more is looked at
pub flat_next : (w : Owner) (ps : List Page) (i : ℕ) (p : Page) → i < length ps → p ≡ get_or ps i p → same w p.owner ≡ true → flat (texts w (take (i + 1) ps)) ≡ flat (texts w (take i ps)) ++ p.text
flat_next w ps i p lt is mine =
    ap (λ x. flat (texts w x)) (take_more ps i p lt ∙ ap (λ x. take i ps ++ x ∷ []) (sym is))
    ∙ ap flat (texts-append w (take i ps) (p ∷ []) ∙ ap (λ b. texts w (take i ps) ++ cond b (p.text ∷ []) []) mine)
    ∙ flat_append (texts w (take i ps)) (p.text ∷ []) ∙ ap (λ x. flat (texts w (take i ps)) ++ x) (append-nil p.text)

pub texts_next : (w : Owner) (ps : List Page) (i : ℕ) (p : Page) → i < length ps → p ≡ get_or ps i p → same w p.owner ≡ false → texts w (take (i + 1) ps) ≡ texts w (take i ps)
texts_next w ps i p lt is other =
    ap (texts w) (take_more ps i p lt ∙ ap (λ x. take i ps ++ x ∷ []) (sym is))
    ∙ texts-append w (take i ps) (p ∷ []) ∙ ap (λ b. texts w (take i ps) ++ cond b (p.text ∷ []) []) other ∙ append-nil (texts w (take i ps))

-- what the copy gives of an item's bytes, which are the first of what its pages hold
pub read_is : (held bytes sub got : List ℕ) (len from room n : ℕ) → bytes ≡ take len held → len ≤ length held → from ≤ len → n ≡ min (len - from) room → length sub ≡ n → got ≡ part held from (length sub) ++ drop (length (part held from (length sub))) sub → (got ≡ part bytes from room) × (length (part bytes from room) ≡ n)
read_is held bytes sub got len from room n is le at n-is long got-is =
    let bytes-long = ap length is ∙ length-take-le len held le in
    let p = part_is bytes from room n (n-is ∙ ap (λ k. min (k - from) room) (sym bytes-long)) in
    let back : from + (len - from) ≡ len = omega arith in
    let few : n ≤ len - from = omega arith in
    let same-part : part held from n ≡ part bytes from room =
    sym (take-take n (len - from) (drop from held) few) ∙ ap (take n) (sym (drop-take from (len - from) held) ∙ ap (λ k. drop from (take k held)) back ∙ ap (drop from) (sym is)) ∙ p.0 in
    let whole = ap length same-part ∙ p.1 in
    let past : length sub ≤ length (part held from n) = omega arith in
    (got-is ∙ ap (λ k. part held from k ++ drop (length (part held from k)) sub) long ∙ ap (λ x. part held from n ++ x) (drop_all _ sub past) ∙ append-nil (part held from n) ∙ same-part, p.1)

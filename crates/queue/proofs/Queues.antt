-- The steps of a queue: an element more behind, an element less in front.
use Rattle.std.proofs.Common.{◌≡◌, ℕ, ◌+◌, ◌-◌, ◌<◌, ◌≤◌, min, ◌⊎◌, List, [], ◌∷◌, ◌++◌, length, get_or, take, drop, set, ap, ◌∙◌, inl, inr, ⊎_elim, append_assoc, add-one, arith, length-append, length-drop, length-take}
use Rattle.std.proofs.lemmas.Bool.{cases_lt}
use lib.Seq.{take-set-lt}
use Rattle.std.proofs.lemmas.List.{take-set-le, drop-set-lt, drop-set-add, set-append_left, set-append_right, take_more_set, take-append-le, drop_more, take_more, append-nil, drop_all, take_all}
use Rattle.queue.specs.Queued.{around}

pub length_around : {X : Type 0} (xs : List X) (h : ℕ) → length (around xs h) ≡ length xs
length_around xs h = simp (length-append, length-drop, length-take) (omega arith)

pub length_waiting : {X : Type 0} (xs : List X) (h n : ℕ) → length (take n (around xs h)) ≡ min n (length xs)
length_waiting xs h n = rw (length-take n (around xs h), length_around xs h)

-- a write at the place of number n behind the head, before the end of the slots and after it
set_before : {X : Type 0} (xs : List X) (h n : ℕ) (x : X) → n < length xs - h → around (set xs (h + n) x) h ≡ set (around xs h) n x
set_before xs h n x l =
    let below : n < length (drop h xs) = simp length-drop (omega arith) in
    let past : h ≤ h + n = omega arith in
    rw (drop-set-add h xs n x, take-set-le h xs (h + n) x past, set-append_left (drop h xs) (take h xs) n x below)

set_after : {X : Type 0} (xs : List X) (h n : ℕ) (x : X) → n < length xs → length xs - h ≤ n → around (set xs (n - (length xs - h)) x) h ≡ set (around xs h) n x
set_after xs h n x l p =
    let below : n - (length xs - h) < h = omega arith in
    rw (
      drop-set-lt h xs (n - (length xs - h)) x below,
      take-set-lt h xs (n - (length xs - h)) x below,
      set-append_right (drop h xs) (take h xs) (length xs - h) n x (length-drop h xs) p,
    )

-- after a write at that place, one element more waits
one_more : {X : Type 0} (xs ys : List X) (h n : ℕ) (x : X) → n < length xs → around ys h ≡ set (around xs h) n x → take (n + 1) (around ys h) ≡ take n (around xs h) ++ x ∷ []
one_more xs ys h n x l e = let a = length_around xs h in ap (take (n + 1)) e ∙ take_more_set (around xs h) n x (omega arith)

-- the place numbered n behind the head
unfoldable pub Place : {X : Type 0} → List X → ℕ → ℕ → ℕ → Type 0
Place xs h n i = ((n < length xs - h) × (i ≡ h + n)) ⊎ ((length xs - h ≤ n) × (i ≡ n - (length xs - h)))

pub push_back : {X : Type 0} (xs : List X) (h n i : ℕ) (x : X) → n < length xs → Place xs h n i → take (n + 1) (around (set xs i x) h) ≡ take n (around xs h) ++ x ∷ []
unfolding Place
push_back xs h n i x l (inl (p, e)) = rw e (one_more xs (set xs (h + n) x) h n x l (set_before xs h n x p))
push_back xs h n i x l (inr (p, e)) = rw e (one_more xs (set xs (n - (length xs - h)) x) h n x l (set_after xs h n x l p))

-- from a place past the last the list is as from the first
pub around_past : {X : Type 0} (xs : List X) (h : ℕ) → length xs ≤ h → around xs h ≡ around xs 0
around_past xs h l = rw (append-nil xs, drop_all h xs l, take_all h xs l)

-- the one in front, and those that wait behind it
front_off : {X : Type 0} (xs : List X) (h n : ℕ) (d : X) → n < length xs → h < length xs → take (n + 1) (around xs h) ≡ get_or xs h d ∷ take n (around xs (h + 1))
front_off xs h n d l p =
    let ys : List _ = drop (h + 1) xs ++ take h xs in
    let long : n ≤ length ys = simp (length-append, length-drop, length-take) (omega arith) in
    rw (drop_more xs h d p, add-one n, take_more xs h d p, ← append_assoc (drop (h + 1) xs) (take h xs) (get_or xs h d ∷ []), take-append-le n ys (get_or xs h d ∷ []) long)

-- no more wait than there are places
take_min : {X : Type 0} (n : ℕ) (ys : List X) → take n ys ≡ take (min n (length ys)) ys
take_min n ys = ⊎_elim (λ (h : n < length ys). let e : min n (length ys) ≡ n = omega arith in rw e)
    (λ (h : length ys ≤ n). let e : min n (length ys) ≡ length ys = omega arith in rw (e, take_all n ys h, take_all (length ys) ys (omega arith)))
    (cases_lt n (length ys))

-- the place of the one in front
unfoldable pub Front : {X : Type 0} → List X → ℕ → ℕ → Type 0
Front xs h i = ((h < length xs) × (i ≡ h)) ⊎ ((length xs ≤ h) × (i ≡ 0))

from_front : {X : Type 0} (xs : List X) (h i : ℕ) → Front xs h i → around xs h ≡ around xs i
unfolding Front
from_front xs h i (inl (l, e)) = rw e
from_front xs h i (inr (l, e)) = rw e (around_past xs h l)

pub pop_front : {X : Type 0} (xs : List X) (h i n m : ℕ) (d : X) → m ≡ min n (length xs) → 0 < m → i < length xs → Front xs h i → take n (around xs h) ≡ get_or xs i d ∷ take (m - 1) (around xs (i + 1))
pop_front xs h i n m d e z l f =
    let less : m - 1 < length xs = omega arith in
    let back : min n (length (around xs i)) ≡ m - 1 + 1 = rw (length_around xs i) (omega arith) in
    ap (take n) (from_front xs h i f) ∙ take_min n (around xs i) ∙ ap (λ k. take k (around xs i)) back ∙ front_off xs i (m - 1) d less l

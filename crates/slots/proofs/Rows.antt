-- Where a slot's bytes lie. Assumes nothing.
use Rattle.std.proofs.Common.{◌≡◌, ℕ, zero, suc, ◌+◌, ◌*◌, ◌<◌, ◌≤◌, List, [], ◌∷◌, ◌++◌, map, length, get_or, take, drop, set, sym, refl, ap, ◌∙◌, ⊎_elim, mul-le-mul_right, add-mul, one-mul, arith}
use Rattle.std.proofs.lemmas.List.{length-take, drop-take, drop-append-le}
use Rattle.std.proofs.lemmas.Slice.{take-put_mid, take-put_mid_below, drop-put_mid}
use Rattle.std.proofs.lemmas.Bool.{cases_lt}
use Rattle.terms.specs.Named.{name_text}
use Rattle.store.specs.Memory.{overwritten}
use Rattle.store.proofs.Parts.{length-overwritten}
use Rattle.slots.specs.Layout.{items_of, content}
use Rattle.slots.specs.declared.parts.Extent.{Extent}
use Rattle.store.specs.declared.entry.Entry.{Entry}

-- a slot ends where a later one begins, or before
pub before : (s t size l : ℕ) → s < t → l ≤ size → s * size + l ≤ t * size
before s t size l lt le =
    let rows : (s + 1) * size ≤ t * size = mul-le-mul_right {m = s + 1} {n = t} size (omega arith) in
    omega (arith, add-mul s 1 size, one-mul size)

-- entries have the names of their items
pub names_are : (mem : List ℕ) (size : ℕ) (fs : List (Entry Extent)) → map (λ f. name_text f.name) fs ≡ map (λ x. x.name) (items_of mem size fs)
names_are mem size [] = refl
names_are mem size (f ∷ fs) = ap (λ ns. name_text f.name ∷ ns) (names_are mem size fs)

-- Slot s has l bytes in use, and a piece that fits is written after them.
module _ (mem : List ℕ) (size s l : ℕ) (piece : List ℕ) (inside : s < 16) (fits : l + length piece ≤ size) (cut : 16 * size ≤ length mem) where
  abbrev after : List ℕ
  after = overwritten mem (s * size + l) piece

  room : s * size + (l + length piece) ≤ length mem
  room = omega (arith, before s 16 size (l + length piece) inside fits)

  pub length-after : length after ≡ length mem
  length-after = let r = room in length-overwritten mem (s * size + l) piece (omega arith)

  pub content_own : content after size (record { slot = s; len = l + length piece }) ≡ content mem size (record { slot = s; len = l }) ++ piece
  content_own =
      let r = room in
      let front : s * size ≤ length (take (s * size + l) mem) = simp length-take (omega arith) in
      let within : s * size + l ≤ length mem = omega arith in
      sym (drop-take (s * size) (l + length piece) after)
      ∙ ap (drop (s * size)) (take-put_mid (s * size + l) (length piece) mem piece (s * size + (l + length piece)) (omega arith) within)
      ∙ drop-append-le (s * size) (take (s * size + l) mem) piece front
      ∙ ap (λ x. x ++ piece) (drop-take (s * size) l mem)

  pub content_other : (e : Extent) → (e.slot ≡ s → ⊥) → e.len ≤ size → content after size e ≡ content mem size e
  content_other e other le =
      let r = room in
      let within : s * size + l ≤ length mem = omega arith in
      ⊎_elim
      (λ (lower : e.slot < s).
      let below : e.slot * size + e.len ≤ s * size + l = omega (arith, before e.slot s size e.len lower le) in
      sym (drop-take (e.slot * size) e.len after)
      ∙ ap (drop (e.slot * size)) (take-put_mid_below (s * size + l) (length piece) mem piece (e.slot * size + e.len) below within)
      ∙ drop-take (e.slot * size) e.len mem)
      (λ (higher : s ≤ e.slot).
      let past : s * size + (l + length piece) ≤ e.slot * size = before s e.slot size (l + length piece) (omega arith) fits in
      ap (take e.len) (drop-put_mid (s * size + l) (length piece) mem piece (e.slot * size) (omega arith) within refl))
      (cases_lt e.slot s)

-- two maps that agree on a list, or on it but for one position that is set
pub map_same : {X Y : Type 0} (f g : X → Y) (xs : List X) → ((i : ℕ) (z : X) → i < length xs → f (get_or xs i z) ≡ g (get_or xs i z)) → map f xs ≡ map g xs
map_same f g [] h = refl
map_same f g (x ∷ xs) h =
    let here = h zero x (omega arith) in
    let rest = map_same f g xs (λ i z lt. h (suc i) z (omega arith)) in
    cc

pub map_same_but : {X Y : Type 0} (f g : X → Y) (xs : List X) (d : ℕ) (y : Y) → ((i : ℕ) (z : X) → i < length xs → (i ≡ d → ⊥) → f (get_or xs i z) ≡ g (get_or xs i z)) → set (map f xs) d y ≡ set (map g xs) d y
map_same_but f g [] d y h = refl
map_same_but f g (x ∷ xs) zero y h = ap (λ ys. y ∷ ys) (map_same f g xs (λ i z lt. h (suc i) z (omega arith) (λ e. omega arith)))
map_same_but f g (x ∷ xs) (suc d) y h =
    let here = h zero x (omega arith) (λ e. omega arith) in
    let rest = map_same_but f g xs d y (λ i z lt ne. h (suc i) z (omega arith) (λ e. ne (omega arith))) in
    cc

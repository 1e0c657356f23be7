-- Which item has a name. Assumes nothing.
use Rattle.std.proofs.Common.{◌≡◌, ℕ, zero, suc, ◌+◌, ◌<◌, Bool, true, false, cond, not, ltb, List, [], ◌∷◌, ◌++◌, map, length, get_or, Some, None, Option, sym, refl, ap, ◌∙◌, ⊎_elim, arith}
use Rattle.std.specs.List.{position as first_place, position_or_len}
use Rattle.std.specs.Option.{option_map}
use Rattle.terms.specs.Named.{name_text}
use Rattle.store.specs.Entries.{is_called}
use Rattle.store.specs.declared.entry.Entry.{Entry}
use Rattle.std.specs.Str.{bytes_eq}
use Rattle.std.proofs.lemmas.Slice.Eq.{bytes_eq-Decides}
use Rattle.std.proofs.lemmas.List.{length_push, get_or_push, get_or_append_left}
use Rattle.std.proofs.lemmas.Bool.{cases_eq, both_ways}
use Rattle.std.proofs.lemmas.Bool.Decides.{nat_tests}
use Rattle.store.specs.Meaning.{Item, no_item, position, Distinct}

-- one way of `position` being none
none_parts : (b : Bool) (o : Option ℕ) → cond b (Some 0) (option_map suc o) ≡ None → (b ≡ false) × (o ≡ None)
none_parts true o h = absurd (cc)
none_parts false None h = (refl, refl)
none_parts false (Some x) h = absurd (cc)

pub none_there : (n : List ℕ) (xs : List Item) → position n xs ≡ None → (k : ℕ) → k < length xs → (get_or xs k no_item).name ≡ n → ⊥
none_there n [] none k lt is = omega arith
none_there n (x ∷ xs) none zero lt is =
    both_ways _ (none_parts (bytes_eq x.name n) (position n xs) none).0 ((bytes_eq-Decides x.name n).1 is)
none_there n (x ∷ xs) none (suc k) lt is =
    none_there n xs (none_parts (bytes_eq x.name n) (position n xs) none).1 k (omega arith) is

-- a new name at the end
pub distinct_push : (xs : List Item) (x : Item) → position x.name xs ≡ None → Distinct xs → Distinct (xs ++ x ∷ [])
distinct_push xs x new h i j f =
    let inside : i < length xs = omega (arith, f.0, f.1, length_push xs x) in
    let left = get_or_append_left xs (x ∷ []) no_item i inside in
    ⊎_elim
    (λ (last : j ≡ length xs). none_there x.name xs new i inside (ap (λ y. y.name) (sym left) ∙ f.2 ∙ ap (λ y. y.name) (get_or_push xs x no_item j (sym last))))
    (λ (other : j ≡ length xs → ⊥).
    let within : j < length xs = omega (arith, f.1, length_push xs x) in
    h i j (f.0, within, ap (λ y. y.name) (sym left) ∙ f.2 ∙ ap (λ y. y.name) (get_or_append_left xs (x ∷ []) no_item j within)))
    (cases_eq j (length xs))

-- std's search for the first element that passes, one element further
first_next_by : (b : Bool) (i n : ℕ) → cond (ltb (cond (not b) (1 + i) 0) (suc n)) (Some (cond (not b) (1 + i) 0)) None ≡ cond b (Some 0) (option_map suc (cond (ltb i n) (Some i) None))
first_next_by true i n = grind (arith, nat_tests)
first_next_by false i n = grind (arith, nat_tests)

pub first_next : {X : Type 0} (p : X → Bool) (x : X) (xs : List X) → first_place p (x ∷ xs) ≡ cond (p x) (Some 0) (option_map suc (first_place p xs))
first_next p x xs = first_next_by (p x) (position_or_len p xs) (length xs)

-- The first entry of that name is the first item of that name, where the entries have the items' names.
pub found : {T : Type 0} (n : List ℕ) (fs : List (Entry T)) (xs : List Item) → map (λ f. name_text f.name) fs ≡ map (λ x. x.name) xs → first_place (is_called n) fs ≡ position n xs
found n [] [] same = refl
found n [] (x ∷ xs) same = absurd (cc)
found n (f ∷ fs) [] same = absurd (cc)
found n (f ∷ fs) (x ∷ xs) same =
    let here : name_text f.name ≡ x.name = cc in
    let rest : map (λ f. name_text f.name) fs ≡ map (λ x. x.name) xs = cc in
    first_next (is_called n) f fs
    ∙ ap (λ m. cond (bytes_eq m n) (Some 0) (option_map suc (first_place (is_called n) fs))) here
    ∙ ap (λ o. cond (bytes_eq x.name n) (Some 0) (option_map suc o)) (found n fs xs rest)

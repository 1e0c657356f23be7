-- The first pair of pairs.
use Rattle.std.proofs.Common.{◌≡◌, ℕ, ◌+◌, ◌<◌, true, false, List, [], ◌∷◌, ◌++◌, map, length, sym, refl, ap, ◌∙◌, arith, length-append}
use Rattle.grammar.specs.Grammar.{Text, Pair, pairs}
use Rattle.grammar.specs.Meaning.{Cut}
use Rattle.grammar.proofs.Bytes.{one_cut, no_cut}
use Rattle.std.specs.Char.{to_ascii_lowercase}
use Rattle.std.proofs.lemmas.Slice.Eq.{bytes_eq-Decides}
use Rattle.std.proofs.lemmas.Bool.{or_left}
use Rattle.option_pairs.specs.Pairs.{Are, has_name, twice}
use Rattle.option_pairs.specs.Splits.{Begins}

-- the bytes bs, if they are pairs, are none
abbrev pub Ends : List ℕ → Type 0
Ends bs = (ps : List Pair) → Are ps bs → ps ≡ []

-- the bytes bs, if they are pairs, begin with the name n and the value v, and go on with the pairs in rest
pub record Head (n v rest bs : List ℕ) : Type 0 where
  pub shorter : length rest < length bs
  pub first : (ps : List Pair) → Are ps bs → (qs : List Pair) × Are qs rest × (ps ≡ record { name = n; value = v } ∷ qs)

name_cut : (p : Pair) (ps : List Pair) (bs : List ℕ) → Are (p ∷ ps) bs → Cut p.name (p.value ++ 0 ∷ pairs ps) bs
name_cut p ps bs a = record { text = a.0.0.1; whole = a.1 }

value_cut : (p : Pair) (ps : List Pair) (bs x n : List ℕ) → Are (p ∷ ps) bs → Cut n x bs → Cut p.value (pairs ps) x
value_cut p ps bs x n a c =
    let s = one_cut p.name n (p.value ++ 0 ∷ pairs ps) x bs (name_cut p ps bs a) c in
    record { text = a.0.0.2; whole = s.1 }

pub ends : (bs : List ℕ) → Text bs → Ends bs
ends bs t [] a = refl
ends bs t (p ∷ ps) a = absurd (no_cut _ _ bs (name_cut p ps bs a) t)

pub ends_value : (n x bs : List ℕ) → Cut n x bs → Text x → Ends bs
ends_value n x bs c t [] a = refl
ends_value n x bs c t (p ∷ ps) a = absurd (no_cut _ _ x (value_cut p ps bs x n a c) t)

pub head : (n x v y bs : List ℕ) → Cut n x bs → Cut v y x → Head n v y bs
head n x v y bs c d = record { shorter = omega (arith, l, k); first = first }
  where
    l : length n + length (0 ∷ x) ≡ length bs
    l = sym (length-append n (0 ∷ x)) ∙ ap length c.whole

    k : length v + length (0 ∷ y) ≡ length x
    k = sym (length-append v (0 ∷ y)) ∙ ap length d.whole

    first : (ps : List Pair) → Are ps bs → (qs : List Pair) × Are qs y × (ps ≡ record { name = n; value = v } ∷ qs)
    first [] a = absurd (omega (arith, l, ap length a.1))
    first (p ∷ ps) a =
        let s = one_cut p.name n _ x bs (name_cut p ps bs a) c in
        let t = one_cut p.value v _ y x (value_cut p ps bs x n a c) d in
        (ps, (a.0.1, t.1), rw (← s.0, ← t.0))

-- the first pair has the name; it has another; no later pair has its name
pub hits : (n m v : List ℕ) (ps qs : List Pair) → qs ≡ record { name = m; value = v } ∷ ps → map to_ascii_lowercase m ≡ map to_ascii_lowercase n → has_name n qs ≡ true
hits n m v ps qs f e = ap (has_name n) f ∙ or_left _ _ ((bytes_eq-Decides _ _).1 e)

pub passes : (n m v : List ℕ) (ps qs : List Pair) → qs ≡ record { name = m; value = v } ∷ ps → (map to_ascii_lowercase m ≡ map to_ascii_lowercase n → ⊥) → has_name n qs ≡ has_name n ps
passes n m v ps qs f h =
    let d = bytes_eq-Decides (map to_ascii_lowercase m) (map to_ascii_lowercase n) in
    let g = ap (has_name n) f in grind arith

pub fresh : (m v : List ℕ) (ps qs : List Pair) → qs ≡ record { name = m; value = v } ∷ ps → false ≡ has_name m ps → twice qs ≡ twice ps
fresh m v ps qs f h = let g = ap twice f in grind arith

-- bytes are one list of pairs at most
pub one_pairs : (ps qs : List Pair) (bs : List ℕ) → Are ps bs → Are qs bs → ps ≡ qs
one_pairs [] [] bs a b = refl
one_pairs [] (q ∷ qs) bs a b = sym (ends bs (rw (← a.1) (λ k h _. omega arith)) (q ∷ qs) b)
one_pairs (p ∷ ps) qs bs a b =
    let h = head _ _ _ _ bs (name_cut p ps bs a) (record { text = a.0.0.2; whole = refl }) in
    let r = h.first qs b in
    ap (λ l. p ∷ l) (one_pairs ps r.0 (pairs ps) (a.0.1, refl) r.1) ∙ sym r.2

-- where the bytes begin with no pair, they are none
pub begins_none : (bs : List ℕ) → ((n v rest : List ℕ) → Begins n v rest bs → ⊥) → Ends bs
begins_none bs h [] a = refl
begins_none bs h (p ∷ ps) a =
    absurd (h _ _ _ (record { some = a.0.0.0; after = _; name = name_cut p ps bs a; value = record { text = a.0.0.2; whole = refl } }))

pub begins_head : (n v rest bs : List ℕ) → Begins n v rest bs → Head n v rest bs
begins_head n v rest bs b = head n b.after v rest bs b.name b.value

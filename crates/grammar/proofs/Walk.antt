-- Option pairs byte by byte.
use Rattle.std.proofs.Common.{◌≡◌, ℕ, zero, suc, ◌<◌, Bool, true, false, cond, eqb, List, [], ◌∷◌, ◌++◌, length, sym, refl, ap, ◌∙◌, arith}
use Rattle.std.proofs.lemmas.Bool.{cond-false, cond_both, ne_eqb, eqb-true, eqb-false, false≢true}
use Rattle.std.specs.List.{AllByRecursion}
use Rattle.grammar.specs.declared.pairs.Part.{Part}
use Rattle.grammar.specs.declared.pairs.Part.TheVariants.{Start, Name, Value}
use Rattle.grammar.specs.Grammar.{Text, Pair, Good, pairs, Paired}
use Rattle.grammar.specs.Meaning.{Cut}
use Rattle.grammar.proofs.Bytes.{tail}

-- whether the bytes, from this part of a pair on, end a pair
abbrev pub walk : Part → List ℕ → Bool
walk Start [] = true
walk Name [] = false
walk Value [] = false
walk Start (b ∷ bs) = cond (eqb b 0) false (walk Name bs)
walk Name (b ∷ bs) = cond (eqb b 0) (walk Value bs) (walk Name bs)
walk Value (b ∷ bs) = cond (eqb b 0) (walk Start bs) (walk Value bs)

-- pairs are walked to their end
over : (b : ℕ) (t : List ℕ) (x y : Bool) → Text (b ∷ t) → cond (eqb b 0) x y ≡ y
over b t x y p = cond-false _ _ _ (ne_eqb b 0 (p 0 (omega arith)))

name : (t rest : List ℕ) → Text t → walk Name (t ++ 0 ∷ rest) ≡ walk Value rest
name [] rest p = refl
name (b ∷ t) rest p = over b t _ _ p ∙ name t rest (tail b t p)

value : (t rest : List ℕ) → Text t → walk Value (t ++ 0 ∷ rest) ≡ walk Start rest
value [] rest p = refl
value (b ∷ t) rest p = over b t _ _ p ∙ value t rest (tail b t p)

first : (t rest : List ℕ) → 0 < length t → Text t → walk Start (t ++ 0 ∷ rest) ≡ walk Value rest
first [] rest l p = absurd (omega arith)
first (b ∷ t) rest l p = over b t _ _ p ∙ name t rest (tail b t p)

walked : (ps : List Pair) → AllByRecursion Good ps → walk Start (pairs ps) ≡ true
walked [] _ = refl
walked (p ∷ ps) g = first p.name _ g.0.0 g.0.1 ∙ value p.value _ g.0.2 ∙ walked ps g.1

pub complete : (bs : List ℕ) → Paired bs → walk Start bs ≡ true
complete bs p = ap (walk Start) (sym p.2) ∙ walked p.0 p.1

-- what is walked to its end is pairs
abbrev Valued : List ℕ → Type 0
Valued bs = (v : List ℕ) × (rest : List ℕ) × Cut v rest bs × Paired rest

abbrev Ended : Part → List ℕ → Type 0
Ended Start bs = Paired bs
Ended Value bs = Valued bs
Ended Name bs = (n : List ℕ) × (rest : List ℕ) × Cut n rest bs × Valued rest

none : (b : ℕ) (bs : List ℕ) → b ≡ 0 → Cut [] bs (b ∷ bs)
none b bs e = record { text = λ k h _. omega arith; whole = cc }

more : (b : ℕ) (t x bs : List ℕ) → (b ≡ 0 → ⊥) → Cut t x bs → Cut (b ∷ t) x (b ∷ bs)
more b t x bs n c = record { text = held; whole = ap (λ l. b ∷ l) c.whole }
  where
    held : Text (b ∷ t)
    held zero h = n
    held (suc k) h = c.text k (omega arith)

pub sound : (s : Part) (bs : List ℕ) → walk s bs ≡ true → Ended s bs
sound Start [] h = ([], tt, refl)
sound Name [] h = absurd (false≢true h)
sound Value [] h = absurd (false≢true h)
sound Start (b ∷ bs) h =
    cond_both (eqb b 0) _ _ (λ v. v ≡ true → Ended Start (b ∷ bs)) (λ _ h. absurd (false≢true h))
    (λ e h. let r = sound Name bs h in
    let m = more b r.0 r.1 bs (eqb-false b 0 e) r.2 in
    let v = r.3 in
    let p = v.3 in
    (record { name = b ∷ r.0; value = v.0 } ∷ p.0, ((omega arith, m.text, v.2.text), p.1), rw (p.2, v.2.whole) m.whole)) h
sound Name (b ∷ bs) h =
    cond_both (eqb b 0) _ _ (λ v. v ≡ true → Ended Name (b ∷ bs))
    (λ e h. ([], bs, none b bs (eqb-true b 0 e), sound Value bs h))
    (λ e h. let r = sound Name bs h in (b ∷ r.0, r.1, more b _ _ bs (eqb-false b 0 e) r.2, r.3)) h
sound Value (b ∷ bs) h =
    cond_both (eqb b 0) _ _ (λ v. v ≡ true → Ended Value (b ∷ bs))
    (λ e h. ([], bs, none b bs (eqb-true b 0 e), sound Start bs h))
    (λ e h. let r = sound Value bs h in (b ∷ r.0, r.1, more b _ _ bs (eqb-false b 0 e) r.2, r.3)) h

-- A text up to its zero byte.
use Rattle.std.proofs.Common.{◌≡◌, ℕ, suc, List, [], ◌∷◌, ◌++◌, sym, refl, ◌∙◌, arith}
use Rattle.grammar.specs.Grammar.{Text}
use Rattle.grammar.specs.Meaning.{Cut}

-- a text ends at its first zero byte, so there is one way to cut
pub tail : (b : ℕ) (bs : List ℕ) → Text (b ∷ bs) → Text bs
tail b bs t k h = t (suc k) (omega arith)

pub same : (t u x y : List ℕ) → Text t → Text u → t ++ 0 ∷ x ≡ u ++ 0 ∷ y → (t ≡ u) × (x ≡ y)
same [] [] x y _ _ e = (refl, cc)
same [] (b ∷ u) x y _ q e = absurd (q 0 (omega arith) (cc))
same (a ∷ t) [] x y p _ e = absurd (p 0 (omega arith) (cc))
same (a ∷ t) (b ∷ u) x y p q e =
    let r = same t u x y (tail a t p) (tail b u q) (cc) in (cc r.0, r.1)

pub one_cut : (t u x y bs : List ℕ) → Cut t x bs → Cut u y bs → (t ≡ u) × (x ≡ y)
one_cut t u x y bs p q = same t u x y p.text q.text (p.whole ∙ sym q.whole)

no_zero : (t x : List ℕ) → Text (t ++ 0 ∷ x) → ⊥
no_zero [] x h = h 0 (omega arith) refl
no_zero (a ∷ t) x h = no_zero t x (tail a (t ++ 0 ∷ x) h)

pub no_cut : (t x bs : List ℕ) → Cut t x bs → Text bs → ⊥
no_cut t x bs p h = no_zero t x (rw p.whole h)

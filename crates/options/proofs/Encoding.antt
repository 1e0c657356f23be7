-- Pairs written part by part.
use Rattle.std.proofs.Common.{◌≡◌, ℕ, List, [], ◌∷◌, ◌++◌, refl, ap, ◌∙◌, append_assoc}
use Rattle.grammar.specs.Grammar.{Pair, pairs}

pub pairs-append : (ps qs : List Pair) → pairs (ps ++ qs) ≡ pairs ps ++ pairs qs
pairs-append [] qs = refl
pairs-append (p ∷ ps) qs =
    ap (λ l. p.name ++ 0 ∷ (p.value ++ 0 ∷ l)) (pairs-append ps qs) ∙ simp append_assoc

pub three : (ps qs rs : List Pair) (a b c d : List ℕ) → a ≡ [] → b ≡ a ++ pairs ps → c ≡ b ++ pairs qs → d ≡ c ++ pairs rs → d ≡ pairs (ps ++ (qs ++ rs))
three ps qs rs a b c d p q r s = s ∙ rw (r, q, p, pairs-append, pairs-append) (simp append_assoc)

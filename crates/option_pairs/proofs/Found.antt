-- The options that pairs give: their ranges, and that there is one value of each.
use Rattle.std.proofs.Common.{◌≡◌, ℕ, ◌≤◌, true, false, List, [], ◌∷◌, map, Some, None, Option, sym, refl, ap, ◌∙◌, inl, inr, arith}
use Rattle.std.specs.Char.{to_ascii_lowercase}
use Rattle.std.proofs.lemmas.Slice.Eq.{bytes_eq-Decides}
use Rattle.std.proofs.lemmas.Bool.{or_left, or_right, or_parts, both_ways}
use Rattle.grammar.specs.Grammar.{Pair}
use Rattle.option_pairs.specs.PerOption.{Options}
use Rattle.option_pairs.specs.declared.values.Range.{Range}
use Rattle.option_pairs.specs.PerOption.{Ranges}
use Rattle.option_pairs.specs.Pairs.{twice, has_name}
use Rattle.option_pairs.specs.Scan.{Wants, Held, Finds}

pub wanted_range : (w : List ℕ) (rg : Range) (ps : List Pair) (n : ℕ) → Wants w rg ps n → (rg.low ≤ n) × (n ≤ rg.high)
wanted_range w rg [] n h = absurd h
wanted_range w rg (p ∷ ps) n (inl (f, e)) = (omega (arith, f.above), omega (arith, f.below))
wanted_range w rg (p ∷ ps) n (inr h) = wanted_range w rg ps n h

-- a pair that is wanted under w has a name like w
wanted_named : (w m : List ℕ) (rg : Range) (ps : List Pair) (n : ℕ) → map to_ascii_lowercase m ≡ map to_ascii_lowercase w → Wants w rg ps n → has_name m ps ≡ true
wanted_named w m rg [] n e h = absurd h
wanted_named w m rg (p ∷ ps) n e (inl (f, _)) = or_left _ _ ((bytes_eq-Decides _ _).1 (f.name ∙ sym e))
wanted_named w m rg (p ∷ ps) n e (inr h) = or_right _ _ (wanted_named w m rg ps n e h)

one_wanted : (w : List ℕ) (rg : Range) (ps : List Pair) (m n : ℕ) → twice ps ≡ false → Wants w rg ps m → Wants w rg ps n → m ≡ n
one_wanted w rg [] m n t g h = absurd g
one_wanted w rg (p ∷ ps) m n t (inl (f, d)) (inl (g, e)) = cc
one_wanted w rg (p ∷ ps) m n t (inl (f, d)) (inr h) = absurd (both_ways _ (or_parts _ _ t).0 (wanted_named w p.name rg ps n f.name h))
one_wanted w rg (p ∷ ps) m n t (inr g) (inl (f, d)) = absurd (both_ways _ (or_parts _ _ t).0 (wanted_named w p.name rg ps m f.name g))
one_wanted w rg (p ∷ ps) m n t (inr g) (inr h) = one_wanted w rg ps m n (or_parts _ _ t).1 g h

one_held : (w : List ℕ) (rg : Range) (ps : List Pair) (a b : Option ℕ) → twice ps ≡ false → Held a (Wants w rg ps) → Held b (Wants w rg ps) → a ≡ b
one_held w rg ps (Some m) (Some n) t g h = ap (λ k. Some k) (one_wanted w rg ps m n t g h)
one_held w rg ps (Some m) None t g h = absurd (h m g)
one_held w rg ps None (Some n) t g h = absurd (g n h)
one_held w rg ps None None t g h = refl

pub one_found : (rs : Ranges) (ps : List Pair) (o r : Options) → twice ps ≡ false → Finds rs ps o → Finds rs ps r → o ≡ r
one_found rs ps o r t f g =
    let b = one_held _ _ ps _ _ t f.blksize g.blksize in
    let c = one_held _ _ ps _ _ t f.timeout g.timeout in
    let d = one_held _ _ ps _ _ t f.windowsize g.windowsize in
    λ i. record { blksize = b i; timeout = c i; windowsize = d i }

-- Whether one of the pairs that bytes begin with has a name, by the tests of a closure.
use Rattle.std.proofs.Common.{◌≡◌, ℕ, Bool, true, false, List, [], ◌∷◌, map, Some, None, Option, sym, ap, ◌∙◌, subst, MatchOption}
use denote.Param.Members.{Mut}
use Rattle.std.specs.Fn.{Called}
use Rattle.std.specs.List.{FoldsTo}
use Rattle.std.specs.Iterator.{Yields}
use Rattle.std.specs.Char.{to_ascii_lowercase}
use Rattle.grammar.specs.Grammar.{Pair as PairOf}
use Rattle.option_pairs.specs.declared.pairs.Pair.{Pair}
use Rattle.option_pairs.specs.declared.pairs.Pairs.{Pairs}
use Rattle.option_pairs.specs.Pairs.{Are, has_name}
use Rattle.option_pairs.specs.Splits.{TakesPair}
use Rattle.option_pairs.proofs.Heads.{hits, passes, begins_none, begins_head}

-- what a call that answered b says of the name: it is n, or another
abbrev pub Tells : Bool → List ℕ → List ℕ → Type 0
Tells true name n = map to_ascii_lowercase name ≡ map to_ascii_lowercase n
Tells false name n = map to_ascii_lowercase name ≡ map to_ascii_lowercase n → ⊥

module _ {F : Type 0} (g : Mut F (Pair × Unit {0}) Bool) (n : List ℕ) (f : F)
    (tells : (x : Pair) (b : Bool) (q : F) → Called g f (x, tt) b q → (q ≡ f) × Tells b x.name.now n) where
  -- the pairs xs were given and failed the test, and then o passed it or none was left
  pub any_named : (xs : List Pair) (o : Option Pair) (s t u : Pairs) (p j : F) (r : Bool) → p ≡ f →
      Yields TakesPair s xs t → TakesPair t o u → FoldsTo (λ p x q. Called g p (x, tt) false q) p xs j →
      MatchOption o (r ≡ false) (λ x. (r ≡ true) × ((h : F) × Called g j (x, tt) true h)) →
      (ps : List PairOf) → Are ps s.0.now → r ≡ has_name n ps
  any_named [] None s t u p j r e y d c m ps a =
      let b : Are ps t.0.now = rw y at a in m ∙ sym (ap (has_name n) (begins_none t.0.now d.0 ps b))
  any_named [] (Some x) s t u p j r e y d c m ps a =
      let b : Are ps t.0.now = rw y at a in
      let h = (begins_head _ _ _ _ d).first ps b in
      let same : j ≡ f = sym c ∙ e in
      let k = tells x true m.1.0 (subst (λ w. Called g w (x, tt) true m.1.0) same m.1.1) in
      m.0 ∙ sym (hits n x.name.now x.value.now h.0 ps h.2 k.1)
  any_named (x ∷ xs) o s t u p j r e y d c m ps a =
      let h = (begins_head _ _ _ _ y.1).first ps a in
      let k = tells x false c.0 (subst (λ w. Called g w (x, tt) false c.0) e c.1) in
      any_named xs o y.0 t u c.0 j r k.0 y.2 d c.2 m h.0 h.1 ∙ sym (passes n x.name.now x.value.now h.0 ps h.2 k.1)

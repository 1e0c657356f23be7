-- The loop over the bytes of pairs, one step on.
use Rattle.std.proofs.Common.{◌≡◌, ℕ, ◌+◌, ◌-◌, ◌<◌, ◌≤◌, true, false, List, [], ◌∷◌, ◌++◌, length, get_or, take, drop, Some, None, Option, sym, refl, ap, ◌∙◌, arith, Bor, rules, below_more}
use Rattle.std.proofs.lemmas.List.{places, take-append-drop, drop-drop, drop_more}
use Rattle.std.proofs.lemmas.Bool.{or_left}
use Rattle.grammar.specs.Grammar.{Text, Pair}
use Rattle.grammar.specs.Meaning.{Cut}
use Rattle.option_pairs.specs.PerOption.{Ranges}
use Rattle.option_pairs.specs.declared.scan.Scan.{Scan}
use Rattle.option_pairs.specs.Pairs.{Are, twice, has_name}
use Rattle.option_pairs.specs.Scan.{Scanned, Notes}
use Rattle.option_pairs.proofs.Heads.{head, ends, ends_value, fresh}
use Rattle.option_pairs.proofs.Scanning.{Noted, at_first, noted_none, noted_more, scanned}

-- what is left to read, where a name has been read and its value has not
abbrev pub opened : Option (Bor (List ℕ)) → List ℕ → List ℕ
opened None bs = bs
opened (Some n) bs = n.now ++ 0 ∷ bs

abbrev pub Named : Option (Bor (List ℕ)) → Type 0
Named None = Unit {0}
Named (Some n) = Text n.now

module _ (rs : Ranges) where
  -- at the byte i, in a part from start on: what is left decides as the whole does
  pub record Going (bs : List ℕ) (i start : ℕ) (name : Option (Bor (List ℕ))) (s : Scan) : Type 0 where
    pub within : start ≤ i
    pub plain : (k : ℕ) → k < i → start ≤ k → get_or bs k 0 ≡ 0 → ⊥
    pub named : Named name
    pub left : (ps : List Pair) → Are ps bs → (qs : List Pair) × Are qs (opened name (drop start bs)) × (twice qs ≡ twice ps) × ((r : Scan) → Noted rs s qs r → Noted rs at_first ps r)

-- the part that ends at i
part : (bs : List ℕ) (i s : ℕ) → s ≤ i → i < length bs → get_or bs i 0 ≡ 0 → ((k : ℕ) → k < i → s ≤ k → get_or bs k 0 ≡ 0 → ⊥) → Cut (take (i - s) (drop s bs)) (drop (i + 1) bs) (drop s bs)
part bs i s w h z p = record { text = text; whole = whole }
  where
    text : Text (take (i - s) (drop s bs))
    text k l e = p (s + k) (search (rules, places)) (omega arith) (search (rules, places))

    whole : take (i - s) (drop s bs) ++ 0 ∷ drop (i + 1) bs ≡ drop s bs
    whole =
        let q : s + (i - s) ≡ i = omega arith in
        let d : 0 ∷ drop (i + 1) bs ≡ drop (i - s) (drop s bs) = rw (drop-drop, q, drop_more bs i 0 h, z) in
        rw (d, take-append-drop)

pub skip : (rs : Ranges) (bs : List ℕ) (i s : ℕ) (n : Option (Bor (List ℕ))) (f : Scan) → (get_or bs i 0 ≡ 0 → ⊥) → Going rs bs i s n f → Going rs bs (i + 1) s n f
skip rs bs i s n f z g =
    record {
      within = omega (arith, g.within);
      plain = below_more (λ k. s ≤ k → get_or bs k 0 ≡ 0 → ⊥) i g.plain (λ _. z);
      named = g.named;
      left = g.left;
    }

pub name_ends : (rs : Ranges) (bs : List ℕ) (i s : ℕ) (t : Bor (List ℕ)) (f : Scan) → i < length bs → get_or bs i 0 ≡ 0 → t.now ≡ take (i - s) (drop s bs) → Going rs bs i s None f → Going rs bs (i + 1) (i + 1) (Some t) f
name_ends rs bs i s t f h z e g =
    let c = part bs i s g.within h z g.plain in
    record {
      within = omega arith;
      plain = λ k l b _. omega arith;
      named = rw e c.text;
      left = rw (e, c.whole) g.left;
    }

pub value_ends : (rs : Ranges) (bs : List ℕ) (i s : ℕ) (n : Bor (List ℕ)) (t : List ℕ) (f o : Scan) → i < length bs → get_or bs i 0 ≡ 0 → t ≡ take (i - s) (drop s bs) →
    ((ps : List Pair) → Are ps (drop (i + 1) bs) → false ≡ has_name n.now ps) →
    Notes rs f (record { name = n.now; value = t }) o →
    Going rs bs i s (Some n) f → Going rs bs (i + 1) (i + 1) None o
value_ends rs bs i s n t f o h z e u v g =
    let c = part bs i s g.within h z g.plain in
    let d = head n.now (drop s bs) t (drop (i + 1) bs) (n.now ++ 0 ∷ drop s bs) (record { text = g.named; whole = refl }) (rw e c) in
    record {
      within = omega arith;
      plain = λ k l b _. omega arith;
      named = tt;
      left = λ ps a. let j = g.left ps a in
          let q = d.first j.0 j.1 in (
            q.0,
            q.1,
            sym (fresh _ _ q.0 j.0 q.2 (u q.0 q.1)) ∙ j.2,
            λ r w. j.3 r (rw q.2 (noted_more rs f o r _ q.0 v w)),
          );
    }

-- at the end no pair is left
empty : (n : Option (Bor (List ℕ))) (bs : List ℕ) (qs : List Pair) → Named n → Text bs → Are qs (opened n bs) → qs ≡ []
empty None bs qs m t a = ends bs t qs a
empty (Some n) bs qs m t a = ends_value n.now bs _ (record { text = m; whole = refl }) t qs a

pub ended : (rs : Ranges) (bs : List ℕ) (i s : ℕ) (n : Option (Bor (List ℕ))) (f : Scan) → length bs ≤ i → Going rs bs i s n f → (ps : List Pair) → Are ps bs → Scanned rs ps f
ended rs bs i s n f h g ps a =
    let j = g.left ps a in
    let e = empty n (drop s bs) j.0 g.named rest j.1 in
    scanned rs ps f (sym j.2 ∙ ap twice e) (j.3 f (rw e (noted_none rs f)))
  where
    rest : Text (drop s bs)
    rest k l e = g.plain (s + k) (search (rules, places)) (omega arith) (search (rules, places))

pub caught : (rs : Ranges) (bs : List ℕ) (i s : ℕ) (n : Bor (List ℕ)) (f : Scan) → i < length bs → get_or bs i 0 ≡ 0 →
    ((ps : List Pair) → Are ps (drop (i + 1) bs) → true ≡ has_name n.now ps) →
    Going rs bs i s (Some n) f → (ps : List Pair) → Are ps bs → twice ps ≡ true
caught rs bs i s n f h z u g ps a =
    let c = part bs i s g.within h z g.plain in
    let d = head n.now (drop s bs) _ (drop (i + 1) bs) (n.now ++ 0 ∷ drop s bs) (record { text = g.named; whole = refl }) c in
    let j = g.left ps a in
    let q = d.first j.0 j.1 in
    sym j.2 ∙ ap twice q.2 ∙ or_left _ _ (sym (u q.0 q.1))

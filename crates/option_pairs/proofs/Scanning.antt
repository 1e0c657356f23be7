-- What is noted pair by pair is what the pairs give.
use Rattle.std.proofs.Common.{◌≡◌, ℕ, Bool, true, false, ◌⊎◌, List, [], ◌∷◌, Some, None, codes, Decides, Option, sym, refl, ◌∙◌, inl, inr, rules}
use Rattle.std.specs.List.{AllByRecursion}
use Rattle.std.proofs.lemmas.Bool.{false≢true}
use Rattle.grammar.specs.Grammar.{Pair}
use Rattle.option_pairs.specs.declared.values.Range.{Range}
use Rattle.option_pairs.specs.PerOption.{Ranges}
use Rattle.option_pairs.specs.declared.scan.Scan.{Scan}
use Rattle.option_pairs.specs.Number.{numeral_value}
use Rattle.option_pairs.specs.Pairs.{twice}
use Rattle.option_pairs.specs.Scan.{Fitting, Pick, Judge, Wants, Held, Scanned, Notes}

-- r is what the pairs make of the value o
abbrev pub Chosen : List ℕ → Range → Option ℕ → List Pair → Option ℕ → Type 0
Chosen w rg o [] r = r ≡ o
Chosen w rg o (p ∷ ps) r = (x : Option ℕ) × Pick w rg o p x × Chosen w rg x ps r

-- r is what the pairs make of the flag b
abbrev pub Judged : Ranges → Bool → List Pair → Bool → Type 0
Judged rs b [] r = r ≡ b
Judged rs b (p ∷ ps) r = (x : Bool) × Judge rs b p x × Judged rs x ps r

-- r is what the pairs make of s
pub record Noted (rs : Ranges) (s : Scan) (ps : List Pair) (r : Scan) : Type 0 where
  pub blksize : Chosen (codes "blksize") rs.blksize s.found.blksize ps r.found.blksize
  pub timeout : Chosen (codes "timeout") rs.timeout s.found.timeout ps r.found.timeout
  pub windowsize : Chosen (codes "windowsize") rs.windowsize s.found.windowsize ps r.found.windowsize
  pub all : Judged rs s.all_valid ps r.all_valid

abbrev pub at_first : Scan
at_first = record { found = record { blksize = None; timeout = None; windowsize = None }; all_valid = true }

pub noted_none : (rs : Ranges) (s : Scan) → Noted rs s [] s
noted_none rs s = record { blksize = refl; timeout = refl; windowsize = refl; all = refl }

pub noted_more : (rs : Ranges) (s t r : Scan) (p : Pair) (ps : List Pair) → Notes rs s p t → Noted rs t ps r → Noted rs s (p ∷ ps) r
noted_more rs s t r p ps n m =
    record {
      blksize = (_, n.blksize, m.blksize);
      timeout = (_, n.timeout, m.timeout);
      windowsize = (_, n.windowsize, m.windowsize);
      all = (_, n.all, m.all);
    }

some : (w : List ℕ) (rg : Range) (ps : List Pair) (o : Option ℕ) (n : ℕ) → Chosen w rg o ps (Some n) → Wants w rg ps n ⊎ (o ≡ Some n)
some w rg [] o n c = inr (sym c)
some w rg (p ∷ ps) o n c = let i = some w rg ps c.0 n c.2 in let k = c.1 in search rules

none : (w : List ℕ) (rg : Range) (ps : List Pair) (o : Option ℕ) (n : ℕ) → Chosen w rg o ps None → Wants w rg ps n ⊎ (o ≡ Some n) → ⊥
none w rg [] o n c h = search rules
none w rg (p ∷ ps) o n c h =
    let i = none w rg ps c.0 n c.2 in
    let j = none w rg ps c.0 (numeral_value p.value) c.2 in
    let k = c.1 in search rules

held : (w : List ℕ) (rg : Range) (ps : List Pair) (r : Option ℕ) → Chosen w rg None ps r → Held r (Wants w rg ps)
held w rg ps (Some n) c = let s = some w rg ps None n c in search rules
held w rg ps None c = λ n h. none w rg ps None n c (inl h)

-- a flag once lowered stays so
lowered : (rs : Ranges) (ps : List Pair) (r : Bool) → Judged rs false ps r → r ≡ false
lowered rs [] r j = j
lowered rs (p ∷ ps) r (x, inl (f, e), j) = lowered rs ps r (rw e at j)
lowered rs (p ∷ ps) r (x, inr (f, e), j) = lowered rs ps r (rw e at j)

judged : (rs : Ranges) (ps : List Pair) (r : Bool) → Judged rs true ps r → Decides r (AllByRecursion (Fitting rs) ps)
judged rs [] r j = (λ _. tt, λ _. j)
judged rs (p ∷ ps) r (x, inl (f, e), j) = let d = judged rs ps r (rw e at j) in (λ h. (f, d.0 h), λ h. d.1 h.1)
judged rs (p ∷ ps) r (x, inr (f, e), j) =
    let l = lowered rs ps r (rw e at j) in
    (λ h. absurd (false≢true (sym l ∙ h)), λ h. absurd (f h.0))

pub scanned : (rs : Ranges) (ps : List Pair) (s : Scan) → twice ps ≡ false → Noted rs at_first ps s → Scanned rs ps s
scanned rs ps s t n =
    record {
      once = t;
      found = record { blksize = held _ _ ps _ n.blksize; timeout = held _ _ ps _ n.timeout; windowsize = held _ _ ps _ n.windowsize };
      all = judged rs ps _ n.all;
    }

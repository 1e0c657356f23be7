-- What option pairs give within ranges. Assumes nothing.
use Rattle.std.specs.Prelude.{◌≡◌, ℕ, ◌≤◌, Bool, true, false, ◌⊎◌, List, [], ◌∷◌, map, Some, None, Ok, Err, codes, Decides, Option, Result}
use Rattle.std.specs.Char.{to_ascii_lowercase}
use Rattle.std.specs.List.{AllByRecursion}
use Rattle.terms.specs.declared.refusal.Refusal.{Refusal}
use Rattle.terms.specs.declared.refusal.Refusal.TheVariants.{Malformed, RepeatedOption}
use Rattle.grammar.specs.Grammar.{Pair, Paired}
use Rattle.option_pairs.specs.PerOption.{Options}
use Rattle.option_pairs.specs.declared.values.Range.{Range}
use Rattle.option_pairs.specs.PerOption.{Ranges}
use Rattle.option_pairs.specs.declared.scan.Scan.{Scan}
use Rattle.option_pairs.specs.Number.{Numeral, numeral_value}
use Rattle.option_pairs.specs.Pairs.{Are, twice}

-- the pair is the option w with a number in the range
pub record Fits (w : List ℕ) (r : Range) (p : Pair) : Type 0 where
  pub name : map to_ascii_lowercase p.name ≡ map to_ascii_lowercase w
  pub number : Numeral p.value
  pub above : r.low ≤ numeral_value p.value
  pub below : numeral_value p.value ≤ r.high

-- the pair is one of the three options with a number in its range
abbrev pub Fitting : Ranges → Pair → Type 0
Fitting rs p =
    Fits (codes "blksize") rs.blksize p ⊎ (Fits (codes "timeout") rs.timeout p ⊎ Fits (codes "windowsize") rs.windowsize p)

-- one of the pairs is the option w with the number n, in the range
abbrev pub Wants : List ℕ → Range → List Pair → ℕ → Type 0
Wants w r [] n = ⊥
Wants w r (p ∷ ps) n = (Fits w r p × (n ≡ numeral_value p.value)) ⊎ Wants w r ps n

-- o is the number that P holds of, or none where it holds of none
abbrev pub Held : Option ℕ → (ℕ → Type 0) → Type 0
Held (Some n) P = P n
Held None P = (n : ℕ) → P n → ⊥

-- o has each option's value in the pairs ps
pub record Finds (rs : Ranges) (ps : List Pair) (o : Options) : Type 0 where
  pub blksize : Held o.blksize (Wants (codes "blksize") rs.blksize ps)
  pub timeout : Held o.timeout (Wants (codes "timeout") rs.timeout ps)
  pub windowsize : Held o.windowsize (Wants (codes "windowsize") rs.windowsize ps)

-- what one pair makes of a value, and of the flag that every pair so far is valid
abbrev pub Pick : List ℕ → Range → Option ℕ → Pair → Option ℕ → Type 0
Pick w rg o p r = (Fits w rg p × (r ≡ Some (numeral_value p.value))) ⊎ ((Fits w rg p → ⊥) × (r ≡ o))

abbrev pub Judge : Ranges → Bool → Pair → Bool → Type 0
Judge rs b p r = (Fitting rs p × (r ≡ b)) ⊎ ((Fitting rs p → ⊥) × (r ≡ false))

pub record Notes (rs : Ranges) (s : Scan) (p : Pair) (t : Scan) : Type 0 where
  pub blksize : Pick (codes "blksize") rs.blksize s.found.blksize p t.found.blksize
  pub timeout : Pick (codes "timeout") rs.timeout s.found.timeout p t.found.timeout
  pub windowsize : Pick (codes "windowsize") rs.windowsize s.found.windowsize p t.found.windowsize
  pub all : Judge rs s.all_valid p t.all_valid

-- what is found in pairs of which no name comes twice
pub record Scanned (rs : Ranges) (ps : List Pair) (s : Scan) : Type 0 where
  pub once : twice ps ≡ false
  pub found : Finds rs ps s.found
  pub all : Decides s.all_valid (AllByRecursion (Fitting rs) ps)

-- what is answered to the pairs ps: none where a name comes twice
abbrev pub ScansPairs : Ranges → List Pair → Option Scan → Type 0
ScansPairs rs ps (Some s) = Scanned rs ps s
ScansPairs rs ps None = twice ps ≡ true

-- why the bytes bs are refused: they are not pairs, or a name comes twice
abbrev pub Refuses : List ℕ → Refusal → Type 0
Refuses bs e =
    ((e ≡ Malformed) × (Paired bs → ⊥)) ⊎ ((e ≡ RepeatedOption) × ((ps : List Pair) × Are ps bs × (twice ps ≡ true)))

-- what is answered to the bytes bs
abbrev pub Scans : Ranges → List ℕ → Result Scan Refusal → Type 0
Scans rs bs (Ok s) = (ps : List Pair) × Are ps bs × Scanned rs ps s
Scans rs bs (Err e) = Refuses bs e

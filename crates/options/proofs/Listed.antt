-- The pairs that an end sends: they are pairs, no name comes twice, and they give the options that were listed.
use Rattle.std.proofs.Common.{◌≡◌, ℕ, ◌<◌, ◌≤◌, false, List, [], ◌∷◌, ◌++◌, map, length, get_or, Some, None, codes, decimal, Option, sym, refl, ap, inl, inr, arith, rules}
use Rattle.std.specs.Char.{to_ascii_lowercase}
use Rattle.std.specs.List.{AllByRecursion}
use Rattle.grammar.specs.Grammar.{Text, Pair, Good}
use Rattle.option_pairs.specs.PerOption.{Options}
use Rattle.option_pairs.specs.declared.values.Range.{Range}
use Rattle.option_pairs.specs.PerOption.{Ranges}
use Rattle.options.specs.Listing.{entry, listed}
use Rattle.option_pairs.specs.Pairs.{twice}
use Rattle.option_pairs.specs.Scan.{Fits, Fitting, Wants, Held, Finds}
use Rattle.options.proofs.Digits.{value_is, numeral_decimal, text_decimal}

every_append : {X : Type 0} (P : X → Type 0) (xs ys : List X) → AllByRecursion P xs → AllByRecursion P ys → AllByRecursion P (xs ++ ys)
every_append P [] ys p q = q
every_append P (x ∷ xs) ys p q = (p.0, every_append P xs ys p.1 q)

every_listed : (P : Pair → Type 0) (o : Options) → AllByRecursion P (entry (codes "blksize") o.blksize) → AllByRecursion P (entry (codes "timeout") o.timeout) → AllByRecursion P (entry (codes "windowsize") o.windowsize) → AllByRecursion P (listed o)
every_listed P o a b c = every_append P _ _ a (every_append P _ _ b c)

-- a value in the range, of 32 bits, or none
abbrev pub Within : Range → Option ℕ → Type 0
Within r None = Unit {0}
Within r (Some n) = (r.low ≤ n) × (n ≤ r.high) × (n < 4294967296)

pub record AllWithin (rs : Ranges) (o : Options) : Type 0 where
  pub blksize : Within rs.blksize o.blksize
  pub timeout : Within rs.timeout o.timeout
  pub windowsize : Within rs.windowsize o.windowsize

-- the pair of a value in the range is that option
fits : (w : List ℕ) (r : Range) (n : ℕ) → Within r (Some n) → Fits w r (record { name = w; value = decimal n })
fits w r n i =
    let e = value_is n i.2 in
    record { name = refl; number = numeral_decimal n i.2; above = omega arith; below = omega arith }

good : (w : List ℕ) (r : Range) (o : Option ℕ) → 0 < length w → Text w → Within r o → AllByRecursion Good (entry w o)
good w r None l t i = tt
good w r (Some n) l t i = ((l, t, text_decimal n i.2), tt)

word_b : Text (codes "blksize")
word_b k h e = search rules

word_t : Text (codes "timeout")
word_t k h e = search rules

word_w : Text (codes "windowsize")
word_w k h e = search rules

pub listed_good : (rs : Ranges) (o : Options) → AllWithin rs o → AllByRecursion Good (listed o)
listed_good rs o i =
    every_listed Good o (good _ _ _ (omega arith) word_b i.blksize) (good _ _ _ (omega arith) word_t i.timeout) (good _ _ _ (omega arith) word_w i.windowsize)

pub listed_once : (o : Options) → twice (listed o) ≡ false
listed_once o = once o.blksize o.timeout o.windowsize
  where
    once : (a b c : Option ℕ) → twice (listed (record { blksize = a; timeout = b; windowsize = c })) ≡ false
    once None None None = refl
    once None None (Some z) = refl
    once None (Some y) None = refl
    once None (Some y) (Some z) = refl
    once (Some x) None None = refl
    once (Some x) None (Some z) = refl
    once (Some x) (Some y) None = refl
    once (Some x) (Some y) (Some z) = refl

-- no pair gives the option w a value
abbrev Absent : List ℕ → Range → List Pair → Type 0
Absent w r ps = (n : ℕ) → Wants w r ps n → ⊥

absent_entry : (w v : List ℕ) (r : Range) (o : Option ℕ) → (map to_ascii_lowercase v ≡ map to_ascii_lowercase w → ⊥) → Absent w r (entry v o)
absent_entry w v r None d n h = h
absent_entry w v r (Some m) d n (inl (f, _)) = d f.name
absent_entry w v r (Some m) d n (inr h) = h

absent_append : (w : List ℕ) (r : Range) (xs ys : List Pair) → Absent w r xs → Absent w r ys → Absent w r (xs ++ ys)
absent_append w r [] ys a b n h = b n h
absent_append w r (x ∷ xs) ys a b n (inl h) = a n (inl h)
absent_append w r (x ∷ xs) ys a b n (inr h) = absent_append w r xs ys (λ m g. a m (inr g)) b n h

wants_front : (w : List ℕ) (r : Range) (xs ys : List Pair) (n : ℕ) → Wants w r xs n → Wants w r (xs ++ ys) n
wants_front w r [] ys n h = absurd h
wants_front w r (x ∷ xs) ys n (inl h) = inl h
wants_front w r (x ∷ xs) ys n (inr h) = inr (wants_front w r xs ys n h)

wants_back : (w : List ℕ) (r : Range) (xs ys : List Pair) (n : ℕ) → Wants w r ys n → Wants w r (xs ++ ys) n
wants_back w r [] ys n h = h
wants_back w r (x ∷ xs) ys n h = inr (wants_back w r xs ys n h)

held_entry : (w : List ℕ) (r : Range) (o : Option ℕ) → Within r o → Held o (Wants w r (entry w o))
held_entry w r None i = λ n h. h
held_entry w r (Some n) i = inl (fits w r n i, sym (value_is n i.2))

held_front : (w : List ℕ) (r : Range) (xs ys : List Pair) (o : Option ℕ) → Held o (Wants w r xs) → Absent w r ys → Held o (Wants w r (xs ++ ys))
held_front w r xs ys None h a = absent_append w r xs ys h a
held_front w r xs ys (Some n) h a = wants_front w r xs ys n h

held_back : (w : List ℕ) (r : Range) (xs ys : List Pair) (o : Option ℕ) → Absent w r xs → Held o (Wants w r ys) → Held o (Wants w r (xs ++ ys))
held_back w r xs ys None a h = absent_append w r xs ys a h
held_back w r xs ys (Some n) a h = wants_back w r xs ys n h

-- each of three options listed one after the other, whose words differ
module _ (b t w : List ℕ) (r : Range) (x y z : Option ℕ) where
  held_first : (map to_ascii_lowercase t ≡ map to_ascii_lowercase b → ⊥) → (map to_ascii_lowercase w ≡ map to_ascii_lowercase b → ⊥) → Within r x → Held x (Wants b r (entry b x ++ (entry t y ++ entry w z)))
  held_first d e i =
      held_front b r (entry b x) (entry t y ++ entry w z) x (held_entry b r x i)
      (absent_append b r (entry t y) (entry w z) (absent_entry b t r y d) (absent_entry b w r z e))

  held_second : (map to_ascii_lowercase b ≡ map to_ascii_lowercase t → ⊥) → (map to_ascii_lowercase w ≡ map to_ascii_lowercase t → ⊥) → Within r y → Held y (Wants t r (entry b x ++ (entry t y ++ entry w z)))
  held_second d e i =
      held_back t r (entry b x) (entry t y ++ entry w z) y (absent_entry t b r x d)
      (held_front t r (entry t y) (entry w z) y (held_entry t r y i) (absent_entry t w r z e))

  held_third : (map to_ascii_lowercase b ≡ map to_ascii_lowercase w → ⊥) → (map to_ascii_lowercase t ≡ map to_ascii_lowercase w → ⊥) → Within r z → Held z (Wants w r (entry b x ++ (entry t y ++ entry w z)))
  held_third d e i =
      held_back w r (entry b x) (entry t y ++ entry w z) z (absent_entry w b r x d)
      (held_back w r (entry t y) (entry w z) z (absent_entry w t r y e) (held_entry w r z i))

-- words that begin with different letters differ
apart : (v w : List ℕ) → (get_or (map to_ascii_lowercase v) 0 0 ≡ get_or (map to_ascii_lowercase w) 0 0 → ⊥) → map to_ascii_lowercase v ≡ map to_ascii_lowercase w → ⊥
apart v w d e = d (ap (λ l. get_or l 0 0) e)

pub listed_finds : (rs : Ranges) (o : Options) → AllWithin rs o → Finds rs (listed o) o
listed_finds rs o i =
    record {
      blksize = held_first (codes "blksize") (codes "timeout") (codes "windowsize") rs.blksize o.blksize o.timeout o.windowsize (apart (codes "timeout") (codes "blksize") (λ e. omega arith)) (apart (codes "windowsize") (codes "blksize") (λ e. omega arith)) i.blksize;
      timeout = held_second (codes "blksize") (codes "timeout") (codes "windowsize") rs.timeout o.blksize o.timeout o.windowsize (apart (codes "blksize") (codes "timeout") (λ e. omega arith)) (apart (codes "windowsize") (codes "timeout") (λ e. omega arith)) i.timeout;
      windowsize = held_third (codes "blksize") (codes "timeout") (codes "windowsize") rs.windowsize o.blksize o.timeout o.windowsize (apart (codes "blksize") (codes "windowsize") (λ e. omega arith)) (apart (codes "timeout") (codes "windowsize") (λ e. omega arith)) i.windowsize;
    }

-- every pair that is listed fits
fit : (P : Pair → Type 0) (w : List ℕ) (r : Range) (o : Option ℕ) → ((p : Pair) → Fits w r p → P p) → Within r o → AllByRecursion P (entry w o)
fit P w r None f i = tt
fit P w r (Some n) f i = (f _ (fits w r n i), tt)

pub listed_fit : (rs : Ranges) (o : Options) → AllWithin rs o → AllByRecursion (Fitting rs) (listed o)
listed_fit rs o i =
    every_listed (Fitting rs) o (fit _ _ _ _ (λ _ f. inl f) i.blksize) (fit _ _ _ _ (λ _ f. inr (inl f)) i.timeout) (fit _ _ _ _ (λ _ f. inr (inr f)) i.windowsize)

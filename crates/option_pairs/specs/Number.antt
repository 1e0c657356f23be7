-- Which option values are numbers, and which numbers. Assumes nothing.
use Rattle.std.specs.Prelude.{◌≡◌, ℕ, ◌+◌, ◌-◌, ◌*◌, ◌<◌, ◌≤◌, List, [], ◌∷◌, length, slice_index, slice_index_or}

-- the number that the digits after n make of it
abbrev pub read_on : ℕ → List ℕ → ℕ
read_on n [] = n
read_on n (b ∷ bs) = read_on (10 * n + (b - 48)) bs

abbrev pub numeral_value : List ℕ → ℕ
numeral_value bs = read_on 0 bs

abbrev pub Digit : ℕ → Type 0
Digit b = (48 ≤ b) × (b ≤ 57)

pub record Numeral (bs : List ℕ) : Type 0 where
  pub some : 0 < length bs
  pub few : length bs ≤ 10
  pub digits : (k : ℕ) → k < length bs → Digit (slice_index bs k)
  pub plain : slice_index_or bs 0 0 ≡ 48 → length bs ≡ 1
  pub limit : numeral_value bs ≤ 4294967295

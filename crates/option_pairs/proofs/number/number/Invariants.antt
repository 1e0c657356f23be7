use Rattle.std.proofs.Common.{◌≡◌, ℕ, ◌<◌, ◌≤◌, get_or, drop}
use Rattle.option_pairs.specs.Number.{read_on, numeral_value, Digit}
use Rattle.option_pairs.proofs.number.number.Given as goal

abbrev pub invariant-loop-b : goal.invariant-loop-b
invariant-loop-b l =
    (l.n ≤ 4294967295)
    × (read_on l.n (drop l.b-index l.value) ≡ numeral_value l.value)
    × ((k : ℕ) → k < l.b-index → Digit (get_or l.value k 0))

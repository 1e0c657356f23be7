-- What there is for each of the three options: a value or none, or a range. Assumes nothing.
use Rattle.std.specs.Prelude.{ℕ, Option}
use Rattle.option_pairs.specs.declared.values.PerOption.{PerOption}
use Rattle.option_pairs.specs.declared.values.Range.{Range}

abbrev pub Options : Type 0
Options = PerOption (Option ℕ)

abbrev pub Ranges : Type 0
Ranges = PerOption Range

-- The ranges of the options in a request and in an OACK. Assumes nothing.
use Rattle.std.specs.Prelude.{ℕ, Some, None, Option}
use Rattle.option_pairs.specs.PerOption.{Options}
use Rattle.option_pairs.specs.declared.values.Range.{Range}
use Rattle.option_pairs.specs.PerOption.{Ranges}

abbrev pub range : ℕ → ℕ → Range
range low high = record { low = low; high = high }

-- a range that no number lies in
abbrev pub nothing : Range
nothing = range 1 0

-- the valid values in a request
abbrev pub request_ranges : Ranges
request_ranges = record { blksize = range 8 65464; timeout = range 1 255; windowsize = range 1 65535 }

-- from low up to what was asked
abbrev pub up_to : ℕ → Option ℕ → Range
up_to low None = nothing
up_to low (Some high) = range low high

-- what was asked alone
abbrev pub just : Option ℕ → Range
just None = nothing
just (Some n) = range n n

-- the values of an OACK that fit what was asked: block size from 8 and window from 1 up to the asked, the timeout asked
abbrev pub answer_ranges : Options → Ranges
answer_ranges o = record { blksize = up_to 8 o.blksize; timeout = just o.timeout; windowsize = up_to 1 o.windowsize }

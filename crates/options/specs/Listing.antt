-- The option pairs that an end sends. Assumes nothing.
use Rattle.std.specs.Prelude.{ℕ, List, [], ◌∷◌, ◌++◌, Some, None, codes, decimal, Option}
use Rattle.grammar.specs.Grammar.{Pair}
use Rattle.terms.specs.declared.short_bytes.ShortBytes.{ShortBytes}
use Rattle.terms.specs.Short.{held}
use Rattle.option_pairs.specs.PerOption.{Options}

-- the bytes of encoded pairs
abbrev pub pair_text : ShortBytes 64 → List ℕ
pair_text b = held b

-- an option's pair, with its number in digits
abbrev pub entry : List ℕ → Option ℕ → List Pair
entry w None = []
entry w (Some n) = record { name = w; value = decimal n } ∷ []

-- the pairs of the options that have a value, in the order blksize, timeout, windowsize
abbrev pub listed : Options → List Pair
listed o = entry (codes "blksize") o.blksize ++ (entry (codes "timeout") o.timeout ++ entry (codes "windowsize") o.windowsize)

abbrev pub no_options : Options
no_options = record { blksize = None; timeout = None; windowsize = None }

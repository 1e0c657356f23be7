-- The tally of a side. Assumes nothing.
use Rattle.std.specs.Prelude.{ℕ}
use Rattle.terms.specs.declared.side.Side.{Side}
use Rattle.terms.specs.declared.side.Side.TheVariants.{Shield, Cabin}
use Rattle.channel.specs.declared.tallies.Tallies.{Tallies}

-- how many datagrams a side has put
abbrev pub tally_in : Tallies → Side → ℕ
tally_in t Shield = t.shield
tally_in t Cabin = t.cabin

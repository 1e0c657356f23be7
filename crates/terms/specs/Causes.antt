-- The number of each cause. Assumes nothing.
use Rattle.std.specs.Prelude.{ℕ}
use Rattle.terms.specs.declared.cause.Cause.{Cause}
use Rattle.terms.specs.declared.cause.Cause.TheVariants.{Refused, Silence, PeerError}
use Rattle.terms.specs.Refusals.{number}

-- a refusal keeps its number as a cause
abbrev pub cause_number : Cause → ℕ
cause_number (Refused e) = number e
cause_number Silence = 40
cause_number PeerError = 41

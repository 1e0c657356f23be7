-- What is made of a wait and tries. Assumes nothing.
use Rattle.std.specs.Prelude.{◌≡◌, ℕ, false, Ok, Err, Result}
use Rattle.terms.specs.declared.refusal.Refusal.{Refusal}
use Rattle.terms.specs.declared.refusal.Refusal.TheVariants.{OutOfRange}
use Rattle.terms.specs.declared.patience.Patience.{Patience}
use Rattle.terms.specs.Patiences.{legal_patience}

-- what is answered to a wait and tries
abbrev pub Patient : ℕ → ℕ → Result Patience Refusal → Type 0
Patient wait tries (Ok p) = (p.wait ≡ wait) × (p.tries ≡ tries)
Patient wait tries (Err e) = (e ≡ OutOfRange) × (legal_patience wait tries ≡ false)

-- the patience of an end set up without figures
abbrev pub Standard : Patience → Type 0
Standard p = (p.wait ≡ 5) × (p.tries ≡ 5)

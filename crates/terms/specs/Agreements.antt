-- What is made of a block size, a window and a patience. Assumes nothing.
use Rattle.std.specs.Prelude.{◌≡◌, ℕ, false, Ok, Err, Result}
use Rattle.terms.specs.declared.refusal.Refusal.{Refusal}
use Rattle.terms.specs.declared.refusal.Refusal.TheVariants.{OutOfRange}
use Rattle.terms.specs.declared.patience.Patience.{Patience}
use Rattle.terms.specs.declared.agreed.Agreed.{Agreed}
use Rattle.terms.specs.Sizes.{legal_sizes}

-- what is answered to a block size, a window and a patience
abbrev pub Agrees : ℕ → ℕ → Patience → Result Agreed Refusal → Type 0
Agrees size window p (Ok a) = (a.block_size ≡ size) × (a.window ≡ window) × (a.patience ≡ p)
Agrees size window p (Err e) = (e ≡ OutOfRange) × (legal_sizes size window ≡ false)

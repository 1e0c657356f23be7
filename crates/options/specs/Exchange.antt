-- What the answer of the cabin leaves at both ends. Assumes nothing.
use Rattle.std.specs.Prelude.{◌≡◌, ℕ, true, false, ◌⊎◌, Ok, Err, Result}
use Rattle.terms.specs.declared.agreed.Agreed.{Agreed}
use Rattle.terms.specs.declared.patience.Patience.{Patience}
use Rattle.terms.specs.declared.refusal.Refusal.{Refusal}
use Rattle.terms.specs.declared.refusal.Refusal.TheVariants.{OutOfRange}
use Rattle.terms.specs.Patiences.{legal_patience}
use Rattle.grammar.specs.Grammar.{pairs}
use Rattle.options.specs.declared.exchange.Exchange.{Exchange}
use Rattle.option_pairs.specs.PerOption.{Options}
use Rattle.options.specs.Agreement.{may_ask, asked_options, answered, Settled, Accepting}
use Rattle.options.specs.Listing.{listed, no_options}

-- the asker hears what the cabin answers: without options there is no OACK, and it holds what is unagreed
abbrev pub Hears : Options → Patience → Options → Result Agreed Refusal → Type 0
Hears asked own answer r =
    Accepting asked own (pairs (listed answer)) r ⊎ ((answer ≡ no_options) × ((a : Agreed) × (r ≡ Ok a) × Settled own no_options a))

-- The answer of the cabin to an ask that may be sent is accepted, and both ends then hold the same block size and window, and the same wait where
-- the timeout is legal with the cabin's tries; else each waits as long as its own patience says.
pub record Exchanged (shield cabin : Patience) (b t w : ℕ) (x : Exchange) : Type 0 where
  pub asked : may_ask shield.tries b t w ≡ true
  pub shield_holds : Settled shield (answered cabin.tries (asked_options b t w)) x.shield
  pub cabin_holds : Settled cabin (answered cabin.tries (asked_options b t w)) x.cabin
  pub size : x.shield.block_size ≡ x.cabin.block_size
  pub window : x.shield.window ≡ x.cabin.window
  pub wait : legal_patience t cabin.tries ≡ true → x.shield.patience.wait ≡ x.cabin.patience.wait

-- no answer of the cabin is refused: the exchange fails only where the ask may not be sent
abbrev pub Exchanges : Patience → Patience → ℕ → ℕ → ℕ → Result Exchange Refusal → Type 0
Exchanges shield cabin b t w (Ok x) = Exchanged shield cabin b t w x
Exchanges shield cabin b t w (Err e) = (e ≡ OutOfRange) × (may_ask shield.tries b t w ≡ false)

-- What the cabin makes of a request before it asks its store. Assumes nothing.
use Rattle.std.specs.Prelude.{◌≡◌, ℕ, true, false, List, Ok, Err, Result}
use Rattle.terms.specs.declared.patience.Patience.{Patience}
use Rattle.terms.specs.declared.refusal.Refusal.{Refusal}
use Rattle.terms.specs.declared.refusal.Refusal.TheVariants.{IllegalName, UnsupportedMode}
use Rattle.terms.specs.Names.{legal_name}
use Rattle.grammar.specs.declared.mode.Mode.{Mode}
use Rattle.grammar.specs.Modes.{NamesMode}
use Rattle.options.specs.declared.offer.Offer.{Offer}
use Rattle.options.specs.Agreement.{Offers}

-- a mode that is served
abbrev pub Served : List ℕ → Type 0
Served mode = (m : Mode) × NamesMode mode m

-- why the request is refused, the first of its checks that fails
pub data RefusedBy (name mode pairs : List ℕ) (own : Patience) (e : Refusal) : Type 0 where
  by_name : legal_name name ≡ false → e ≡ IllegalName → RefusedBy name mode pairs own e
  by_mode : legal_name name ≡ true → (Served mode → ⊥) → e ≡ UnsupportedMode → RefusedBy name mode pairs own e
  by_options : legal_name name ≡ true → Served mode → Offers own pairs (Err e) → RefusedBy name mode pairs own e

-- what is answered to the name, the mode and the option pairs of a request
abbrev pub Judges : List ℕ → List ℕ → List ℕ → Patience → Result Offer Refusal → Type 0
Judges name mode pairs own (Ok f) = (legal_name name ≡ true) × Served mode × Offers own pairs (Ok f)
Judges name mode pairs own (Err e) = RefusedBy name mode pairs own e

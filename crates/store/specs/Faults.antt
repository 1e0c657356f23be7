-- The number of each fault, and that a cause passes from store to transfer to call with its number kept. Assumes nothing.
use Rattle.std.specs.Prelude.{◌≡◌, ℕ, Bool, cond, List, length, Some, None, Ok, Err, Option, Result, nat_lt}
use Rattle.std.specs.Option.{option_map}
use Rattle.terms.specs.declared.refusal.Refusal.{Refusal}
use Rattle.terms.specs.declared.refusal.Refusal.TheVariants.{OversizedData, ShortBuffer}
use Rattle.terms.specs.Refusals.{number}
use Rattle.terms.specs.Causes.{cause_number}
use Rattle.store.specs.declared.fault.Fault.{Fault}
use Rattle.store.specs.declared.fault.Fault.TheVariants.{Transfer, Call}
use Rattle.store.specs.Meaning.{Item, Draft, append_refusal, Longer}

abbrev pub fault_number : Fault → ℕ
fault_number (Transfer e) = cause_number e
fault_number (Call e) = number e

-- why a piece is refused: longer than the block, else as the store says
abbrev pub piece_refusal : List Draft → Bool → ℕ → List ℕ → ℕ → Option Refusal
piece_refusal ds takes d piece block =
    cond (nat_lt block (length piece)) (Some OversizedData) (append_refusal ds takes d piece)

-- why a call with a work buffer of so many bytes is refused
abbrev pub call_refusal : List Draft → Bool → ℕ → List ℕ → ℕ → ℕ → Option Refusal
call_refusal ds takes d piece block work =
    cond (nat_lt work 1472) (Some ShortBuffer) (piece_refusal ds takes d piece block)

-- The law of every layer, whose errors E are numbered by `num`: an error has the number of what refused the piece, and leaves the store as it was.
abbrev pub PassedOn : {E S : Type 0} → (E → ℕ) → (S → List Item) → (S → List Draft) → Option Refusal → S → S → ℕ → List ℕ → Result ℕ E → Type 0
PassedOn num items drafts why s t d piece (Ok n) = (why ≡ None) × (n ≡ length piece) × Longer items drafts s t d piece
PassedOn num items drafts why s t d piece (Err e) = (option_map number why ≡ Some (num e)) × (t ≡ s)

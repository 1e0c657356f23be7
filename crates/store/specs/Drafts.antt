-- What stands against a call on one of five drafts, by what is kept of each. Assumes nothing.
use Rattle.std.specs.Prelude.{ℕ, List, cond, is_some, Some, None, Option, nat_lt, slice_index_or}
use Rattle.terms.specs.declared.refusal.Refusal.{Refusal}
use Rattle.terms.specs.declared.refusal.Refusal.TheVariants.{OutOfRange, DraftState}

-- against a call on an open draft
abbrev pub held_refusal : {X : Type 0} → List (Option X) → ℕ → Option Refusal
held_refusal ds d = cond (nat_lt 4 d) (Some OutOfRange) (cond (is_some (slice_index_or ds d None)) None (Some DraftState))

-- against a call on an absent one
abbrev pub absent_refusal : {X : Type 0} → List (Option X) → ℕ → Option Refusal
absent_refusal ds d = cond (nat_lt 4 d) (Some OutOfRange) (cond (is_some (slice_index_or ds d None)) (Some DraftState) None)

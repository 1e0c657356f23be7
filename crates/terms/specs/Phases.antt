-- The word of each phase and role, and which phases end a transfer. Assumes nothing.
use Rattle.std.specs.Prelude.{ℕ, Bool, true, false, List, codes}
use Rattle.terms.specs.declared.phase.Phase.{Phase}
use Rattle.terms.specs.declared.phase.Phase.TheVariants.{Asked, Offered, Sending, Receiving, Confirmed, Filed, Failed}
use Rattle.terms.specs.declared.role.Role.{Role}
use Rattle.terms.specs.declared.role.Role.TheVariants.{Sender, Receiver}
use Rattle.terms.specs.Causes.{cause_number}

abbrev pub phase_word : Phase → List ℕ
phase_word Asked = codes "ASKED"
phase_word Offered = codes "OFFERED"
phase_word Sending = codes "SENDING"
phase_word Receiving = codes "RECEIVING"
phase_word Confirmed = codes "CONFIRMED"
phase_word Filed = codes "FILED"
phase_word (Failed why) = codes "FAILED"

-- confirmed, filed and failed transfers have ended
abbrev pub ended : Phase → Bool
ended Asked = false
ended Offered = false
ended Sending = false
ended Receiving = false
ended Confirmed = true
ended Filed = true
ended (Failed why) = true

-- the number of the cause of a failed transfer, 0 for any other
abbrev pub blame : Phase → ℕ
blame Asked = 0
blame Offered = 0
blame Sending = 0
blame Receiving = 0
blame Confirmed = 0
blame Filed = 0
blame (Failed why) = cause_number why

abbrev pub role_word : Role → List ℕ
role_word Sender = codes "sender"
role_word Receiver = codes "receiver"

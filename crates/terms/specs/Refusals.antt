-- The number and the ERROR code of each refusal. Assumes nothing.
use Rattle.std.specs.Prelude.{◌≡◌, ℕ, Bool, cond, Some, None, Ok, Err, Option, Result, ◌≢◌}
use Rattle.terms.specs.declared.refusal.Refusal.{Refusal}
use Rattle.terms.specs.declared.refusal.Refusal.TheVariants.{UnknownOpcode, Malformed, IllegalName, UnsupportedMode, RepeatedOption, OutOfRange, OversizedData, OptionsNotAccepted, ShortBuffer, NothingWaiting, NoTransfer, WrongPeer, NotExpected, PlacesFull, TidsSpent, NoSuchItem, NameInUse, NoDraftFree, NotTaken, TooManyBlocks, NotEnded, ServingEnd, SourceBusy, DraftState}

abbrev pub number : Refusal → ℕ
number UnknownOpcode = 1
number Malformed = 2
number IllegalName = 3
number UnsupportedMode = 4
number RepeatedOption = 5
number OutOfRange = 6
number OversizedData = 7
number OptionsNotAccepted = 8
number ShortBuffer = 9
number NothingWaiting = 20
number NoTransfer = 21
number WrongPeer = 22
number NotExpected = 23
number PlacesFull = 24
number TidsSpent = 25
number NoSuchItem = 26
number NameInUse = 27
number NoDraftFree = 28
number NotTaken = 29
number TooManyBlocks = 30
number NotEnded = 31
number ServingEnd = 33
number SourceBusy = 35
number DraftState = 36

-- the one value that has the number n, or out of range where none has it
abbrev pub NumberedBy : {X : Type 0} → (X → ℕ) → ℕ → Result X Refusal → Type 0
NumberedBy number n (Ok x) = number x ≡ n
NumberedBy {X} number n (Err e) = (e ≡ OutOfRange) × ((x : X) → number x ≢ n)

-- the code of the ERROR sent for a refusal, or none; the flag says that the refused datagram was an ERROR itself
abbrev pub error_code : Refusal → Bool → Option ℕ
error_code UnknownOpcode heard = None
error_code Malformed heard = None
error_code IllegalName heard = Some 2
error_code UnsupportedMode heard = Some 4
error_code RepeatedOption heard = Some 8
error_code OutOfRange heard = None
error_code OversizedData heard = Some 4
error_code OptionsNotAccepted heard = Some 8
error_code ShortBuffer heard = None
error_code NothingWaiting heard = None
error_code NoTransfer heard = None
error_code WrongPeer heard = cond heard None (Some 5)
error_code NotExpected heard = None
error_code PlacesFull heard = Some 0
error_code TidsSpent heard = Some 0
error_code NoSuchItem heard = Some 1
error_code NameInUse heard = Some 6
error_code NoDraftFree heard = Some 3
error_code NotTaken heard = Some 3
error_code TooManyBlocks heard = Some 0
error_code NotEnded heard = None
error_code ServingEnd heard = None
error_code SourceBusy heard = None
error_code DraftState heard = Some 3

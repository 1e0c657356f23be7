-- The two laws of the codec, and what calls that write and read answer by them. Assumes nothing.
use Rattle.std.specs.Prelude.{◌≡◌, ℕ, ◌<◌, ◌≤◌, ◌⊎◌, List, ◌++◌, length, drop, Ok, Err, Result}
use Rattle.terms.specs.declared.refusal.Refusal.{Refusal}
use Rattle.terms.specs.declared.refusal.Refusal.TheVariants.{ShortBuffer}
use Rattle.grammar.specs.declared.message.Message.{Message}
use Rattle.grammar.specs.Grammar.{Msg, encoded, Legal}
use Rattle.grammar.specs.Meaning.{meaning}
use Rattle.wire.specs.Codec.{Reads, Unread, Writes, Unwritten}

-- the answer is the message m
abbrev pub Gives : Msg → Result Message Refusal → Type 0
Gives m (Ok x) = meaning x ≡ m
Gives m (Err e) = ⊥

-- a message written then read is itself: no answer but m fits its datagram
abbrev pub WrittenRead : Type 0
WrittenRead = (m : Msg) (bs : List ℕ) (r : Result Message Refusal) → Legal m → encoded m ≡ bs → Reads bs r → Gives m r

-- a well-shaped datagram read then written is itself
abbrev pub ReadWritten : Type 0
ReadWritten =
    (bs old new : List ℕ) (x : Message) (r : Result ℕ Refusal) → Reads bs (Ok x) → 1472 ≤ length old →
    Writes (meaning x) old new r → (r ≡ Ok (length bs)) × (new ≡ bs ++ drop (length bs) old)

-- what is answered to writing m into a buffer that held old, and reading what was written
abbrev pub Returned : Msg → List ℕ → Result Message Refusal → Type 0
Returned m old (Ok x) = (1472 ≤ length old) × Legal m × (meaning x ≡ m)
Returned m old (Err e) = Unwritten m old e

-- a legal message has these bytes
abbrev pub WellShaped : List ℕ → Type 0
WellShaped bs = (m : Msg) × Legal m × (encoded m ≡ bs)

-- the datagram bs was written into a buffer that held old and then holds new, and ends at n
pub record Kept (bs old new : List ℕ) (n : ℕ) : Type 0 where
  pub room : 1472 ≤ length old
  pub shape : WellShaped bs
  pub size : n ≡ length bs
  pub whole : new ≡ bs ++ drop n old

-- what is answered to reading bs, and writing what was read into a buffer that held old and then holds new
abbrev pub Copied : List ℕ → List ℕ → List ℕ → Result ℕ Refusal → Type 0
Copied bs old new (Ok n) = Kept bs old new n
Copied bs old new (Err e) = (Unread bs e ⊎ ((e ≡ ShortBuffer) × (length old < 1472) × WellShaped bs)) × (new ≡ old)

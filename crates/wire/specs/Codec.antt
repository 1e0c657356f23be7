-- What the reader and the writer answer, by the grammar. Assumes nothing.
use Rattle.std.specs.Prelude.{◌≡◌, ℕ, ◌<◌, ◌≤◌, ◌⊎◌, List, ◌∷◌, ◌++◌, length, drop, Ok, Err, Result, ◌≢◌}
use Rattle.terms.specs.declared.refusal.Refusal.{Refusal}
use Rattle.terms.specs.declared.refusal.Refusal.TheVariants.{UnknownOpcode, Malformed, ShortBuffer}
use Rattle.grammar.specs.declared.message.Message.{Message}
use Rattle.grammar.specs.Grammar.{Kind, code, Msg, encoded, body, kind, Legal}
use Rattle.grammar.specs.Meaning.{meaning}

-- after the opcode k the bytes bs are the legal message m
pub record Is (m : Msg) (k : Kind) (bs : List ℕ) : Type 0 where
  pub legal : Legal m
  pub opcode : kind m ≡ k
  pub bytes : body m ≡ bs

-- what is answered to the bytes bs after the opcode k
abbrev pub Takes : Kind → List ℕ → Result Message Refusal → Type 0
Takes k bs (Ok m) = Is (meaning m) k bs
Takes k bs (Err e) = (e ≡ Malformed) × ((m : Msg) → Is m k bs → ⊥)

-- the bytes do not begin with an opcode
abbrev pub Unopened : List ℕ → Type 0
Unopened bs = (k : Kind) (rest : List ℕ) → 0 ∷ code k ∷ rest ≢ bs

-- the bytes begin with an opcode, and no legal message has them
pub record Misshapen (bs : List ℕ) : Type 0 where
  pub opcode : Kind
  pub rest : List ℕ
  pub opened : 0 ∷ code opcode ∷ rest ≡ bs
  pub none : (m : Msg) → Legal m → encoded m ≢ bs

-- why the bytes are not read
abbrev pub Unread : List ℕ → Refusal → Type 0
Unread bs e = ((e ≡ UnknownOpcode) × Unopened bs) ⊎ ((e ≡ Malformed) × Misshapen bs)

-- what is answered to a datagram
abbrev pub Reads : List ℕ → Result Message Refusal → Type 0
Reads bs (Ok m) = Legal (meaning m) × (encoded (meaning m) ≡ bs)
Reads bs (Err e) = Unread bs e

-- m was written into a buffer that held old and then holds new, and ends at n
pub record Written (m : Msg) (old new : List ℕ) (n : ℕ) : Type 0 where
  pub room : 1472 ≤ length old
  pub legal : Legal m
  pub size : n ≡ length (encoded m)
  pub whole : new ≡ encoded m ++ drop n old

-- why m is not written into a buffer that holds old
abbrev pub Unwritten : Msg → List ℕ → Refusal → Type 0
Unwritten m old e =
    ((e ≡ ShortBuffer) × (length old < 1472)) ⊎ ((e ≡ Malformed) × (1472 ≤ length old) × (Legal m → ⊥))

-- what is answered to writing m into a buffer that held old and then holds new
abbrev pub Writes : Msg → List ℕ → List ℕ → Result ℕ Refusal → Type 0
Writes m old new (Ok n) = Written m old new n
Writes m old new (Err e) = Unwritten m old e × (new ≡ old)

-- The grammar of datagrams, once: which messages there are, which are legal, and the bytes that each is written as. Assumes nothing.
use Rattle.std.specs.Prelude.{◌≡◌, ℕ, ◌+◌, ◌/◌, ◌%◌, ◌<◌, ◌≤◌, List, [], ◌∷◌, ◌++◌, length, ◌≢◌, slice_index}
use Rattle.std.specs.List.{AllByRecursion}
use Rattle.grammar.specs.declared.message.Access.{Access}
use Rattle.grammar.specs.declared.message.Access.TheVariants.{Read, Write}

pub data Kind : Type 0 where
  rrq : Kind
  wrq : Kind
  block : Kind
  ack : Kind
  fault : Kind
  oack : Kind

abbrev pub code : Kind → ℕ
code rrq = 1
code wrq = 2
code block = 3
code ack = 4
code fault = 5
code oack = 6

abbrev pub asked : Access → Kind
asked Read = rrq
asked Write = wrq

-- a request has a name, a mode and option pairs
pub data Msg : Type 0 where
  requestMsg : Access → List ℕ → List ℕ → List ℕ → Msg
  blockMsg : ℕ → List ℕ → Msg
  ackMsg : ℕ → Msg
  faultMsg : ℕ → List ℕ → Msg
  oackMsg : List ℕ → Msg

abbrev pub kind : Msg → Kind
kind (requestMsg a n m ps) = asked a
kind (blockMsg n bs) = block
kind (ackMsg n) = ack
kind (faultMsg n t) = fault
kind (oackMsg ps) = oack

-- no byte of a text is zero
abbrev pub Text : List ℕ → Type 0
Text bs = (k : ℕ) → k < length bs → slice_index bs k ≢ 0

-- a name and a value
pub record Pair : Type 0 where
  pub name : List ℕ
  pub value : List ℕ

abbrev pub Good : Pair → Type 0
Good p = (0 < length p.name) × Text p.name × Text p.value

abbrev pub pairs : List Pair → List ℕ
pairs [] = []
pairs (p ∷ ps) = p.name ++ 0 ∷ (p.value ++ 0 ∷ pairs ps)

-- the bytes bs are option pairs
abbrev pub Paired : List ℕ → Type 0
Paired bs = (ps : List Pair) × AllByRecursion Good ps × (pairs ps ≡ bs)

-- a number's two bytes, high byte first, and what follows
abbrev pub wide : ℕ → List ℕ → List ℕ
wide n bs = n / 256 ∷ n % 256 ∷ bs

-- the bytes after the opcode
abbrev pub body : Msg → List ℕ
body (requestMsg a n m ps) = n ++ 0 ∷ (m ++ 0 ∷ ps)
body (blockMsg n bs) = wide n bs
body (ackMsg n) = wide n []
body (faultMsg n t) = wide n (t ++ 0 ∷ [])
body (oackMsg ps) = ps

abbrev pub encoded : Msg → List ℕ
encoded m = 0 ∷ code (kind m) ∷ body m

-- what a request asks of its parts
pub record Asks (n m ps : List ℕ) : Type 0 where
  pub name : Text n
  pub mode : Text m
  pub paired : Paired ps
  pub within : 2 + length (n ++ 0 ∷ (m ++ 0 ∷ ps)) ≤ 512

abbrev pub Legal : Msg → Type 0
Legal (requestMsg a n m ps) = Asks n m ps
Legal (blockMsg n bs) = (n < 65536) × (length bs ≤ 1468)
Legal (ackMsg n) = n < 65536
Legal (faultMsg n t) = (n < 65536) × (length t ≤ 128) × Text t
Legal (oackMsg ps) = Paired ps × (2 + length ps ≤ 512)

-- The parts of a message and their places in its datagram. Assumes nothing.
use Rattle.std.specs.Prelude.{◌≡◌, ℕ, ◌+◌, ◌-◌, ◌^◌, min, List, [], ◌∷◌, length, take, drop}
use Rattle.grammar.specs.declared.places.Places.{Places}
use Rattle.grammar.specs.declared.places.Places.TheVariants.{Request, Data, Ack, Error, Oack}
use Rattle.grammar.specs.Grammar.{Msg, requestMsg, blockMsg, ackMsg, faultMsg, oackMsg}

-- the places of a message's parts; a sum past the largest number stops there
abbrev pub placed : Msg → Places
placed (requestMsg a n m ps) = Request 2 (3 + length n) (min (4 + length n + length m) (2 ^ 64 - 1))
placed (blockMsg n bs) = Data 4
placed (ackMsg n) = Ack
placed (faultMsg n t) = Error 4
placed (oackMsg ps) = Oack 2

-- the places in the order of the datagram
abbrev pub spots : Places → List ℕ
spots (Request n m ps) = n ∷ m ∷ ps ∷ []
spots (Data bs) = bs ∷ []
spots Ack = []
spots (Error t) = t ∷ []
spots (Oack ps) = ps ∷ []

-- the parts in the order of the datagram
abbrev pub parts : Msg → List (List ℕ)
parts (requestMsg a n m ps) = n ∷ m ∷ ps ∷ []
parts (blockMsg n bs) = bs ∷ []
parts (ackMsg n) = []
parts (faultMsg n t) = t ∷ []
parts (oackMsg ps) = ps ∷ []

-- each part stands in bs at its place
abbrev pub Stand : List ℕ → List ℕ → List (List ℕ) → Type 0
Stand bs [] [] = Unit {0}
Stand bs [] (p ∷ ps) = ⊥
Stand bs (k ∷ ks) [] = ⊥
Stand bs (k ∷ ks) (p ∷ ps) = (take (length p) (drop k bs) ≡ p) × Stand bs ks ps

-- A message that was read consists of parts of its datagram. Assumes nothing.
use Rattle.std.specs.Prelude.{ℕ, List, Ok, Err, Result}
use Rattle.terms.specs.declared.refusal.Refusal.{Refusal}
use Rattle.grammar.specs.declared.message.Message.{Message}
use Rattle.grammar.specs.Meaning.{meaning}
use Rattle.grammar.specs.Parts.{placed, spots, parts, Stand}

-- a message that was read consists of parts of the datagram bs, at their places
abbrev pub Parted : List ℕ → Result Message Refusal → Type 0
Parted bs (Ok x) = Stand bs (spots (placed (meaning x))) (parts (meaning x))
Parted bs (Err e) = Unit {0}

-- What a message value stands for, and how a text is cut off. Assumes nothing.
use Rattle.std.specs.Prelude.{◌≡◌, ℕ, List, ◌∷◌, ◌++◌}
use Rattle.grammar.specs.declared.message.Message.{Message}
use Rattle.grammar.specs.declared.message.Message.TheVariants.{Request, Data, Ack, Error, Oack}
use Rattle.grammar.specs.Grammar.{Msg, requestMsg, blockMsg, ackMsg, faultMsg, oackMsg, Text}

-- the message that a value stands for
abbrev pub meaning : Message → Msg
meaning (Request r) = requestMsg r.access r.name.now r.mode.now r.pairs.now
meaning (Data n bs) = blockMsg n bs.now
meaning (Ack n) = ackMsg n
meaning (Error n text) = faultMsg n text.now
meaning (Oack ps) = oackMsg ps.now

-- bs is the text t, a zero byte, and rest
pub record Cut (t rest bs : List ℕ) : Type 0 where
  pub text : Text t
  pub whole : t ++ 0 ∷ rest ≡ bs

-- A message has one datagram, and a datagram one message.
use Rattle.std.proofs.Common.{◌≡◌, Ok, Err, sym, ◌∙◌, ⊎_elim, arith, rules}
use Rattle.grammar.specs.Grammar.{Msg, kind, body, encoded, Legal}
use Rattle.grammar.specs.Meaning.{meaning}
use Rattle.wire.specs.Laws.{WrittenRead, ReadWritten}
use Rattle.grammar.proofs.Bytes.{same}

pub unique : (m n : Msg) → Legal m → Legal n → encoded m ≡ encoded n → m ≡ n
unique m n p q e = search (rules, same)

pub written_read : WrittenRead
written_read m bs (Ok x) p e t = unique (meaning x) m t.0 p (t.1 ∙ sym e)
written_read m bs (Err e) p q t = ⊎_elim (λ u. u.1 (kind m) (body m) q) (λ s. s.1.none m p q) t

pub read_written : ReadWritten
read_written bs old new x (Ok n) t l w = search rules
read_written bs old new x (Err e) t l w = absurd (⊎_elim (λ s. omega arith) (λ s. s.2 t.0) w.0)

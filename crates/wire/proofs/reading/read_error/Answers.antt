use Rattle.std.proofs.Common.{refl, rules}
use Rattle.wire.proofs.Bytes.{fault_some}
use Rattle.wire.proofs.reading.read_error.Goals as goal

pub returns-else-is_empty : goal.returns-else-is_empty
returns-else-is_empty c =
    (refl, λ m i. let f = fault_some m _ c.in_ok-message.message.now c.in_ok-message.after.now i (search rules) in search rules)

use Rattle.std.proofs.Common.{[], ◌∷◌, ◌++◌, refl, append_assoc, arith, length-append}
use Rattle.grammar.specs.Grammar.{wide}
use Rattle.wire.proofs.writing.encode.Goals as goal

pub returns-in-Request-clause-whole : goal.returns-in-Request-clause-whole
returns-in-Request-clause-whole c =
    let buf = c.args.buf.now in
    let op = c.opcode.result.now in
    let name = c.in-Request.request.name.now ++ 0 ∷ [] in
    let mode = c.in-Request.request.mode.now ++ 0 ∷ [] in
    let a = c.put-at.ensures.whole [] buf refl refl in
    let b = c.put_text-at.ensures.whole op buf (omega arith) a in
    let d = c.put_text-at-in-Request.ensures.whole (op ++ name) buf (simp length-append (omega arith)) b in
    rw (c.put.ensures.whole ((op ++ name) ++ mode) buf (simp length-append (omega arith)) d, c.opcode.ensures, c.in-Request.is) (simp append_assoc refl)

pub returns-in-Data-clause-whole : goal.returns-in-Data-clause-whole
returns-in-Data-clause-whole c =
    let buf = c.args.buf.now in
    let op = c.opcode.result.now in
    let a = c.put-at.ensures.whole [] buf refl refl in
    let b = c.put_number-at.ensures.whole op buf (omega arith) a in
    rw (c.put-in-Data.ensures.whole (op ++ wide c.in-Data.block []) buf (simp length-append (omega arith)) b, c.opcode.ensures, c.in-Data.is) refl

pub returns-in-Ack-clause-whole : goal.returns-in-Ack-clause-whole
returns-in-Ack-clause-whole c =
    let a = c.put-at.ensures.whole [] c.args.buf.now refl refl in
    rw (c.put_number.ensures.whole c.opcode.result.now c.args.buf.now (omega arith) a, c.opcode.ensures, c.in-Ack.is) refl

pub returns-in-Error-clause-whole : goal.returns-in-Error-clause-whole
returns-in-Error-clause-whole c =
    let buf = c.args.buf.now in
    let op = c.opcode.result.now in
    let a = c.put-at.ensures.whole [] buf refl refl in
    let b = c.put_number-at-in-Error.ensures.whole op buf (omega arith) a in
    rw (c.put_text.ensures.whole (op ++ wide c.in-Error.code []) buf (simp length-append (omega arith)) b, c.opcode.ensures, c.in-Error.is) refl

pub returns-in-Oack-clause-whole : goal.returns-in-Oack-clause-whole
returns-in-Oack-clause-whole c =
    let a = c.put-at.ensures.whole [] c.args.buf.now refl refl in
    rw (c.put-in-Oack.ensures.whole c.opcode.result.now c.args.buf.now (omega arith) a, c.opcode.ensures, c.in-Oack.is) refl

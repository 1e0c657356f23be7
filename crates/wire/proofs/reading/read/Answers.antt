use Rattle.wire.proofs.Codec.{written_read}
use Rattle.wire.proofs.Parts.{parted}
use Rattle.wire.proofs.reading.read.Goals as goal

pub returns : goal.returns
returns c =
    record {
      answer = c.parse.ensures;
      whole = λ m l e. written_read m _ c.parse.result l e c.parse.ensures;
      parts = parted _ c.parse.result c.parse.ensures;
    }

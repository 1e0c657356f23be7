use Rattle.wire.proofs.Codec.{written_read, read_written}
use Rattle.wire.proofs.laws.codec_stands.Goals as goal

pub returns : goal.returns
returns c = record { written_read = written_read; read_written = read_written }

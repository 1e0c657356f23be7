use Rattle.std.proofs.Common.{length, ap, rules}
use Rattle.terms.proofs.Shorts.{padded_more}
use Rattle.terms.proofs.short_bytes.ShortBytes.extend_from_slice.Goals as goal

pub invariant_of-self-clause-padded : goal.invariant_of-self-clause-padded
invariant_of-self-clause-padded g c =
    padded_more g.row.N c.args.self.now.len (length c.args.part.now) c.args.self.now.bytes c.copy_from_slice.new.self (search rules) (search rules) (ap length c.copy_from_slice.ensures.after) c.args.self.now.padded

use Rattle.option_pairs.proofs.Going.{Going}
use Rattle.option_pairs.proofs.scan.scan_pairs.Given as goal

abbrev pub invariant-loop-i : goal.invariant-loop-i
invariant-loop-i l = Going l.ranges l.bytes l.i l.start l.name l.scan

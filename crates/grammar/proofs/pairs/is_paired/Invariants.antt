use Rattle.std.proofs.Common.{◌≡◌, drop}
use Rattle.grammar.specs.declared.pairs.Part.TheVariants.{Start}
use Rattle.grammar.proofs.Walk.{walk}
use Rattle.grammar.proofs.pairs.is_paired.Given as goal

-- what is left decides as the whole does
abbrev pub invariant-loop-b : goal.invariant-loop-b
invariant-loop-b l = walk l.part (drop l.b-index l.bytes) ≡ walk Start l.bytes

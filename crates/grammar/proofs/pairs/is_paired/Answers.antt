use Rattle.std.proofs.Common.{refl, arith}
use Rattle.std.proofs.lemmas.Bool.{false≢true}
use Rattle.std.proofs.lemmas.List.{at_drop_more, at_drop_all}
use Rattle.std.proofs.lemmas.Bool.Decides.{nat_tests}
use Rattle.grammar.specs.declared.pairs.Part.TheVariants.{Start}
use Rattle.grammar.proofs.Walk.{walk, sound, complete}
use Rattle.grammar.proofs.pairs.is_paired.Goals as goal

pub returns-in-Start-eq0 : goal.returns-in-Start-eq0
returns-in-Start-eq0 c =
    let a = at_drop_more (walk c.loop-b.part) c.args.bytes.now c.loop-b.b-index 0 c.loop-b-test.true in
    (λ f. absurd (false≢true f), λ p. let k = complete c.args.bytes.now p in grind (arith, nat_tests))

pub returns-in-Start : goal.returns-in-Start
returns-in-Start c =
    let a = at_drop_all (walk c.loop-b.part) c.args.bytes.now c.loop-b.b-index c.loop-b-test.false in
    (λ _. sound Start c.args.bytes.now (grind (arith, nat_tests)), λ _. refl)

pub returns-in_default-matches : goal.returns-in_default-matches
returns-in_default-matches c =
    let a = at_drop_all (walk c.loop-b.part) c.args.bytes.now c.loop-b.b-index c.loop-b-test.false in
    (λ f. absurd (false≢true f), λ p. let k = complete c.args.bytes.now p in grind (arith, nat_tests))

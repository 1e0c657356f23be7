use Rattle.std.proofs.Common.{subst}
use Rattle.std.proofs.lemmas.Bool.{both_ways}
use Rattle.option_pairs.specs.Scan.{Finds}
use Rattle.options.proofs.Settling.{answer_may_settle}
use Rattle.options.proofs.offer.answer_pairs.Goals as goal

pub returns-in_err-agreed : goal.returns-in_err-agreed
returns-in_err-agreed c =
    let s = c.in_ok-scan.ensures in
    let f = subst (λ rs. Finds rs s.0 c.in_ok-scan.scan.found) c.of_request.ensures s.2.found in
    let m = answer_may_settle c.args.own s.0 _ f in
    let a = c.answer-answer.ensures in
    absurd (both_ways _ c.in_err-agreed.ensures.1 (rw a m))

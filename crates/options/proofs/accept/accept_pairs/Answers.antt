use Rattle.std.proofs.Common.{rules}
use Rattle.options.proofs.Settling.{not_settled}
use Rattle.options.proofs.accept.accept_pairs.Goals as goal

pub returns-in_err-agreed : goal.returns-in_err-agreed
returns-in_err-agreed c = not_settled c.args.asked c.args.own c.args.pairs.now c.in_ok-scan.scan _ (search rules) (search rules) (search rules)

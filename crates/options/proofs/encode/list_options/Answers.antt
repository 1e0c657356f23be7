use Rattle.std.proofs.Common.{codes}
use Rattle.options.specs.Listing.{entry}
use Rattle.options.proofs.Encoding.{three}
use Rattle.options.proofs.encode.list_options.Goals as goal

pub returns-clause-ok : goal.returns-clause-ok
returns-clause-ok c =
    three (entry (codes "blksize") c.args.options.blksize) (entry (codes "timeout") c.args.options.timeout)
    (entry (codes "windowsize") c.args.options.windowsize) _ _ _ _ c.empty-out.ensures c.in_ok-push_option.ensures.ok c.in_ok-push_option-2.ensures.ok c.in_ok-push_option-3.ensures.ok

use Rattle.std.proofs.Common.{◌∙◌}
use Rattle.pages.proofs.Wholes.{whole_over}
use Rattle.pages.proofs.parts.Page.put.Goals as goal

pub returns-in-Ok-clause-text : goal.returns-in-Ok-clause-text
returns-in-Ok-clause-text c =
    let taken = c.in-Ok.ensures.1 in
    taken.same ∙ whole_over c.args.self.now.text c.args.part.now c.args.at c.args.self.now.whole taken.long c.requires

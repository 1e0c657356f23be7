use Rattle.std.proofs.Common.{subst}
use Rattle.store.specs.Laying.{Discarded}
use Rattle.store.proofs.HostDraft.{discarded}
use Rattle.store.proofs.slip.file.Goals as goal

pub returns-in-Err : goal.returns-in-Err
returns-in-Err g c =
    let m = g.S.Store in
    let refused = c.in-Err.ensures in
    let gone = discarded m.items m.drafts m.opens _ _ c.strike.result c.strike.ensures in
    let P : g.row.S.Denot → Type 0 = λ s. Discarded m.items m.drafts m.opens s c.strike.new.self 4 in
    (refused.0, subst P refused.1 gone)

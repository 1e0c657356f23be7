use Rattle.std.proofs.Common.{min, length, ap, ◌∙◌}
use Rattle.std.proofs.lemmas.Result.{err_from_is_err_and}
use Rattle.store.proofs.Pieces.{rejected}
use Rattle.store.proofs.slip.add_all.Goals as goal

pub returns-in_err-add : goal.returns-in_err-add
returns-in_err-add g c =
    let m = g.S.Store in
    let refused = c.in_err-add.ensures in
    let p = err_from_is_err_and c.from_residual.result c.from_residual.ensures.1 in
    let s = c.args.store.now in
    let inv = c.loop-piece.invariant in
    let step = c.in-Some.ensures.steps in
    let h = rejected m.items m.drafts m.takes s c.loop-piece.store c.args.text.now inv.0 c.loop-piece.piece-iterator.rest.now c.in-Some.piece.now c.next.new.self.rest.now (g.met.S.Store.five s) inv.2 step.1.0 (step.1.1 ∙ ap (λ k. min k (length c.loop-piece.piece-iterator.rest.now)) inv.1) inv.3 inv.4 c.add.new.store _ refused.0 refused.1 in
    rw (p.1, p.2) h

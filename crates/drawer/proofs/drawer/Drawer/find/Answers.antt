use Rattle.std.proofs.Common.{sym, ap, ◌∙◌, inl, inr, arith, rules}
use denote.Enum.Bare.{same_true, same_false}
use Rattle.terms.specs.contracts.side.Side.{the_type}
use Rattle.drawer.specs.Keeping.{packet_of, for_side}
use Rattle.drawer.proofs.Keeps.{nth_used, nth_unused, for_yes, for_no}
use Rattle.drawer.proofs.drawer.Drawer.find.Goals as goal
use Rattle.drawer.proofs.drawer.Drawer.find.Goals.{then-pick-self-via-then-pick-self, then-pick-self-via-else-pick-self+then-pick-self-2}

pub returns-then-pick-self : goal.returns-then-pick-self
returns-then-pick-self c =
    let d = c.args.self.now in
    sym (ap (for_side c.args.side) (nth_unused packet_of d.slots.now d.count c.args.pick
    (elim c.then-pick-self.branch [ then-pick-self-via-then-pick-self w ↦ inl (omega arith) | then-pick-self-via-else-pick-self+then-pick-self-2 w ↦ inr (omega arith) ])))

pub returns-then-eq : goal.returns-then-eq
returns-then-eq c =
    let d = c.args.self.now in
    sym (for_yes c.args.side _ _ (nth_used packet_of d.slots.now d.count c.args.pick c.index-self-pick.result (omega arith) (omega arith)) (same_true the_type (search rules) _ _ (sym c.if-eq.ensures) ∙ c.opposite.ensures))

pub returns-else-eq : goal.returns-else-eq
returns-else-eq c =
    let d = c.args.self.now in
    sym (for_no c.args.side _ _ (nth_used packet_of d.slots.now d.count c.args.pick c.index-self-pick.result (omega arith) (omega arith)) (λ e. same_false the_type _ _ (sym c.if-eq.ensures) (e ∙ sym c.opposite.ensures)))

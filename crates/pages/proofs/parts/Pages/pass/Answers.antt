use Rattle.std.proofs.Common.{◌≡◌, ◌<◌, length, set, get_or, sym, refl, ap, ◌∙◌, arith, rules}
use Rattle.std.proofs.lemmas.List.Edits.{map_over_more}
use Rattle.std.proofs.lemmas.Bool.{cond-true, cond-false}
use Rattle.pages.specs.Layout.{same, passed}
use Rattle.pages.proofs.Texts.{page_same, same_sym}
use Rattle.pages.proofs.parts.Pages.pass.Goals as goal
use Rattle.pages.proofs.parts.Pages.pass.Goals.{then-eq, else-eq}

pub loop-page-preserved : goal.loop-page-preserved
loop-page-preserved c =
    let i = c.loop-page.page-index in
    let x = c.page-item.result in
    let lt : i < length c.deref_mut-page-items.result.now = omega arith in
    let more = map_over_more (passed c.args.from c.args.to) c.deref_mut-page-items.result.now c.loop-page.page-items i x lt c.loop-page.invariant c.page-item.is in
    let told : c.eq.result ≡ same x.owner c.args.from = search rules in
    let told' : c.eq.result ≡ same c.args.from x.owner = told ∙ same_sym x.owner c.args.from in
    let text-is : (get_or c.loop-page.page-items i x).text ≡ x.text = ap (λ p. p.text) (sym c.page-item.is) in
    elim c.if-eq.branch [
      | then-eq w ↦
          w.page-items-is
          ∙ ap (set c.loop-page.page-items i) (page_same _ (passed c.args.from c.args.to x) (sym (cond-true _ _ _ (sym told' ∙ w.if-eq.true))) text-is)
          ∙ more
      | else-eq w ↦
          w.page-items-is
          ∙ ap (set c.loop-page.page-items i) (sym c.page-item.is ∙ page_same x (passed c.args.from c.args.to x) (sym (cond-false _ _ _ (sym told' ∙ w.if-eq.false))) refl)
          ∙ more
    ]

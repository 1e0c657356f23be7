use Rattle.std.proofs.Common.{List, vec_items, sym, refl, ◌∙◌, subst, arith}
use Rattle.pages.specs.Layout.{Extended}
use Rattle.pages.specs.declared.parts.Page.{Page}
use Rattle.pages.proofs.Texts.{extended_new, extended_last}
use Rattle.pages.proofs.parts.Pages.extend.Goals as goal

pub returns-then-at-eq0 : goal.returns-then-at-eq0
returns-then-at-eq0 c =
    let ps = vec_items c.args.self.now.taken in
    let P : List Page → Type 0 = λ qs. Extended ps qs c.args.who c.args.len c.args.part.now in
    let new = extended_new ps c.args.who c.args.len c.args.part.now c.blank-page.result.text c.put.new.self (c.put.ensures.owner ∙ c.blank-page.ensures) c.put.ensures.text c.requires.has c.if-at-eq0.true c.requires.some (omega (arith, c.requires.fits)) in
    record { limit = refl; items = subst P (sym c.push_reserved.ensures.items) new }

pub returns-in-Some : goal.returns-in-Some
returns-in-Some c =
    record { limit = refl; items = extended_last (vec_items c.args.self.now.taken) c.args.who c.args.len c.in-Some.k c.args.part.now c.index_mut.result.now c.put-in-Some.new.self c.in-Some.ensures c.index_mut.ensures.value c.put-in-Some.ensures.owner c.put-in-Some.ensures.text c.requires.has c.if-at-eq0.false c.requires.fits }

use Rattle.std.proofs.Common.{◌≡◌, ◌+◌, ◌-◌, ◌<◌, ◌≤◌, min, ◌++◌, length, get_or, take, drop, vec_items, rules, sym, ap, ◌∙◌, arith}
use borrow.Rule.Slice.PartMut.{put_mid}
use Rattle.std.proofs.lemmas.List.{length-take, length-drop}
use Rattle.store.specs.Meaning.{part}
use Rattle.pages.specs.Layout.{same, texts, flat}
use Rattle.pages.proofs.Texts.{same_sym}
use Rattle.pages.proofs.Copies.{copied, flat_next, texts_next}
use Rattle.pages.proofs.parts.Pages.copy.Goals as goal
use Rattle.pages.proofs.parts.Pages.copy.Goals.{then-eq, else-eq}

pub loop-page-preserved : goal.loop-page-preserved
loop-page-preserved c =
    let ps = (vec_items c.args.self.now.taken) in
    let i = c.loop-page.page-index in
    let p = c.page-item.result in
    let was = c.args.buf.now in
    let from = c.args.from in
    let is = c.deref-page-items.ensures.value in
    let lt : i < length ps = omega (arith, ap length is) in
    let at : p ≡ get_or ps i p = c.page-item.is ∙ ap (λ qs. get_or qs i p) is in
    let told : c.eq.result ≡ same p.owner c.args.who = search rules in
    let told' : c.eq.result ≡ same c.args.who p.owner = told ∙ same_sym p.owner c.args.who in
    let inv = c.loop-page.invariant in
    let same-long : length c.loop-page.buf ≡ length was = c.loop-page.auto.buf in
    let done = c.loop-page.done in
    elim c.if-eq.branch [
      | then-eq w ↦
          let m = w.min-m.result in
          let s = w.min-s.result in
          let buf = c.loop-page.buf in
          let got = w.give.new.buf in
          let cut : (done + m) - done ≡ m = omega arith in
          let room = w.min-m.ensures ∙ ap (λ k. min (64 - s) (k - done)) same-long in
          let few : m ≤ length was - done = omega arith in
          let long : length (take ((done + m) - done) (drop done buf)) ≡ m = simp (length-take, length-drop) (omega arith) in
          let next = flat_next c.args.who ps i p lt at (sym told' ∙ w.if-eq.true) in
          let h = copied (flat (texts c.args.who (take i ps))) p.text buf was got from done c.loop-page.skip s m p.whole inv.0 inv.1 inv.2 w.min-s.ensures room (w.give.ensures ∙ ap (λ k. take k (drop s p.text)) long) in
          let put = w.buf-is ∙ ap (λ k. put_mid done k buf got) cut ∙ h.0 in (
            put ∙ ap (λ x. part x from (length was) ++ drop (done + m) was) (sym next) ∙ ap (λ k. part (flat (texts c.args.who (take (i + 1) ps))) from (length was) ++ drop k was) (sym w.done-is),
            w.done-is ∙ h.1 ∙ ap (λ x. length (part x from (length was))) (sym next),
            w.skip-is ∙ h.2 ∙ ap (λ x. from - length x) (sym next),
            omega (arith, w.done-is),
          )
      | else-eq w ↦
          let next = ap flat (texts_next c.args.who ps i p lt at (sym told' ∙ w.if-eq.false)) in (
            w.buf-is ∙ inv.0 ∙ ap (λ x. part x from (length was) ++ drop done was) (sym next) ∙ ap (λ k. part (flat (texts c.args.who (take (i + 1) ps))) from (length was) ++ drop k was) (sym w.done-is),
            w.done-is ∙ inv.1 ∙ ap (λ x. length (part x from (length was))) (sym next),
            w.skip-is ∙ inv.2 ∙ ap (λ x. from - length x) (sym next),
            omega (arith, w.done-is),
          )
    ]

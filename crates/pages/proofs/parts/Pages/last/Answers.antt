use Rattle.std.proofs.Common.{◌≡◌, ℕ, ◌<◌, length, get_or, true, false, MatchOption, IfSome, vec_items, rules}
use Rattle.pages.specs.Layout.{same}
use Rattle.pages.specs.declared.parts.Page.{Page}
use Rattle.pages.proofs.Texts.{last_is}
use Rattle.pages.proofs.parts.Pages.last.Goals as goal

pub returns : goal.returns
returns c =
    let ps = vec_items c.args.self.now.taken in
    let who = c.args.who in
    let r = c.rposition.result in
    let found : MatchOption r ((k : ℕ) (z : Page) → k < length ps → same who (get_or ps k z).owner ≡ false) (λ k. (k < length ps) × ((z : Page) → same who (get_or ps k z).owner ≡ true)) = search rules in
    let after : IfSome r (λ k. (j : ℕ) (z : Page) → k < j → j < length ps → same who (get_or ps j z).owner ≡ false) = search rules in
    last_is who ps r found after

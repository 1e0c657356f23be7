use Rattle.std.proofs.Common.{◌≡◌, vec_items, ap, ◌∙◌, refl, rules, arith}
use Rattle.std.proofs.lemmas.Fn.{filter_same}
use Rattle.std.proofs.lemmas.List.{take_all}
use Rattle.pages.specs.Layout.{without}
use Rattle.pages.proofs.Texts.{without_front}
use Rattle.pages.proofs.parts.Pages.give_back.Goals as goal

pub returns : goal.returns
returns c =
    let ps = vec_items c.args.self.now.taken in
    let who = c.args.who in
    let rest : vec_items c.retain.new.self ≡ without who (vec_items c.truncate.new.self) = filter_same _ _ _ (λ x b f' k. search rules) _ _ c.retain.ensures.filtered in
    let front : without who (vec_items c.truncate.new.self) ≡ without who ps = ap (without who) c.truncate.ensures.items ∙ without_front who ps c.tail-end.result c.tail-end.ensures in
    record { limit = refl; items = grind (arith, take_all, rest, front) }

use Rattle.std.proofs.Common.{◌++◌, vec_items, sym, ap, ◌∙◌, arith}
use Rattle.std.proofs.lemmas.List.{append_assoc, length-append}
use Rattle.pages.proofs.Texts.{extended_both}
use Rattle.pages.proofs.parts.Pages.write.Goals as goal

pub loop-rest-preserved : goal.loop-rest-preserved
loop-rest-preserved c =
    let inv = c.loop-rest.invariant in
    let part = c.split_at.result.0.now in
    let both = extended_both (vec_items c.args.self.now.taken) (vec_items c.loop-rest.self.taken) (vec_items c.extend.new.self.taken) c.args.who c.args.len c.loop-rest.at inv.0 part (sym inv.2) inv.3.items c.extend.ensures.items in (
      inv.0 ++ part,
      inv.1 ∙ ap (λ xs. inv.0 ++ xs) c.split_at.ensures.by_index.0 ∙ sym (append_assoc inv.0 part c.split_at.result.1.now),
      omega (arith, inv.2, length-append inv.0 part),
      record { limit = c.extend.ensures.limit ∙ inv.3.limit; items = both },
    )

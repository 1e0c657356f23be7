use Rattle.std.proofs.Common.{vec_items, ap, ◌∙◌, arith}
use Rattle.std.specs.List.{position as first_place}
use Rattle.store.specs.Entries.{is_called}
use Rattle.store.proofs.Positions.{found}
use Rattle.pages.specs.Layout.{items_of}
use Rattle.pages.proofs.Frame.{names_are}
use Rattle.pages.proofs.calls.PagedStoreStore.find.Goals as goal

pub returns : goal.returns
returns c =
    let s = c.args.self.now in
    let there =
    ap (first_place (is_called c.args.name.now)) c.deref.ensures.value
    ∙ found c.args.name.now (vec_items s.entries) (items_of (vec_items s.pages.taken) (vec_items s.entries)) (names_are (vec_items s.pages.taken) (vec_items s.entries)) in
    grind (arith, there)

use Rattle.std.proofs.Common.{◌≡◌, ◌+◌, ◌<◌, length, is_none, None, true, false, MatchOption, Bool, get_or, vec_items, count_by, is_some, subst, sym, rules, tests}
use Rattle.std.proofs.lemmas.Iterator.{YieldsList-from_slice}
use Rattle.std.proofs.lemmas.Iterator.Search.{position_from_yields_List}
use Rattle.std.specs.List.{position as first_place}
use Rattle.slots.proofs.Owners.{free_is, room_is}
use Rattle.slots.proofs.table.SlotStore.free_slot.Goals as goal

pub returns : goal.returns
returns c =
    let s = c.args.self.now in
    let is : c.position.result ≡ first_place is_none s.owners = position_from_yields_List is_none _ _ c.position.result c.position.ensures.ran (YieldsList-from_slice s.owners cc) (λ x b q k. search (rules, tests)) in
    let n = length (vec_items s.entries) + count_by is_some s.drafts.held in
    let P : Bool → Type 0 = λ b. MatchOption c.position.result (b ≡ false) (λ i. (b ≡ true) × (i < 16) × (get_or s.owners i None ≡ None)) in
    subst P (sym (room_is (vec_items s.memory) s.size (vec_items s.entries) s.drafts.held)) (free_is s.owners n c.position.result s.sixteen s.tally is)

use Rattle.std.proofs.Common.{◌<◌, length, set, Some, None, vec_items, refl, ap, ◌∙◌, arith, length-set}
use Rattle.std.proofs.lemmas.List.{map-set}
use Rattle.store.specs.declared.owner.Owner.TheVariants.{Draft}
use Rattle.slots.specs.Layout.{drafts_of}
use Rattle.slots.proofs.Owners.{handed, room_after, room_is}
use Rattle.slots.proofs.calls.SlotStoreStore.strike.Goals as goal

pub invariant_of-self : goal.invariant_of-self
invariant_of-self c =
    let s = c.args.self.now in
    let d = c.args.draft in
    let e = c.in_ok-extent.extent in
    let own = c.in_ok-extent.ensures.1 in
    let in-s : e.slot < length s.owners = omega (arith, own.2.0, s.sixteen) in
    let in-d : d < length s.drafts.held = omega (arith, own.0, s.drafts.five) in
    let h = handed s.size s.owners s.drafts.held e.slot d None (Some (Draft d)) None (Some e) in-s in-d own.2.2 own.1 refl (vec_items s.entries) (vec_items s.entries) (omega arith) (λ x q. grind arith) s.filings s.begun s.tally in
    record {
      cut = s.cut;
      sixteen = length-set _ _ _ ∙ s.sixteen;
      filings = h.0;
      begun = rw c.clear.ensures h.1;
      tally = rw c.clear.ensures h.2;
      distinct = s.distinct;
      room = s.room;
    }

pub returns : goal.returns
returns c =
    let s = c.args.self.now in
    let d = c.args.draft in
    let e = c.in_ok-extent.extent in
    let why = c.in_ok-extent.ensures.0 in
    let own = c.in_ok-extent.ensures.1 in
    let in-s : e.slot < length s.owners = omega (arith, own.2.0, s.sixteen) in
    let in-d : d < length s.drafts.held = omega (arith, own.0, s.drafts.five) in
    let room = room_is (vec_items s.memory) s.size (vec_items s.entries) (set s.drafts.held d None) ∙ room_after s.size s.owners s.drafts.held e.slot d None (Some (Draft d)) None (Some e) in-s in-d own.2.2 own.1 refl (vec_items s.entries) (vec_items s.entries) (omega arith) s.tally s.sixteen refl in
    record { meaning = (why, (refl, ap (drafts_of (vec_items s.memory) s.size) c.clear.ensures ∙ map-set _ s.drafts.held d None, rw c.clear.ensures room)); size = refl }

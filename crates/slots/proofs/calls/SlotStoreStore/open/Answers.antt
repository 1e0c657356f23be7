use Rattle.std.proofs.Common.{◌<◌, length, set, Some, None, vec_items, refl, ap, ◌∙◌, arith, length-set}
use Rattle.std.proofs.lemmas.List.{map-set, get_or-set_same}
use Rattle.std.proofs.lemmas.Bool.Decides.{nat_tests}
use Rattle.slots.specs.Layout.{Held, drafts_of}
use Rattle.slots.specs.declared.parts.Extent.{Extent}
use Rattle.store.specs.declared.owner.Owner.TheVariants.{Draft}
use Rattle.slots.proofs.Owners.{handed, open_is, only}
use Rattle.slots.proofs.calls.SlotStoreStore.open.Goals as goal

pub invariant_of-self : goal.invariant_of-self
invariant_of-self c =
    let s = c.args.self.now in
    let d = c.args.draft in
    let at = c.in_ok-slot.slot in
    let own = rw c.in_ok-slot.ensures.ok_part at c.free_slot.ensures in
    let absent = c.in_ok-check_absent.ensures.1 in
    let e : Extent = record { slot = at; len = 0 } in
    let in-s : at < length s.owners = omega (arith, own.1, s.sixteen) in
    let in-d : d < length s.drafts.held = omega (arith, absent.0, s.drafts.five) in
    let held : Held s.size (set s.owners at (Some (Draft d))) (Draft d) e = (own.1, omega arith, get_or-set_same s.owners at (Some (Draft d)) None in-s) in
    let h = handed s.size s.owners s.drafts.held at d (Some (Draft d)) None (Some e) None in-s in-d own.2 absent.1 tt (vec_items s.entries) (vec_items s.entries) (omega arith) (only (Held s.size (set s.owners at (Some (Draft d))) (Draft d)) e held) s.filings s.begun s.tally in
    record {
      cut = s.cut;
      sixteen = length-set _ _ _ ∙ s.sixteen;
      filings = h.0;
      begun = rw c.set.ensures h.1;
      tally = rw c.set.ensures h.2;
      distinct = s.distinct;
      room = s.room;
    }

pub returns : goal.returns
returns c =
    let s = c.args.self.now in
    let is = open_is (vec_items s.memory) s.size s.drafts.held c.args.draft in
    let absent = c.in_ok-check_absent.ensures.1 in
    let own = rw c.in_ok-slot.ensures.ok_part at c.free_slot.ensures in
    record { meaning = (grind (arith, nat_tests), (refl, ap (drafts_of (vec_items s.memory) s.size) c.set.ensures ∙ map-set _ s.drafts.held _ _)); size = refl }

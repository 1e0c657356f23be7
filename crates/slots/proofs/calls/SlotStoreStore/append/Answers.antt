use Rattle.std.proofs.Common.{◌+◌, ◌<◌, ◌≤◌, ◌++◌, length, set, Some, vec_items, sym, refl, ap, ◌∙◌, subst, arith}
use Rattle.std.proofs.lemmas.Bool.Decides.{nat_tests}
use Rattle.store.specs.Meaning.{Distinct}
use Rattle.slots.specs.Layout.{items_of, drafts_of}
use Rattle.slots.proofs.Rows.{length-after}
use Rattle.slots.proofs.Appends.{text_is, items_after, drafts_after, stays}
use Rattle.slots.proofs.calls.SlotStoreStore.append.Goals as goal

pub returns-then-piece-self : goal.returns-then-piece-self
returns-then-piece-self c =
    let s = c.args.self.now in
    let own = c.in_ok-slot.ensures.1 in
    let text = text_is (vec_items s.memory) s.size s.owners s.drafts.held c.args.draft c.in_ok-slot.field-0 s.cut own.1 own.2 in
    let long = ap length text.0 ∙ text.2 in
    record { meaning = (grind (arith, nat_tests), refl); size = refl }

pub invariant_of-self : goal.invariant_of-self
invariant_of-self c =
    let s = c.args.self.now in
    let d = c.args.draft in
    let e = c.in_ok-slot.field-0 in
    let piece = c.args.piece.now in
    let mem = vec_items s.memory in
    let own = c.in_ok-slot.ensures.1 in
    let in-s : e.slot < length s.owners = omega (arith, own.2.0, s.sixteen) in
    let in-d : d < length s.drafts.held = omega (arith, own.0, s.drafts.five) in
    let fits : e.len + length piece ≤ s.size = omega (arith, own.2.1) in
    let long = ap length c.write.ensures ∙ length-after mem s.size e.slot e.len piece own.2.0 fits s.cut in
    let items = ap (λ m. items_of m s.size (vec_items s.entries)) c.write.ensures ∙ items_after mem s.size s.owners s.drafts.held d e s.cut own.1 own.2 piece fits (vec_items s.entries) s.filings in
    let h = stays mem s.size s.owners s.drafts.held d e s.cut own.1 own.2 piece fits (vec_items s.entries) in-s in-d s.filings s.begun s.tally in
    record {
      cut = omega (arith, long, s.cut);
      sixteen = s.sixteen;
      filings = s.filings;
      begun = rw c.set.ensures h.0;
      tally = rw c.set.ensures h.1;
      distinct = subst Distinct (sym items) s.distinct;
      room = s.room;
    }

pub returns : goal.returns
returns c =
    let s = c.args.self.now in
    let d = c.args.draft in
    let e = c.in_ok-slot.field-0 in
    let piece = c.args.piece.now in
    let mem = vec_items s.memory in
    let own = c.in_ok-slot.ensures.1 in
    let fits : e.len + length piece ≤ s.size = omega (arith, own.2.1) in
    let text = text_is mem s.size s.owners s.drafts.held d e s.cut own.1 own.2 in
    let long = ap length text.0 ∙ text.2 in
    let items = ap (λ m. items_of m s.size (vec_items s.entries)) c.write.ensures ∙ items_after mem s.size s.owners s.drafts.held d e s.cut own.1 own.2 piece fits (vec_items s.entries) s.filings in
    let drafts = drafts_after mem s.size s.owners s.drafts.held d e s.cut own.1 own.2 piece fits s.begun in
    record { meaning = (grind (arith, nat_tests), (items, ap (drafts_of (vec_items c.write.new.memory) s.size) c.set.ensures ∙ ap (λ m. drafts_of m s.size (set s.drafts.held d (Some (record { slot = e.slot; len = e.len + length piece })))) c.write.ensures ∙ drafts ∙ ap (λ t. set (drafts_of mem s.size s.drafts.held) d (Some (t ++ piece))) (sym text.0))); size = refl }

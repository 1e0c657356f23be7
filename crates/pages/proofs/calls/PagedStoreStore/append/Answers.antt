use Rattle.std.proofs.Common.{◌+◌, ◌<◌, ◌++◌, length, set, is_some, Some, None, vec_items, sym, refl, ap, ◌∙◌, arith}
use Rattle.std.proofs.lemmas.Bool.Decides.{nat_tests}
use Rattle.pages.specs.Layout.{drafts_of}
use Rattle.store.proofs.Counts.{count_set}
use Rattle.pages.proofs.Frame.{kept, items_kept, drafts_kept, text_is, draft_is, fits_is}
use Rattle.pages.proofs.calls.PagedStoreStore.append.Goals as goal

pub returns-then-further-free : goal.returns-then-further-free
returns-then-further-free c =
    let s = c.args.self.now in
    let d = c.args.draft in
    let n = c.in_ok-len.len in
    let piece = c.args.piece.now in
    let own = c.in_ok-len.ensures.1 in
    let in-d : d < length s.drafts.held = omega (arith, own.0, s.drafts.five) in
    let is = draft_is (vec_items s.pages.taken) s.drafts.held d (Some n) in-d own.1 in
    let fit = fits_is (vec_items s.pages.taken) (vec_items s.entries) s.drafts.held d n s.pages.limit piece in-d own.1 own.2 s.tally in
    record { meaning = (grind (arith, nat_tests), refl); limit = refl }

pub invariant_of-self : goal.invariant_of-self
invariant_of-self c =
    let s = c.args.self.now in
    let d = c.args.draft in
    let n = c.in_ok-len.len in
    let piece = c.args.piece.now in
    let ps = vec_items s.pages.taken in
    let qs = vec_items c.write.new.self.taken in
    let own = c.in_ok-len.ensures.1 in
    let in-d : d < length s.drafts.held = omega (arith, own.0, s.drafts.five) in
    let more = c.write.ensures.items in
    let h = kept ps qs (vec_items s.entries) s.drafts.held d (Some n) (Some (n + length piece)) in-d own.1 more.others more.pages more.grown s.begun s.filings s.tally s.distinct in
    let few = count_set is_some s.drafts.held d (Some n) (Some (n + length piece)) None in-d own.1 in
    record {
      sixteen = s.sixteen;
      few = rw c.set.ensures (omega (arith, s.few));
      begun = rw c.set.ensures h.0;
      filings = h.1;
      tally = rw c.set.ensures h.2;
      distinct = h.3;
    }

pub returns : goal.returns
returns c =
    let s = c.args.self.now in
    let d = c.args.draft in
    let n = c.in_ok-len.len in
    let piece = c.args.piece.now in
    let ps = vec_items s.pages.taken in
    let fs = vec_items s.entries in
    let qs = vec_items c.write.new.self.taken in
    let own = c.in_ok-len.ensures.1 in
    let in-d : d < length s.drafts.held = omega (arith, own.0, s.drafts.five) in
    let more = c.write.ensures.items in
    let is = draft_is ps s.drafts.held d (Some n) in-d own.1 in
    let fit = fits_is ps fs s.drafts.held d n s.pages.limit piece in-d own.1 own.2 s.tally in
    record {
      meaning = (
        grind (arith, nat_tests),
        (
          items_kept ps qs fs s.drafts.held d (Some n) (Some (n + length piece)) in-d own.1 more.others,
          ap (drafts_of qs) c.set.ensures
              ∙ drafts_kept ps qs fs s.drafts.held d (Some n) (Some (n + length piece)) in-d own.1 more.others
              ∙ ap (λ b. set (drafts_of ps s.drafts.held) d (Some b)) (more.bytes ∙ ap (λ t. t ++ piece) (sym (text_is ps s.drafts.held d n in-d own.1))),
        ),
      );
      limit = c.write.ensures.limit;
    }

use Rattle.std.proofs.Common.{◌<◌, length, is_some, Some, None, vec_items, unwrap_or, refl, ap, ◌∙◌, arith}
use Rattle.std.proofs.lemmas.Result.{err_from_is_err_and}
use Rattle.std.proofs.lemmas.Bool.Decides.{nat_tests}
use Rattle.pages.specs.Layout.{drafts_of, need as pages_needed}
use Rattle.store.proofs.Counts.{count_set}
use Rattle.pages.proofs.Frame.{open_is, room_is, kept, drafts_kept}
use Rattle.pages.proofs.calls.PagedStoreStore.open.Goals as goal

pub returns-in_err-check_absent : goal.returns-in_err-check_absent
returns-in_err-check_absent c =
    let s = c.args.self.now in
    let is = open_is (vec_items s.pages.taken) s.drafts.held c.args.draft in
    let why = c.in_err-check_absent.ensures in
    let p = err_from_is_err_and c.from_residual.result c.from_residual.ensures.1 in
    record { meaning = rw (p.1, p.2) (grind (arith, nat_tests), refl); limit = refl }

pub returns-then-standing-ge-ENTRIES_MAX : goal.returns-then-standing-ge-ENTRIES_MAX
returns-then-standing-ge-ENTRIES_MAX c =
    let s = c.args.self.now in
    let is = open_is (vec_items s.pages.taken) s.drafts.held c.args.draft in
    let absent = c.in_ok-check_absent.ensures.1 in
    let room = room_is (vec_items s.pages.taken) (vec_items s.entries) s.drafts.held in
    record { meaning = (grind (arith, nat_tests), refl); limit = refl }

pub invariant_of-self : goal.invariant_of-self
invariant_of-self c =
    let s = c.args.self.now in
    let d = c.args.draft in
    let ps = vec_items s.pages.taken in
    let absent = c.in_ok-check_absent.ensures.1 in
    let in-d : d < length s.drafts.held = omega (arith, absent.0, s.drafts.five) in
    let own = s.begun d ∙ ap (λ x. pages_needed (unwrap_or x 0)) absent.1 in
    let h = kept ps ps (vec_items s.entries) s.drafts.held d None (Some 0) in-d absent.1 (λ v ne. refl) own refl s.begun s.filings s.tally s.distinct in
    let few = count_set is_some s.drafts.held d None (Some 0) None in-d absent.1 in
    record {
      sixteen = s.sixteen;
      few = rw c.set.ensures (omega (arith, c.standing.ensures));
      begun = rw c.set.ensures h.0;
      filings = h.1;
      tally = rw c.set.ensures h.2;
      distinct = h.3;
    }

pub returns : goal.returns
returns c =
    let s = c.args.self.now in
    let d = c.args.draft in
    let ps = vec_items s.pages.taken in
    let absent = c.in_ok-check_absent.ensures.1 in
    let in-d : d < length s.drafts.held = omega (arith, absent.0, s.drafts.five) in
    let is = open_is ps s.drafts.held d in
    let room = room_is ps (vec_items s.entries) s.drafts.held in
    record { meaning = (grind (arith, nat_tests), (refl, ap (drafts_of ps) c.set.ensures ∙ drafts_kept ps ps (vec_items s.entries) s.drafts.held d None (Some 0) in-d absent.1 (λ v ne. refl))); limit = refl }

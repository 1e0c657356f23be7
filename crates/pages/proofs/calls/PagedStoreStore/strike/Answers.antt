use Rattle.std.proofs.Common.{◌≡◌, ◌<◌, length, set, is_some, Some, None, vec_items, ap, ◌∙◌, arith}
use Rattle.std.proofs.lemmas.Bool.{lt-ltb}
use Rattle.pages.specs.Layout.{drafts_of, texts}
use Rattle.store.specs.declared.owner.Owner.{Owner}
use Rattle.store.specs.declared.owner.Owner.TheVariants.{Draft}
use Rattle.pages.proofs.Texts.{without_other, without_own, without_length}
use Rattle.store.proofs.Counts.{count_set}
use Rattle.pages.proofs.Frame.{room_is, kept, items_kept, drafts_kept}
use Rattle.pages.proofs.calls.PagedStoreStore.strike.Goals as goal

pub invariant_of-self : goal.invariant_of-self
invariant_of-self c =
    let s = c.args.self.now in
    let d = c.args.draft in
    let ps = vec_items s.pages.taken in
    let qs = vec_items c.give_back.new.self.taken in
    let n = c.in_ok-drafted.field-0 in
    let own = c.in_ok-drafted.ensures.1 in
    let in-d : d < length s.drafts.held = omega (arith, own.0, s.drafts.five) in
    let is = c.give_back.ensures.items in
    let others : (v : Owner) → (v ≡ Draft d → ⊥) → texts v qs ≡ texts v ps = λ v ne. ap (texts v) is ∙ without_other (Draft d) v ne ps in
    let none = ap (λ x. length (texts (Draft d) x)) is ∙ ap length (without_own (Draft d) ps) in
    let fewer = without_length (Draft d) ps in
    let long = ap length is in
    let h = kept ps qs (vec_items s.entries) s.drafts.held d (Some n) None in-d own.1 others none (omega (arith, own.2)) s.begun s.filings s.tally s.distinct in
    let few = count_set is_some s.drafts.held d (Some n) None None in-d own.1 in
    record {
      sixteen = s.sixteen;
      few = rw c.clear.ensures (omega (arith, s.few));
      begun = rw c.clear.ensures h.0;
      filings = h.1;
      tally = rw c.clear.ensures h.2;
      distinct = h.3;
    }

pub returns : goal.returns
returns c =
    let s = c.args.self.now in
    let d = c.args.draft in
    let ps = vec_items s.pages.taken in
    let fs = vec_items s.entries in
    let qs = vec_items c.give_back.new.self.taken in
    let n = c.in_ok-drafted.field-0 in
    let own = c.in_ok-drafted.ensures.1 in
    let in-d : d < length s.drafts.held = omega (arith, own.0, s.drafts.five) in
    let is = c.give_back.ensures.items in
    let others : (v : Owner) → (v ≡ Draft d → ⊥) → texts v qs ≡ texts v ps = λ v ne. ap (texts v) is ∙ without_other (Draft d) v ne ps in
    let few = count_set is_some s.drafts.held d (Some n) None None in-d own.1 in
    record { meaning = (c.in_ok-drafted.ensures.0, (items_kept ps qs fs s.drafts.held d (Some n) None in-d own.1 others, ap (drafts_of qs) c.clear.ensures ∙ drafts_kept ps qs fs s.drafts.held d (Some n) None in-d own.1 others, rw c.clear.ensures (room_is qs fs (set s.drafts.held d None) ∙ lt-ltb _ _ (omega (arith, s.few))))); limit = c.give_back.ensures.limit }

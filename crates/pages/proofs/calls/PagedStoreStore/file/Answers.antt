use Rattle.std.proofs.Common.{◌≡◌, ℕ, ◌<◌, map, length, is_some, Some, None, vec_items, sym, refl, ap, ◌∙◌, arith}
use Rattle.std.proofs.lemmas.Bool.Decides.{nat_tests}
use Rattle.store.specs.Meaning.{position}
use Rattle.pages.specs.Layout.{items_of, drafts_of, passed}
use Rattle.store.specs.declared.entry.Entry.{Entry}
use Rattle.store.specs.declared.owner.Owner.TheVariants.{Draft, Item}
use Rattle.store.proofs.Counts.{count_set}
use Rattle.pages.proofs.Frame.{after_filing, text_is}
use Rattle.pages.proofs.calls.PagedStoreStore.file.Goals as goal

pub invariant_of-self : goal.invariant_of-self
invariant_of-self c =
    let s = c.args.self.now in
    let d = c.args.draft in
    let n = c.in_ok-len.len in
    let ps = vec_items s.pages.taken in
    let fs = vec_items s.entries in
    let f : Entry ℕ = record { name = c.in_ok-own.own; kept = n } in
    let own = c.in_ok-len.ensures.1 in
    let in-d : d < length s.drafts.held = omega (arith, own.0, s.drafts.five) in
    let none : c.find.result ≡ None = grind arith in
    let absent = ap (λ x. position x (items_of ps fs)) c.in_ok-own.ensures.text ∙ sym c.find.ensures ∙ none in
    let passed_is = c.pass.ensures.items ∙ ap (λ k. map (passed (Draft d) (Item k)) ps) (c.len.ensures ∙ s.entries.ok.0) in
    let h = after_filing ps fs s.drafts.held d n f in-d own.1 refl s.begun s.filings _ _ passed_is c.push_reserved.ensures.items absent s.tally s.distinct in
    let few = count_set is_some s.drafts.held d (Some n) None None in-d own.1 in
    let long = h.6 in
    let more = h.7 in
    record {
      sixteen = omega (arith, c.push_reserved.ensures.capacity, s.sixteen);
      few = rw c.clear.ensures (omega (arith, s.few));
      begun = rw c.clear.ensures h.0;
      filings = h.1;
      tally = rw c.clear.ensures h.2;
      distinct = h.3;
    }

pub returns : goal.returns
returns c =
    let s = c.args.self.now in
    let d = c.args.draft in
    let n = c.in_ok-len.len in
    let ps = vec_items s.pages.taken in
    let fs = vec_items s.entries in
    let f : Entry ℕ = record { name = c.in_ok-own.own; kept = n } in
    let why = c.in_ok-len.ensures.0 in
    let own = c.in_ok-len.ensures.1 in
    let named = c.in_ok-own.ensures in
    let in-d : d < length s.drafts.held = omega (arith, own.0, s.drafts.five) in
    let none' : c.find.result ≡ None = grind arith in
    let new = sym c.find.ensures ∙ none' in
    let none : c.find.result ≡ None = grind arith in
    let absent = ap (λ x. position x (items_of ps fs)) named.text ∙ new in
    let passed_is = c.pass.ensures.items ∙ ap (λ k. map (passed (Draft d) (Item k)) ps) (c.len.ensures ∙ s.entries.ok.0) in
    let h = after_filing ps fs s.drafts.held d n f in-d own.1 refl s.begun s.filings _ _ passed_is c.push_reserved.ensures.items absent s.tally s.distinct in
    let legal = named.legal in
    let name-is = named.text in
    let text-as = text_is ps s.drafts.held d n in-d own.1 in
    record { meaning = (grind (arith, nat_tests), (h.4 ∙ cc, ap (drafts_of (vec_items c.pass.new.self.taken)) c.clear.ensures ∙ h.5)); limit = c.pass.ensures.limit }

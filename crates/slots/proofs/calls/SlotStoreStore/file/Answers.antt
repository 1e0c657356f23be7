use Rattle.std.proofs.Common.{◌≡◌, ◌<◌, List, [], ◌∷◌, ◌++◌, length, set, Some, Option, None, vec_items, sym, refl, ap, ◌∙◌, subst, arith, length-set}
use Rattle.std.proofs.lemmas.List.{map-set, map_push, length_push, get_or-set_same}
use Rattle.std.proofs.lemmas.Bool.Decides.{nat_tests}
use Rattle.store.specs.Meaning.{Item as AnItem, Distinct, position}
use Rattle.store.proofs.Positions.{distinct_push}
use Rattle.slots.specs.Layout.{item_of, items_of, drafts_of, Held, Filings, Tally}
use Rattle.store.specs.declared.owner.Owner.{Owner}
use Rattle.store.specs.declared.owner.Owner.TheVariants.{Draft, Item}
use Rattle.store.specs.declared.entry.Entry.{Entry}
use Rattle.slots.specs.declared.parts.Extent.{Extent}
use Rattle.slots.proofs.Owners.{handed, filings_push}
use Rattle.slots.proofs.Appends.{text_is}
use Rattle.slots.proofs.calls.SlotStoreStore.file.Goals as goal

pub invariant_of-self : goal.invariant_of-self
invariant_of-self c =
    let s = c.args.self.now in
    let d = c.args.draft in
    let e = c.in_ok-extent.extent in
    let own = c.in_ok-extent.ensures.1 in
    let fs = vec_items s.entries in
    let f : Entry Extent = record { name = c.in_ok-own.own; kept = e } in
    let items = items_of (vec_items s.memory) s.size fs in
    let item : AnItem = item_of (vec_items s.memory) s.size f in
    let owners : List (Option Owner) = set s.owners e.slot (Some (Item c.len.result)) in
    let in-s : e.slot < length s.owners = omega (arith, own.2.0, s.sixteen) in
    let in-d : d < length s.drafts.held = omega (arith, own.0, s.drafts.five) in
    let held : Held s.size owners (Item (length fs)) e = (own.2.0, own.2.1, get_or-set_same s.owners e.slot _ None in-s ∙ ap (λ k. Some (Item k)) (c.len.ensures ∙ s.entries.ok.0)) in
    let one_more = length_push fs f in
    let h = handed s.size s.owners s.drafts.held e.slot d (Some (Item c.len.result)) (Some (Draft d)) None (Some e) in-s in-d own.2.2 own.1 refl fs (fs ++ f ∷ []) (omega arith) (λ x q. grind arith) s.filings s.begun s.tally in
    let none : c.find.result ≡ None = grind arith in
    let new : position item.name items ≡ None = ap (λ n. position n items) c.in_ok-own.ensures.text ∙ sym c.find.ensures ∙ none in
    let apart = subst Distinct (sym (map_push (item_of (vec_items s.memory) s.size) fs f)) (distinct_push items item new s.distinct) in
    let P : List (Entry Extent) → Type 0 = λ gs. Filings s.size owners gs × Tally owners gs (set s.drafts.held d None) × Distinct (items_of (vec_items s.memory) s.size gs) in
    let all = subst P (sym c.push_reserved.ensures.items) (filings_push s.size owners fs f held h.0, h.2, apart) in
    record {
      cut = s.cut;
      sixteen = length-set _ _ _ ∙ s.sixteen;
      filings = all.0;
      begun = rw c.clear.ensures h.1;
      tally = rw c.clear.ensures all.1;
      distinct = all.2;
      room = omega (arith, c.push_reserved.ensures.capacity, s.room);
    }

pub returns : goal.returns
returns c =
    let s = c.args.self.now in
    let d = c.args.draft in
    let e = c.in_ok-extent.extent in
    let why = c.in_ok-extent.ensures.0 in
    let own = c.in_ok-extent.ensures.1 in
    let named = c.in_ok-own.ensures in
    let none : c.find.result ≡ None = grind arith in
    let new = sym c.find.ensures ∙ none in
    let f : Entry Extent = record { name = c.in_ok-own.own; kept = e } in
    let fs = vec_items s.entries in
    let mem = vec_items s.memory in
    let text = text_is mem s.size s.owners s.drafts.held d e s.cut own.1 own.2 in
    let legal = named.legal in
    let name-is = named.text in
    let text-as = text.0 in
    record { meaning = (grind (arith, nat_tests), (ap (items_of mem s.size) c.push_reserved.ensures.items ∙ map_push (item_of mem s.size) fs f ∙ cc, ap (drafts_of mem s.size) c.clear.ensures ∙ map-set _ s.drafts.held d None)); size = refl }

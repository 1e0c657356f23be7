-- What a piece written into a draft's slot leaves of the items and the drafts. Assumes nothing.
use Rattle.std.proofs.Common.{◌≡◌, ℕ, ◌+◌, ◌*◌, ◌<◌, ◌≤◌, List, [], ◌++◌, length, get_or, drop, set, is_some, Some, None, Option, unwrap_or, sym, refl, ap, ◌∙◌, subst, arith}
use Rattle.std.specs.Option.{option_map}
use Rattle.std.proofs.lemmas.List.{length-drop, length-take-le, set-get_or, map-set, get_or_default, get_or-set_same}
use Rattle.store.specs.Meaning.{text_at}
use Rattle.store.specs.Memory.{overwritten}
use Rattle.slots.specs.Layout.{content, item_of, items_of, drafts_of, Held, Filings, Begun, Tally}
use Rattle.store.specs.declared.owner.Owner.{Owner}
use Rattle.store.specs.declared.owner.Owner.TheVariants.{Draft, Item}
use Rattle.slots.specs.declared.parts.Extent.{Extent}
use Rattle.store.specs.declared.entry.Entry.{Entry}
use Rattle.slots.proofs.Rows.{before, content_own, content_other, map_same, map_same_but}
use Rattle.slots.proofs.Owners.{Ours, only, handed, draft_is}

module _ (mem : List ℕ) (size : ℕ) (owners : List (Option Owner)) (ds : List (Option Extent)) (d : ℕ) (e : Extent)
    (cut : 16 * size ≤ length mem) (is : get_or ds d None ≡ Some e) (held : Held size owners (Draft d) e) where
  -- what the draft means before
  pub text_is : (text_at (drafts_of mem size ds) d ≡ content mem size e) × (is_some (get_or (drafts_of mem size ds) d None) ≡ is_some (Some e)) × (length (content mem size e) ≡ e.len)
  text_is =
      let is' = draft_is mem size ds d (Some e) is in
      let left : e.len ≤ length (drop (e.slot * size) mem) = simp length-drop (omega (arith, before e.slot 16 size e.len held.0 held.1)) in
      (ap (λ o. unwrap_or o []) is', ap is_some is', length-take-le e.len (drop (e.slot * size) mem) left)

  module _ (piece : List ℕ) (fits : e.len + length piece ≤ size) where
    abbrev after : List ℕ
    after = overwritten mem (e.slot * size + e.len) piece

    abbrev longer : Extent
    longer = record { slot = e.slot; len = e.len + length piece }

    other : (x : Extent) (who : Owner) → (Ours d (Some who) → ⊥) → Held size owners who x → content after size x ≡ content mem size x
    other x who theirs h =
        content_other mem size e.slot e.len piece held.0 fits cut x
        (λ q. theirs (subst (Ours d) (sym held.2 ∙ ap (λ k. get_or owners k None) (sym q) ∙ h.2) refl)) h.1

    pub items_after : (fs : List (Entry Extent)) → Filings size owners fs → items_of after size fs ≡ items_of mem size fs
    items_after fs filings =
        map_same (item_of after size) (item_of mem size) fs
        (λ i z lt. ap (λ b. record { name = (item_of mem size (get_or fs i z)).name; bytes = b }) (other (get_or fs i z).kept (Item i) (λ h. h) (filings i z lt)))

    other_draft : (k : ℕ) (o : Option Extent) → (k ≡ d → ⊥) → Begun size owners ds → get_or ds k None ≡ o → option_map (content after size) o ≡ option_map (content mem size) o
    other_draft k None ne begun is' = refl
    other_draft k (Some x) ne begun is' = ap Some (other x (Draft k) ne (begun k x is'))

    pub drafts_after : Begun size owners ds → drafts_of after size (set ds d (Some longer)) ≡ set (drafts_of mem size ds) d (Some (content mem size e ++ piece))
    drafts_after begun =
        map-set (option_map (content after size)) ds d (Some longer)
        ∙ map_same_but (option_map (content after size)) (option_map (content mem size)) ds d (Some (content after size longer)) (λ k z lt ne. other_draft k (get_or ds k z) ne begun (get_or_default ds k None z lt))
        ∙ ap (λ b. set (drafts_of mem size ds) d (Some b)) (content_own mem size e.slot e.len piece held.0 fits cut)

    -- the draft stays in its slot
    pub stays : (fs : List (Entry Extent)) → e.slot < length owners → d < length ds → Filings size owners fs → Begun size owners ds → Tally owners fs ds → Begun size owners (set ds d (Some longer)) × Tally owners fs (set ds d (Some longer))
    stays fs in-s in-d filings begun tally =
        let owners' : List (Option Owner) = set owners e.slot (Some (Draft d)) in
        let same : owners' ≡ owners = ap (set owners e.slot) (sym held.2) ∙ set-get_or owners e.slot None in
        let held' : Held size owners' (Draft d) longer = (held.0, fits, get_or-set_same owners e.slot (Some (Draft d)) None in-s) in
        let h = handed size owners ds e.slot d (Some (Draft d)) (Some (Draft d)) (Some longer) (Some e) in-s in-d held.2 is refl fs fs (omega arith) (only (Held size owners' (Draft d)) longer held') filings begun tally in
        let P : List (Option Owner) → Type 0 = λ os. Begun size os (set ds d (Some longer)) × Tally os fs (set ds d (Some longer)) in
        subst P same (h.1, h.2)

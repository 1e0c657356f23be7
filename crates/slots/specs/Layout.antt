-- What a table of slots stands for, and what always holds of it. Assumes nothing.
use Rattle.std.specs.Prelude.{◌≡◌, ℕ, ◌+◌, ◌*◌, ◌<◌, ◌≤◌, List, map, length, get_or, take, drop, is_some, Some, None, count_by, Option, slice_index_or}
use Rattle.std.specs.Option.{option_map}
use Rattle.terms.specs.Named.{name_text}
use Rattle.store.specs.Meaning.{Item, Draft}
use Rattle.slots.specs.declared.parts.Extent.{Extent}
use Rattle.store.specs.declared.entry.Entry.{Entry}
use Rattle.store.specs.declared.owner.Owner.{Owner}
use Rattle.store.specs.declared.owner.Owner.TheVariants.{Draft as DraftOf, Item as ItemOf}

-- the bytes of an extent: slot s begins at s times the slots' size
abbrev pub content : List ℕ → ℕ → Extent → List ℕ
content mem size e = take e.len (drop (e.slot * size) mem)

abbrev pub item_of : List ℕ → ℕ → Entry Extent → Item
item_of mem size x = record { name = name_text x.name; bytes = content mem size x.kept }

abbrev pub items_of : List ℕ → ℕ → List (Entry Extent) → List Item
items_of mem size xs = map (item_of mem size) xs

abbrev pub drafts_of : List ℕ → ℕ → List (Option Extent) → List Draft
drafts_of mem size ds = map (option_map (content mem size)) ds

-- An extent lies in a slot of its owner's. That owner is one, so no two extents share a slot.
abbrev pub Held : ℕ → List (Option Owner) → Owner → Extent → Type 0
Held size owners who e = (e.slot < 16) × (e.len ≤ size) × (slice_index_or owners e.slot None ≡ Some who)

-- each item lies in a slot of its own
abbrev pub Filings : ℕ → List (Option Owner) → List (Entry Extent) → Type 0
Filings size owners xs = (i : ℕ) (z : Entry Extent) → i < length xs → Held size owners (ItemOf i) (get_or xs i z).kept

-- each draft lies in a slot of its own
abbrev pub Begun : ℕ → List (Option Owner) → List (Option Extent) → Type 0
Begun size owners ds = (d : ℕ) (e : Extent) → slice_index_or ds d None ≡ Some e → Held size owners (DraftOf d) e

-- no other slot is owned
abbrev pub Tally : List (Option Owner) → List (Entry Extent) → List (Option Extent) → Type 0
Tally owners xs ds = count_by is_some owners ≡ length xs + count_by is_some ds

-- What a slot store means, when it opens a draft and what a draft takes. Assumes nothing.
use Rattle.std.specs.Prelude.{◌≡◌, ℕ, ◌+◌, ◌/◌, Bool, List, [], length, replicate, IfOk, None, vec_items, Result, nat_le}
use Rattle.std.specs.declared.alloc.AllocError.{AllocError}
use Rattle.store.specs.Meaning.{Item, Draft, text_at, room_for}
use Rattle.slots.specs.Layout.{items_of, drafts_of}
use Rattle.slots.specs.declared.table.SlotStore.{SlotStore}

abbrev pub slot_items : SlotStore → List Item
slot_items s = items_of (vec_items s.memory) s.size (vec_items s.entries)

abbrev pub slot_drafts : SlotStore → List Draft
slot_drafts s = drafts_of (vec_items s.memory) s.size s.drafts.held

-- items and drafts together are fewer than 16
abbrev pub slot_opens : SlotStore → Bool
slot_opens s = room_for (slot_items s) (slot_drafts s)

-- the draft then fits its slot
abbrev pub slot_takes : SlotStore → ℕ → List ℕ → Bool
slot_takes s d piece = nat_le (length (text_at (slot_drafts s) d) + length piece) s.size

-- a store that is set up is empty, and its slots are a sixteenth of the memory, rounded down; else there was no memory
abbrev pub SetUp : ℕ → Result SlotStore AllocError → Type 0
SetUp bytes r = IfOk r (λ s. (s.size ≡ bytes / 16) × (slot_items s ≡ []) × (slot_drafts s ≡ replicate 5 None))

-- What a paged store means, when it opens a draft and what a draft takes. Assumes nothing.
use Rattle.std.specs.Prelude.{◌≡◌, ℕ, ◌<◌, ◌≤◌, Bool, List, [], replicate, None, Ok, Err, vec_items, Result}
use Rattle.terms.specs.declared.refusal.Refusal.TheVariants.{OutOfRange}
use Rattle.store.specs.Meaning.{Item, Draft, room_for}
use Rattle.pages.specs.Layout.{items_of, drafts_of, fits}
use Rattle.pages.specs.declared.setup.SetupError.{SetupError}
use Rattle.pages.specs.declared.setup.SetupError.TheVariants.{Refused, NoMemory}
use Rattle.pages.specs.declared.table.PagedStore.{PagedStore}

abbrev pub page_items : PagedStore → List Item
page_items s = items_of (vec_items s.pages.taken) (vec_items s.entries)

abbrev pub page_drafts : PagedStore → List Draft
page_drafts s = drafts_of (vec_items s.pages.taken) s.drafts.held

-- items and drafts together are fewer than 16
abbrev pub page_opens : PagedStore → Bool
page_opens s = room_for (page_items s) (page_drafts s)

-- the further pages that the piece needs are free
abbrev pub page_takes : PagedStore → ℕ → List ℕ → Bool
page_takes s d piece = fits s.pages.limit (page_items s) (page_drafts s) d piece

-- a store that is set up is empty and has that many pages; more than 256 are refused; else there was no memory
abbrev pub SetUp : ℕ → Result PagedStore SetupError → Type 0
SetUp n (Ok s) = (n ≤ 256) × (s.pages.limit ≡ n) × (page_items s ≡ []) × (page_drafts s ≡ replicate 5 None)
SetUp n (Err (Refused e)) = (256 < n) × (e ≡ OutOfRange)
SetUp n (Err NoMemory) = n ≤ 256

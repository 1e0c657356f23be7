-- What a table of pages stands for, and what always holds of it. Assumes nothing.
use Rattle.std.specs.Prelude.{◌≡◌, ℕ, zero, suc, ◌+◌, ◌-◌, ◌/◌, ◌<◌, Bool, false, cond, not, List, [], ◌∷◌, ◌++◌, length, get_or, take, drop, None, sum_by, filter, Option, ◌==◌, ◌≢◌, nat_le, slice_index_or}
use Rattle.std.specs.Option.{option_map, unwrap_or}
use Rattle.store.specs.Meaning.{Item, Draft, text_at}
use Rattle.terms.specs.Named.{name_text}
use Rattle.store.specs.declared.entry.Entry.{Entry}
use Rattle.pages.specs.declared.parts.Page.{Page}
use Rattle.store.specs.declared.owner.Owner.{Owner}
use Rattle.store.specs.declared.owner.Owner.TheVariants.{Draft as DraftOf, Item as ItemOf}

-- one owner and the same
abbrev pub same : Owner → Owner → Bool
same (DraftOf a) (DraftOf b) = a == b
same (DraftOf a) (ItemOf b) = false
same (ItemOf a) (DraftOf b) = false
same (ItemOf a) (ItemOf b) = a == b

-- the texts of an owner's pages, in order
abbrev pub texts : Owner → List Page → List (List ℕ)
texts w [] = []
texts w (p ∷ ps) = cond (same w p.owner) (p.text ∷ texts w ps) (texts w ps)

-- one after another
abbrev pub flat : List (List ℕ) → List ℕ
flat [] = []
flat (t ∷ ts) = t ++ flat ts

-- an owner's bytes: its pages one after another, up to its length
abbrev pub content : List Page → Owner → ℕ → List ℕ
content ps w n = take n (flat (texts w ps))

-- a map that is told the position of each element
abbrev pub imap : {X Y : Type 0} → (ℕ → X → Y) → List X → List Y
imap f [] = []
imap f (x ∷ xs) = f 0 x ∷ imap (λ i. f (suc i)) xs

abbrev pub item_of : List Page → ℕ → Entry ℕ → Item
item_of ps i f = record { name = name_text f.name; bytes = content ps (ItemOf i) f.kept }

abbrev pub items_of : List Page → List (Entry ℕ) → List Item
items_of ps fs = imap (item_of ps) fs

abbrev pub draft_of : List Page → ℕ → Option ℕ → Draft
draft_of ps d o = option_map (content ps (DraftOf d)) o

abbrev pub drafts_of : List Page → List (Option ℕ) → List Draft
drafts_of ps ds = imap (draft_of ps) ds

-- the pages that so many bytes need
abbrev pub need : ℕ → ℕ
need n = (n + 63) / 64

-- how many bytes a draft has, and 0 where it is absent
abbrev pub drafted : List (Option ℕ) → ℕ → ℕ
drafted ds d = unwrap_or (slice_index_or ds d None) 0

-- how many bytes an item has, and 0 past the last
abbrev pub filed_len : List (Entry ℕ) → ℕ → ℕ
filed_len [] i = 0
filed_len (f ∷ fs) zero = f.kept
filed_len (f ∷ fs) (suc i) = filed_len fs i

-- each draft has the pages that it needs, and an absent one none
abbrev pub Begun : List Page → List (Option ℕ) → Type 0
Begun ps ds = (d : ℕ) → length (texts (DraftOf d) ps) ≡ need (drafted ds d)

-- each item has the pages that it needs
abbrev pub Filings : List Page → List (Entry ℕ) → Type 0
Filings ps fs = (i : ℕ) → length (texts (ItemOf i) ps) ≡ need (filed_len fs i)

-- the pages in use, by what the store means
abbrev pub used : List Item → List Draft → ℕ
used xs ds = sum_by (λ x. need (length x.bytes)) xs + sum_by (λ o. need (length (unwrap_or o []))) ds

-- and there are no other pages
abbrev pub Tally : List Page → List (Entry ℕ) → List (Option ℕ) → Type 0
Tally ps fs ds = length ps ≡ used (items_of ps fs) (drafts_of ps ds)

-- the further pages that a piece needs are free
abbrev pub fits : ℕ → List Item → List Draft → ℕ → List ℕ → Bool
fits limit xs ds d piece =
    nat_le (used xs ds + (need (length (text_at ds d) + length piece) - need (length (text_at ds d)))) limit

-- Owner w had n bytes in the pages ps, and has that part after them in the pages qs, with no page more than it needs.
pub record Extended (ps qs : List Page) (w : Owner) (n : ℕ) (part : List ℕ) : Type 0 where
  pub others : (v : Owner) → (v ≢ w) → texts v qs ≡ texts v ps
  pub bytes : content qs w (n + length part) ≡ content ps w n ++ part
  pub pages : length (texts w qs) ≡ need (n + length part)
  pub grown : length qs + need n ≡ length ps + need (n + length part)

-- the pages that are not an owner's
abbrev pub without : Owner → List Page → List Page
without w ps = filter (λ p. not (same w p.owner)) ps

-- a page of one owner passes to another
abbrev pub passed : Owner → Owner → Page → Page
passed from to p = record { owner = cond (same from p.owner) to p.owner; text = p.text; whole = p.whole }

-- the page at k is the owner's last
abbrev pub Last : Owner → List Page → ℕ → Type 0
Last w ps k = (k < length ps) × ((z : Page) → (get_or ps k z).owner ≡ w) × (texts w (drop (suc k) ps) ≡ [])

-- What a store means, and what each of its calls answers and leaves. Assumes nothing.
use Rattle.std.specs.Prelude.{◌≡◌, ℕ, suc, ◌+◌, ◌<◌, Bool, true, cond, ◌&&◌, List, [], ◌∷◌, ◌++◌, length, get_or, take, drop, is_some, Some, None, Ok, Err, count_by, Option, Result, nat_le, nat_lt, slice_index_or, slice_set}
use Rattle.std.specs.Option.{unwrap_or, option_map}
use Rattle.std.specs.Str.{bytes_eq}
use Rattle.terms.specs.declared.refusal.Refusal.{Refusal}
use Rattle.terms.specs.declared.refusal.Refusal.TheVariants.{IllegalName, OutOfRange, NameInUse, NoDraftFree, NotTaken, DraftState}
use Rattle.store.specs.Drafts.{held_refusal}
use Rattle.terms.specs.Names.{legal_name}

pub record Item : Type 0 where
  pub name : List ℕ
  pub bytes : List ℕ

abbrev pub no_item : Item
no_item = record { name = []; bytes = [] }

-- the bytes of the item of that number, and none past the last
abbrev pub bytes_at : List Item → ℕ → List ℕ
bytes_at xs i = (get_or xs i no_item).bytes

-- A draft is absent or a byte string.
abbrev pub Draft : Type 0
Draft = Option (List ℕ)

-- The drafts of a store stand at the places 0 to 4 of a list.
abbrev pub draft_at : List Draft → ℕ → Draft
draft_at ds d = slice_index_or ds d None

-- what an open draft holds
abbrev pub text_at : List Draft → ℕ → List ℕ
text_at ds d = unwrap_or (draft_at ds d) []

-- the number of the first item of that name, or none
abbrev pub position : List ℕ → List Item → Option ℕ
position n [] = None
position n (x ∷ xs) = cond (bytes_eq x.name n) (Some 0) (option_map suc (position n xs))

-- no name stands twice
abbrev pub Distinct : List Item → Type 0
Distinct xs = (i j : ℕ) → (i < j) × (j < length xs) × ((get_or xs i no_item).name ≡ (get_or xs j no_item).name) → ⊥

-- how both kinds of memory decide: items and open drafts together are fewer than 16
abbrev pub room_for : List Item → List Draft → Bool
room_for xs ds = nat_lt (length xs + count_by is_some ds) 16

-- what reading gives: from a place on, as many as are left and the buffer holds
abbrev pub part : List ℕ → ℕ → ℕ → List ℕ
part bytes from room = take room (drop from bytes)

-- The refusals, each in the order of its checks.
abbrev pub size_refusal : List Item → ℕ → Option Refusal
size_refusal xs i = cond (nat_lt i (length xs)) None (Some OutOfRange)

abbrev pub read_refusal : List Item → ℕ → ℕ → Option Refusal
read_refusal xs i from = cond (nat_lt i (length xs) && nat_le from (length (bytes_at xs i))) None (Some OutOfRange)

abbrev pub open_refusal : List Draft → Bool → ℕ → Option Refusal
open_refusal ds opens d =
    cond (nat_lt 4 d) (Some OutOfRange) (cond (is_some (draft_at ds d)) (Some DraftState) (cond opens None (Some NoDraftFree)))

abbrev pub append_refusal : List Draft → Bool → ℕ → List ℕ → Option Refusal
append_refusal ds takes d piece =
    cond (nat_lt 4 d) (Some OutOfRange) (cond (nat_lt 1468 (length piece)) (Some OutOfRange) (cond (is_some (draft_at ds d)) (cond takes None (Some NotTaken)) (Some DraftState)))

abbrev pub name_refusal : List Item → List ℕ → Option Refusal
name_refusal xs n = cond (legal_name n) (cond (is_some (position n xs)) (Some NameInUse) None) (Some IllegalName)

abbrev pub file_refusal : List Item → List Draft → ℕ → List ℕ → Option Refusal
file_refusal xs ds d n =
    cond (nat_lt 4 d) (Some OutOfRange) (cond (is_some (draft_at ds d)) (name_refusal xs n) (Some DraftState))

abbrev pub strike_refusal : List Draft → ℕ → Option Refusal
strike_refusal ds d = held_refusal ds d

-- A call answers `why` and leaves `Same`, or, if nothing stands against it, does `Done`.
abbrev pub Answers : {X : Type 0} → Result X Refusal → Option Refusal → Type 0 → (X → Type 0) → Type 0
Answers (Ok v) why Same Done = (why ≡ None) × Done v
Answers (Err e) why Same Done = (why ≡ Some e) × Same

-- Each call over a store that was s and is t, by the members of its meaning.
abbrev pub Measured : {S : Type 0} → (S → List Item) → S → ℕ → Result ℕ Refusal → Type 0
Measured items s i r = Answers r (size_refusal (items s) i) (Unit {0}) (λ n. n ≡ length (bytes_at (items s) i))

-- the buffer, which was `before` and is `after`, keeps what reading does not write
abbrev pub Copied : {S : Type 0} → (S → List Item) → S → ℕ → ℕ → List ℕ → List ℕ → Result ℕ Refusal → Type 0
Copied items s i from before after r =
    Answers r (read_refusal (items s) i from) (after ≡ before) (λ n. (n ≡ length (part (bytes_at (items s) i) from (length before))) × (after ≡ part (bytes_at (items s) i) from (length before) ++ drop n before))

abbrev pub Opened : {S X : Type 0} → (S → List Item) → (S → List Draft) → (S → Bool) → S → S → ℕ → Result X Refusal → Type 0
Opened items drafts opens s t d r =
    Answers r (open_refusal (drafts s) (opens s) d) (t ≡ s) (λ _. (items t ≡ items s) × (drafts t ≡ slice_set (drafts s) d (Some [])))

-- the draft has the piece at its end, and all else stays
abbrev pub Longer : {S : Type 0} → (S → List Item) → (S → List Draft) → S → S → ℕ → List ℕ → Type 0
Longer items drafts s t d piece =
    (items t ≡ items s) × (drafts t ≡ slice_set (drafts s) d (Some (text_at (drafts s) d ++ piece)))

abbrev pub Appended : {S X : Type 0} → (S → List Item) → (S → List Draft) → (S → ℕ → List ℕ → Bool) → S → S → ℕ → List ℕ → Result X Refusal → Type 0
Appended items drafts takes s t d piece r =
    Answers r (append_refusal (drafts s) (takes s d piece) d piece) (t ≡ s) (λ _. Longer items drafts s t d piece)

-- the draft is the last item, and is absent itself
abbrev pub Laid : {S : Type 0} → (S → List Item) → (S → List Draft) → S → S → ℕ → List ℕ → Type 0
Laid items drafts s t d n =
    (items t ≡ items s ++ (record { name = n; bytes = text_at (drafts s) d } ∷ [])) × (drafts t ≡ slice_set (drafts s) d None)

abbrev pub Filed : {S X : Type 0} → (S → List Item) → (S → List Draft) → S → S → ℕ → List ℕ → Result X Refusal → Type 0
Filed items drafts s t d n r =
    Answers r (file_refusal (items s) (drafts s) d n) (t ≡ s) (λ _. Laid items drafts s t d n)

abbrev pub Struck : {S X : Type 0} → (S → List Item) → (S → List Draft) → (S → Bool) → S → S → ℕ → Result X Refusal → Type 0
Struck items drafts opens s t d r =
    Answers r (strike_refusal (drafts s) d) (t ≡ s) (λ _. (items t ≡ items s) × (drafts t ≡ slice_set (drafts s) d None) × (opens t ≡ true))

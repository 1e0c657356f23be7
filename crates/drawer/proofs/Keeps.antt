-- What a drawer's slots are to what it keeps, and why its calls are those of a channel.
use Rattle.std.proofs.Common.{◌≡◌, ℕ, zero, suc, ◌+◌, ◌<◌, ◌≤◌, true, false, cond, ltb, ◌⊎◌, List, [], ◌∷◌, ◌++◌, map, length, get_or, take, set, Some, None, Option, sym, refl, ap, ◌∙◌, inl, inr, append-nil, arith, rules}
use mathlib.Core.List.{Memᴰ}
use Rattle.std.specs.List.{slice_get}
use Rattle.std.proofs.lemmas.List.{length-map, length-take, map-append, take_more_set, get_or-map, get_or-take}
use Rattle.std.proofs.lemmas.Option.{slice_get-get_or, slice_get_past}
use Rattle.terms.specs.declared.side.Side.{Side}
use Rattle.terms.specs.declared.side.Side.TheVariants.{Shield, Cabin}
use Rattle.terms.specs.Sides.{opposite}
use Rattle.channel.specs.Packet.{Packet, Body, packet}
use Rattle.drawer.specs.Keeping.{is_for, for_side, picked}

-- one more in use
pub stored : {X Y : Type 0} (f : X → Y) (xs : List X) (n : ℕ) (x : X) → n < length xs → map f (take (n + 1) (set xs n x)) ≡ map f (take n xs) ++ cond (ltb (length (map f (take n xs))) (length xs)) (f x ∷ []) []
stored f xs n x l =
    let long : length (map f (take n xs)) ≡ n = simp (length-map, length-take) (omega arith) in
    let told : ltb (length (map f (take n xs))) (length xs) ≡ true = search rules in
    rw told (ap (map f) (take_more_set xs n x l) ∙ map-append f (take n xs) (x ∷ []))

-- all in use
pub full : {X Y : Type 0} (f : X → Y) (xs : List X) (n : ℕ) (y : Y) → length xs ≤ n → map f (take n xs) ≡ map f (take n xs) ++ cond (ltb (length (map f (take n xs))) (length xs)) (y ∷ []) []
full f xs n y l =
    let long : length (map f (take n xs)) ≡ length xs = simp (length-map, length-take) (omega arith) in
    let told : ltb (length (map f (take n xs))) (length xs) ≡ false = search rules in
    rw told (sym (append-nil _))

-- the one of a number, if it is in use
pub nth_used : {X Y : Type 0} (f : X → Y) (xs : List X) (n i : ℕ) (d : X) → i < n → i < length xs → slice_get (map f (take n xs)) i ≡ Some (f (get_or xs i d))
nth_used f xs n i d l m =
    let short : i < length (take n xs) = simp length-take (omega arith) in
    slice_get-get_or (map f (take n xs)) i (f d) (simp length-map short) ∙ ap Some (get_or-map f (take n xs) i d (f d) short ∙ ap f (get_or-take n xs i d l))

pub nth_unused : {X Y : Type 0} (f : X → Y) (xs : List X) (n i : ℕ) → (n ≤ i) ⊎ (length xs ≤ i) → slice_get (map f (take n xs)) i ≡ None
nth_unused f xs n i (inl h) = slice_get_past (map f (take n xs)) i (simp (length-map, length-take) (omega arith))
nth_unused f xs n i (inr h) = slice_get_past (map f (take n xs)) i (simp (length-map, length-take) (omega arith))

is_for_yes : (a b : Side) → b ≡ opposite a → is_for a b ≡ true
is_for_yes Shield b e = ap (is_for Shield) e
is_for_yes Cabin b e = ap (is_for Cabin) e

is_for_no : (a b : Side) → (b ≡ opposite a → ⊥) → is_for a b ≡ false
is_for_no Shield Shield n = refl
is_for_no Shield Cabin n = absurd (n refl)
is_for_no Cabin Shield n = absurd (n refl)
is_for_no Cabin Cabin n = refl

-- a packet that is found is handed out to the side that it is for
pub for_yes : (side : Side) (o : Option Packet) (p : Packet) → o ≡ Some p → p.from ≡ opposite side → for_side side o ≡ Some p.body
for_yes side o p e f = rw (e, is_for_yes side p.from f)

pub for_no : (side : Side) (o : Option Packet) (p : Packet) → o ≡ Some p → (p.from ≡ opposite side → ⊥) → for_side side o ≡ None
for_no side o p e f = rw (e, is_for_no side p.from f)

handed_out : (side from : Side) (x b : Body) → cond (is_for side from) (Some x) None ≡ Some b → packet (opposite side) b ≡ packet from x
handed_out Shield Shield x b e = absurd (cc)
handed_out Shield Cabin x b e = ap (packet Cabin) (cc)
handed_out Cabin Shield x b e = ap (packet Shield) (cc)
handed_out Cabin Cabin x b e = absurd (cc)

at_pick : (side : Side) (ps : List Packet) (n : ℕ) (b : Body) → for_side side (slice_get ps n) ≡ Some b → Memᴰ (packet (opposite side) b) ps
at_pick side [] n b e = absurd (cc)
at_pick side (p ∷ ps) zero b e = Memᴰ.head (handed_out side p.from p.body b e)
at_pick side (p ∷ ps) (suc n) b e = Memᴰ.tail (at_pick side ps n b e)

-- what is handed out was kept, and is for the side
pub picked_was : (side : Side) (ps : List Packet) (ns : List ℕ) (b : Body) → picked side ps ns ≡ Some b → Memᴰ (packet (opposite side) b) ps
picked_was side ps [] b e = absurd (cc)
picked_was side ps (n ∷ ns) b e = at_pick side ps n b e

-- What the steps of a queue are to a ring, and why a ring's calls are those of a channel.
use Rattle.std.proofs.Common.{◌≡◌, ℕ, Bool, true, false, cond, ltb, ◌⊎◌, List, [], ◌∷◌, ◌++◌, map, length, drop, Some, Option, sym, refl, ap, ◌∙◌, subst, inl, inr, ⊎_elim}
use mathlib.Core.List.{Memᴰ}
use Rattle.std.specs.List.{slice_get}
use Rattle.std.specs.Option.{option_map}
use Rattle.std.proofs.lemmas.List.{map-append, length-map}
use Rattle.terms.specs.declared.side.Side.{Side}
use Rattle.terms.specs.declared.side.Side.TheVariants.{Shield, Cabin}
use Rattle.terms.specs.Sides.{opposite}
use Rattle.channel.proofs.Members.{of_more}
use Rattle.channel.specs.Packet.{Body, packet}
use Rattle.channel.specs.declared.tallies.Tallies.{Tallies}
use Rattle.ring.specs.declared.ring.Ring.{Ring}
use Rattle.ring.specs.Waiting.{Appended}

-- one more or none, by a meaning
mapped_one : {X Y : Type 0} (f : X → Y) (t : Bool) (x : X) → map f (cond t (x ∷ []) []) ≡ cond t (f x ∷ []) []
mapped_one f true x = refl
mapped_one f false x = refl

-- the meaning of a queue that was pushed to
pub pushed : {X Y : Type 0} (f : X → Y) (xs ys : List X) (x : X) (t : Bool) (n : ℕ) → t ≡ ltb (length xs) n → ys ≡ xs ++ cond t (x ∷ []) [] → map f ys ≡ map f xs ++ cond (ltb (length (map f xs)) n) (f x ∷ []) []
pushed f xs ys x t n e q =
    let told : ltb (length (map f xs)) n ≡ t = rw (length-map xs f) (sym e) in
    rw told (ap (map f) q ∙ map-append f xs (cond t (x ∷ []) []) ∙ ap (λ zs. map f xs ++ zs) (mapped_one f t x))

-- the meaning of a queue that was popped from
pub popped_front : {X Y : Type 0} (f : X → Y) (xs : List X) (o : Option X) → o ≡ slice_get xs 0 → option_map f o ≡ slice_get (map f xs) 0
popped_front f [] o e = ap (option_map f) e
popped_front f (x ∷ xs) o e = ap (option_map f) e

pub popped_rest : {X Y : Type 0} (f : X → Y) (xs ys : List X) → ys ≡ drop 1 xs → map f ys ≡ drop 1 (map f xs)
popped_rest f [] ys e = ap (map f) e
popped_rest f (x ∷ xs) ys e = ap (map f) e

-- what waits after a put waited before or is the new one
pub put_within : (before after : Side → List Body) (from : Side) (new : Body) (t : Bool)
    → after (opposite from) ≡ before (opposite from) ++ cond t (new ∷ []) [] → after (opposite (opposite from)) ≡ before (opposite (opposite from))
    → (s : Side) (b : Body) → Memᴰ b (after (opposite s)) → Memᴰ b (before (opposite s)) ⊎ (packet s b ≡ packet from new)
put_within before after Shield new t there here Shield b m = ⊎_elim inl (λ e. inr (ap (packet Shield) e)) (of_more (before Cabin) new b t (subst (Memᴰ b) there m))
put_within before after Shield new t there here Cabin b m = inl (subst (Memᴰ b) here m)
put_within before after Cabin new t there here Shield b m = inl (subst (Memᴰ b) here m)
put_within before after Cabin new t there here Cabin b m = ⊎_elim inl (λ e. inr (ap (packet Cabin) e)) (of_more (before Shield) new b t (subst (Memᴰ b) there m))

-- one behind the first is of the list
of_drop : {X : Type 0} (xs : List X) (x : X) → Memᴰ x (drop 1 xs) → Memᴰ x xs
of_drop [] x m = m
of_drop (y ∷ xs) x m = Memᴰ.tail m

-- what waits after a take waited before
pub take_within : (before after : Side → List Body) (side : Side)
    → after side ≡ drop 1 (before side) → after (opposite side) ≡ before (opposite side)
    → (s : Side) (b : Body) → Memᴰ b (after (opposite s)) → Memᴰ b (before (opposite s))
take_within before after Shield there here Shield b m = subst (Memᴰ b) here m
take_within before after Shield there here Cabin b m = of_drop (before Shield) b (subst (Memᴰ b) there m)
take_within before after Cabin there here Shield b m = of_drop (before Cabin) b (subst (Memᴰ b) there m)
take_within before after Cabin there here Cabin b m = subst (Memᴰ b) here m

first_was : {X : Type 0} (xs : List X) (x : X) → Some x ≡ slice_get xs 0 → Memᴰ x xs
first_was [] x e = absurd (cc)
first_was (y ∷ xs) x e = Memᴰ.head (cc)

-- the first that waited for a side waited
pub front_was : (before : Side → List Body) (side : Side) (b : Body) → Some b ≡ slice_get (before side) 0 → Memᴰ b (before (opposite (opposite side)))
front_was before Shield b e = first_was (before Shield) b e
front_was before Cabin b e = first_was (before Cabin) b e

-- a tally raised before changes nothing of what waits
pub appended_after_raise : (side : Side) (new : Body) (r after : Ring) (t : Tallies) → Appended side new (record { to_shield = r.to_shield; to_cabin = r.to_cabin; tallies = t }) after → Appended side new r after
appended_after_raise Shield new r after t q = record {
  there = q.there;
  here = q.here;
  places = elim [ Shield ↦ q.places Shield | Cabin ↦ q.places Cabin ];
}
appended_after_raise Cabin new r after t q = record {
  there = q.there;
  here = q.here;
  places = elim [ Shield ↦ q.places Shield | Cabin ↦ q.places Cabin ];
}

-- A map that is told the position of each element. Assumes nothing.
use Rattle.std.specs.Prelude.{◌≡◌, ℕ, zero, suc, ◌<◌, List, [], ◌∷◌, ◌++◌, length, ◌≢◌, slice_index_or, slice_set, refl}
use Rattle.std.proofs.Common.{ap, arith}
use Rattle.pages.specs.Layout.{imap}

pub imap-set : {X Y : Type 0} (f : ℕ → X → Y) (xs : List X) (i : ℕ) (y : X) → imap f (slice_set xs i y) ≡ slice_set (imap f xs) i (f i y)
imap-set f [] i y = refl
imap-set f (x ∷ xs) zero y = refl
imap-set f (x ∷ xs) (suc i) y = ap (λ ys. f 0 x ∷ ys) (imap-set (λ k. f (suc k)) xs i y)

pub imap-push : {X Y : Type 0} (f : ℕ → X → Y) (xs : List X) (y : X) → imap f (xs ++ y ∷ []) ≡ imap f xs ++ f (length xs) y ∷ []
imap-push f [] y = refl
imap-push f (x ∷ xs) y = ap (λ ys. f 0 x ∷ ys) (imap-push (λ k. f (suc k)) xs y)

pub get_or-imap : {X Y : Type 0} (f : ℕ → X → Y) (xs : List X) (i : ℕ) (z : X) (e : Y) → i < length xs → slice_index_or (imap f xs) i e ≡ f i (slice_index_or xs i z)
get_or-imap f [] i z e lt = absurd (omega arith)
get_or-imap f (x ∷ xs) zero z e lt = refl
get_or-imap f (x ∷ xs) (suc i) z e lt = get_or-imap (λ k. f (suc k)) xs i z e (omega arith)

-- two such maps that agree on a list, or on it but for one position that is set
pub imap_same : {X Y : Type 0} (f g : ℕ → X → Y) (xs : List X) → ((i : ℕ) (x : X) → i < length xs → f i x ≡ g i x) → imap f xs ≡ imap g xs
imap_same f g [] h = refl
imap_same f g (x ∷ xs) h =
    let here = h zero x (omega arith) in
    let rest = imap_same (λ i. f (suc i)) (λ i. g (suc i)) xs (λ i y lt. h (suc i) y (omega arith)) in
    cc

pub imap_same_but : {X Y : Type 0} (f g : ℕ → X → Y) (xs : List X) (d : ℕ) (y : Y) → ((i : ℕ) (x : X) → (i ≢ d) → f i x ≡ g i x) → slice_set (imap f xs) d y ≡ slice_set (imap g xs) d y
imap_same_but f g [] d y h = refl
imap_same_but f g (x ∷ xs) zero y h = ap (λ ys. y ∷ ys) (imap_same (λ i. f (suc i)) (λ i. g (suc i)) xs (λ i z lt. h (suc i) z (λ e. omega arith)))
imap_same_but f g (x ∷ xs) (suc d) y h =
    let here = h zero x (λ e. omega arith) in
    let rest = imap_same_but (λ i. f (suc i)) (λ i. g (suc i)) xs d y (λ i z ne. h (suc i) z (λ e. ne (omega arith))) in
    cc

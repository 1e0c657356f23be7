-- Digits decoded from the front: what is decoded and what is left are the whole.
use Rattle.std.proofs.Common.{◌≡◌, ℕ, ◌+◌, ◌*◌, List, [], ◌∷◌, ◌++◌, length, get_or, drop, Some, None, Option, sym, refl, ap, ◌∙◌, append_assoc, append-nil, arith}
use Rattle.std.proofs.lemmas.List.{drop_at, drop-drop, get_or-drop}
use Rattle.console.specs.Hex.{byte_value, with_first, hex_bytes}

-- bytes before those of the digits that are left
abbrev pub after : List ℕ → Option (List ℕ) → Option (List ℕ)
after xs None = None
after xs (Some ys) = Some (xs ++ ys)

pub after_nothing : (o : Option (List ℕ)) → after [] o ≡ o
after_nothing None = refl
after_nothing (Some ys) = refl

after_first : (xs : List ℕ) (b : ℕ) (o : Option (List ℕ)) → after xs (with_first (Some b) o) ≡ after (xs ++ b ∷ []) o
after_first xs b None = refl
after_first xs b (Some ys) = ap (λ l. Some l) (sym (append_assoc xs (b ∷ []) ys))

-- a pair of digits and what stands after it
pub pair_first : (p left : List ℕ) → length p ≡ 2 → p ++ left ≡ get_or p 0 0 ∷ get_or p 1 0 ∷ left
pair_first (h ∷ l ∷ []) left e = refl
pair_first [] left e = absurd (omega (arith, e))
pair_first (h ∷ []) left e = absurd (omega (arith, e))
pair_first (h ∷ l ∷ c ∷ cs) left e = absurd (omega (arith, e))

-- after a pair come the digits from two places further on
pub left_after : (cs p left : List ℕ) (k k' : ℕ) → p ++ left ≡ drop (2 * k) cs → length p ≡ 2 → k' ≡ k + 1 → left ≡ drop (2 * k') cs
left_after cs p left k k' e n s =
    let on : 2 * k + 2 ≡ 2 * k' = omega (arith, s) in
    sym (drop_at p left 2 n) ∙ ap (λ l. drop 2 l) e ∙ drop-drop 2 (2 * k) cs ∙ ap (λ i. drop i cs) on

-- the digits at a place
digit_at : (cs rest : List ℕ) (k i : ℕ) → rest ≡ drop k cs → get_or cs (k + i) 0 ≡ get_or rest i 0
digit_at cs rest k i e = sym (get_or-drop k cs i 0) ∙ ap (λ r. get_or r i 0) (sym e)

pub no_byte : (cs left : List ℕ) (h l k : ℕ) → h ∷ l ∷ left ≡ drop k cs → byte_value h l ≡ None → byte_value (get_or cs k 0) (get_or cs (k + 1) 0) ≡ None
no_byte cs left h l k e n =
    let z : k ≡ k + 0 = omega arith in
    ap (λ i. byte_value (get_or cs i 0) (get_or cs (k + 1) 0)) z
    ∙ ap (λ c. byte_value c (get_or cs (k + 1) 0)) (digit_at cs (h ∷ l ∷ left) k 0 e)
    ∙ ap (λ c. byte_value h c) (digit_at cs (h ∷ l ∷ left) k 1 e)
    ∙ n

pub more : (cs xs : List ℕ) (h l b : ℕ) (left : List ℕ) → byte_value h l ≡ Some b →
    after xs (hex_bytes (h ∷ l ∷ left)) ≡ hex_bytes cs → after (xs ++ b ∷ []) (hex_bytes left) ≡ hex_bytes cs
more cs xs h l b left e inv =
    sym (after_first xs b (hex_bytes left)) ∙ ap (λ o. after xs (with_first o (hex_bytes left))) (sym e) ∙ inv

pub bad : (cs xs : List ℕ) (h l : ℕ) (left : List ℕ) → byte_value h l ≡ None →
    after xs (hex_bytes (h ∷ l ∷ left)) ≡ hex_bytes cs → hex_bytes cs ≡ None
bad cs xs h l left e inv =
    sym inv ∙ ap (λ o. after xs (with_first o (hex_bytes left))) e

pub whole : (cs xs left : List ℕ) → length left ≡ 0 → after xs (hex_bytes left) ≡ hex_bytes cs → hex_bytes cs ≡ Some xs
whole cs xs [] n inv = sym inv ∙ ap (λ l. Some l) (append-nil xs)
whole cs xs (h ∷ left) n inv = absurd (omega (arith, n))

pub odd : (cs xs left : List ℕ) → length left ≡ 1 → after xs (hex_bytes left) ≡ hex_bytes cs → hex_bytes cs ≡ None
odd cs xs (h ∷ []) n inv = sym inv
odd cs xs [] n inv = absurd (omega (arith, n))
odd cs xs (h ∷ l ∷ left) n inv = absurd (omega (arith, n))

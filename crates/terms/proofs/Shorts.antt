-- Short byte strings: the zeros after their bytes, and what they hold.
use Rattle.std.proofs.Common.{◌≡◌, ℕ, ◌+◌, ◌-◌, ◌≤◌, List, length, drop, replicate, sym, refl, ap, ◌∙◌, arith}
use borrow.Rule.Slice.PartMut.{put_mid}
use Rattle.std.proofs.lemmas.List.{drop-drop, drop-replicate}
use Rattle.std.proofs.lemmas.Slice.{drop-put_mid}

-- what follows the bytes is still zeros once more bytes are written over the first of them
pub padded_more : (N len p : ℕ) (xs ys : List ℕ) → len + p ≤ N → len ≤ length xs → length ys ≡ p → drop len xs ≡ replicate (N - len) 0 → drop (len + p) (put_mid len (len + p - len) xs ys) ≡ replicate (N - (len + p)) 0
padded_more N len p xs ys h w l z =
    let past = drop-put_mid len (len + p - len) xs ys (len + p) (omega arith) w (omega (arith, l)) in
    let left = sym (drop-drop p len xs) ∙ ap (drop p) z ∙ drop-replicate p (N - len) 0 in
    let less : N - len - p ≡ N - (len + p) = omega arith in
    rw (past, left, less) refl

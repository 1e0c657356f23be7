-- Parts of a list of bytes. Assumes nothing.
use Rattle.std.proofs.Common.{◌≡◌, ℕ, ◌+◌, ◌-◌, ◌<◌, ◌≤◌, min, List, length, take, drop, sym, ap, ◌∙◌, ⊎_elim, arith}
use Rattle.std.proofs.lemmas.List.{length-append, length-drop, length-take, take_all}
use Rattle.std.proofs.lemmas.Bool.{cases_lt}
use Rattle.store.specs.Meaning.{part}
use Rattle.store.specs.Memory.{overwritten}

-- as many as are left and the buffer holds
pub part_is : (bs : List ℕ) (from room n : ℕ) → n ≡ min (length bs - from) room → (take n (drop from bs) ≡ part bs from room) × (length (part bs from room) ≡ n)
part_is bs from room n is =
    let left : length (drop from bs) ≡ length bs - from = length-drop from bs in
    let long : length (part bs from room) ≡ n = length-take room (drop from bs) ∙ omega arith in (
      ⊎_elim
          (λ (few : length bs - from < room).
          let all : length (drop from bs) ≤ n = omega arith in
          let more : length (drop from bs) ≤ room = omega arith in
          take_all n (drop from bs) all ∙ sym (take_all room (drop from bs) more))
          (λ (full : room ≤ length bs - from). let same : n ≡ room = omega arith in ap (λ k. take k (drop from bs)) same)
          (cases_lt (length bs - from) room),
      long,
    )

pub length-overwritten : (mem : List ℕ) (at : ℕ) (piece : List ℕ) → at + length piece ≤ length mem → length (overwritten mem at piece) ≡ length mem
length-overwritten mem at piece r = simp (length-append, length-take, length-drop) (omega arith)

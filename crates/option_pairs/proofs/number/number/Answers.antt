use Rattle.std.proofs.Common.{ℕ, ◌+◌, ◌-◌, ◌*◌, ◌≤◌, List, [], ◌∷◌, get_or, drop, arith}
use Rattle.std.proofs.lemmas.List.{at_drop_more}
use Rattle.option_pairs.specs.Number.{read_on}
use Rattle.option_pairs.proofs.number.number.Goals as goal

grows : (n : ℕ) (bs : List ℕ) → n ≤ read_on n bs
grows n [] = omega arith
grows n (b ∷ bs) = omega (arith, grows (10 * n + (b - 48)) bs)

pub returns-then-n-gt4294967295 : goal.returns-then-n-gt4294967295
returns-then-n-gt4294967295 c p =
    let a = at_drop_more (read_on c.loop-b.n) c.args.value.now c.loop-b.b-index 0 c.loop-b-test.true in
    let g = grows (10 * c.loop-b.n + (get_or c.args.value.now c.loop-b.b-index 0 - 48)) (drop (c.loop-b.b-index + 1) c.args.value.now) in
    omega (arith, p.limit)

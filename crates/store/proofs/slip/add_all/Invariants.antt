use Rattle.std.proofs.Common.{◌≡◌, ℕ, List, ◌++◌, set, Some}
use Rattle.store.proofs.slip.add_all.Given as goal

-- the draft has what is done of the text
abbrev pub invariant-loop-piece : goal.invariant-loop-piece
invariant-loop-piece g l =
    (done : List ℕ)
    × (l.piece-iterator.size ≡ 1468)
    × (l.text ≡ done ++ l.piece-iterator.rest.now)
    × (g.S.Store.items l.store ≡ g.S.Store.items l.initial.store)
    × (g.S.Store.drafts l.store ≡ set (g.S.Store.drafts l.initial.store) 4 (Some done))

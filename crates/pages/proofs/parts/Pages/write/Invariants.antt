use Rattle.std.proofs.Common.{◌≡◌, ◌+◌, List, ℕ, ◌++◌, length}
use Rattle.pages.specs.Changes.{Extends}
use Rattle.pages.proofs.parts.Pages.write.Given as goal

-- what is done of the piece is there
abbrev pub invariant-loop-rest : goal.invariant-loop-rest
invariant-loop-rest l = (done : List ℕ) × (l.piece ≡ done ++ l.rest) × (l.at ≡ l.len + length done) × Extends l.initial.self l.self l.who l.len done

abbrev pub decreases-loop-rest : goal.decreases-loop-rest
decreases-loop-rest l = length l.rest

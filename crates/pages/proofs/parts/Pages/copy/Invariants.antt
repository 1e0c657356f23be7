use Rattle.std.proofs.Common.{◌≡◌, ◌-◌, ◌≤◌, ◌++◌, length, take, drop}
use Rattle.store.specs.Meaning.{part}
use Rattle.pages.specs.Layout.{texts, flat}
use Rattle.pages.proofs.parts.Pages.copy.Given as goal

-- what the pages so far give
abbrev pub invariant-loop-page : goal.invariant-loop-page
invariant-loop-page l =
    (l.buf ≡ part (flat (texts l.who (take l.page-index l.self.taken.items))) l.from (length l.initial.buf) ++ drop l.done l.initial.buf)
    × (l.done ≡ length (part (flat (texts l.who (take l.page-index l.self.taken.items))) l.from (length l.initial.buf)))
    × (l.skip ≡ l.from - length (flat (texts l.who (take l.page-index l.self.taken.items))))
    × (l.done ≤ length l.initial.buf)

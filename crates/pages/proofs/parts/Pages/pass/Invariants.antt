use Rattle.std.proofs.Common.{◌≡◌, ◌++◌, map, take, drop}
use Rattle.pages.specs.Layout.{passed}
use Rattle.pages.proofs.parts.Pages.pass.Given as goal

abbrev pub invariant-loop-page : goal.invariant-loop-page
invariant-loop-page l = l.page-items ≡ map (passed l.from l.to) (take l.page-index l.initial.page-items) ++ drop l.page-index l.initial.page-items

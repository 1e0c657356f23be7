use Rattle.std.proofs.Common.{refl}
use Rattle.std.proofs.lemmas.List.{take_rest}
use Rattle.option_pairs.proofs.Going.{skip, name_ends, value_ends, caught, ended}
use Rattle.option_pairs.proofs.scan.scan_pairs.Goals as goal
use Rattle.option_pairs.proofs.scan.scan_pairs.Goals.{then-b-eq0+in-Some+else-has_name, then-b-eq0+in_default, else-b-eq0}

pub returns-then-has_name : goal.returns-then-has_name
returns-then-has_name c =
    caught _ _ _ _ c.in-Some.n _ c.loop-i-test.true c.if-b-eq0.true
    (λ ps a. c.if-has_name.ensures ps (rw take_rest a)) (rw c.in-Some.is at c.loop-i.invariant)

pub loop-i-preserved : goal.loop-i-preserved
loop-i-preserved c =
    elim c.if-b-eq0.branch [
      | then-b-eq0+in-Some+else-has_name w ↦
          rw (w.start-is, w.name-is, w.scan-is)
          (value_ends _ _ _ _ w.in-Some.n _ _ _ c.loop-i-test.true w.if-b-eq0.true refl
          (λ ps a. w.if-has_name.ensures ps (rw take_rest a))
          w.note-scan.ensures
          (rw w.in-Some.is at c.loop-i.invariant))
      | then-b-eq0+in_default w ↦
          rw (w.start-is, w.name-is, w.scan-is)
          (name_ends _ _ _ _ _ _ c.loop-i-test.true w.if-b-eq0.true refl (rw w.in_default.is at c.loop-i.invariant))
      | else-b-eq0 w ↦ rw (w.start-is, w.name-is, w.scan-is) (skip _ _ _ _ _ _ w.if-b-eq0.false c.loop-i.invariant)
    ]

pub returns : goal.returns
returns c = ended _ _ _ _ _ _ c.loop-i-test.false c.loop-i.invariant

use Rattle.std.proofs.Common.{refl, arith, rules}
use Rattle.std.proofs.lemmas.Bool.Decides.{nat_tests}
use Rattle.grammar.specs.Grammar.{Paired}
use Rattle.grammar.proofs.Bytes.{no_cut, one_cut}
use Rattle.wire.proofs.Bytes.{asks_none, asks_some, taken_not}
use Rattle.wire.proofs.reading.read_request.Goals as goal

pub returns-in_err-name : goal.returns-in_err-name
returns-in_err-name c = taken_not _ _ _ (search rules) (λ m i. asks_none m _ _ i (search rules))

pub returns-in_err-mode : goal.returns-in_err-mode
returns-in_err-mode c =
    taken_not _ _ _ (search rules)
    (λ m i. let f = asks_some m _ _ c.in_ok-name.name.now c.in_ok-name.after.now i (search rules) in
    no_cut f.0 f.1 c.in_ok-name.after.now f.2 (search rules))

pub returns-then-not-is_paired : goal.returns-then-not-is_paired
returns-then-not-is_paired c = (
  refl,
  λ m i. let f = asks_some m _ _ c.in_ok-name.name.now c.in_ok-name.after.now i (search rules) in
      let s = one_cut f.0 c.in_ok-mode.mode.now f.1 c.in_ok-mode.pairs.now c.in_ok-name.after.now f.2 (search rules) in
      let p : Paired c.in_ok-mode.pairs.now = rw s.1 at f.3 in
      let b = c.is_paired.ensures.1 p in grind (arith, nat_tests),
)

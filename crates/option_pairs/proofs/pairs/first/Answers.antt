use Rattle.grammar.proofs.Bytes.{one_cut, no_cut}
use Rattle.option_pairs.proofs.pairs.first.Goals as goal

pub returns-in_err-name : goal.returns-in_err-name
returns-in_err-name c = rw c.from_residual.ensures (λ n v r b. no_cut n _ _ b.name c.in_err-name.ensures)

pub returns-in_err-value : goal.returns-in_err-value
returns-in_err-value c =
    rw c.from_residual-in_err-value.ensures
    (λ n v r b. let s = one_cut n _ b.after _ _ b.name c.in_ok-name.ensures in no_cut v r _ (rw s.1 at b.value) c.in_err-value.ensures)

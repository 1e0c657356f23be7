use Rattle.std.proofs.Common.{true, false, refl, rules}
use Rattle.option_pairs.proofs.AnyNamed.{any_named}
use Rattle.option_pairs.proofs.pairs.has_name.Goals as goal

pub returns : goal.returns
returns c ps a =
    let r = c.any.ensures.ran in
    any_named _ c.args.name.now _ (λ x b q k. elim b [ true ↦ search rules | false ↦ search rules ]) r.0 r.1 _ r.3.0 _ _ r.2 _ refl r.3.1 r.3.2 r.4 r.5 ps a

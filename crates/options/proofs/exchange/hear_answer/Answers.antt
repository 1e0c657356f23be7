use Rattle.std.proofs.Common.{refl, ap, inr}
use Rattle.options.proofs.exchange.hear_answer.Goals as goal

pub returns-in_default : goal.returns-in_default
returns-in_default c =
    let u = c.unagreed.ensures in
    inr (c.in_default.ensures, (_, refl, record { size = u.0; window = u.1; wait = ap (λ p. p.wait) u.2; tries = ap (λ p. p.tries) u.2 }))

use Rattle.std.proofs.Common.{sym, refl, ◌∙◌, subst}
use Rattle.options.specs.Agreement.{Settled}
use Rattle.options.proofs.Exchanging.{offer_ok, offer_err, heard_ok, heard_err, same_wait}
use Rattle.options.proofs.exchange.exchange_options.Goals as goal

pub returns-in_err-offer : goal.returns-in_err-offer
returns-in_err-offer c =
    let a = c.in_ok-asked.ensures in
    absurd (offer_err c.args.shield.tries c.args.ask.blksize c.args.ask.timeout c.args.ask.windowsize a.0 c.args.cabin _ _ a.1 c.in_err-offer.ensures)

pub returns-in_err-held : goal.returns-in_err-held
returns-in_err-held c =
    let a = c.in_ok-asked.ensures in
    let o = offer_ok c.args.shield.tries c.args.ask.blksize c.args.ask.timeout c.args.ask.windowsize a.0 c.args.cabin _ _ a.1 c.in_ok-offer.ensures in
    absurd (heard_err c.args.shield.tries c.args.ask.blksize c.args.ask.timeout c.args.ask.windowsize a.0 c.args.shield refl c.args.cabin.tries _ _ _ a.1 o.0 c.in_err-held.ensures)

pub returns : goal.returns
returns c =
    let a = c.in_ok-asked.ensures in
    let o = offer_ok c.args.shield.tries c.args.ask.blksize c.args.ask.timeout c.args.ask.windowsize a.0 c.args.cabin _ _ a.1 c.in_ok-offer.ensures in
    let s = heard_ok c.args.shield.tries c.args.ask.blksize c.args.ask.timeout c.args.ask.windowsize a.0 c.args.shield c.args.cabin.tries _ _ _ a.1 o.0 c.in_ok-held.ensures in
    let k = subst (λ x. Settled c.args.cabin x c.in_ok-offer.offer.agreed) o.0 o.1 in
    record {
      asked = a.0;
      shield_holds = s;
      cabin_holds = k;
      size = s.size ∙ sym k.size;
      window = s.window ∙ sym k.window;
      wait = same_wait c.args.ask.timeout c.args.shield c.args.cabin c.args.ask.blksize c.args.ask.windowsize _ _ s k;
    }

use Rattle.std.proofs.Common.{sym, subst}
use Rattle.terms.specs.Sides.{opposite}
use Rattle.channel.specs.declared.tallies.Tallies.{Tallies}
use Rattle.channel.specs.Meaning.{Raised}
use Rattle.channel.specs.Packet.{body}
use Rattle.channel.specs.Tallies.{tally_in}
use Rattle.ring.specs.Waiting.{waiting, Appended}
use Rattle.ring.proofs.Rings.{put_within, appended_after_raise}
use Rattle.ring.proofs.ring.RingChannel.put.Goals as goal

pub returns : goal.returns
returns c =
    let from = c.args.from in
    let before = c.args.self.now in
    let after = c.append.new.self in
    let made = c.in_ok-datagram.ensures in
    let moved : Appended (opposite from) (body c.args.source c.args.target c.args.bytes.now) before after =
    rw (← c.opposite.ensures, ← made.1) (appended_after_raise c.opposite.result _ before after c.raise.new.self c.append.ensures.queues) in
    let Told : Tallies → Type 0 = λ t. Raised from (tally_in before.tallies) (tally_in t) in
    record {
      meaning = record {
        fits = made.0;
        within = λ p. put_within (waiting before) (waiting after) from _ _ moved.there moved.here p.from p.body;
        tallies = subst Told (sym c.append.ensures.tallies) c.raise.ensures;
      };
      step = moved;
    }

use Rattle.std.proofs.Common.{Some, ap, arith}
use Rattle.channel.specs.Packet.{in_front}
use Rattle.channel.specs.Tallies.{tally_in}
use Rattle.channel.proofs.Fronts.{unwritten, said_in_front, handed_out}
use Rattle.ring.specs.Meaning.{ring_afloat}
use Rattle.ring.specs.Waiting.{waiting, Removed}
use Rattle.ring.proofs.Rings.{front_was, take_within}
use Rattle.ring.proofs.ring.RingChannel.take.Goals as goal

pub returns-in-Some-remove : goal.returns-in-Some-remove
returns-in-Some-remove c =
    let side = c.args.side in
    let before = c.args.self.now in
    let after = c.remove.new.self in
    let chunk = c.in-Some.ensures.cases in
    let said = c.in-Some-remove.ensures in
    let out = c.write_to.ensures in
    let written = c.write_to.new.buf in
    let got = in_front c.write_to.result written in
    let gone : Removed side (Some got) before after = rw out.front said.queues in
    record {
      meaning = record {
        room = chunk.enough;
        answer = handed_out (ring_afloat before) side c.write_to.result c.in-Some.front.now written c.args.buf.now chunk.enough chunk.same out.whole out.fits out.rest (front_was (waiting before) side got gone.front);
        within = λ p. take_within (waiting before) (waiting after) side gone.there gone.here p.from p.body;
        tallies = λ s. ap (λ t. tally_in t s) said.tallies;
      };
      step = rw (said_in_front c.write_to.result written _ (omega (arith, out.fits, out.whole))) gone;
    }

pub returns-in-None : goal.returns-in-None
returns-in-None c =
    let side = c.args.side in
    let before = c.args.self.now in
    let after = c.remove.new.self in
    let said = c.in-None.ensures in
    let chunk = c.in-Some.ensures.cases in
    record {
      meaning = record {
        room = chunk.enough;
        answer = unwritten c.in-Some.front.now c.args.buf.now 1472 chunk.same;
        within = λ p. take_within (waiting before) (waiting after) side said.queues.there said.queues.here p.from p.body;
        tallies = λ s. ap (λ t. tally_in t s) said.tallies;
      };
      step = said.queues;
    }

use Rattle.std.proofs.Common.{Some, sym, ap, subst, arith}
use mathlib.Core.List.{Memᴰ}
use Rattle.channel.specs.Packet.{in_front}
use Rattle.channel.specs.Tallies.{tally_in}
use Rattle.channel.proofs.Fronts.{unwritten, said_in_front, handed_out}
use Rattle.drawer.specs.Keeping.{keeps, picks_left, Drawn}
use Rattle.drawer.specs.Meaning.{drawer_afloat}
use Rattle.drawer.proofs.Keeps.{picked_was}
use Rattle.drawer.proofs.drawer.DrawerChannel.take.Goals as goal

pub returns-in-Some-draw : goal.returns-in-Some-draw
returns-in-Some-draw c =
    let side = c.args.side in
    let before = c.args.self.now in
    let chunk = c.in-Some.ensures.cases in
    let said = c.in-Some-draw.ensures in
    let out = c.write_to.ensures in
    let written = c.write_to.new.buf in
    let got = in_front c.write_to.result written in
    let drawn : Drawn side (Some got) before c.draw.new.self = rw out.front said.drawn in
    record {
      meaning = record {
        room = chunk.enough;
        answer = handed_out (drawer_afloat before) side c.write_to.result c.in-Some.front.now written c.args.buf.now chunk.enough chunk.same out.whole out.fits out.rest (picked_was side (keeps before) (picks_left before) got (sym drawn.told));
        within = λ p. subst (Memᴰ p) drawn.kept;
        tallies = λ s. ap (λ t. tally_in t s) said.tallies;
      };
      step = rw (said_in_front c.write_to.result written _ (omega (arith, out.fits, out.whole))) drawn;
    }

pub returns-in-None : goal.returns-in-None
returns-in-None c =
    let said = c.in-None.ensures in
    let chunk = c.in-Some.ensures.cases in
    record {
      meaning = record {
        room = chunk.enough;
        answer = unwritten c.in-Some.front.now c.args.buf.now 1472 chunk.same;
        within = λ p. subst (Memᴰ p) said.drawn.kept;
        tallies = λ s. ap (λ t. tally_in t s) said.tallies;
      };
      step = said.drawn;
    }

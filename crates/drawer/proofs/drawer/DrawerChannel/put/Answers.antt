use Rattle.std.proofs.Common.{sym, subst}
use mathlib.Core.List.{Memᴰ}
use Rattle.channel.specs.declared.tallies.Tallies.{Tallies}
use Rattle.channel.specs.Meaning.{Raised}
use Rattle.channel.specs.Packet.{body, packet}
use Rattle.channel.specs.Tallies.{tally_in}
use Rattle.drawer.specs.Keeping.{keeps, OneKept}
use Rattle.channel.proofs.Members.{of_more}
use Rattle.drawer.proofs.drawer.DrawerChannel.put.Goals as goal

pub returns : goal.returns
returns c =
    let from = c.args.from in
    let before = c.args.self.now in
    let after = c.keep.new.self in
    let made = c.in_ok-datagram.ensures in
    let said = c.keep.ensures.kept in
    let more : OneKept (packet from (body c.args.source c.args.target c.args.bytes.now)) before after =
    rw (← made.1) (record { kept = said.kept; room = said.room; picks = said.picks }) in
    let Told : Tallies → Type 0 = λ t. Raised from (tally_in before.tallies) (tally_in t) in
    record {
      meaning = record {
        fits = made.0;
        within = λ p m. of_more (keeps before) _ p _ (subst (Memᴰ p) more.kept m);
        tallies = subst Told (sym c.keep.ensures.tallies) c.raise.ensures;
      };
      step = more;
    }

use Rattle.std.proofs.Common.{refl}
use Rattle.terms.specs.declared.side.Side.TheVariants.{Shield, Cabin}
use Rattle.channel.specs.Packet.{holds}
use Rattle.ring.proofs.Rings.{pushed}
use Rattle.ring.proofs.ring.Ring.append.Goals as goal

pub returns-in-Shield : goal.returns-in-Shield
returns-in-Shield c =
    let said = c.push-kept.ensures in
    record {
      queues = rw c.in-Shield.is (record {
        there = pushed holds _ _ c.args.datagram _ _ said.answer said.after;
        here = refl;
        places = elim [ Shield ↦ said.places | Cabin ↦ refl ];
      });
      tallies = refl;
    }

pub returns-in-Cabin : goal.returns-in-Cabin
returns-in-Cabin c =
    let said = c.push-kept-in-Cabin.ensures in
    record {
      queues = rw c.in-Cabin.is (record {
        there = pushed holds _ _ c.args.datagram _ _ said.answer said.after;
        here = refl;
        places = elim [ Shield ↦ refl | Cabin ↦ said.places ];
      });
      tallies = refl;
    }

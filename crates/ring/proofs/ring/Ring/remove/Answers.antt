use Rattle.std.proofs.Common.{refl}
use Rattle.terms.specs.declared.side.Side.TheVariants.{Shield, Cabin}
use Rattle.channel.specs.Packet.{holds}
use Rattle.ring.proofs.Rings.{popped_front, popped_rest}
use Rattle.ring.proofs.ring.Ring.remove.Goals as goal

pub returns-in-Shield : goal.returns-in-Shield
returns-in-Shield c =
    let said = c.pop.ensures in
    record {
      queues = rw c.in-Shield.is (record {
        front = popped_front holds _ c.pop.result said.front;
        there = popped_rest holds _ _ said.rest;
        here = refl;
        places = elim [ Shield ↦ said.places | Cabin ↦ refl ];
      });
      tallies = refl;
    }

pub returns-in-Cabin : goal.returns-in-Cabin
returns-in-Cabin c =
    let said = c.pop-in-Cabin.ensures in
    record {
      queues = rw c.in-Cabin.is (record {
        front = popped_front holds _ c.pop-in-Cabin.result said.front;
        there = popped_rest holds _ _ said.rest;
        here = refl;
        places = elim [ Shield ↦ refl | Cabin ↦ said.places ];
      });
      tallies = refl;
    }

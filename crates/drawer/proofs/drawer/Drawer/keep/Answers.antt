use Rattle.std.proofs.Common.{refl, arith, length-set}
use Rattle.drawer.specs.Keeping.{packet_of}
use Rattle.drawer.proofs.Keeps.{stored, full}
use Rattle.drawer.proofs.drawer.Drawer.keep.Goals as goal

pub returns-then-at-self : goal.returns-then-at-self
returns-then-at-self c =
    let d = c.args.self.now in
    record {
      kept = record { kept = stored packet_of d.slots.now d.count _ (omega arith); room = length-set _ _ _; picks = refl };
      tallies = refl;
    }

pub returns-else-at-self : goal.returns-else-at-self
returns-else-at-self c =
    let d = c.args.self.now in
    record {
      kept = record { kept = full packet_of d.slots.now d.count _ (omega arith); room = refl; picks = refl };
      tallies = refl;
    }

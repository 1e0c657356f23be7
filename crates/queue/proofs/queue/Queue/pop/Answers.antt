use Rattle.std.proofs.Common.{refl, ◌∙◌, inl, inr, arith}
use Rattle.queue.proofs.Queues.{length_waiting, Front, pop_front}
use Rattle.queue.proofs.queue.Queue.pop.Goals as goal
use Rattle.queue.proofs.queue.Queue.pop.Goals.{then-self, else-self}

pub bounds-self-at : goal.bounds-self-at
bounds-self-at g c =
    let q = c.args.self.now in
    let wait = length_waiting q.slots.now q.head q.count in
    elim c.if-self.branch [ then-self w ↦ omega (arith, w.at-is) | else-self w ↦ omega (arith, w.at-is) ]

pub returns : goal.returns
unfolding Front
returns g c =
    let q = c.args.self.now in
    let xs = q.slots.now in
    let wait = length_waiting xs q.head q.count in
    let first : Front xs q.head c.if-self.at =
    elim c.if-self.branch [ then-self w ↦ inl (omega arith, w.at-is) | else-self w ↦ inr (omega arith, w.at-is) ] in
    let off = pop_front xs q.head c.if-self.at q.count c.len-len.result c.index-self-at.result (c.len-len.ensures ∙ wait) (omega arith) (omega (arith, first)) first in
    record { front = rw off refl; rest = rw off refl; places = refl }

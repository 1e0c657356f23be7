use Rattle.std.proofs.Common.{sym, refl, inl, inr, append-nil, arith, length-set, rules}
use Rattle.queue.proofs.Queues.{length_waiting, Place, push_back}
use Rattle.queue.proofs.queue.Queue.push.Goals as goal
use Rattle.queue.proofs.queue.Queue.push.Goals.{then-len-room, else-len-room}

pub returns-then-len-self : goal.returns-then-len-self
returns-then-len-self g c =
    let q = c.args.self.now in
    let wait = length_waiting q.slots.now q.head q.count in
    record { answer = search rules; after = sym (append-nil _); full = λ _. refl; places = refl }

pub returns : goal.returns
unfolding Place
returns g c =
    let q = c.args.self.now in
    let xs = q.slots.now in
    let wait = length_waiting xs q.head q.count in
    let place : Place xs q.head q.count c.if-len-room.at =
    elim c.if-len-room.branch [ then-len-room w ↦ inl (omega arith, omega (arith, w.at-is)) | else-len-room w ↦ inr (omega arith, omega (arith, w.at-is)) ] in
    record {
      answer = search rules;
      after = push_back xs q.head q.count c.if-len-room.at c.args.element (omega arith) place;
      full = λ e. cc;
      places = simp length-set;
    }

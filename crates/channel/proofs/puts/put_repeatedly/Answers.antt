use Rattle.std.proofs.Common.{refl, inl, inr}
use Rattle.channel.specs.Sent.{none}
use Rattle.channel.proofs.Turns.{once_more}
use Rattle.channel.proofs.puts.put_repeatedly.Goals as goal

pub loop-init : goal.loop-init
loop-init g c = record { sent = none; fits = inr (refl, refl) }

pub loop-preserved : goal.loop-preserved
loop-preserved g c =
    let put = c.in_ok-put.ensures in
    record {
      sent = once_more g.C.Channel.posts _ _ _ c.loop.counter _ c.loop.invariant.sent put.step;
      fits = inl put.meaning.fits;
    }

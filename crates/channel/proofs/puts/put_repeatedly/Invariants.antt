use Rattle.std.proofs.Common.{replicate, ◌≡◌, ◌≤◌, ◌⊎◌, length}
use Rattle.channel.specs.Packet.{packet, body}
use Rattle.channel.specs.Sent.{Sent}
use Rattle.channel.proofs.puts.put_repeatedly.Given as goal

abbrev pub invariant-loop : goal.invariant-loop
invariant-loop g l = record {
  sent : Sent g.C.Channel.posts l.fn.channel (replicate l.counter (packet l.fn.from (body l.fn.source l.fn.target l.fn.bytes))) l.channel;
  fits : (length l.fn.bytes ≤ 1472) ⊎ ((l.counter ≡ 0) × (l.channel ≡ l.fn.channel));
}

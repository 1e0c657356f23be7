use Rattle.channel.proofs.Turns.{in_turn}
use Rattle.channel.proofs.puts.puts_in_turn.Goals as goal

pub returns : goal.returns
returns g c = in_turn g.C.Channel.posts

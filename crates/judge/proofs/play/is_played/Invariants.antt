-- `judge::play::is_played` meets its contract. The invariant: the order plays exactly if the rest of it plays on the queue kept. Assumes nothing.
use Rattle.judge.proofs.PlayLaws.{Left}
use Rattle.judge.proofs.play.is_played.Given as goal

abbrev pub invariant-loop-o : goal.invariant-loop-o
invariant-loop-o l = Left l.table l.history l.marks l.order l.o-index l.queue

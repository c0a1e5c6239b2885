-- What a replay leaves of the tree that it starts from.
use Rattle.tree_log.specs.Tree.{Tree}
use Rattle.tree_log.specs.Replay.{Replayed, Applied, Faulty}

-- "and the .. tables stay at the starting state"
unfoldable pub leaves : Tree → Replayed → Tree
leaves S (Applied R n) = R
leaves S Faulty = S

-- Document 02, W11: replay of a log.
use Rattle.std.specs.Prelude.{cond, List, [], ◌∷◌, ℕ, length}
use Rattle.access.specs.Errno.{EBADMSG}
use Rattle.access.specs.declared.errno.Reply.TheVariants.{Done}
use Rattle.policy.specs.Fields.{Piece, field, stray, pieces}
use Rattle.named.specs.Named.{Named, NamedOutcome, named_outcome, named_refused, named_call}
use Rattle.tree_log.specs.Changes.{Read, Listed, Unlisted, read_field}
use Rattle.tree_log.specs.Tree.{Tree, tree_of, with_tree, changed, fits}

-- what a log comes to on a tree: the tree after it and the bytes dropped at its tail, or a field that is EBADMSG
pub data Replayed : Type 0 where
  Applied : Tree → ℕ → Replayed
  Faulty : Replayed

-- a whole field, and what comes of the rest. "A whole field of unknown tag, with a value not listed in docs/, or whose call (thread, verdict and log apart)
-- would refuse or change nothing is EBADMSG"
unfoldable pub on_read : Read → Tree → (Tree → Replayed) → Replayed
on_read (Listed c) S rest = let r = rest (changed S c) in cond (fits S c) r Faulty
on_read Unlisted S rest = Faulty

-- whole fields in order; the bytes at the tail that are no whole field are dropped and counted, whatever they are
unfoldable pub replayed : List Piece → Tree → Replayed
replayed [] S = Applied S 0
replayed (stray b ∷ ps) S = Applied S (length b)
replayed (field t v ∷ ps) S = on_read (read_field t v) S (replayed ps)

-- "reports how many bytes at the tail were dropped"; EBADMSG "and the .. tables stay at the starting state"
unfoldable pub replay_outcome : Named → Replayed → NamedOutcome
replay_outcome N (Applied S n) = named_outcome (Done n) (with_tree N S)
replay_outcome N Faulty = named_refused EBADMSG N

unfoldable pub replay_named : Named → List ℕ → NamedOutcome
replay_named N bs = named_call N [] (replay_outcome N (replayed (pieces bs) (tree_of N)))

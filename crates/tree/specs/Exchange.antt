-- Document 01, "Changing the tree": exchange.
use Rattle.std.specs.Prelude.{not, cond, List, [], ◌∷◌, ◌++◌, ℕ, eqb}
use Rattle.laws.specs.Refusals.{Check, ◌⇒◌}
use Rattle.access.specs.Errno.{ENOENT, ESRCH, EBUSY, ENOTDIR, EINVAL}
use Rattle.access.specs.declared.errno.Reply.TheVariants.{Done}
use Rattle.tables.specs.Tables.{Tables, parent, live, is_dir, thread_live}
use Rattle.tables.specs.Outcome.{Outcome, outcome}
use Rattle.judge.specs.Domain.{domain}
use Rattle.fs.specs.Move.{verdict}
use Rattle.fs.specs.Blame.{naming_move}
use Rattle.sound.specs.Call.{call}
use Rattle.tree.specs.Entries.{is_above, same_object, put_parent, with_entries}
use Rattle.tree.specs.Moves.{exchange_move}

-- "ESRCH; any named entry not live ENOENT"
unfoldable pub exchange_names : Tables → ℕ → ℕ → ℕ → ℕ → List Check
exchange_names T t s d x =
    not (thread_live T.threads t) ⇒ ESRCH
    ∷ not (live T.entries s) ⇒ ENOENT
    ∷ not (live T.entries d) ⇒ ENOENT
    ∷ not (live T.entries x) ⇒ ENOENT
    ∷ []

-- "root as .. exchanged EBUSY; target not a directory ENOTDIR; exchanged entry not a child of P2 EINVAL; source equal to P2 or above it EINVAL;
-- exchanged entry equal to P1 or above it EINVAL"
unfoldable pub exchange_shape : List ℕ → ℕ → ℕ → ℕ → List Check
exchange_shape es s d x =
    eqb s 0 ⇒ EBUSY
    ∷ eqb x 0 ⇒ EBUSY
    ∷ not (is_dir es d) ⇒ ENOTDIR
    ∷ not (eqb (parent es x) d) ⇒ EINVAL
    ∷ is_above es s d ⇒ EINVAL
    ∷ is_above es x (parent es s) ⇒ EINVAL
    ∷ []

unfoldable pub exchange_verdict : Tables → ℕ → ℕ → ℕ → ℕ → List Check
exchange_verdict T t s d x = verdict T.entries T.layers T.pool (domain T.layers T.threads t) (exchange_move T.entries s d x)

unfoldable pub exchange_checks : Tables → ℕ → ℕ → ℕ → ℕ → List Check
exchange_checks T t s d x = exchange_names T t s d x ++ (exchange_shape T.entries s d x ++ exchange_verdict T t s d x)

-- the parents are swapped; "same object on both sides ..: 0, nothing changes"
unfoldable pub swapped : List ℕ → ℕ → ℕ → ℕ → List ℕ
swapped es s d x = cond (same_object es s x) es (put_parent (put_parent es s d) x (parent es s))

unfoldable pub tree_exchange : Tables → ℕ → ℕ → ℕ → ℕ → Outcome
tree_exchange T t s d x =
    naming_move T t (exchange_move T.entries s d x) (call T (exchange_checks T t s d x) (outcome (Done 0) (with_entries T (swapped T.entries s d x))))

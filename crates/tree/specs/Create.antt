-- Document 01, "Changing the tree": create and remove.
use Rattle.std.specs.Prelude.{not, List, [], ◌∷◌, ◌++◌, ℕ, ◌+◌, eqb, ltb, leb, set}
use Rattle.laws.specs.Refusals.{Check, ◌⇒◌}
use Rattle.access.specs.Errno.{ENOENT, ESRCH, EACCES, EBUSY, ENOTDIR, EINVAL, ENOSPC, ENOTEMPTY}
use Rattle.access.specs.Kinds.{kind_of}
use Rattle.access.specs.Limits.{max_entries, max_counter}
use Rattle.access.specs.declared.errno.Reply.TheVariants.{Done}
use Rattle.tables.specs.Tables.{Tables, tables, counter, kind, parent, live, is_dir, thread_live}
use Rattle.tables.specs.Outcome.{Outcome, outcome}
use Rattle.judge.specs.Domain.{domain, lacks}
use Rattle.judge.specs.Blame.{naming_entry}
use Rattle.fs.specs.Needs.{make_of, remove_of}
use Rattle.sound.specs.Call.{call}
use Rattle.tree.specs.Entries.{free_entry, unknown_kind, is_full, put_entry, free_row, with_entries}

-- "ESRCH; any named entry not live ENOENT; target not a directory ENOTDIR; unknown kind EINVAL"
unfoldable pub create_shape : Tables → ℕ → ℕ → ℕ → List Check
create_shape T t d k =
    not (thread_live T.threads t) ⇒ ESRCH
    ∷ not (live T.entries d) ⇒ ENOENT
    ∷ not (is_dir T.entries d) ⇒ ENOTDIR
    ∷ unknown_kind k ⇒ EINVAL
    ∷ []

-- "create kind k": MAKE k at P2
unfoldable pub create_verdict : Tables → ℕ → ℕ → ℕ → List Check
create_verdict T t d k = lacks T.entries T.layers T.pool (domain T.layers T.threads t) d (make_of (kind_of k)) ⇒ EACCES ∷ []

-- "for create and link no free entry, for create also no object number left, ENOSPC"
unfoldable pub create_later : Tables → List Check
create_later T = not (ltb (free_entry T.entries) max_entries) ⇒ ENOSPC ∷ leb max_counter (counter T.system) ⇒ ENOSPC ∷ []

unfoldable pub tree_create_checks : Tables → ℕ → ℕ → ℕ → List Check
tree_create_checks T t d k = create_shape T t d k ++ (create_verdict T t d k ++ create_later T)

-- the lowest free entry, with the next object number
unfoldable pub tree_created : Tables → ℕ → ℕ → Tables
tree_created T d k =
    tables
    (set T.system 1 (counter T.system + 1))
    (put_entry T.entries (free_entry T.entries) k d (counter T.system))
    T.rulesets
    T.layers
    T.pool
    T.threads

unfoldable pub tree_create : Tables → ℕ → ℕ → ℕ → Outcome
tree_create T t d k =
    naming_entry T t d (make_of (kind_of k)) (call T (tree_create_checks T t d k) (outcome (Done (free_entry T.entries)) (tree_created T d k)))

-- "ESRCH; ENOENT; root .. removed EBUSY"
unfoldable pub remove_shape : Tables → ℕ → ℕ → List Check
remove_shape T t e = not (thread_live T.threads t) ⇒ ESRCH ∷ not (live T.entries e) ⇒ ENOENT ∷ eqb e 0 ⇒ EBUSY ∷ []

-- "remove entry": REMOVE of its kind at P1
unfoldable pub remove_verdict : Tables → ℕ → ℕ → List Check
remove_verdict T t e =
    lacks T.entries T.layers T.pool (domain T.layers T.threads t) (parent T.entries e) (remove_of (kind_of (kind T.entries e))) ⇒ EACCES ∷ []

-- "removed directory not empty ENOTEMPTY"
unfoldable pub remove_later : Tables → ℕ → List Check
remove_later T e = is_full T.entries e ⇒ ENOTEMPTY ∷ []

unfoldable pub remove_checks : Tables → ℕ → ℕ → List Check
remove_checks T t e = remove_shape T t e ++ (remove_verdict T t e ++ remove_later T e)

unfoldable pub tree_remove : Tables → ℕ → ℕ → Outcome
tree_remove T t e =
    naming_entry T t (parent T.entries e) (remove_of (kind_of (kind T.entries e)))
    (call T (remove_checks T t e) (outcome (Done 0) (with_entries T (free_row T.entries e))))

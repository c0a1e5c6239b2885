-- Document 01, "Changing the tree": link.
use Rattle.std.specs.Prelude.{not, List, [], ◌∷◌, ◌++◌, ℕ, eqb, ltb}
use Rattle.laws.specs.Refusals.{Check, ◌⇒◌}
use Rattle.access.specs.Errno.{EPERM, ENOENT, ESRCH, EBUSY, ENOTDIR, ENOSPC}
use Rattle.access.specs.Limits.{max_entries}
use Rattle.access.specs.declared.errno.Reply.TheVariants.{Done}
use Rattle.tables.specs.Tables.{Tables, kind, object, live, is_dir, thread_live}
use Rattle.tables.specs.Outcome.{Outcome, outcome}
use Rattle.judge.specs.Domain.{domain}
use Rattle.fs.specs.Move.{verdict}
use Rattle.fs.specs.Blame.{naming_move}
use Rattle.sound.specs.Call.{call}
use Rattle.tree.specs.Entries.{free_entry, put_entry, with_entries}
use Rattle.tree.specs.Moves.{link_move}

-- "ESRCH; any named entry not live ENOENT; root as source EBUSY; target not a directory ENOTDIR; link of a directory EPERM"
unfoldable pub link_shape : Tables → ℕ → ℕ → ℕ → List Check
link_shape T t s d =
    not (thread_live T.threads t) ⇒ ESRCH
    ∷ not (live T.entries s) ⇒ ENOENT
    ∷ not (live T.entries d) ⇒ ENOENT
    ∷ eqb s 0 ⇒ EBUSY
    ∷ not (is_dir T.entries d) ⇒ ENOTDIR
    ∷ is_dir T.entries s ⇒ EPERM
    ∷ []

unfoldable pub link_verdict : Tables → ℕ → ℕ → ℕ → List Check
link_verdict T t s d = verdict T.entries T.layers T.pool (domain T.layers T.threads t) (link_move T.entries s d)

unfoldable pub link_later : Tables → List Check
link_later T = not (ltb (free_entry T.entries) max_entries) ⇒ ENOSPC ∷ []

unfoldable pub link_checks : Tables → ℕ → ℕ → ℕ → List Check
link_checks T t s d = link_shape T t s d ++ (link_verdict T t s d ++ link_later T)

-- the lowest free entry, of the source's kind and object
unfoldable pub linked : List ℕ → ℕ → ℕ → List ℕ
linked es s d = put_entry es (free_entry es) (kind es s) d (object es s)

unfoldable pub tree_link : Tables → ℕ → ℕ → ℕ → Outcome
tree_link T t s d =
    naming_move T t (link_move T.entries s d) (call T (link_checks T t s d) (outcome (Done (free_entry T.entries)) (with_entries T (linked T.entries s d))))

-- Document 01, "Changing the tree": rename.
use Rattle.std.specs.Prelude.{not, cond, ◌&&◌, List, [], ◌∷◌, ◌++◌, ℕ, eqb}
use Rattle.laws.specs.Refusals.{Check, ◌⇒◌}
use Rattle.access.specs.Errno.{ENOENT, ESRCH, EBUSY, ENOTDIR, EISDIR, EINVAL, ENOTEMPTY}
use Rattle.access.specs.declared.errno.Reply.TheVariants.{Done}
use Rattle.tables.specs.Tables.{Tables, parent, live, is_dir, thread_live}
use Rattle.tables.specs.Outcome.{Outcome, outcome}
use Rattle.judge.specs.Domain.{domain}
use Rattle.fs.specs.Move.{verdict}
use Rattle.fs.specs.Blame.{naming_move}
use Rattle.sound.specs.Call.{call}
use Rattle.tree.specs.declared.Replaced.{Replaced}
use Rattle.tree.specs.declared.Replaced.TheVariants.{None, Entry}
use Rattle.tree.specs.Entries.{is_above, is_full, replacing, same_object, put_parent, free_row, with_entries}
use Rattle.tree.specs.Moves.{rename_move}

-- "ESRCH; any named entry not live ENOENT"
unfoldable pub rename_names : Tables → ℕ → ℕ → ℕ → Replaced → List Check
rename_names T t s d x =
    not (thread_live T.threads t) ⇒ ESRCH
    ∷ not (live T.entries s) ⇒ ENOENT
    ∷ not (live T.entries d) ⇒ ENOENT
    ∷ replacing x (λ y. not (live T.entries y)) ⇒ ENOENT
    ∷ []

-- "root as source, replaced .. EBUSY; target not a directory ENOTDIR; replaced .. entry not a child of P2 EINVAL; source equal to P2 or above it EINVAL"
unfoldable pub rename_shape : List ℕ → ℕ → ℕ → Replaced → List Check
rename_shape es s d x =
    eqb s 0 ⇒ EBUSY
    ∷ replacing x (λ y. eqb y 0) ⇒ EBUSY
    ∷ not (is_dir es d) ⇒ ENOTDIR
    ∷ replacing x (λ y. not (eqb (parent es y) d)) ⇒ EINVAL
    ∷ is_above es s d ⇒ EINVAL
    ∷ []

unfoldable pub rename_verdict : Tables → ℕ → ℕ → ℕ → Replaced → List Check
rename_verdict T t s d x = verdict T.entries T.layers T.pool (domain T.layers T.threads t) (rename_move T.entries s d x)

-- "same object on both sides ..: 0, nothing changes; rename of a directory over a non-directory ENOTDIR, the reverse EISDIR; replaced .. directory not empty ENOTEMPTY"
unfoldable pub rename_later : List ℕ → ℕ → Replaced → List Check
rename_later es s x =
    replacing x (same_object es s) ⇒ 0
    ∷ replacing x (λ y. is_dir es s && not (is_dir es y)) ⇒ ENOTDIR
    ∷ replacing x (λ y. not (is_dir es s) && is_dir es y) ⇒ EISDIR
    ∷ replacing x (is_full es) ⇒ ENOTEMPTY
    ∷ []

unfoldable pub rename_checks : Tables → ℕ → ℕ → ℕ → Replaced → List Check
rename_checks T t s d x = rename_names T t s d x ++ (rename_shape T.entries s d x ++ (rename_verdict T t s d x ++ rename_later T.entries s x))

unfoldable pub dropped : List ℕ → Replaced → List ℕ
dropped es None = es
dropped es (Entry y) = free_row es y

-- "Rename keeps the source's number and frees the replaced one"
unfoldable pub moved : List ℕ → ℕ → ℕ → Replaced → List ℕ
moved es s d x = cond (replacing x (same_object es s)) es (dropped (put_parent es s d) x)

unfoldable pub tree_rename : Tables → ℕ → ℕ → ℕ → Replaced → Outcome
tree_rename T t s d x =
    naming_move T t (rename_move T.entries s d x) (call T (rename_checks T t s d x) (outcome (Done 0) (with_entries T (moved T.entries s d x))))

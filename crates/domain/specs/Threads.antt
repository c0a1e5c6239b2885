-- Document 01, "Clone" and "Mark".
use Rattle.std.specs.Prelude.{cond, not, List, [], ◌∷◌, ℕ, zero, suc, ◌+◌, eqb, ltb}
use Rattle.laws.specs.Tests.{first_below}
use Rattle.laws.specs.Refusals.{Check, ◌⇒◌}
use Rattle.laws.specs.Cells.{put_cell}
use Rattle.access.specs.Errno.{ESRCH, EAGAIN}
use Rattle.access.specs.Limits.{max_threads}
use Rattle.access.specs.declared.errno.Reply.TheVariants.{Done}
use Rattle.tables.specs.Layers.{layer_holders}
use Rattle.tables.specs.Tables.{Tables, tables, layer_width, thread_width, youngest, privs_cell, admin_cell, no_new_privs, admin, thread_live}
use Rattle.tables.specs.Outcome.{Outcome, outcome, with_threads}
use Rattle.sound.specs.Call.{call}

-- "the lowest free thread number"
unfoldable pub free_thread : List ℕ → ℕ
free_thread ts = first_below (λ t. not (thread_live ts t)) max_threads

-- "ESRCH; none free EAGAIN"
unfoldable pub clone_checks : Tables → ℕ → List Check
clone_checks T t = not (thread_live T.threads t) ⇒ ESRCH ∷ not (ltb (free_thread T.threads) max_threads) ⇒ EAGAIN ∷ []

-- "a copy of domain and marks": a live thread u with those of t
unfoldable pub copied_thread : List ℕ → ℕ → ℕ → List ℕ
copied_thread ts u t =
    let a = put_cell ts thread_width u 0 1 in
    let b = put_cell a thread_width u 1 (youngest ts t) in
    let c = put_cell b thread_width u 2 (no_new_privs ts t) in
    put_cell c thread_width u 3 (admin ts t)

-- document 02, W13, "a count of the threads and child layers that hold them": one holder more for the layer that a cell names
unfoldable pub held_more : List ℕ → ℕ → List ℕ
held_more ls zero = ls
held_more ls (suc l) = put_cell ls layer_width l 6 (layer_holders ls l + 1)

-- "A success returns the new .. thread number"
unfoldable pub clone_done : Tables → ℕ → Outcome
clone_done T t =
    let u = free_thread T.threads in
    outcome (Done u) (tables T.system T.entries T.rulesets (held_more T.layers (youngest T.threads t)) T.pool (copied_thread T.threads u t))

unfoldable pub cloned : Tables → ℕ → Outcome
cloned T t = call T (clone_checks T t) (clone_done T t)

-- "ESRCH": the same for both marks
unfoldable pub mark_checks : Tables → ℕ → List Check
mark_checks T t = not (thread_live T.threads t) ⇒ ESRCH ∷ []

-- a mark set to a value, by its cell
unfoldable pub mark_done : Tables → ℕ → ℕ → ℕ → Outcome
mark_done T t k v = outcome (Done 0) (with_threads T (put_cell T.threads thread_width t k v))

-- "Mark sets no_new_privs, once for all"
unfoldable pub privs_set : Tables → ℕ → Outcome
privs_set T t = call T (mark_checks T t) (mark_done T t privs_cell 1)

-- "the admin mark is the caller's to set or clear"
unfoldable pub admin_set : Tables → ℕ → ℕ → Outcome
admin_set T t on = call T (mark_checks T t) (mark_done T t admin_cell (cond (eqb on 0) 0 1))

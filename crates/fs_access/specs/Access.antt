-- Document 01, "Access": a request on an entry.
use Rattle.std.specs.Prelude.{not, cond, List, [], ◌∷◌, ◌++◌, ℕ, eqb}
use Rattle.laws.specs.Refusals.{Check, ◌⇒◌, first}
use Rattle.access.specs.Rights.{within, all_fs}
use Rattle.access.specs.Errno.{ENOENT, ESRCH, EACCES, EINVAL}
use Rattle.access.specs.declared.errno.Reply.TheVariants.{Done}
use Rattle.tables.specs.Tables.{Tables, live, past_file_set, thread_live}
use Rattle.tables.specs.Outcome.{Outcome, outcome}
use Rattle.judge.specs.Domain.{domain, lacks}
use Rattle.judge.specs.Blame.{naming_entry}
use Rattle.judge.specs.Read.{entries_read}
use Rattle.sound.specs.Sound.{sound}
use Rattle.sound.specs.Call.{call}

-- "ESRCH; entry not live ENOENT"
unfoldable pub access_names : List ℕ → List ℕ → ℕ → ℕ → List Check
access_names es ts t e = not (thread_live ts t) ⇒ ESRCH ∷ not (live es e) ⇒ ENOENT ∷ []

-- "empty mask, unknown bit, or bit outside the file set for a non-directory EINVAL": a bit is unknown only if above 15, whatever the level
unfoldable pub access_mask : List ℕ → ℕ → ℕ → List Check
access_mask es e m = eqb m 0 ⇒ EINVAL ∷ not (within m all_fs) ⇒ EINVAL ∷ past_file_set es e m ⇒ EINVAL ∷ []

-- "any requested right not granted EACCES"
unfoldable pub access_checks : Tables → ℕ → ℕ → ℕ → List Check
access_checks T t e m =
    access_names T.entries T.threads t e
    ++ (access_mask T.entries e m ++ (lacks T.entries T.layers T.pool (domain T.layers T.threads t) e m ⇒ EACCES ∷ []))

unfoldable pub access_call : Tables → ℕ → ℕ → ℕ → Outcome
access_call T t e m = naming_entry T t e m (call T (access_checks T t e m) (outcome (Done 0) T))

-- document 02, W2: how many entries' rules were read: "the fewest, from the checked entry up, that leave none missing .., else all, and 0 if refused
-- before the verdict"
unfoldable pub access_reads : Tables → ℕ → ℕ → ℕ → ℕ
access_reads T t e m =
    let r = entries_read T.entries T.layers T.pool (domain T.layers T.threads t) e m in
    cond (eqb (first (access_names T.entries T.threads t e ++ access_mask T.entries e m)) 0) r 0

-- unsound tables are refused before all
unfoldable pub access_count : Tables → ℕ → ℕ → ℕ → ℕ
access_count T t e m = let r = access_reads T t e m in cond (sound T) r 0

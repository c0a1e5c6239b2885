-- How many entries an access reads, by what refuses it. Assumes nothing.
use mathlib.Core.Path.{◌≡◌, refl}
use mathlib.Core.List.{◌++◌}
use Prim.Native.Nat.{ℕ}
use borrow.Author.Tests.{ne_eqb}
use Rattle.laws.specs.Refusals.{first}
use Rattle.laws.proofs.Refusals.{join_stop, join_go}
use Rattle.tables.specs.Tables.{Tables}
use Rattle.access.specs.declared.rights.Rights.{Rights}
use Rattle.judge.specs.Read.{entries_read}
use Rattle.verdict.specs.declared.Question.TheVariants.{Entry}
use Rattle.verdict.specs.Denial.{read_by, thread_reads}
use Rattle.fs_access.specs.Access.{access_names, access_mask, access_reads}

module _ (T : Tables) (t e : ℕ) (m : Rights) {a : ℕ} (h : a ≡ first (access_names T.entries T.threads t e)) where
  -- refused before the verdict
  pub none_read : (a ≡ 0 → ⊥) → 0 ≡ access_reads T t e m.0
  unfolding access_reads
  none_read n =
      let j = join_stop (access_names T.entries T.threads t e) (access_mask T.entries e m.0) h n in
      rw (← j, ne_eqb a 0 n) refl

  module _ (z : a ≡ 0) {b : ℕ} (k : b ≡ first (access_mask T.entries e m.0)) where
    mask_first : b ≡ first (access_names T.entries T.threads t e ++ access_mask T.entries e m.0)
    unfolding access_names
    mask_first = join_go (access_names T.entries T.threads t e) (access_mask T.entries e m.0) tt h z k

    pub none_read_late : (b ≡ 0 → ⊥) → 0 ≡ access_reads T t e m.0
    unfolding access_reads
    none_read_late n = rw (← mask_first, ne_eqb b 0 n) refl

    -- judged
    pub some_read : {r : ℕ} → b ≡ 0 → r ≡ thread_reads T.entries T.layers T.pool T.threads t (Entry e m) → r ≡ access_reads T t e m.0
    unfolding access_reads thread_reads read_by entries_read
    some_read n r = rw (← mask_first, n) r

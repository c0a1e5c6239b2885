-- Fresh tables: how code comes to them. Assumes nothing.
use mathlib.Core.Path.{◌≡◌, sym, ap, ◌∙◌}
use mathlib.Core.Bool.{true}
use Prim.Native.Nat.{ℕ}
use borrow.Author.Tests.{not-false}
use Rattle.laws.specs.Refusals.{first}
use Rattle.laws.proofs.Refusals.{passed}
use Rattle.access.specs.declared.errno.Reply.TheVariants.{Done}
use Rattle.tables.specs.Tables.{Tables, lengths_right}
use Rattle.tables.specs.Outcome.{outcome}
use Rattle.tables.specs.Fresh.{filled, fresh_tables, fresh_checks, freshened}
use Rattle.tables.proofs.Lengths.{lengths}
use Rattle.tables.proofs.Outcomes.{answer-done}

filled-right : (T : Tables) (level : ℕ) → lengths_right T ≡ true → filled T level ≡ fresh_tables level
unfolding filled fresh_tables
filled-right T level h = let w = lengths T h in rw (w.system, w.entries, w.rulesets, w.layers, w.pool, w.threads)

pub fresh-done : (T : Tables) (level : ℕ) {e : ℕ} {U : Tables} → e ≡ first (fresh_checks T level) → e ≡ 0 → U ≡ filled T level → outcome (Done 0) U ≡ freshened T level
unfolding freshened fresh_checks
fresh-done T level {e} {U} k z u =
    let right : lengths_right T ≡ true = not-false (lengths_right T) (passed _ (sym k ∙ z)).0 in
    ap (outcome (Done 0)) (u ∙ filled-right T level right) ∙ answer-done T (fresh_checks T level) (outcome (Done 0) (fresh_tables level)) k z

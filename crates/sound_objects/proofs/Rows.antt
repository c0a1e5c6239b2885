-- The rows from the last used block on are free. Assumes nothing.
use mathlib.Core.Path.{◌≡◌, refl, sym, ap}
use mathlib.Core.Bool.{Bool, true, false, not}
use mathlib.Core.List.{List}
use Prim.Native.Nat.{ℕ, zero, suc, ◌+◌, ◌-◌, ◌*◌, ◌≤◌, ◌<◌}
use native.Mathlib.Numerals.{sub-one}
use native.Mathlib.Omega.{arith}
use lib.Dec.{ltb}
use lib.ListN.{length, get_or}
use borrow.Author.Tests.{eq-eqb, ltb-true, ltb-false}
use Rattle.laws.specs.Cells.{part, zeros}
use Rattle.laws.proofs.Bools.{split}
use Rattle.laws.proofs.Cells.{past, zeros-part-at}
use Rattle.access.specs.Limits.{max_entries}
use Rattle.tables.specs.Tables.{entry_width, kind, live}
use Rattle.sound_objects.specs.Rows.{block_rows, block_cells, blocks, used_blocks, Ends}

module _ (es : List ℕ) where
  -- every cell of block n is 0
  abbrev pub block_zero : ℕ → Bool
  block_zero n = zeros (part es (block_cells * n) (block_cells * n + block_cells))

  step-free : (n : ℕ) → block_zero n ≡ true → used_blocks es (suc n) ≡ used_blocks es n
  unfolding used_blocks
  step-free n h = rw h

  step-used : (n : ℕ) → block_zero n ≡ false → used_blocks es (suc n) ≡ suc n
  unfolding used_blocks
  step-used n h = rw h

  pub used-none : (n : ℕ) → n ≡ 0 → used_blocks es n ≡ 0
  unfolding used_blocks
  used-none n h = rw h

  -- a loop's turn down from n
  pub used-free : (n : ℕ) → (n ≡ 0 → ⊥) → block_zero (n - 1) ≡ true → used_blocks es n ≡ used_blocks es (n - 1)
  used-free zero d h = absurd (d refl)
  used-free (suc n) d h = rw (sub-one (suc n)) (step-free n (rw (sub-one (suc n)) at h))

  pub used-here : (n : ℕ) → (n ≡ 0 → ⊥) → block_zero (n - 1) ≡ false → used_blocks es n ≡ n
  used-here zero d h = absurd (d refl)
  used-here (suc n) d h = step-used n (rw (sub-one (suc n)) at h)

  used_bound : (n : ℕ) → used_blocks es n ≤ n
  used_bound zero = let z = used-none 0 refl in omega arith
  used_bound (suc n) = split (block_zero n)
      (λ q. let z = step-free n q in let k = used_bound n in omega arith)
      (λ q. let z = step-used n q in omega arith)

  used-rest : (n i : ℕ) → block_cells * used_blocks es n ≤ i → i < block_cells * n → get_or es i 0 ≡ 0
  used-rest zero i a b = absurd (omega arith)
  used-rest (suc n) i a b = split (block_zero n)
      (λ q. let z = step-free n q in
      split (ltb i (block_cells * n))
      (λ l. let k = ltb-true i (block_cells * n) l in used-rest n i (omega arith) k)
      (λ l. zeros-part-at es (block_cells * n) (block_cells * n + block_cells) q i (ltb-false i (block_cells * n) l) (omega arith)))
      (λ q. let z = step-used n q in absurd (omega arith))

  pub rows_end : {end : ℕ} → length es ≡ entry_width * max_entries → end ≡ block_rows * used_blocks es blocks → Ends es end
  rows_end {end} w h =
      let b = used_bound blocks in (
        w,
        (
          omega arith,
          λ i a. split (ltb i (entry_width * max_entries))
              (λ l. let k = ltb-true i (entry_width * max_entries) l in used-rest blocks i (omega arith) (omega arith))
              (λ l. let k = ltb-false i (entry_width * max_entries) l in sym (past es i (omega arith))),
        ),
      )

  -- what stands at the end and after it
  pub free-kind : {end : ℕ} → Ends es end → (e : ℕ) → end ≤ e → live es e ≡ false
  unfolding live
  free-kind {end} E e h = ap not (eq-eqb (kind es e) 0 (E.1.1 (entry_width * e + 0) (omega arith)))

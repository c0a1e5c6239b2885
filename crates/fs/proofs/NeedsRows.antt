-- The table of needs: its rule is one test over all rows, which is computed, and one law that carries it to each row. Assumes nothing.
use mathlib.Core.Path.{◌≡◌, refl}
use mathlib.Core.Bool.{Bool, true, false, cond, ◌&&◌}
use mathlib.Core.List.{List, [], ◌∷◌}
use Prim.Native.Nat.{ℕ, ◌≤◌, ◌<◌}
use native.Mathlib.Omega.{arith}
use lib.Dec.{eqb}
use lib.ListN.{get_or}
use borrow.Author.Tests.{eqb-true}
use Rattle.laws.proofs.Bools.{and_l, and_r, cond_then, cond_else}
use Rattle.access.specs.Kinds.{kind_number, last_kind}
use Rattle.access.specs.declared.kinds.Kind.{Kind}
use Rattle.access.specs.declared.kinds.Kind.TheVariants.{Regular, Directory, Character, Block, Fifo, Socket, Symlink}
use Rattle.access.specs.declared.kinds.MaybeKind.{MaybeKind}
use Rattle.access.specs.declared.kinds.MaybeKind.TheVariants.{Known, None}
use Rattle.fs.specs.declared.needs.Step.{Step}
use Rattle.fs.specs.declared.needs.Step.TheVariants.{Link, Rename, Exchange}
use Rattle.fs.specs.Needs.{source_needs, target_needs}
use Rattle.fs.specs.NeedsTable.{needs_row, possible, low_set, high_set, NeedsTable}

pub kind-small : (k : Kind) → (0 < kind_number k) × (kind_number k ≤ last_kind)
kind-small Regular = omega arith
kind-small Directory = omega arith
kind-small Character = omega arith
kind-small Block = omega arith
kind-small Fifo = omega arith
kind-small Socket = omega arith
kind-small Symlink = omega arith

-- ---- a test of every row
abbrev pub every_step : (Step → Bool) → Bool
every_step p = p Link && (p Rename && p Exchange)

abbrev pub every_kind : (Kind → Bool) → Bool
every_kind p = p Regular && (p Directory && (p Character && (p Block && (p Fifo && (p Socket && p Symlink)))))

abbrev pub every_other : (MaybeKind → Bool) → Bool
every_other p = p None && every_kind (λ k. p (Known k))

abbrev pub every_same : (Bool → Bool) → Bool
every_same p = p true && p false

abbrev pub every_row : (Step → Kind → MaybeKind → Bool → Bool) → Bool
every_row p = every_step (λ step. every_kind (λ k1. every_other (λ k2. every_same (λ same. p step k1 k2 same))))

at-step : (p : Step → Bool) → every_step p ≡ true → (step : Step) → p step ≡ true
at-step p h Link = and_l (p Link) _ h
at-step p h Rename = and_l (p Rename) _ (and_r (p Link) _ h)
at-step p h Exchange = and_r (p Rename) _ (and_r (p Link) _ h)

at-kind : (p : Kind → Bool) → every_kind p ≡ true → (k : Kind) → p k ≡ true
at-kind p h Regular = and_l (p Regular) _ h
at-kind p h Directory = and_l (p Directory) _ (and_r (p Regular) _ h)
at-kind p h Character = and_l (p Character) _ (and_r (p Directory) _ (and_r (p Regular) _ h))
at-kind p h Block = and_l (p Block) _ (and_r (p Character) _ (and_r (p Directory) _ (and_r (p Regular) _ h)))
at-kind p h Fifo = and_l (p Fifo) _ (and_r (p Block) _ (and_r (p Character) _ (and_r (p Directory) _ (and_r (p Regular) _ h))))
at-kind p h Socket = and_l (p Socket) _ (and_r (p Fifo) _ (and_r (p Block) _ (and_r (p Character) _ (and_r (p Directory) _ (and_r (p Regular) _ h)))))
at-kind p h Symlink = and_r (p Socket) _ (and_r (p Fifo) _ (and_r (p Block) _ (and_r (p Character) _ (and_r (p Directory) _ (and_r (p Regular) _ h)))))

at_other : (p : MaybeKind → Bool) → every_other p ≡ true → (k : MaybeKind) → p k ≡ true
at_other p h None = and_l (p None) _ h
at_other p h (Known k) = at-kind (λ k. p (Known k)) (and_r (p None) _ h) k

at_same : (p : Bool → Bool) → every_same p ≡ true → (same : Bool) → p same ≡ true
at_same p h true = and_l (p true) _ h
at_same p h false = and_r (p true) _ h

at_row : (p : Step → Kind → MaybeKind → Bool → Bool) → every_row p ≡ true → (step : Step) (k1 : Kind) (k2 : MaybeKind) (same : Bool) → p step k1 k2 same ≡ true
at_row p h step k1 k2 same =
    at_same (λ same. p step k1 k2 same)
    (at_other (λ k2. every_same (λ same. p step k1 k2 same))
    (at-kind (λ k1. every_other (λ k2. every_same (λ same. p step k1 k2 same)))
    (at-step (λ step. every_kind (λ k1. every_other (λ k2. every_same (λ same. p step k1 k2 same)))) h step) k1) k2) same

-- ---- the rule of a row, and the law that carries it to the whole table
abbrev pub row_right : List ℕ → Step → Kind → MaybeKind → Bool → Bool
row_right xs step k1 k2 same =
    let x = get_or xs (needs_row step k1 k2 same) 0 in
    cond (possible step k1 k2) (eqb (low_set x) (source_needs step k1 k2 same) && eqb (high_set x) (target_needs step k1 k2 same)) (eqb x 0)

abbrev pub table_right : List ℕ → Bool
table_right xs = every_row (row_right xs)

module _ (xs : List ℕ) (h : table_right xs ≡ true) (step : Step) (k1 : Kind) (k2 : MaybeKind) (same : Bool) where
  abbrev row : ℕ
  row = get_or xs (needs_row step k1 k2 same) 0

  both : possible step k1 k2 ≡ true → (eqb (low_set row) (source_needs step k1 k2 same) && eqb (high_set row) (target_needs step k1 k2 same)) ≡ true
  both q = cond_then (possible step k1 k2) _ (eqb row 0) q (at_row (row_right xs) h step k1 k2 same)

  right-source : possible step k1 k2 ≡ true → low_set row ≡ source_needs step k1 k2 same
  right-source q = eqb-true _ _ (and_l (eqb (low_set row) (source_needs step k1 k2 same)) _ (both q))

  right-target : possible step k1 k2 ≡ true → high_set row ≡ target_needs step k1 k2 same
  right-target q = eqb-true _ _ (and_r (eqb (low_set row) (source_needs step k1 k2 same)) _ (both q))

  right_zero : possible step k1 k2 ≡ false → row ≡ 0
  right_zero q = eqb-true _ _ (cond_else (possible step k1 k2) _ (eqb row 0) q (at_row (row_right xs) h step k1 k2 same))

pub every_row_lem : (xs : List ℕ) → table_right xs ≡ true → NeedsTable xs
every_row_lem xs h = record { source = right-source xs h; target = right-target xs h; zero = right_zero xs h }

-- No call reads an impossible row. Assumes nothing.
use mathlib.Core.Path.{◌≡◌, refl}
use mathlib.Core.Bool.{true, false}
use mathlib.Core.List.{List}
use Prim.Native.Nat.{ℕ, zero, suc, ◌≤◌}
use native.Mathlib.Omega.{arith}
use lib.Dec.{eqb}
use borrow.Author.Tests.{eqb-false, not-true, not-false}
use Rattle.laws.proofs.Bools.{split, clash}
use Rattle.laws.proofs.Refusals.{passed}
use Rattle.access.specs.Kinds.{kind_number, pick, kind_of, directory, last_kind}
use Rattle.access.specs.declared.kinds.Kind.{Kind}
use Rattle.access.specs.declared.kinds.Kind.TheVariants.{Regular, Directory, Character, Block, Fifo, Socket, Symlink}
use Rattle.access.specs.declared.kinds.MaybeKind.{MaybeKind}
use Rattle.access.specs.declared.kinds.MaybeKind.TheVariants.{Known, None}
use Rattle.tables.specs.Tables.{Tables, kind, live, is_dir}
use Rattle.sound.specs.Sound.{sound}
use Rattle.sound.proofs.Facts.{facts}
use Rattle.fs.specs.NeedsTable.{possible}
use Rattle.fs.specs.declared.needs.Step.TheVariants.{Link, Rename, Exchange}
use Rattle.tree.specs.Moves.{kind_at}
use Rattle.tree.specs.Link.{link_shape}
use Rattle.tree.specs.Exchange.{exchange_names}
use Rattle.tree_moves.specs.Rows.{reads_possible, RowsPossible}

-- a link of the kind k, or of the others
picked : (n : ℕ) (k : Kind) (other : MaybeKind) → (eqb n (kind_number k) ≡ true → possible Link k None ≡ true) → reads_possible Link other None ≡ true
    → reads_possible Link (pick n k other) None ≡ true
unfolding reads_possible
picked n k other a b = split (eqb n (kind_number k)) (λ q. rw q (a q)) (λ q. rw q b)

no_directory : (n : ℕ) → eqb n directory ≡ false → reads_possible Link (kind_of n) None ≡ true
unfolding reads_possible possible kind_of
no_directory n q =
    picked n Regular _ (λ r. refl) (picked n Directory _ (λ r. clash (eqb n directory) r q) (picked n Character _ (λ r. refl) (picked n Block _ (λ r. refl)
    (picked n Fifo _ (λ r. refl) (picked n Socket _ (λ r. refl) (picked n Symlink None (λ r. refl) refl))))))

-- a source that is no directory
pub links : (es : List ℕ) (s : ℕ) → is_dir es s ≡ false → reads_possible Link (kind_at es s) None ≡ true
unfolding is_dir
links es s q = no_directory (kind es s) q

pub renames : (k1 k2 : MaybeKind) → reads_possible Rename k1 k2 ≡ true
unfolding reads_possible possible
renames (Known k1) k2 = refl
renames None k2 = refl

with_a_kind : (k1 : MaybeKind) (n : ℕ) → (n ≡ 0 → ⊥) → n ≤ last_kind → reads_possible Exchange k1 (kind_of n) ≡ true
unfolding reads_possible possible kind_of
with_a_kind None n a b = refl
with_a_kind (Known k1) zero a b = absurd (a refl)
with_a_kind (Known k1) (suc zero) a b = refl
with_a_kind (Known k1) (suc (suc zero)) a b = refl
with_a_kind (Known k1) (suc (suc (suc zero))) a b = refl
with_a_kind (Known k1) (suc (suc (suc (suc zero)))) a b = refl
with_a_kind (Known k1) (suc (suc (suc (suc (suc zero))))) a b = refl
with_a_kind (Known k1) (suc (suc (suc (suc (suc (suc zero)))))) a b = refl
with_a_kind (Known k1) (suc (suc (suc (suc (suc (suc (suc zero))))))) a b = refl
with_a_kind (Known k1) (suc (suc (suc (suc (suc (suc (suc (suc n)))))))) a b = absurd (omega arith)

-- an exchanged entry that is live in sound tables
pub exchanges : (T : Tables) (s x : ℕ) → sound T ≡ true → live T.entries x ≡ true → reads_possible Exchange (kind_at T.entries s) (kind_at T.entries x) ≡ true
unfolding live
exchanges T s x h l =
    let es = T.entries in
    with_a_kind (kind_at es s) (kind es x) (eqb-false (kind es x) 0 (not-true (eqb (kind es x) 0) l)) ((facts T h).tree.kinds x l)

pub rows_possible : RowsPossible
unfolding link_shape exchange_names
rows_possible =
    record {
      link = λ T t s d z. links T.entries s (passed _ z).1.1.1.1.1.0;
      rename = λ es s k2. renames (kind_at es s) k2;
      exchange = λ T t s d x h z. exchanges T s x h (not-false (live T.entries x) (passed _ z).1.1.1.0);
    }

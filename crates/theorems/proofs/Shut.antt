-- A right that no rule gives on the whole way up from an entry, and one change of the tree that leaves it so. Assumes nothing.
use mathlib.Core.Path.{◌≡◌, refl, sym, ◌∙◌}
use mathlib.Core.Bool.{Bool, true, false, not}
use mathlib.Core.List.{List}
use Prim.Native.Nat.{ℕ, zero, suc}
use borrow.Author.Tests.{not-true}
use Rattle.laws.proofs.Bools.{split, clash, and_l, and_r, both, not_of_false}
use Rattle.access.specs.Rights.{has, file_set, all_fs}
use Rattle.access.proofs.Laws.{within_has}
use Rattle.tables.specs.Tables.{kind, parent, object, live, is_dir, path_rule}
use Rattle.tables.specs.Layers.{Layer}
use Rattle.sound_tree.proofs.Facts.{Tree}
use Rattle.sound_tree.proofs.Reach.{up}
use Rattle.judge.specs.Rules.{rights_on}
use Rattle.judge.specs.Judge.{own_rights, granted, handled, denied}
use Rattle.judge.proofs.Laws.{granted_way, way_granted, has-denied}
use Rattle.fs.specs.Move.{entry_rights}
use Rattle.kept_tree.proofs.Written.{live_dir}
use Rattle.kept_tree.proofs.Edits.{Frame}

-- the layer's rule on an object gives right i
unfoldable pub gives : Layer → ℕ → ℕ → Bool
gives L i o = has (rights_on L.rules path_rule o) i

-- the test fails at x's object and at every one above
abbrev pub Shut : List ℕ → (ℕ → Bool) → ℕ → Type 0
Shut es f x = (k : ℕ) → f (object es (up es k x)) ≡ false

module _ (es : List ℕ) (f : ℕ → Bool) where
  pub shut_here : (x : ℕ) → Shut es f x → f (object es x) ≡ false
  unfolding up
  shut_here x h = h 0

  pub shut_up : (x : ℕ) → Shut es f x → Shut es f (parent es x)
  unfolding up
  shut_up x h k = h (suc k)

  pub shut_cons : (x : ℕ) → f (object es x) ≡ false → Shut es f (parent es x) → Shut es f x
  unfolding up
  shut_cons x h a zero = h
  shut_cons x h a (suc k) = a k

  -- a set of entries that the climb does not leave, at which the test fails
  pub shut_by : (S : ℕ → Type 0) → ((x : ℕ) → S x → f (object es x) ≡ false) → ((x : ℕ) → S x → S (parent es x)) → (x : ℕ) → S x → Shut es f x
  unfolding up
  shut_by S here above x s zero = here x s
  shut_by S here above x s (suc k) = shut_by S here above (parent es x) (above x s) k

-- ---- what a layer denies is handled, and shut
module _ (es : List ℕ) (L : Layer) (e i : ℕ) where
  pub denied-handled : has (denied es L e) i ≡ true → has (handled L) i ≡ true
  denied-handled h = and_l (has (handled L) i) (not (has (granted es L e) i)) (sym (has-denied es L e i) ∙ h)

  pub denied_shut : (next : ℕ) → Tree es next → live es e ≡ true → has (denied es L e) i ≡ true → Shut es (gives L i) e
  unfolding gives
  denied_shut next Z l h k = split (has (own_rights es L.rules (up es k e)) i)
      (λ q. clash (has (granted es L e) i) (way_granted es L next Z e l k i q)
      (not-true _ (and_r (has (handled L) i) (not (has (granted es L e) i)) (sym (has-denied es L e i) ∙ h))))
      (λ q. q)

  pub shut_denied : has (handled L) i ≡ true → Shut es (gives L i) e → has (denied es L e) i ≡ true
  unfolding gives
  shut_denied h s =
      let n : has (granted es L e) i ≡ false = split (has (granted es L e) i) (λ q. let w = granted_way es L e i q in clash _ w.1 (s w.0)) (λ q. q) in
      has-denied es L e i ∙ both (has (handled L) i) (not (has (granted es L e) i)) h (not_of_false _ n)

-- ---- kinds
-- a directory can hold what any entry can
pub dir_holds : (es : List ℕ) (e d i : ℕ) → is_dir es d ≡ true → has (entry_rights es e) i ≡ true → has (entry_rights es d) i ≡ true
unfolding entry_rights
dir_holds es e d i q h = rw q (split (is_dir es e) (λ p. rw p at h) (λ p. within_has file_set all_fs i refl (rw p at h)))

pub live_same : (es es' : List ℕ) (x : ℕ) → kind es' x ≡ kind es x → live es x ≡ true → live es' x ≡ true
unfolding live
live_same es es' x e l = rw e l

-- For one test and one right: where an entry was shut, its new parent was shut, before the change.
abbrev pub Above : List ℕ → List ℕ → (ℕ → Bool) → (ℕ → Bool) → ℕ → Type 0
Above es es' gone f i = (x : ℕ) → live es x ≡ true → gone x ≡ false → has (entry_rights es x) i ≡ true → Shut es f x → Shut es f (parent es' x)

module _ (es es' : List ℕ) (gone f : ℕ → Bool) (i : ℕ) (F : Frame es es' gone) (A : Above es es' gone f i) where
  record In (x : ℕ) : Type 0 where
    alive : live es x ≡ true
    kept : gone x ≡ false
    right : has (entry_rights es x) i ≡ true
    shut : Shut es f x

  -- then what was shut and is not gone is shut after it
  pub still_shut : (x : ℕ) → live es x ≡ true → gone x ≡ false → has (entry_rights es x) i ≡ true → Shut es f x → Shut es' f x
  still_shut x a g o s = shut_by es' f In
      (λ y p. rw (F.keeps_object y p.alive p.kept) (shut_here es f y p.shut))
      (λ y p. let d = F.under_dir y p.alive p.kept in record {
        alive = live_dir es (parent es' y) d;
        kept = F.under_kept y p.alive p.kept;
        right = dir_holds es y (parent es' y) i d p.right;
        shut = A y p.alive p.kept p.right p.shut;
      })
      x (record { alive = a; kept = g; right = o; shut = s })

-- What create's passed tests tell, and what it leaves. Assumes nothing.
use mathlib.Core.Path.{◌≡◌}
use mathlib.Core.Bool.{Bool, false}
use Prim.Native.Nat.{ℕ, ◌<◌}
use borrow.Author.Tests.{leb-false}
use Rattle.laws.proofs.Refusals.{passed}
use Rattle.access.specs.Kinds.{kind_of}
use Rattle.access.specs.Limits.{max_counter}
use Rattle.access.specs.Reply.{is_refused}
use Rattle.access.specs.declared.errno.Reply.{Reply}
use Rattle.access.specs.declared.errno.Reply.TheVariants.{Done}
use Rattle.tables.specs.Tables.{Tables, counter}
use Rattle.tables.specs.Outcome.{outcome, answer}
use Rattle.tables.proofs.Blames.{named-passed, named-done}
use Rattle.judge.specs.Blame.{entry_reply, naming_entry}
use Rattle.fs.specs.Needs.{make_of}
use Rattle.tree.specs.Entries.{free_entry}
use Rattle.tree.specs.Create.{create_shape, create_verdict, create_later, tree_create_checks, tree_created}

module _ (T : Tables) (t d k : ℕ) {r : Reply} (q : r ≡ entry_reply T t d (make_of (kind_of k)) (tree_create_checks T t d k)) {b : Bool} (h : b ≡ is_refused r) (z : b ≡ false) where
  -- an object number is left where nothing refuses
  pub numbered : counter T.system < max_counter
  unfolding tree_create_checks create_shape create_verdict create_later
  numbered = leb-false max_counter (counter T.system) (passed (tree_create_checks T t d k) (named-passed _ _ _ T (tree_create_checks T t d k) q h z)).1.1.1.1.1.1.0

  pub create-done : (T' : Tables) {e : ℕ} → e ≡ free_entry T.entries → T' ≡ tree_created T d k → outcome (Done e) T' ≡ naming_entry T t d (make_of (kind_of k)) (answer T (tree_create_checks T t d k) (outcome (Done (free_entry T.entries)) (tree_created T d k)))
  create-done T' f g = rw (f, g) (named-done _ _ _ T (tree_create_checks T t d k) q _ _ h z)

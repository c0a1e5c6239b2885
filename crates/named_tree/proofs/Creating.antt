-- What the passed tests of create tell, and what it leaves. Assumes nothing.
use mathlib.Core.Path.{◌≡◌}
use mathlib.Core.Bool.{Bool, false}
use mathlib.Core.List.{List}
use Prim.Native.Nat.{ℕ, ◌<◌, ◌≤◌}
use lib.ListN.{length}
use borrow.Author.Tests.{leb-false}
use Rattle.laws.specs.Refusals.{first}
use Rattle.laws.proofs.Refusals.{passed}
use Rattle.access.specs.Kinds.{kind_of}
use Rattle.access.specs.Limits.{max_counter}
use Rattle.access.specs.Reply.{is_refused}
use Rattle.access.specs.declared.errno.Reply.{Reply}
use Rattle.access.specs.declared.errno.Reply.TheVariants.{Done}
use Rattle.tables.specs.Tables.{Tables, counter}
use Rattle.tables.proofs.Blames.{named-passed}
use Rattle.judge.specs.Blame.{entry_reply, naming_entry}
use Rattle.fs.specs.Needs.{make_of}
use Rattle.tree.specs.Entries.{free_entry}
use Rattle.tree.specs.Create.{create_shape, create_verdict, create_later, tree_create_checks, tree_created}
use Rattle.names.specs.Names.{max_name, put_name}
use Rattle.named.specs.Named.{Named, with_names, named_outcome, named_answer, judged_by}
use Rattle.named.specs.Tree.{create_named_checks, new_names}
use Rattle.named.proofs.Orders.{create-passed, create-fits}
use Rattle.named.proofs.Replies.{told-done}

module _ (N : Named) (t d k : ℕ) (n : List ℕ) {r : Reply} (q : r ≡ entry_reply N.core t d (make_of (kind_of k)) (create_named_checks N t d k n)) {b : Bool} (h : b ≡ is_refused r) (z : b ≡ false) where
  none-applied : first (create_named_checks N t d k n) ≡ 0
  none-applied = named-passed _ _ _ N.core (create_named_checks N t d k n) q h z

  pub fits : length n ≤ max_name
  fits = create-fits N t d k n none-applied

  -- an object number is left
  pub numbered : counter N.core.system < max_counter
  unfolding tree_create_checks create_shape create_verdict create_later
  numbered = leb-false max_counter (counter N.core.system) (passed (tree_create_checks N.core t d k) (create-passed N t d k n none-applied)).1.1.1.1.1.1.0

  pub create-done : (T' : Tables) (ns' : List ℕ) {e : ℕ} → e ≡ free_entry N.core.entries → T' ≡ tree_created N.core d k → ns' ≡ put_name N.names e n
      → named_outcome (Done e) (with_names T' ns') ≡ judged_by (naming_entry N.core t d (make_of (kind_of k)))
      (named_answer N (create_named_checks N t d k n)
      (named_outcome (Done (free_entry N.core.entries)) (with_names (tree_created N.core d k) (new_names N.core.entries N.names n))))
  unfolding new_names
  create-done T' ns' f g v = rw (v, f, g) (told-done _ _ _ N (create_named_checks N t d k n) q _ _ h z)

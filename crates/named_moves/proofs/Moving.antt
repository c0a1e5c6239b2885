-- What the passed tests of a rename tell, and what they leave. Assumes nothing.
use mathlib.Core.Path.{◌≡◌}
use mathlib.Core.Bool.{Bool, true, false}
use mathlib.Core.List.{List}
use Prim.Native.Nat.{ℕ, ◌≤◌}
use lib.ListN.{length}
use Rattle.laws.specs.Refusals.{first}
use Rattle.access.specs.Reply.{is_refused}
use Rattle.access.specs.declared.errno.Reply.{Reply}
use Rattle.access.specs.declared.errno.Reply.TheVariants.{Done}
use Rattle.tables.specs.Tables.{Tables}
use Rattle.tables.proofs.Blames.{named-passed}
use Rattle.fs.specs.Blame.{move_reply, naming_move}
use Rattle.tree.specs.declared.Replaced.{Replaced}
use Rattle.tree.specs.Entries.{with_entries}
use Rattle.tree.specs.Moves.{rename_move}
use Rattle.tree.specs.Rename.{rename_checks, moved}
use Rattle.names.specs.Names.{max_name, bearer}
use Rattle.named.specs.Named.{Named, with_names, NamedOutcome, named_outcome, named_answer, judged_by}
use Rattle.named.specs.Tree.{replaced_by, rename_before, rename_named_checks, renamed_names}
use Rattle.named.proofs.Orders.{rename_agrees, rename-fits}
use Rattle.named.proofs.Replies.{told-refused, told-done}

module _ (N : Named) (t s d : ℕ) (n : List ℕ) where
  abbrev T : Tables
  T = N.core

  abbrev es : List ℕ
  es = N.core.entries

  -- the checks over the bearer of the name
  pub bearer_agrees : {x : Replaced} → x ≡ bearer es N.names d n → first (rename_before T t s d n) ≡ 0 → first (rename_named_checks N t s d n) ≡ first (rename_checks T t s d x)
  unfolding replaced_by
  bearer_agrees e z = rw e (rename_agrees N t s d n z)

  -- what a rename over x leaves
  abbrev renamed : Replaced → NamedOutcome
  renamed x = named_outcome (Done 0) (with_names (with_entries T (moved es s d x)) (renamed_names es N.names s n x))

  module _ {x : Replaced} (e : x ≡ bearer es N.names d n) {r : Reply} (q : r ≡ move_reply T t (rename_move es s d x) (rename_named_checks N t s d n)) {b : Bool} (h : b ≡ is_refused r) where
    by_bearer : r ≡ move_reply T t (rename_move es s d (replaced_by N d n)) (rename_named_checks N t s d n)
    unfolding replaced_by
    by_bearer = rw e at q

    pub rename-refused_lem : b ≡ true → named_outcome r N ≡ judged_by (naming_move T t (rename_move es s d (replaced_by N d n))) (named_answer N (rename_named_checks N t s d n) (renamed (replaced_by N d n)))
    rename-refused_lem z = told-refused _ _ _ N (rename_named_checks N t s d n) by_bearer _ h z

    pub rename_fit : b ≡ false → length n ≤ max_name
    rename_fit z = rename-fits N t s d n (named-passed _ _ _ T (rename_named_checks N t s d n) q h z)

    pub rename-done : (es' ns' : List ℕ) → b ≡ false → es' ≡ moved es s d x → ns' ≡ renamed_names es N.names s n x
        → named_outcome (Done 0) (with_names (with_entries T es') ns') ≡ judged_by (naming_move T t (rename_move es s d (replaced_by N d n))) (named_answer N (rename_named_checks N t s d n) (renamed (replaced_by N d n)))
    unfolding replaced_by
    rename-done es' ns' z f g = rw (f, g, e) (told-done _ _ _ N (rename_named_checks N t s d n) by_bearer _ _ h z)

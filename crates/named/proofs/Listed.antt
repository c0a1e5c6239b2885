-- The order of refusals with names, beside document 01's: once the checks put first have passed, the two lists come to the same number. So code makes those
-- checks and then document 01's call as it stands. Assumes nothing.
use mathlib.Core.Path.{◌≡◌, refl, sym, ◌∙◌}
use mathlib.Core.Bool.{Bool, true, false, not}
use mathlib.Core.List.{List, [], ◌∷◌, ◌++◌}
use Prim.Native.Nat.{ℕ}
use lib.Dec.{eqb}
use borrow.Author.Tests.{eq-eqb, ne_eqb, ltb-false}
use Rattle.laws.specs.Refusals.{Check, ◌⇒◌, first}
use Rattle.laws.proofs.Bools.{not_of_true}
use Rattle.laws.proofs.Refusals.{none, miss, first-is, passed}
use Rattle.laws.proofs.Joined.{join-left, join-right, join-past}
use Rattle.access.specs.Errno.{EPERM, EBUSY, ENOTDIR, EINVAL}
use Rattle.access.specs.Kinds.{kind_of}
use Rattle.tables.specs.Tables.{Tables, kind, parent, live, is_dir}
use Rattle.judge.specs.Blame as judge
use Rattle.fs.specs.Needs.{make_of, remove_of}
use Rattle.fs.specs.Blame.{denied_move, crossed_move}
use Rattle.tree.specs.declared.Replaced.{Replaced}
use Rattle.tree.specs.Entries.{free_entry, unknown_kind, is_above, replacing, free_row, with_entries}
use Rattle.tree.specs.Moves.{link_move, rename_move, exchange_move}
use Rattle.tree.specs.Create.{create_shape, create_verdict, create_later, tree_create_checks, tree_created, remove_checks}
use Rattle.tree.specs.Link.{link_shape, link_verdict, link_later, link_checks, linked}
use Rattle.tree.specs.Rename.{rename_names, rename_shape, rename_verdict, rename_later, rename_checks, moved}
use Rattle.tree.specs.Exchange.{exchange_checks, swapped}
use Rattle.names.specs.Names.{max_name, name_checks, clear_name}
use Rattle.names.proofs.Facts.{Name}
use Rattle.names.proofs.Bearer.{Bears, bearer_not}
use Rattle.named.specs.Named.{Named}
use Rattle.named.specs.Tree.{create_target, new_name, create_before, new_names, link_target, link_before, replaced_by, rename_before, renamed_names, swapped_names}
use Rattle.named.proofs.Orders.{create-rest, link-rest, rename-rest}
use Rattle.named.proofs.Made.{omits, early, early_none, Way}

-- ---- a name that passed
pub name_ok : (n : List ℕ) → first (name_checks n) ≡ 0 → Name n
unfolding name_checks
name_ok n z = let p = passed (name_checks n) z in record { short = ltb-false max_name _ p.0; fine = p.1.0 }

module _ (N : Named) where
  abbrev T : Tables
  T = N.core

  abbrev es : List ℕ
  es = N.core.entries

  -- a new name that passed
  new_name_ok : (d : ℕ) (n : List ℕ) → first (new_name N.core.entries N.names d n) ≡ 0 → Name n
  unfolding new_name
  new_name_ok d n z = name_ok n (join-left (name_checks n) _ z)

  -- ---- create
  module _ (t d k : ℕ) (n : List ℕ) where
    pub create_early : early (create_before N t d n) ≡ true
    unfolding early omits create_before create_target new_name name_checks
    create_early = refl

    unfoldable pub create_way : Way N
    create_way = record {
      denied = judge.denied_at T d (make_of (kind_of k));
      crossed = judge.none;
      thread = t;
      before = create_before N t d n;
      rest = (unknown_kind k ⇒ EINVAL ∷ []) ++ (create_verdict T t d k ++ create_later T);
      checks = tree_create_checks T t d k;
      number = free_entry es;
      left = tree_created T d k;
      names = new_names es N.names n;
      is_early = create_early;
      agrees = create-rest N t d k n;
    }

    pub create_name : first (create_before N t d n) ≡ 0 → Name n
    unfolding create_before create_target
    create_name z = new_name_ok d n (join-right (create_target es T.threads t d) _ tt z)

  -- ---- remove
  unfoldable pub remove_way : ℕ → ℕ → Way N
  remove_way t e = record {
    denied = judge.denied_at T (parent es e) (remove_of (kind_of (kind es e)));
    crossed = judge.none;
    thread = t;
    before = [];
    rest = remove_checks T t e;
    checks = remove_checks T t e;
    number = 0;
    left = with_entries T (free_row es e);
    names = clear_name N.names e;
    is_early = early_none;
    agrees = λ z. refl;
  }

  -- ---- link
  module _ (t s d : ℕ) (n : List ℕ) where
    pub link_early : early (link_before N t s d n) ≡ true
    unfolding early omits link_before link_target new_name name_checks
    link_early = refl

    unfoldable pub link_way : Way N
    link_way = record {
      denied = denied_move T (link_move es s d);
      crossed = crossed_move T (link_move es s d);
      thread = t;
      before = link_before N t s d n;
      rest = (is_dir es s ⇒ EPERM ∷ []) ++ (link_verdict T t s d ++ link_later T);
      checks = link_checks T t s d;
      number = free_entry es;
      left = with_entries T (linked es s d);
      names = new_names es N.names n;
      is_early = link_early;
      agrees = link-rest N t s d n;
    }

    pub link_name : first (link_before N t s d n) ≡ 0 → Name n
    unfolding link_before link_target
    link_name z = new_name_ok d n (join-right (link_target es T.threads t s d) _ tt z)

  -- ---- rename
  module _ (t s d : ℕ) (n : List ℕ) where
    pub rename_early : early (rename_before T t s d n) ≡ true
    unfolding early omits rename_before link_target name_checks
    rename_early = refl

    unfoldable pub rename_way : Way N
    rename_way = record {
      denied = denied_move T (rename_move es s d (replaced_by N d n));
      crossed = crossed_move T (rename_move es s d (replaced_by N d n));
      thread = t;
      before = rename_before T t s d n;
      rest = (is_above es s d ⇒ EINVAL ∷ []) ++ (rename_verdict T t s d (replaced_by N d n) ++ rename_later es s (replaced_by N d n));
      checks = rename_checks T t s d (replaced_by N d n);
      number = 0;
      left = with_entries T (moved es s d (replaced_by N d n));
      names = renamed_names es N.names s n (replaced_by N d n);
      is_early = rename_early;
      agrees = rename-rest N t s d n;
    }

    pub rename_name : first (rename_before T t s d n) ≡ 0 → Name n
    unfolding rename_before link_target
    rename_name z = name_ok n (join-right (link_target es T.threads t s d) _ tt z)

  -- ---- exchange
  unfoldable pub exchange_way : ℕ → ℕ → ℕ → ℕ → Way N
  exchange_way t s d x = record {
    denied = denied_move T (exchange_move es s d x);
    crossed = crossed_move T (exchange_move es s d x);
    thread = t;
    before = [];
    rest = exchange_checks T t s d x;
    checks = exchange_checks T t s d x;
    number = 0;
    left = with_entries T (swapped es s d x);
    names = swapped_names es N.names s x;
    is_early = early_none;
    agrees = λ z. refl;
  }

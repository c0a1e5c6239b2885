-- A call of the tree that is not refused, on the tree alone: its checks without thread and verdict pass, and its effect is the change's. Assumes nothing.
use mathlib.Core.Path.{◌≡◌, refl, sym, ap, ◌∙◌}
use mathlib.Core.Bool.{Bool, true, false, not}
use mathlib.Core.List.{List, [], ◌∷◌, ◌++◌}
use Prim.Native.Nat.{ℕ, ◌+◌, ◌≤◌}
use native.Mathlib.Omega.{arith}
use lib.ListN.{length, set}
use lib.Seq.{get_or-set_same}
use Rattle.laws.specs.Refusals.{Check, ◌⇒◌, first}
use Rattle.laws.proofs.Refusals.{Refusing, passed}
use Rattle.laws.proofs.Joined.{join-left, join-right, join-past}
use Rattle.access.specs.Errno.{EPERM, ESRCH, EINVAL}
use Rattle.tables.specs.Tables.{Tables, counter, is_dir, thread_live}
use Rattle.sound.proofs.Facts.{facts}
use Rattle.fs.specs.Move.{verdict}
use Rattle.tree.specs.Entries.{unknown_kind, is_above}
use Rattle.tree.specs.Create.{create_shape, create_verdict, create_later, tree_create_checks, tree_created, remove_shape, remove_verdict, remove_later, remove_checks}
use Rattle.tree.specs.Link.{link_shape, link_verdict, link_later, link_checks}
use Rattle.tree.specs.Rename.{rename_names, rename_shape, rename_verdict, rename_later, rename_checks}
use Rattle.tree.specs.Exchange.{exchange_names, exchange_shape, exchange_verdict, exchange_checks}
use Rattle.theorems.specs.Calls.{is_done}
use Rattle.names.specs.Names.{name_checks}
use Rattle.named.specs.Named.{Named, named_sound, NamedOutcome}
use Rattle.named.specs.Tree.{create_target, new_name, create_before, create_named_checks, create_named, remove_named, link_target, link_before, link_named_checks, link_named, replaced_by, rename_before, rename_named_checks, rename_named, exchange_named}
use Rattle.named.specs.Calls.{outcome_named, after_named, reply_named}
use Rattle.named.proofs.Made.{core-sound, Way, way_made, way_named, way_goes, Made, made, refused-left}
use Rattle.named.proofs.Listed.{name_ok, create_way, remove_way, link_way, rename_way, exchange_way}
use Rattle.tree_log.specs.Changes.{Change, create, remove, link, rename, exchange, call_of, max_value, value_of}
use Rattle.tree_log.specs.Tree.{tree_of, create_place, move_place, remove_place, exchange_place, no_entry, no_object, tree_checks, changed}
use Rattle.tree_log.proofs.Trees.{tree_with}

join_both : (xs ys : List Check) → Refusing xs → first xs ≡ 0 → first ys ≡ 0 → first (xs ++ ys) ≡ 0
join_both xs ys r a b = join-past xs ys r a ∙ b

one_check : (b : Bool) (e : ℕ) → b ≡ false → first (b ⇒ e ∷ []) ≡ 0
unfolding first
one_check b e q = rw q refl

-- what is known of a call that is not refused
pub record Accepted (N : Named) (t : ℕ) (c : Change) : Type 0 where
  pub is-sound_lem : named_sound N ≡ true
  pub none : first (tree_checks (tree_of N) c) ≡ 0
  pub effect : changed (tree_of N) c ≡ tree_of (after_named N (call_of t c))
  pub short : length (value_of c) ≤ max_value

module _ (N : Named) (t : ℕ) where
  abbrev T : Tables
  T = N.core

  abbrev es : List ℕ
  es = N.core.entries

  abbrev thread : List Check
  thread = not (thread_live T.threads t) ⇒ ESRCH ∷ []

  -- ---- the checks
  module _ (k d : ℕ) (n : List ℕ) where
    abbrev mid : List Check
    mid = unknown_kind k ⇒ EINVAL ∷ []

    create-none : Made N (create_way N t d k n) → (first (tree_checks (tree_of N) (create k d n)) ≡ 0) × (first (name_checks n) ≡ 0)
    unfolding create_way create_before create_target new_name name_checks tree_create_checks create_shape create_verdict create_later tree_checks create_place no_entry no_object
    create-none m =
        let new = new_name es N.names d n in
        let place = join-right thread (create_place es d) tt (join-left (create_target es T.threads t d) new m.passed) in
        let name = join-right (create_target es T.threads t d) new tt m.passed in
        let kind = join-right (create_target es T.threads t d) mid tt (join-left (create_shape T t d k) _ m.none) in
        let later = join-right (create_verdict T t d k) (create_later T) tt (join-right (create_shape T t d k) _ tt m.none) in
        (join_both (create_place es d) _ tt place (join_both new _ tt name (join_both mid (create_later T) tt kind later)), join-left (name_checks n) _ name)

  remove-none : (e : ℕ) → Made N (remove_way N t e) → first (tree_checks (tree_of N) (remove e)) ≡ 0
  unfolding remove_way remove_checks remove_shape remove_verdict remove_later tree_checks remove_place
  remove-none e m =
      let place = join-right thread (remove_place es e) tt (join-left (remove_shape T t e) _ m.none) in
      let later = join-right (remove_verdict T t e) (remove_later T e) tt (join-right (remove_shape T t e) _ tt m.none) in
      join_both (remove_place es e) (remove_later T e) tt place later

  module _ (s d : ℕ) (n : List ℕ) where
    abbrev dir : List Check
    dir = is_dir es s ⇒ EPERM ∷ []

    link-none : Made N (link_way N t s d n) → (first (tree_checks (tree_of N) (link s d n)) ≡ 0) × (first (name_checks n) ≡ 0)
    unfolding link_way link_before link_target new_name name_checks link_checks link_shape link_verdict verdict link_later tree_checks move_place no_entry
    link-none m =
        let new = new_name es N.names d n in
        let place = join-right thread (move_place es s d) tt (join-left (link_target es T.threads t s d) new m.passed) in
        let name = join-right (link_target es T.threads t s d) new tt m.passed in
        let file = join-right (link_target es T.threads t s d) dir tt (join-left (link_shape T t s d) _ m.none) in
        let later = join-right (link_verdict T t s d) (link_later T) tt (join-right (link_shape T t s d) _ tt m.none) in
        (join_both (move_place es s d) _ tt place (join_both new _ tt name (join_both dir (link_later T) tt file later)), join-left (name_checks n) _ name)

    abbrev up : List Check
    up = is_above es s d ⇒ EINVAL ∷ []

    rename-none : Made N (rename_way N t s d n) → (first (tree_checks (tree_of N) (rename s d n)) ≡ 0) × (first (name_checks n) ≡ 0)
    unfolding rename_way rename_before link_target name_checks rename_checks rename_names rename_shape rename_verdict verdict replaced_by tree_checks move_place
    rename-none m =
        let x = replaced_by N d n in
        let place = join-right thread (move_place es s d) tt (join-left (link_target es T.threads t s d) (name_checks n) m.passed) in
        let name = join-right (link_target es T.threads t s d) (name_checks n) tt m.passed in
        let past = join-right (rename_names T t s d x) _ tt m.none in
        let outside : is_above es s d ≡ false = (passed (rename_shape es s d x) (join-left (rename_shape es s d x) _ past)).1.1.1.1.0 in
        let below = one_check (is_above es s d) EINVAL outside in
        let later = join-right (rename_verdict T t s d x) (rename_later es s x) tt (join-right (rename_shape es s d x) _ tt past) in
        (join_both (move_place es s d) _ tt place (join_both (name_checks n) _ tt name (join_both up (rename_later es s x) tt below later)), name)

  exchange-none : (s d x : ℕ) → Made N (exchange_way N t s d x) → first (tree_checks (tree_of N) (exchange s d x)) ≡ 0
  unfolding exchange_way exchange_checks exchange_names exchange_shape tree_checks exchange_place
  exchange-none s d x m =
      let place = join-right thread (exchange_place es s d x) tt (join-left (exchange_names T t s d x) _ m.none) in
      let shape = join-left (exchange_shape es s d x) (exchange_verdict T t s d x) (join-right (exchange_names T t s d x) _ tt m.none) in
      join_both (exchange_place es s d x) (exchange_shape es s d x) tt place shape

  -- ---- the calls
  made-tree : (W : Way N) → Made N W → tree_of (way_made N W).left ≡ tree_of (way_named N W).left
  made-tree W m = ap (λ (o : NamedOutcome). tree_of o.left) (way_goes N W m.is-sound_lem m.passed m.none)

  pub accepted : (c : Change) → is_done (reply_named N (call_of t c)) ≡ true → Accepted N t c
  unfolding call_of outcome_named create_named create_named_checks create_way remove_named remove_way link_named link_named_checks link_way rename_named rename_named_checks rename_way exchange_named exchange_way changed value_of tree_created replaced_by
  accepted (create k d n) r =
      let W = create_way N t d k n in
      let m = made N W r in
      let z = create-none k d n m in
      let w = (facts T (core-sound N m.is-sound_lem)).lengths.system in
      let l = (name_ok n z.1).short in
      let S = changed (tree_of N) (create k d n) in
      let q : counter (set T.system 1 (counter T.system + 1)) ≡ counter T.system + 1 = get_or-set_same T.system 1 (counter T.system + 1) 0 (omega arith) in
      record { is-sound_lem = m.is-sound_lem; none = z.0; effect = ap (tree_with S.entries S.names) (sym q) ∙ made-tree W m; short = omega arith }
  accepted (remove e) r =
      let m = made N (remove_way N t e) r in
      record { is-sound_lem = m.is-sound_lem; none = remove-none e m; effect = made-tree (remove_way N t e) m; short = omega arith }
  accepted (link s d n) r =
      let m = made N (link_way N t s d n) r in
      let z = link-none s d n m in
      let l = (name_ok n z.1).short in
      record { is-sound_lem = m.is-sound_lem; none = z.0; effect = made-tree (link_way N t s d n) m; short = omega arith }
  accepted (rename s d n) r =
      let m = made N (rename_way N t s d n) r in
      let z = rename-none s d n m in
      let l = (name_ok n z.1).short in
      record { is-sound_lem = m.is-sound_lem; none = z.0; effect = made-tree (rename_way N t s d n) m; short = omega arith }
  accepted (exchange s d x) r =
      let m = made N (exchange_way N t s d x) r in
      record { is-sound_lem = m.is-sound_lem; none = exchange-none s d x m; effect = made-tree (exchange_way N t s d x) m; short = omega arith }

  -- one that is refused leaves the tables as they were
  pub unaccepted : (c : Change) → is_done (reply_named N (call_of t c)) ≡ false → after_named N (call_of t c) ≡ N
  unfolding call_of outcome_named create_named create_named_checks create_way remove_named remove_way link_named link_named_checks link_way rename_named rename_named_checks rename_way exchange_named exchange_way
  unaccepted (create k d n) r = refused-left N (create_way N t d k n) r
  unaccepted (remove e) r = refused-left N (remove_way N t e) r
  unaccepted (link s d n) r = refused-left N (link_way N t s d n) r
  unaccepted (rename s d n) r = refused-left N (rename_way N t s d n) r
  unaccepted (exchange s d x) r = refused-left N (exchange_way N t s d x) r

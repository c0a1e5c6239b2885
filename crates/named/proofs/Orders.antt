-- The order of refusals with names: a good name that is taken is EEXIST before all that comes after it; and beside document 01's order: once the checks put
-- first have passed, the two lists come to the same number. So code makes those checks and then document 01's as they stand. Assumes nothing.
use mathlib.Core.Path.{◌≡◌, refl, sym, ◌∙◌}
use mathlib.Core.Bool.{Bool, true, false, not}
use mathlib.Core.List.{List, [], ◌∷◌, ◌++◌}
use Prim.Native.Nat.{ℕ, ◌≤◌}
use native.Mathlib.Omega.{arith}
use lib.Dec.{eqb}
use lib.ListN.{length}
use borrow.Author.Tests.{eq-eqb, ne_eqb, ltb-false}
use Rattle.laws.specs.Refusals.{Check, ◌⇒◌, first}
use Rattle.laws.proofs.Bools.{not_of_true}
use Rattle.laws.proofs.Refusals.{Refusing, none, miss, first-is, passed, join_stop}
use Rattle.laws.proofs.Joined.{join-left, join-right, join-past}
use Rattle.access.specs.Errno.{EPERM, EBUSY, EEXIST, ENOTDIR, EINVAL}
use Rattle.tables.specs.Tables.{Tables, parent, live, is_dir}
use Rattle.tables.proofs.Blames.{Plain}
use Rattle.tree.specs.Entries.{unknown_kind, is_above, replacing}
use Rattle.tree.specs.Create.{create_shape, create_verdict, create_later, tree_create_checks}
use Rattle.tree.specs.Link.{link_shape, link_verdict, link_later, link_checks}
use Rattle.tree.specs.Rename.{rename_names, rename_shape, rename_verdict, rename_later, rename_checks}
use Rattle.names.specs.Names.{max_name, name_checks, taken}
use Rattle.names.proofs.Bearer.{Bears, bearer_not}
use Rattle.named.specs.Named.{Named}
use Rattle.named.specs.Tree.{create_target, new_name, create_before, create_named_checks, link_target, link_before, link_named_checks, replaced_by, rename_before, rename_named_checks}

-- ---- the checks put first: none has a verdict's number, and none is a success
abbrev pub Early : List Check → Type 0
Early cs = Plain cs × Refusing cs

pub create_early : (es ts : List ℕ) (t d : ℕ) → Early (create_target es ts t d)
unfolding create_target
create_early es ts t d = (tt, tt)

pub link_early : (es ts : List ℕ) (t s d : ℕ) → Early (link_target es ts t s d)
unfolding link_target
link_early es ts t s d = (tt, tt)

pub name_early : (n : List ℕ) → Early (name_checks n)
unfolding name_checks
name_early n = (tt, tt)

pub new_early : (es ns : List ℕ) (d : ℕ) (n : List ℕ) → Early (new_name es ns d n)
unfolding new_name name_checks
new_early es ns d n = (tt, tt)

-- ---- a new name that is good and taken, past the target's checks: EEXIST, whatever the rest is
module _ (N : Named) (d : ℕ) (n : List ℕ) (good : first (name_checks n) ≡ 0) (is-taken : taken N.core.entries N.names d n ≡ true) where
  taken-first : (target rest : List Check) → Refusing target → first target ≡ 0 → first ((target ++ new_name N.core.entries N.names d n) ++ rest) ≡ EEXIST
  unfolding new_name name_checks first
  taken-first target rest r z =
      let new = new_name N.core.entries N.names d n in
      let here : first new ≡ EEXIST = join-past (name_checks n) (taken N.core.entries N.names d n ⇒ EEXIST ∷ []) tt good ∙ (rw is-taken refl) in
      let there : EEXIST ≡ first (target ++ new) = sym (join-past target new r z ∙ here) in
      sym (join_stop (target ++ new) rest there (λ z. omega arith))

  pub create-taken_lem : (t k : ℕ) → first (create_target N.core.entries N.core.threads t d) ≡ 0 → first (create_named_checks N t d k n) ≡ EEXIST
  unfolding create_named_checks create_before create_target
  create-taken_lem t k z = taken-first (create_target N.core.entries N.core.threads t d) _ tt z

  pub link-taken_lem : (t s : ℕ) → first (link_target N.core.entries N.core.threads t s d) ≡ 0 → first (link_named_checks N t s d n) ≡ EEXIST
  unfolding link_named_checks link_before link_target
  link-taken_lem t s z = taken-first (link_target N.core.entries N.core.threads t s d) _ tt z

-- a name that passed its checks is short
name_fits : (n : List ℕ) → first (name_checks n) ≡ 0 → length n ≤ max_name
unfolding name_checks
name_fits n z = ltb-false max_name (length n) (passed (name_checks n) z).0

new_name_fits : (es ns : List ℕ) (d : ℕ) (n : List ℕ) → first (new_name es ns d n) ≡ 0 → length n ≤ max_name
unfolding new_name
new_name_fits es ns d n z = name_fits n (join-left (name_checks n) _ z)

module _ (N : Named) where
  abbrev T : Tables
  T = N.core

  abbrev es : List ℕ
  es = N.core.entries

  abbrev ts : List ℕ
  ts = N.core.threads

  -- ---- create
  module _ (t d k : ℕ) (n : List ℕ) where
    pub create-rest : first (create_before N t d n) ≡ 0 → first ((unknown_kind k ⇒ EINVAL ∷ []) ++ (create_verdict T t d k ++ create_later T)) ≡ first (tree_create_checks T t d k)
    unfolding create_before create_target tree_create_checks create_shape
    create-rest z = sym (join-past (create_target es ts t d) ((unknown_kind k ⇒ EINVAL ∷ []) ++ (create_verdict T t d k ++ create_later T)) tt (join-left (create_target es ts t d) (new_name es N.names d n) z))

    pub create_agrees : first (create_before N t d n) ≡ 0 → first (create_named_checks N t d k n) ≡ first (tree_create_checks T t d k)
    unfolding create_named_checks create_before create_target new_name name_checks
    create_agrees z = join-past (create_before N t d n) ((unknown_kind k ⇒ EINVAL ∷ []) ++ (create_verdict T t d k ++ create_later T)) tt z ∙ create-rest z

    pub create-passed : first (create_named_checks N t d k n) ≡ 0 → first (tree_create_checks T t d k) ≡ 0
    unfolding create_named_checks
    create-passed z = sym (create_agrees (join-left (create_before N t d n) _ z)) ∙ z

    pub create-fits : first (create_named_checks N t d k n) ≡ 0 → length n ≤ max_name
    unfolding create_named_checks create_before create_target
    create-fits z = new_name_fits es N.names d n (join-right (create_target es ts t d) _ tt (join-left (create_before N t d n) _ z))

  -- ---- link
  module _ (t s d : ℕ) (n : List ℕ) where
    pub link-rest : first (link_before N t s d n) ≡ 0 → first ((is_dir es s ⇒ EPERM ∷ []) ++ (link_verdict T t s d ++ link_later T)) ≡ first (link_checks T t s d)
    unfolding link_before link_target link_checks link_shape
    link-rest z = sym (join-past (link_target es ts t s d) ((is_dir es s ⇒ EPERM ∷ []) ++ (link_verdict T t s d ++ link_later T)) tt (join-left (link_target es ts t s d) (new_name es N.names d n) z))

    pub link_agrees : first (link_before N t s d n) ≡ 0 → first (link_named_checks N t s d n) ≡ first (link_checks T t s d)
    unfolding link_named_checks link_before link_target new_name name_checks
    link_agrees z = join-past (link_before N t s d n) ((is_dir es s ⇒ EPERM ∷ []) ++ (link_verdict T t s d ++ link_later T)) tt z ∙ link-rest z

    pub link_fits : first (link_named_checks N t s d n) ≡ 0 → length n ≤ max_name
    unfolding link_named_checks link_before link_target
    link_fits z = new_name_fits es N.names d n (join-right (link_target es ts t s d) _ tt (join-left (link_before N t s d n) _ z))

  -- ---- rename: document 01's checks of the replaced entry never apply to the bearer of a name
  module _ (t s d : ℕ) (n : List ℕ) where
    replaced_not : (f : ℕ → Bool) → ((y : ℕ) → Bears es N.names d n y → f y ≡ false) → replacing (replaced_by N d n) f ≡ false
    unfolding replaced_by
    replaced_not f g = bearer_not es N.names d n f g

    pub rename-rest : first (rename_before T t s d n) ≡ 0
        → first ((is_above es s d ⇒ EINVAL ∷ []) ++ (rename_verdict T t s d (replaced_by N d n) ++ rename_later es s (replaced_by N d n))) ≡ first (rename_checks T t s d (replaced_by N d n))
    unfolding rename_before link_target rename_checks rename_names rename_shape
    rename-rest z =
        let x = replaced_by N d n in
        let rest : List Check = (is_above es s d ⇒ EINVAL ∷ []) ++ (rename_verdict T t s d x ++ rename_later es s x) in
        let p = passed (link_target es ts t s d) (join-left (link_target es ts t s d) (name_checks n) z) in
        let alive : replacing x (λ y. not (live es y)) ≡ false = replaced_not (λ y. not (live es y)) (λ y b. not_of_true (live es y) b.alive) in
        let below : replacing x (λ y. eqb y 0) ≡ false = replaced_not (λ y. eqb y 0) (λ y b. ne_eqb y 0 b.not_root) in
        let child : replacing x (λ y. not (eqb (parent es y) d)) ≡ false = replaced_not (λ y. not (eqb (parent es y) d)) (λ y b. not_of_true (eqb (parent es y) d) (eq-eqb (parent es y) d b.child)) in
        let shape : List Check = eqb s 0 ⇒ EBUSY ∷ replacing x (λ y. eqb y 0) ⇒ EBUSY ∷ not (is_dir es d) ⇒ ENOTDIR ∷ replacing x (λ y. not (eqb (parent es y) d)) ⇒ EINVAL ∷ [] in
        sym (join-past shape rest tt (sym (first-is (miss p.1.1.1.0 (miss below (miss p.1.1.1.1.0 (miss child none)))))))
        ∙ sym (join-past (rename_names T t s d x) (shape ++ rest) tt (sym (first-is (miss p.0 (miss p.1.0 (miss p.1.1.0 (miss alive none)))))))

    pub rename_agrees : first (rename_before T t s d n) ≡ 0 → first (rename_named_checks N t s d n) ≡ first (rename_checks T t s d (replaced_by N d n))
    unfolding rename_named_checks rename_before link_target name_checks
    rename_agrees z = join-past (rename_before T t s d n) ((is_above es s d ⇒ EINVAL ∷ []) ++ (rename_verdict T t s d (replaced_by N d n) ++ rename_later es s (replaced_by N d n))) tt z ∙ rename-rest z

    pub rename-fits : first (rename_named_checks N t s d n) ≡ 0 → length n ≤ max_name
    unfolding rename_named_checks rename_before link_target
    rename-fits z = name_fits n (join-right (link_target es ts t s d) _ tt (join-left (rename_before T t s d n) _ z))

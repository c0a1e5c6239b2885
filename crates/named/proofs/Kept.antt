-- Every call keeps sound tables with names sound, with any arguments, and so does every list of calls. Assumes nothing.
use mathlib.Core.Path.{◌≡◌, sym, ap, subst}
use mathlib.Core.Bool.{true, false, not}
use mathlib.Core.List.{List, [], ◌∷◌}
use Prim.Native.Nat.{ℕ}
use lib.Dec.{eqb, ltb}
use borrow.Author.Tests.{eqb-true, eqb-false, eq-eqb, ltb-true, not-false}
use Rattle.laws.specs.Refusals.{first}
use Rattle.laws.proofs.Bools.{split, clash, both, or_l}
use Rattle.laws.proofs.Refusals.{passed}
use Rattle.laws.proofs.Joined.{join-left, join-right}
use Rattle.access.specs.Limits.{max_entries}
use Rattle.access.specs.Kinds.{last_kind}
use Rattle.tables.specs.Tables.{Tables, counter, kind, parent, object, live}
use Rattle.sound.specs.Sound.{sound}
use Rattle.sound.proofs.Facts.{facts}
use Rattle.sound_tree.proofs.Facts.{Tree}
use Rattle.fs.specs.Move.{verdict}
use Rattle.kept_tree.proofs.Fill.{free-entry, live-some}
use Rattle.tree.specs.Entries.{free_entry, unknown_kind, replacing, same_object}
use Rattle.tree.specs.Create.{create_shape, create_verdict, create_later, tree_create_checks, tree_created, remove_shape, remove_checks}
use Rattle.tree.specs.Link.{link_shape, link_verdict, link_later, link_checks, linked}
use Rattle.tree.specs.Rename.{dropped, moved}
use Rattle.tree.specs.Exchange.{exchange_names, exchange_shape, exchange_checks, swapped}
use Rattle.theorems.specs.Calls.{Call}
use Rattle.theorems.proofs.Kept as settled
use Rattle.names.specs.Names.{name_checks, names_sound, bearer, drop_name, taken}
use Rattle.names.proofs.Facts.{Names, Name, names, names_of}
use Rattle.names.proofs.Bearer.{bearer-cases}
use Rattle.named.specs.Named.{Named, named_sound, NamedOutcome}
use Rattle.named.specs.Tree.{create_target, new_name, create_before, new_names, create_named_checks, create_named, remove_named, link_target, link_before, link_named_checks, link_named, replaced_by, rename_before, rename_named_checks, renamed_names, rename_named, swapped_names, exchange_named}
use Rattle.named.specs.Calls.{leaves_tree, NamedCall, lifted, create, remove, link, rename, exchange, lookup, turn, batch, apply, write, outcome_named, after_named, all_named}
use Rattle.named.proofs.Made.{core-sound, names-sound, Way, way_named, way_cases, Made}
use Rattle.named.proofs.Listed.{create_way, create_name, remove_way, link_way, link_name, rename_way, rename_name, exchange_way}
use Rattle.named.proofs.Leaves.{leaves}
use Rattle.named.proofs.Applied.{apply-made, apply-entries}
use Rattle.named.proofs.Translate.{translate, follows, lifted-outcome, lookup-left, turn-left, batch-left, write-left}
use Rattle.named.proofs.Renamed.{names-filled, names-cleared, names-moved, names_replaced, names-swapped}

-- the names of N are sound
abbrev Right : Named → Type 0
Right N = names_sound N.core.entries N.names ≡ true

-- ---- calls that leave the tree alone
right-lifted : (N : Named) (c : Call) (q : leaves_tree c ≡ true) → Right N → Right (after_named N (lifted c q))
right-lifted N c q h = subst (λ (o : NamedOutcome). Right o.left) (sym (lifted-outcome N c q h)) (rw (leaves N.core c q) h)

-- ---- calls of the tree
right_way : (N : Named) (W : Way N) → named_sound N ≡ true → (Made N W → names_sound W.left.entries W.names ≡ true) → Right (way_named N W).left
right_way N W h f = way_cases N W (λ o. Right o.left) (λ s. names-sound N h) (λ s b. names-sound N h) (λ s b z. names-sound N h)
    (λ s b z. f (record { is-sound_lem = s; passed = b; none = z }))

same_of : (es : List ℕ) (s x : ℕ) → s ≡ x → same_object es s x ≡ true
unfolding same_object
same_of es s x e = eq-eqb (object es s) (object es x) (ap (object es) e)

module _ (N : Named) (h : named_sound N ≡ true) where
  abbrev T : Tables
  T = N.core

  abbrev es : List ℕ
  es = N.core.entries

  abbrev ns : List ℕ
  ns = N.names

  tree : Tree es (counter T.system)
  tree = (facts T (core-sound N h)).tree

  old : Names es ns
  old = names es ns (names-sound N h)

  new : (d : ℕ) (n : List ℕ) → first (new_name N.core.entries N.names d n) ≡ 0 → taken es ns d n ≡ false
  unfolding new_name name_checks
  new d n z = (passed (new_name N.core.entries N.names d n) z).1.1.0

  right-create : (t d k : ℕ) (n : List ℕ) → Made N (create_way N t d k n) → names_sound (tree_created T d k).entries (create_way N t d k n).names ≡ true
  unfolding create_way new_names create_before create_target tree_create_checks create_shape create_verdict create_later tree_created unknown_kind
  right-create t d k n m =
      let shape = passed (create_shape T t d k) (join-left (create_shape T t d k) _ m.none) in
      let later = passed (create_later T) (join-right (create_verdict T t d k) _ tt (join-right (create_shape T t d k) _ tt m.none)) in
      let small = ltb-true (free_entry es) max_entries (not-false _ later.0) in
      names_of _ _ (names-filled es ns _ tree old (free_entry es) k d (counter T.system) n small (free-entry es small)
      (eqb-false k 0 (or_l (eqb k 0) (ltb last_kind k) shape.1.1.1.0)) (create_name N t d k n m.passed) (new d n (join-right (create_target es T.threads t d) _ tt m.passed)))

  right-link : (t s d : ℕ) (n : List ℕ) → Made N (link_way N t s d n) → names_sound (linked es s d) (link_way N t s d n).names ≡ true
  unfolding link_way new_names link_before link_target link_checks link_shape link_verdict verdict link_later linked
  right-link t s d n m =
      let shape = passed (link_shape T t s d) (join-left (link_shape T t s d) _ m.none) in
      let later = passed (link_later T) (join-right (link_verdict T t s d) _ tt (join-right (link_shape T t s d) _ tt m.none)) in
      let small = ltb-true (free_entry es) max_entries (not-false _ later.0) in
      names_of _ _ (names-filled es ns _ tree old (free_entry es) (kind es s) d (object es s) n small (free-entry es small)
      (live-some es s (not-false _ shape.1.0)) (link_name N t s d n m.passed) (new d n (join-right (link_target es T.threads t s d) _ tt m.passed)))

  right-remove : (t e : ℕ) → Made N (remove_way N t e) → names_sound (remove_way N t e).left.entries (remove_way N t e).names ≡ true
  unfolding remove_way remove_checks remove_shape
  right-remove t e m =
      let shape = passed (remove_shape T t e) (join-left (remove_shape T t e) _ m.none) in
      names_of _ _ (names-cleared es ns _ tree old e (not-false _ shape.1.0))

  -- the source and its new name, whatever else is asked
  pub right-moved : (s d : ℕ) (n : List ℕ) → live es s ≡ true → (s ≡ 0 → ⊥) → Name n → names_sound (moved es s d (bearer es ns d n)) (renamed_names es ns s n (bearer es ns d n)) ≡ true
  unfolding moved dropped renamed_names drop_name replacing
  right-moved s d n source nz ok = bearer-cases es ns d n
      (λ b t. rw b (names_of _ _ (names-moved es ns _ tree old s d n source nz ok t)))
      (λ y b B. rw b (split (same_object es s y)
      (λ o. rw o (names-sound N h))
      (λ o. rw o (names_of _ _ (names_replaced es ns _ tree old s d n source nz ok y B (λ e. clash (same_object es s y) (same_of es s y e) o))))))

  right-rename : (t s d : ℕ) (n : List ℕ) → Made N (rename_way N t s d n) → names_sound (rename_way N t s d n).left.entries (rename_way N t s d n).names ≡ true
  unfolding rename_way rename_before link_target replaced_by
  right-rename t s d n m =
      let q = passed (link_target es T.threads t s d) (join-left (link_target es T.threads t s d) _ m.passed) in
      right-moved s d n (not-false _ q.1.0) (eqb-false s 0 q.1.1.1.0) (rename_name N t s d n m.passed)

  right-exchange : (t s d x : ℕ) → Made N (exchange_way N t s d x) → names_sound (exchange_way N t s d x).left.entries (exchange_way N t s d x).names ≡ true
  unfolding exchange_way exchange_checks exchange_names exchange_shape swapped swapped_names
  right-exchange t s d x m =
      let p = passed (exchange_names T t s d x) (join-left (exchange_names T t s d x) _ m.none) in
      let z = join-right (exchange_names T t s d x) _ tt m.none in
      let q = passed (exchange_shape es s d x) (join-left (exchange_shape es s d x) _ z) in
      split (same_object es s x)
      (λ o. rw o (names-sound N h))
      (λ o. rw o (names_of _ _ (names-swapped es ns _ tree old s d x (not-false _ p.1.0) (not-false _ p.1.1.1.0) (eqb-false s 0 q.0) (eqb-false x 0 q.1.0)
      (eqb-true (parent es x) d (not-false _ q.1.1.1.0)) (λ e. clash (same_object es s x) (same_of es s x e) o))))

-- ---- every call
pub names-kept : (N : Named) (c : NamedCall) → named_sound N ≡ true → Right (after_named N c)
unfolding outcome_named create_named create_named_checks create_way remove_named remove_way link_named link_named_checks link_way rename_named rename_named_checks rename_way exchange_named exchange_way
names-kept N (lifted c q) h = right-lifted N c q (names-sound N h)
names-kept N (create t d k n) h = right_way N (create_way N t d k n) h (right-create N h t d k n)
names-kept N (remove t e) h = right_way N (remove_way N t e) h (right-remove N h t e)
names-kept N (link t s d n) h = right_way N (link_way N t s d n) h (right-link N h t s d n)
names-kept N (rename t s d n) h = right_way N (rename_way N t s d n) h (right-rename N h t s d n)
names-kept N (exchange t s d x) h = right_way N (exchange_way N t s d x) h (right-exchange N h t s d x)
names-kept N (lookup p) h = rw (lookup-left N p) (names-sound N h)
names-kept N (turn Q) h = rw (turn-left N Q) (names-sound N h)
names-kept N (batch rs ns xs) h = rw (batch-left N rs ns xs) (names-sound N h)
names-kept N (write r name out) h = rw (write-left N r name out) (names-sound N h)
names-kept N (apply stock site name) h = rw (apply-entries N stock site name, (apply-made N stock site name).same_names) (names-sound N h)

-- the six tables by document 01's theorem, through the translation
pub kept : (N : Named) (c : NamedCall) → named_sound N ≡ true → named_sound (after_named N c) ≡ true
unfolding named_sound
kept N c h = both (sound (after_named N c).core) _ (rw (follows N c).same (settled.kept-all N.core (translate N c) (core-sound N h))) (names-kept N c h)

pub kept-all : (N : Named) (cs : List NamedCall) → named_sound N ≡ true → named_sound (all_named N cs) ≡ true
unfolding all_named
kept-all N [] h = h
kept-all N (c ∷ cs) h = kept-all (after_named N c) cs (kept N c h)

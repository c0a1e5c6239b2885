-- An entry goes to another directory, neither at nor below it: rename and exchange keep sound tables sound. Assumes nothing.
use mathlib.Core.Path.{◌≡◌, refl, sym, ap, ◌∙◌}
use mathlib.Core.Bool.{true, false}
use mathlib.Core.List.{List}
use mathlib.Core.Logic.{inl, inr}
use Prim.Native.Nat.{ℕ, ◌+◌, ◌*◌, ◌<◌}
use native.Mathlib.Omega.{arith}
use lib.Dec.{eqb}
use lib.ListN.{length}
use borrow.Author.Tests.{eqb-true, eqb-false, not-false}
use Rattle.laws.proofs.Bools.{split, clash}
use Rattle.laws.proofs.Refusals.{passed}
use Rattle.access.specs.Limits.{max_entries}
use Rattle.access.specs.declared.errno.Reply.TheVariants.{Done}
use Rattle.tables.specs.Tables.{Tables, entry_width, counter, parent, live, is_dir}
use Rattle.tables.specs.Outcome.{outcome}
use Rattle.sound_tree.proofs.Reach.{up}
use Rattle.sound.specs.Sound.{sound}
use Rattle.sound.proofs.Facts.{Sound, facts}
use Rattle.sound.proofs.Calls.{kept-call}
use Rattle.fs.specs.Move.{verdict}
use Rattle.tree.specs.declared.Replaced.{Replaced}
use Rattle.tree.specs.declared.Replaced.TheVariants.{None, Entry}
use Rattle.tree.specs.Entries.{is_above, replacing, same_object, put_parent, free_row, with_entries}
use Rattle.tree.specs.Rename.{rename_names, rename_shape, rename_verdict, rename_later, rename_checks, dropped, moved, tree_rename}
use Rattle.tree.specs.Exchange.{exchange_names, exchange_shape, exchange_verdict, exchange_checks, swapped, tree_exchange}
use Rattle.kept_tree.proofs.Written.{kind-move, object-move, parent_stay, parent-move, length-move, live_dir, live_same, dir_same}
use Rattle.kept_tree.proofs.Climbs.{Avoids, above_avoids, own-parent, same_climb, same_reach}
use Rattle.kept_tree.proofs.Edits.{Childless, move_frame}
use Rattle.kept_tree.proofs.Stays.{Change, kept-change}
use Rattle.kept_tree.proofs.Clear.{childless, kept_clear}

module _ (T : Tables) (S : Sound T) (s d : ℕ) (source : live T.entries s ≡ true) (nz : 0 ≡ s → ⊥) (home : is_dir T.entries d ≡ true)
    (outside : Avoids T.entries s d) where
  abbrev es : List ℕ
  es = T.entries

  abbrev new : List ℕ
  new = put_parent es s d

  room : entry_width * s + 1 < length es
  room = let w = S.tree.long in let l = S.tree.small s source in omega arith

  moved_to : (x : ℕ) → x ≡ s → parent new x ≡ d
  moved_to x e = ap (parent new) e ∙ parent-move es s d room

  change : Change es new (λ x. false)
  change =
      let next = counter T.system in
      record {
        frame = move_frame es next S.tree s d source home (λ x. false) (λ x. refl);
        settled = λ x a g. split (eqb x s)
            (λ q. inr (rw (moved_to x (eqb-true x s q)) (same_reach es new next S.tree d (live_dir es d home) (λ j. parent_stay es s d (up es j d) (outside j)))))
            (λ q. inl (parent_stay es s d x (eqb-false x s q)));
        long = length-move es s d ∙ S.tree.long;
        top = parent_stay es s d 0 nz ∙ S.tree.root_top;
        root = refl;
        vacant = λ x l.
            let k = sym (live_same es new x (kind-move es s d x)) ∙ l in
            let z = S.tree.free x k in
            (parent_stay es s d x (λ q. clash (live es s) source (rw q at k)) ∙ z.0, object-move es s d x ∙ z.1);
      }

  pub kept_move : sound (with_entries T (put_parent T.entries s d)) ≡ true
  kept_move = kept-change T S new (λ x. false) change (λ x a. (sym (live_same es new x (kind-move es s d x)) ∙ a, refl))

-- ---- rename
module _ (T : Tables) (S : Sound T) (s d : ℕ) (source : live T.entries s ≡ true) (nz : 0 ≡ s → ⊥) (home : is_dir T.entries d ≡ true)
    (outside : Avoids T.entries s d) (y : ℕ) (there : live T.entries y ≡ true) (ny : 0 ≡ y → ⊥) (child : parent T.entries y ≡ d)
    (none : Childless T.entries y) where
  -- the replaced entry is childless after the move too
  still : Childless (put_parent T.entries s d) y
  still x l p =
      let es = T.entries in
      split (eqb x s)
      (λ q. none y there (child ∙ sym (moved_to T S s d source nz home outside x (eqb-true x s q)) ∙ p))
      (λ q. none x (sym (live_same es (put_parent es s d) x (kind-move es s d x)) ∙ l) (sym (parent_stay es s d x (eqb-false x s q)) ∙ p))

  pub kept_replace : sound (with_entries T (free_row (put_parent T.entries s d) y)) ≡ true
  kept_replace =
      let es = T.entries in
      let new = put_parent es s d in
      kept_clear (with_entries T new) (facts (with_entries T new) (kept_move T S s d source nz home outside)) y
      (live_same es new y (kind-move es s d y) ∙ there) ny still

pub nonzero : (x : ℕ) → eqb x 0 ≡ false → 0 ≡ x → ⊥
nonzero x h e = eqb-false x 0 h (sym e)

pub not_above : (T : Tables) → Sound T → (s d : ℕ) → (0 ≡ s → ⊥) → is_dir T.entries d ≡ true → is_above T.entries s d ≡ false → Avoids T.entries s d
not_above T S s d nz home h =
    let Z = S.tree in
    above_avoids T.entries Z.root_top s nz max_entries d (Z.tops d (live_dir T.entries d home)) h

pub kept_renamed : (T : Tables) (t s d : ℕ) (x : Replaced) → sound T ≡ true → sound (tree_rename T t s d x).left ≡ true
unfolding tree_rename rename_checks rename_names rename_shape rename_verdict rename_later verdict moved dropped replacing
kept_renamed T t s d None h = kept-call T (rename_checks T t s d None) (outcome (Done 0) (with_entries T (moved T.entries s d None))) (λ z.
    let es = T.entries in
    let S = facts T h in
    let p = passed (rename_checks T t s d None) z in
    let source = not-false (live es s) p.1.0 in
    let q = p.1.1.1.1 in
    let nz = nonzero s q.0 in
    let home = not-false (is_dir es d) q.1.1.0 in
    kept_move T S s d source nz home (not_above T S s d nz home q.1.1.1.1.0)) h
kept_renamed T t s d (Entry y) h = kept-call T (rename_checks T t s d (Entry y)) (outcome (Done 0) (with_entries T (moved T.entries s d (Entry y)))) (λ z.
    let es = T.entries in
    let S = facts T h in
    let p = passed (rename_checks T t s d (Entry y)) z in
    let source = not-false (live es s) p.1.0 in
    let there = not-false (live es y) p.1.1.1.0 in
    let q = p.1.1.1.1 in
    let nz = nonzero s q.0 in
    let ny = nonzero y q.1.0 in
    let home = not-false (is_dir es d) q.1.1.0 in
    let child = eqb-true (parent es y) d (not-false (eqb (parent es y) d) q.1.1.1.0) in
    let outside = not_above T S s d nz home q.1.1.1.1.0 in
    split (same_object es s y)
    (λ o. rw o h)
    (λ o.
    let r = q.1.1.1.1.1.1.1 o in
    rw o (kept_replace T S s d source nz home outside y there ny child (childless es _ S.tree y ny r.1.1.0)))) h

-- ---- exchange
module _ (T : Tables) (h : sound T ≡ true) (s d x : ℕ) (source : live T.entries s ≡ true) (other : live T.entries x ≡ true) (nz : 0 ≡ s → ⊥) (nx : 0 ≡ x → ⊥)
    (home : is_dir T.entries d ≡ true) (below : is_above T.entries s d ≡ false) (apart : is_above T.entries x (parent T.entries s) ≡ false) where
  pub kept_swap : sound (with_entries T (swapped T.entries s d x)) ≡ true
  unfolding swapped
  kept_swap =
      let es = T.entries in
      let new = put_parent es s d in
      let U = with_entries T new in
      let to = parent es s in
      let S = facts T h in
      let back = S.tree.in_dir s source in
      let away = not_above T S x to nx back apart in
      let up_same : (k : ℕ) → up new k to ≡ up es k to = λ k. same_climb es new k to (λ j. parent_stay es s d (up es j to) (own-parent es _ S.tree s source nz j)) in
      split (same_object es s x)
      (λ o. rw o h)
      (λ o. rw o
      (kept_move U (facts U (kept_move T S s d source nz home (not_above T S s d nz home below))) x to
      (live_same es new x (kind-move es s d x) ∙ other) nx (dir_same es new to to (kind-move es s d to) ∙ back)
      (λ k e. away k (sym (up_same k) ∙ e))))

pub kept_exchanged : (T : Tables) (t s d x : ℕ) → sound T ≡ true → sound (tree_exchange T t s d x).left ≡ true
unfolding tree_exchange exchange_checks exchange_names exchange_shape exchange_verdict verdict
kept_exchanged T t s d x h = kept-call T (exchange_checks T t s d x) (outcome (Done 0) (with_entries T (swapped T.entries s d x))) (λ z.
    let es = T.entries in
    let p = passed (exchange_checks T t s d x) z in
    let q = p.1.1.1.1 in
    kept_swap T h s d x (not-false (live es s) p.1.0) (not-false (live es x) p.1.1.1.0) (nonzero s q.0) (nonzero x q.1.0)
    (not-false (is_dir es d) q.1.1.0) q.1.1.1.1.0 q.1.1.1.1.1.0) h

-- A free row becomes an entry: create and link keep sound tables sound. Assumes nothing.
use mathlib.Core.Path.{◌≡◌, refl, sym, ap, ◌∙◌}
use mathlib.Core.Bool.{true, false, not}
use mathlib.Core.List.{List}
use mathlib.Core.Logic.{inl, inr}
use Prim.Native.Nat.{ℕ, ◌+◌, ◌*◌, ◌≤◌, ◌<◌}
use native.Mathlib.Nat.{le_refl}
use native.Mathlib.Omega.{arith}
use lib.Dec.{eqb, ltb}
use lib.ListN.{length, set, length-set}
use lib.Seq.{get_or-set_same, get_or-set_other}
use borrow.Author.Tests.{eqb-true, eqb-false, ne_eqb, ltb-true, ltb-false, leb-false, not-true, not-false}
use Rattle.laws.specs.Cells.{cell}
use Rattle.laws.proofs.Bools.{split, clash, or_l, or_r, not_of_false}
use Rattle.laws.proofs.Tests.{first_passes}
use Rattle.laws.proofs.Refusals.{passed}
use Rattle.access.specs.Kinds.{directory, last_kind}
use Rattle.access.specs.Limits.{max_entries, max_counter}
use Rattle.access.specs.declared.errno.Reply.TheVariants.{Done}
use Rattle.tables.specs.Tables.{Tables, entry_width, counter, kind, parent, object, live, is_dir}
use Rattle.tables.specs.Outcome.{outcome}
use Rattle.sound_tree.proofs.Facts.{Tree}
use Rattle.sound.specs.Sound.{sound}
use Rattle.sound.proofs.Facts.{Sound, facts}
use Rattle.sound.proofs.Calls.{kept-call}
use Rattle.fs.specs.Move.{verdict}
use Rattle.tree.specs.Entries.{free_entry, unknown_kind, put_entry, with_entries}
use Rattle.tree.specs.Create.{create_shape, create_verdict, create_later, tree_create_checks, tree_created, tree_create}
use Rattle.tree.specs.Link.{link_shape, link_verdict, link_later, link_checks, linked, tree_link}
use Rattle.kept_tree.proofs.Written.{put_other, length_put, kind_put, parent_put, object_put, is_dir_lem, live_same, dir_same}
use Rattle.kept_tree.proofs.Edits.{fill_frame}
use Rattle.kept_tree.proofs.Changed.{OldFiles, kept_tables}
use Rattle.kept_tree.proofs.Climbs.{root_live}
use Rattle.kept_tree.proofs.Stays.{Change, tree_stays}

module _ (es : List ℕ) (next next' : ℕ) (Z : Tree es next) (n k d o : ℕ) (small : n < max_entries) (free : live es n ≡ false) (home : is_dir es d ≡ true)
    (some : k ≡ 0 → ⊥) (known : k ≤ last_kind) (grow : next ≤ next') (numbered : o < next')
    (same : (f : ℕ) → live es f ≡ true → object es f ≡ o → (kind es f ≡ k) × (k ≡ directory → ⊥)) where
  abbrev new : List ℕ
  new = put_entry es n k d o

  room : entry_width * n + 2 < length es
  room = let w = Z.long in omega arith

  off : (x : ℕ) → live es x ≡ true → x ≡ n → ⊥
  off x a e = clash (live es n) (rw e at a) free

  -- the other rows
  at : (x l : ℕ) → (x ≡ n → ⊥) → l < entry_width → cell new entry_width x l ≡ cell es entry_width x l
  at = put_other es n k d o

  old : (x : ℕ) → (x ≡ n → ⊥) → live new x ≡ true → live es x ≡ true
  old x q a = sym (live_same es new x (at x 0 q (omega arith))) ∙ a

  -- the new row
  new-kind : (x : ℕ) → x ≡ n → kind new x ≡ k
  new-kind x e = ap (kind new) e ∙ kind_put es n k d o room

  new-object : (x : ℕ) → x ≡ n → object new x ≡ o
  new-object x e = ap (object new) e ∙ object_put es n k d o room

  new-parent : (x : ℕ) → x ≡ n → parent new x ≡ d
  new-parent x e = ap (parent new) e ∙ parent_put es n k d o room

  new-live : (x : ℕ) → x ≡ n → live new x ≡ true
  unfolding live
  new-live x e = rw (new-kind x e) (not_of_false _ (ne_eqb k 0 some))

  change : Change es new (λ x. false)
  change = record {
    frame = fill_frame es next Z n k d o free (λ x. false) (λ x. refl);
    settled = λ x a g. inl (at x 1 (off x a) (omega arith));
    long = length_put es n k d o ∙ Z.long;
    top = at 0 1 (off 0 (root_live es next Z)) (omega arith) ∙ Z.root_top;
    root = refl;
    vacant = λ x l. split (eqb x n)
        (λ q. clash (live new x) (new-live x (eqb-true x n q)) l)
        (λ q.
        let e = eqb-false x n q in
        let z = Z.free x (sym (live_same es new x (at x 0 e (omega arith))) ∙ l) in
        (at x 1 e (omega arith) ∙ z.0, at x 2 e (omega arith) ∙ z.1));
  }

  agreed : (e f : ℕ) → live new e ≡ true → live new f ≡ true → object new e ≡ object new f → (kind new e ≡ kind new f) × (is_dir new e ≡ true → e ≡ f)
  agreed e f a b q = split (eqb e n)
      (λ i. let x = eqb-true e n i in split (eqb f n)
      (λ j. let y = eqb-true f n j in (new-kind e x ∙ sym (new-kind f y), λ h. x ∙ sym y))
      (λ j.
      let y = eqb-false f n j in
      let s = same f (old f y b) (sym (at f 2 y (omega arith)) ∙ sym q ∙ new-object e x) in
      (new-kind e x ∙ sym s.0 ∙ sym (at f 0 y (omega arith)), λ h. absurd (s.1 (sym (new-kind e x) ∙ is_dir_lem new e h)))))
      (λ i. let x = eqb-false e n i in split (eqb f n)
      (λ j.
      let y = eqb-true f n j in
      let s = same e (old e x a) (sym (at e 2 x (omega arith)) ∙ q ∙ new-object f y) in
      (at e 0 x (omega arith) ∙ s.0 ∙ sym (new-kind f y), λ h. absurd (s.1 (sym s.0 ∙ sym (at e 0 x (omega arith)) ∙ is_dir_lem new e h))))
      (λ j.
      let y = eqb-false f n j in
      let was : object es e ≡ object es f = sym (at e 2 x (omega arith)) ∙ q ∙ at f 2 y (omega arith) in (
        at e 0 x (omega arith) ∙ Z.agreed.kinds_agree_lem e f (old e x a) (old f y b) was ∙ sym (at f 0 y (omega arith)),
        λ h. Z.agreed.one_dir e f (old e x a) (old f y b) was (sym (dir_same es new e e (at e 0 x (omega arith))) ∙ h),
      )))

  pub fill_tree : Tree (put_entry es n k d o) next'
  fill_tree = tree_stays es new next next' Z (λ x. false) change grow
      (record { kinds_agree_lem = λ e f a b q. (agreed e f a b q).0; one_dir = λ e f a b q. (agreed e f a b q).1 })
      (λ x a. split (eqb x n)
      (λ q.
      let e = eqb-true x n q in
      let ob = new-object x e in
      let ki = new-kind x e in
      inr (record { home = rw (new-parent x e) home; home_kept = refl; known = omega arith; numbered = omega arith }))
      (λ q. inl (old x (eqb-false x n q) a, refl)))

  pub fill_files : (o < next → (f : ℕ) × (live es f ≡ true) × (is_dir es f ≡ false) × (object es f ≡ o)) → OldFiles es (put_entry es n k d o) next
  fill_files share e a h l = split (eqb e n)
      (λ q.
      let ob = new-object e (eqb-true e n q) in
      let f = share (omega arith) in
      (f.0, f.1, f.2, f.3 ∙ sym ob))
      (λ q. let x = eqb-false e n q in (e, old e x a, sym (dir_same es new e e (at e 0 x (omega arith))) ∙ h, sym (at e 2 x (omega arith))))

-- the lowest free entry is free
pub free-entry : (es : List ℕ) → free_entry es < max_entries → live es (free_entry es) ≡ false
unfolding free_entry
free-entry es h = not-true _ (first_passes (λ e. not (live es e)) max_entries h)

-- ---- create: what it does to sound tables, whoever may make the call
module _ (T : Tables) (S : Sound T) (d k : ℕ) (home : is_dir T.entries d ≡ true) (kn : unknown_kind k ≡ false) (small : free_entry T.entries < max_entries)
    (below : counter T.system < max_counter) where
  pub kept-create : sound (tree_created T d k) ≡ true
  unfolding tree_created unknown_kind
  kept-create =
      let es = T.entries in
      let n = free_entry es in
      let c = counter T.system in
      let sys = set T.system 1 (c + 1) in
      let width = S.lengths.system in
      let known : k ≤ last_kind = ltb-false last_kind k (or_r (eqb k 0) (ltb last_kind k) kn) in
      let now : counter sys ≡ c + 1 = get_or-set_same T.system 1 (c + 1) 0 (omega arith) in
      let grow : c ≤ counter sys = omega arith in
      let numbered : c < counter sys = omega arith in
      let free = free-entry es small in
      let some = eqb-false k 0 (or_l (eqb k 0) (ltb last_kind k) kn) in
      let same : (f : ℕ) → live es f ≡ true → object es f ≡ c → (kind es f ≡ k) × (k ≡ directory → ⊥) = λ f a q. absurd (let b = S.tree.objects f a in omega arith) in
      kept_tables T S sys (put_entry es n k d c) (length-set T.system 1 (c + 1) ∙ width)
      (get_or-set_other T.system 1 0 (c + 1) 0 (omega arith)) (get_or-set_other T.system 1 2 (c + 1) 0 (omega arith)) (get_or-set_other T.system 1 3 (c + 1) 0 (omega arith))
      grow (omega arith)
      (fill_tree es c (counter sys) S.tree n k d c small free home some known grow numbered same)
      (fill_files es c (counter sys) S.tree n k d c small free home some known grow numbered same (λ b. absurd (omega arith)))

pub kept-created : (T : Tables) (t d k : ℕ) → sound T ≡ true → sound (tree_create T t d k).left ≡ true
unfolding tree_create tree_create_checks create_shape create_verdict create_later
kept-created T t d k h = kept-call T (tree_create_checks T t d k) (outcome (Done (free_entry T.entries)) (tree_created T d k)) (λ z.
    let p = passed (tree_create_checks T t d k) z in
    let l = p.1.1.1.1.1 in
    kept-create T (facts T h) d k (not-false _ p.1.1.0) p.1.1.1.0 (ltb-true (free_entry T.entries) max_entries (not-false _ l.0))
    (leb-false max_counter (counter T.system) l.1.0)) h

-- ---- link
pub live-some : (es : List ℕ) (e : ℕ) → live es e ≡ true → kind es e ≡ 0 → ⊥
unfolding live
live-some es e l = eqb-false (kind es e) 0 (not-true (eqb (kind es e) 0) l)

pub no_dir : (es : List ℕ) (e : ℕ) → is_dir es e ≡ false → kind es e ≡ directory → ⊥
unfolding is_dir
no_dir es e q = eqb-false (kind es e) directory q

module _ (T : Tables) (S : Sound T) (s d : ℕ) (source : live T.entries s ≡ true) (home : is_dir T.entries d ≡ true) (file : is_dir T.entries s ≡ false)
    (small : free_entry T.entries < max_entries) where
  pub kept-link : sound (with_entries T (linked T.entries s d)) ≡ true
  unfolding linked
  kept-link =
      let es = T.entries in
      let n = free_entry es in
      let c = counter T.system in
      let Z = S.tree in
      let free = free-entry es small in
      let same : (f : ℕ) → live es f ≡ true → object es f ≡ object es s → (kind es f ≡ kind es s) × (kind es s ≡ directory → ⊥) =
      λ f a o. (Z.agreed.kinds_agree_lem f s a source o, no_dir es s file) in
      kept_tables T S T.system (linked es s d) S.lengths.system refl refl refl (le_refl c) S.system.counter_high
      (fill_tree es c c Z n (kind es s) d (object es s) small free home (live-some es s source) (Z.kinds s source) (le_refl c) (Z.objects s source) same)
      (fill_files es c c Z n (kind es s) d (object es s) small free home (live-some es s source) (Z.kinds s source) (le_refl c) (Z.objects s source) same
      (λ b. (s, source, file, refl)))

pub kept-linked : (T : Tables) (t s d : ℕ) → sound T ≡ true → sound (tree_link T t s d).left ≡ true
unfolding tree_link link_checks link_shape link_verdict link_later verdict
kept-linked T t s d h = kept-call T (link_checks T t s d) (outcome (Done (free_entry T.entries)) (with_entries T (linked T.entries s d))) (λ z.
    let es = T.entries in
    let p = passed (link_checks T t s d) z in
    let q = p.1.1.1.1 in
    kept-link T (facts T h) s d (not-false (live es s) p.1.0) (not-false (is_dir es d) q.0) q.1.0
    (ltb-true (free_entry es) max_entries (not-false _ q.1.1.1.1.0))) h

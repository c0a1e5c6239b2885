-- A change of the tree, what it leaves and what it brings: the tree stays sound. Assumes nothing.
use mathlib.Core.Path.{◌≡◌, refl, sym, ◌∙◌}
use mathlib.Core.Bool.{Bool, true, false}
use mathlib.Core.List.{List}
use mathlib.Core.Logic.{◌⊎◌, inl}
use Prim.Native.Nat.{ℕ, zero, suc, ◌*◌, ◌≤◌, ◌<◌}
use native.Mathlib.Nat.{le_refl}
use native.Mathlib.Omega.{arith}
use lib.Dec.{eqb}
use lib.ListN.{length}
use borrow.Author.Tests.{eqb-true}
use Rattle.laws.proofs.Bools.{split, either}
use Rattle.access.specs.Kinds.{last_kind}
use Rattle.access.specs.Limits.{max_entries}
use Rattle.tables.specs.Tables.{Tables, entry_width, counter, kind, parent, object, live, is_dir}
use Rattle.sound_tree.specs.Tree.{reaches}
use Rattle.sound_tree.proofs.Reach.{up, climb_bound}
use Rattle.sound_tree.proofs.Facts.{Agreed, Tree}
use Rattle.sound.specs.Sound.{sound}
use Rattle.sound.proofs.Facts.{Sound}
use Rattle.tree.specs.Entries.{with_entries}
use Rattle.kept_tree.proofs.Written.{live_dir, dir_same, in_table}
use Rattle.kept_tree.proofs.Edits.{Frame}
use Rattle.kept_tree.proofs.Changed.{kept_tables}
use Rattle.kept_tree.proofs.Climbs.{Reach, root_live, up_live, step_reach, root_reach}

pub record Change (es es' : List ℕ) (gone : ℕ → Bool) : Type 0 where
  pub frame : Frame es es' gone
  -- the parent is as before, or its climb ends
  pub settled : (x : ℕ) → live es x ≡ true → gone x ≡ false → (parent es' x ≡ parent es x) ⊎ Reach es' (parent es' x)
  pub long : length es' ≡ entry_width * max_entries
  pub top : parent es' 0 ≡ 0
  pub root : gone 0 ≡ false
  -- "free space is zero"
  pub vacant : (x : ℕ) → live es' x ≡ false → (parent es' x ≡ 0) × (object es' x ≡ 0)

-- a new entry
pub record Born (es es' : List ℕ) (gone : ℕ → Bool) (next x : ℕ) : Type 0 where
  pub home : is_dir es (parent es' x) ≡ true
  pub home_kept : gone (parent es' x) ≡ false
  pub known : kind es' x ≤ last_kind
  pub numbered : object es' x < next

module _ (es es' : List ℕ) (next next' : ℕ) (Z : Tree es next) (gone : ℕ → Bool) (F : Change es es' gone) (grow : next ≤ next') (A : Agreed es')
    (born : (x : ℕ) → live es' x ≡ true → ((live es x ≡ true) × (gone x ≡ false)) ⊎ Born es es' gone next' x) where
  -- what is kept still comes to the root
  settle : (n z : ℕ) → reaches es n z ≡ true → live es z ≡ true → gone z ≡ false → Reach es' z
  unfolding reaches
  settle zero z r a g = root_reach es' z (eqb-true z 0 r)
  settle (suc n) z r a g = split (eqb z 0)
      (λ o. root_reach es' z (eqb-true z 0 o))
      (λ o. step_reach es' z (either (F.settled z a g)
      (λ e. rw e (settle n (parent es z) (rw o at r) (live_dir es (parent es z) (Z.in_dir z a)) (rw e at (F.frame.under_kept z a g))))
      (λ x. x)))

  -- a directory that is kept is one still
  dir_kept : (x : ℕ) → is_dir es x ≡ true → gone x ≡ false → is_dir es' x ≡ true
  dir_kept x d g = dir_same es es' x x (F.frame.keeps_kind x (live_dir es x d) g) ∙ d

  dirs : (z : ℕ) → live es' z ≡ true → is_dir es' (parent es' z) ≡ true
  dirs z a = either (born z a)
      (λ k. dir_kept (parent es' z) (F.frame.under_dir z k.0 k.1) (F.frame.under_kept z k.0 k.1))
      (λ k. dir_kept (parent es' z) k.home k.home_kept)

  kept_reach : (z : ℕ) → live es z ≡ true → gone z ≡ false → Reach es' z
  kept_reach z a g = settle max_entries z (Z.tops z a) a g

  reach : (z : ℕ) → live es' z ≡ true → Reach es' z
  reach z a = either (born z a) (λ k. kept_reach z k.0 k.1) (λ k. step_reach es' z (kept_reach (parent es' z) (live_dir es (parent es' z) k.home) k.home_kept))

  pub tree_stays : Tree es' next'
  tree_stays =
      let rd = root_live es next Z in
      record {
        long = F.long;
        root_dir = F.frame.keeps_kind 0 rd F.root ∙ Z.root_dir;
        root_top = F.top;
        root_object = F.frame.keeps_object 0 rd F.root ∙ Z.root_object;
        small = in_table es' F.long;
        kinds = λ e l. either (born e l) (λ k. rw (F.frame.keeps_kind e k.0 k.1) (Z.kinds e k.0)) (λ k. k.known);
        in_dir = dirs;
        objects = λ e l. either (born e l)
            (λ k. let o = F.frame.keeps_object e k.0 k.1 in let b = Z.objects e k.0 in omega arith)
            (λ k. k.numbered);
        tops = λ e l. let r = reach e l in climb_bound es' e r.0 (λ i. in_table es' F.long (up es' i e) (up_live es' dirs i e l)) r.1;
        free = F.vacant;
        agreed = A;
      }

-- ---- a change that brings no entry
module _ (T : Tables) (S : Sound T) (es : List ℕ) (gone : ℕ → Bool) (F : Change T.entries es gone)
    (kept : (x : ℕ) → live es x ≡ true → (live T.entries x ≡ true) × (gone x ≡ false)) where
  same_kind : (x : ℕ) → live es x ≡ true → kind es x ≡ kind T.entries x
  same_kind x a = let k = kept x a in F.frame.keeps_kind x k.0 k.1

  same_object : (x : ℕ) → live es x ≡ true → object es x ≡ object T.entries x
  same_object x a = let k = kept x a in F.frame.keeps_object x k.0 k.1

  agreed : Agreed es
  agreed =
      let Z = S.tree in
      let old : (e f : ℕ) → live es e ≡ true → live es f ≡ true → object es e ≡ object es f → object T.entries e ≡ object T.entries f =
      λ e f a b o. sym (same_object e a) ∙ o ∙ same_object f b in
      record {
        kinds_agree_lem = λ e f a b o. same_kind e a ∙ Z.agreed.kinds_agree_lem e f (kept e a).0 (kept f b).0 (old e f a b o) ∙ sym (same_kind f b);
        one_dir = λ e f a b o d. Z.agreed.one_dir e f (kept e a).0 (kept f b).0 (old e f a b o) (sym (dir_same T.entries es e e (same_kind e a)) ∙ d);
      }

  pub kept-change : sound (with_entries T es) ≡ true
  kept-change =
      let next = counter T.system in
      kept_tables T S T.system es S.lengths.system refl refl refl (le_refl next) S.system.counter_high
      (tree_stays T.entries es next next S.tree gone F (le_refl next) agreed (λ x a. inl (kept x a)))
      (λ e a d l. (e, (kept e a).0, sym (dir_same T.entries es e e (same_kind e a)) ∙ d, sym (same_object e a)))

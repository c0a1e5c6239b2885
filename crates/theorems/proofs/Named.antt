-- Which layer a refusal names, and that it changes nothing. Assumes nothing.
use mathlib.Core.Path.{◌≡◌, refl, sym, ap, ap₂, subst, ◌∙◌}
use mathlib.Core.Bool.{Bool, true, false, not, cond, ◌&&◌, ◌||◌, and-or_distrib_right}
use mathlib.Core.List.{List, [], ◌∷◌}
use mathlib.Core.Logic.{◌⊎◌, inl, inr}
use Prim.Native.Nat.{ℕ, ◌<◌}
use native.Mathlib.Omega.{arith}
use lib.Dec.{eqb}
use borrow.Author.Tests.{eq-eqb, eqb-true, eqb-false}
use Rattle.laws.specs.Refusals.{Check, ◌⇒◌, first}
use Rattle.laws.specs.Tests.{any, elem}
use Rattle.laws.proofs.Bools.{split, clash, either, and_l, or_cases, or_left, or_right}
use Rattle.access.specs.Errno.{EIO, ESRCH, EACCES, EXDEV}
use Rattle.access.specs.Kinds.{kind_of}
use Rattle.access.specs.Limits.{max_layers}
use Rattle.access.specs.Rights.{has, join, without, within, REFER}
use Rattle.access.proofs.Laws.{has_join, has-without, has-none, ext_has, within_has, has_within}
use Rattle.access.specs.declared.errno.Errno.{Errno}
use Rattle.access.specs.declared.errno.Reply.{Reply}
use Rattle.access.specs.declared.errno.Reply.TheVariants.{Done, Refused, Denied}
use Rattle.access.specs.declared.rights.Rights.{Rights}
use Rattle.tables.specs.Tables.{Tables, kind, parent, path_rule, thread_live}
use Rattle.tables.specs.Layers.{Layer, layer_at}
use Rattle.tables.specs.Outcome.{Outcome, error_of, blame, named, naming}
use Rattle.sound.specs.Sound.{sound}
use Rattle.sound.specs.Call.{call}
use Rattle.sound.proofs.Facts.{facts}
use Rattle.judge.specs.Domain.{lacks, layer_lacks, port_lacks, layer_port_lacks}
use Rattle.judge.specs.Blame.{none, denied_at}
use Rattle.judge.specs.Rules.{rights_on}
use Rattle.judge.specs.Judge.{denied, missing, port_missing}
use Rattle.judge.proofs.Laws.{has-missing, has-port-missing}
use Rattle.ruleset.specs.Create.{create_form, create_masks, create_checks, create_done, created, close_checks, close_done, closed}
use Rattle.rule.specs.Rule.{add_form, path_form, port_form as rule_port_form, add_path_checks, add_port_checks, add_done, path_added, port_added}
use Rattle.domain_restrict.specs.Restrict.{restrict_form, restrict_room, restrict_checks, restrict_done, restrict_call}
use Rattle.domain.specs.Threads.{clone_checks, clone_done, cloned, mark_checks, mark_done, privs_set, admin_set}
use Rattle.domain.specs.Layer.{layer_checks, layer_read}
use Rattle.domain_end.specs.End.{end_checks, end_done, end_call}
use Rattle.kept_end.proofs.Reached.{reached_in_use}
use Rattle.fs.specs.Needs.{make_of, remove_of}
use Rattle.fs.specs.Move.{denied_needs, denied_refer, uncontained, escaping, layer_denies, verdict}
use Rattle.fs.specs.Blame.{crossed, denied_move, crossed_move}
use Rattle.fs.proofs.Crossed.{crosses_any}
use Rattle.fs.specs.declared.verdict.Move.{Move}
use Rattle.fs_access.specs.Access.{access_names, access_mask, access_checks, access_call}
use Rattle.net.specs.Port.{port_form, port_checks, port_call}
use Rattle.task.specs.Task.{task_checks, task_call}
use Rattle.tree.specs.Moves.{link_move, rename_move, exchange_move}
use Rattle.tree.specs.Create.{create_shape, create_verdict, create_later, tree_create_checks, tree_create, remove_shape, remove_verdict, remove_later, remove_checks, tree_remove}
use Rattle.tree.specs.Link.{link_shape, link_verdict, link_later, link_checks, tree_link}
use Rattle.tree.specs.Rename.{rename_names, rename_shape, rename_verdict, rename_later, rename_checks, tree_rename}
use Rattle.tree.specs.Exchange.{exchange_names, exchange_shape, exchange_verdict, exchange_checks, tree_exchange}
use Rattle.theorems.specs.Calls.{Call, create_ruleset, close_ruleset, add_path_rule, add_port_rule, restrict, layer-rules_lem, clone, end-thread_lem, set_no_new_privs, set-admin_lem, access, port, task, create, remove, link, rename, exchange, outcome_of, after, caller, is_done, reply}
use Rattle.theorems.specs.Claim.{domain_of}
use Rattle.theorems.specs.Named.{refusals_of, verdict_on, ByVerdict, Lies, Youngest, here, older, LayerNamed}
use Rattle.theorems.proofs.Naming.{call-cases, blame-error, done-named, error-named}

-- a set is not empty
abbrev pub some : (ℕ → ℕ) → ℕ → Bool
some f l = not (eqb (f l) 0)

abbrev no : ℕ → Reply
no e = Refused (record { 0 = e })

-- ---- the layers of a domain
module _ (e : ℕ) (f : ℕ → ℕ) where
  blame-youngest : (D : List ℕ) {x : Errno} {l : ℕ} {s : Rights} → blame e f D ≡ Denied x l s → Youngest f D l s.0
  unfolding blame
  blame-youngest [] h = absurd (let z : ◌≡◌ {A = ℕ} 0 1 = cc in omega arith)
  blame-youngest (k ∷ D) {x} {l} {s} h = split (eqb (f k) 0)
      (λ q. older (eqb-true (f k) 0 q) (blame-youngest D (rw q at h)))
      (λ q.
      let p : Denied (record { 0 = e }) k (record { 0 = f k }) ≡ Denied x l s = rw q at h in
      let a : k ≡ l = cc in
      let b : f k ≡ s.0 = cc in
      subst (λ (i : ℕ). Youngest f (k ∷ D) i s.0) a (subst (λ (m : ℕ). Youngest f (k ∷ D) k m) b (here (eqb-false (f k) 0 q))))

  blame-none : (D : List ℕ) {x : Errno} → blame e f D ≡ Refused x → any (some f) D ≡ false
  unfolding blame any
  blame-none [] h = refl
  blame-none (k ∷ D) {x} h = split (eqb (f k) 0)
      (λ q. rw q (blame-none D (rw q at h)))
      (λ q. let p : Denied (record { 0 = e }) k (record { 0 = f k }) ≡ Refused x = rw q at h in absurd (let z : ◌≡◌ {A = ℕ} 0 1 = cc in omega arith))

youngest_in : {f : ℕ → ℕ} {D : List ℕ} {l s : ℕ} → Youngest f D l s → elem l D ≡ true
unfolding elem
youngest_in (here {l} {D} n) = or_left (eqb l l) (elem l D) (eq-eqb l l refl)
youngest_in (older {k} {l} {s} {D} z y) = or_right (eqb l k) (elem l D) (youngest_in y)

-- ---- the tests of a list that answer e all fail
abbrev pub Lacks : ℕ → List Check → Type 0
Lacks e [] = Unit {0}
Lacks e ((b ⇒ n) ∷ cs) = cond (eqb n e) ((b ≡ false) × Lacks e cs) (Lacks e cs)

lacks-first : (e : ℕ) (cs : List Check) → Lacks e cs → (e ≡ 0 → ⊥) → first cs ≡ e → ⊥
unfolding first
lacks-first e [] p n h = n (sym h)
lacks-first e ((false ⇒ m) ∷ cs) p n h = split (eqb m e)
    (λ q. let z : (false ≡ false) × Lacks e cs = rw q at p in lacks-first e cs z.1 n h)
    (λ q. let z : Lacks e cs = rw q at p in lacks-first e cs z n h)
lacks-first e ((true ⇒ m) ∷ cs) p n h = split (eqb m e)
    (λ q. let z : (true ≡ false) × Lacks e cs = rw q at p in clash true refl z.0)
    (λ q. eqb-false m e q h)

-- ---- any call
module _ (T : Tables) (cs : List Check) (done : Outcome) (n : ℕ) (dn : done.reply ≡ Done n) where
  abbrev r : Reply
  r = (call T cs done).reply

  cases : (P : Reply → Type 0) → (sound T ≡ false → P (no EIO)) → (sound T ≡ true → (first cs ≡ 0 → ⊥) → P (no (first cs))) → (sound T ≡ true → first cs ≡ 0 → P (Done n)) → P r
  cases P u f d = call-cases T cs done (λ o. P o.reply) u f (λ h z. rw dn (d h z))

  call-number : error_of r ≡ first (not (sound T) ⇒ EIO ∷ cs)
  unfolding first
  call-number = cases (λ x. error_of x ≡ first (not (sound T) ⇒ EIO ∷ cs)) (λ h. rw h refl) (λ h z. rw h refl) (λ h z. rw h (sym z))

  call_same : is_done r ≡ false → (call T cs done).left ≡ T
  call_same = call-cases T cs done (λ o. is_done o.reply ≡ false → o.left ≡ T) (λ h k. refl) (λ h z k. refl) (λ h z k. clash (is_done done.reply) (ap is_done dn) k)

  -- without a verdict
  plain-denied : {A : Type 0} {e : Errno} {l : ℕ} {s : Rights} → r ≡ Denied e l s → A
  plain-denied {A} {e} {l} {s} = cases (λ x. x ≡ Denied e l s → A)
      (λ h k. absurd (let z : ◌≡◌ {A = ℕ} 0 1 = cc in omega arith))
      (λ h m k. absurd (let z : ◌≡◌ {A = ℕ} 0 1 = cc in omega arith))
      (λ h m k. absurd (let z : ◌≡◌ {A = ℕ} 0 1 = cc in omega arith))

  plain-refused : (v : ℕ) → (EIO ≡ v → ⊥) → Lacks v cs → (v ≡ 0 → ⊥) → {e : Errno} → r ≡ Refused e → e.0 ≡ v → ⊥
  plain-refused v i p o {e} k q = cases (λ x. x ≡ Refused e → ⊥)
      (λ h k. i (let z : EIO ≡ e.0 = cc in z ∙ q))
      (λ h m k. lacks-first v cs p o (let z : first cs ≡ e.0 = cc in z ∙ q))
      (λ h m k. absurd (let z : ◌≡◌ {A = ℕ} 0 1 = cc in omega arith)) k

  -- ---- with a verdict, of thread t
  module _ (t : ℕ) (a b : ℕ → ℕ) where
    abbrev D : List ℕ
    D = domain_of T t

    -- what a named layer tells
    abbrev Told : Errno → ℕ → Rights → Type 0
    Told e l s = ((e.0 ≡ EACCES) × Youngest a D l s.0) ⊎ ((e.0 ≡ EXDEV) × Youngest b D l s.0)

    blamed : (v : ℕ) {e : Errno} {l : ℕ} {s : Rights} → cond (eqb v EACCES) (blame EACCES a D) (cond (eqb v EXDEV) (blame EXDEV b D) (no v)) ≡ Denied e l s → ((v ≡ EACCES) ⊎ (v ≡ EXDEV)) × Told e l s
    blamed v {e} {l} {s} k = split (eqb v EACCES)
        (λ q. let p : blame EACCES a D ≡ Denied e l s = rw q at k in (inl (eqb-true v EACCES q), inl (sym (ap error_of p) ∙ blame-error EACCES a D, blame-youngest EACCES a D p)))
        (λ q. split (eqb v EXDEV)
        (λ w. let p : blame EXDEV b D ≡ Denied e l s = rw (q, w) at k in (inr (eqb-true v EXDEV w), inr (sym (ap error_of p) ∙ blame-error EXDEV b D, blame-youngest EXDEV b D p)))
        (λ w. let p : no v ≡ Denied e l s = rw (q, w) at k in absurd (let z : ◌≡◌ {A = ℕ} 0 1 = cc in omega arith)))

    named-denied : {e : Errno} {l : ℕ} {s : Rights} → named a b D r ≡ Denied e l s → (sound T ≡ true) × ((first cs ≡ EACCES) ⊎ (first cs ≡ EXDEV)) × Told e l s
    unfolding named
    named-denied {e} {l} {s} = cases (λ x. named a b D x ≡ Denied e l s → (sound T ≡ true) × ((first cs ≡ EACCES) ⊎ (first cs ≡ EXDEV)) × Told e l s)
        (λ h k. absurd (let z : ◌≡◌ {A = ℕ} 0 1 = cc in omega arith))
        (λ h m k. let b = blamed (first cs) k in (h, b.0, b.1))
        (λ h m k. absurd (let z : ◌≡◌ {A = ℕ} 0 1 = cc in omega arith))

    -- the verdict's numbers come from layers with a set
    module _ (na : any (some a) D ≡ false → Lacks EACCES cs) (nb : any (some b) D ≡ false → Lacks EXDEV cs) where
      named-refused : {e : Errno} → named a b D r ≡ Refused e → (e.0 ≡ EACCES → ⊥) × (e.0 ≡ EXDEV → ⊥)
      unfolding named
      named-refused {e} = cases (λ x. named a b D x ≡ Refused e → (e.0 ≡ EACCES → ⊥) × (e.0 ≡ EXDEV → ⊥))
          (λ h k. let z : EIO ≡ e.0 = cc in ((λ v. absurd (omega arith)), (λ v. absurd (omega arith))))
          (λ h m k. split (eqb (first cs) EACCES)
          (λ q. let p : blame EACCES a D ≡ Refused e = rw q at k in absurd (lacks-first EACCES cs (na (blame-none EACCES a D p)) (λ z. omega arith) (eqb-true (first cs) EACCES q)))
          (λ q. split (eqb (first cs) EXDEV)
          (λ w. let p : blame EXDEV b D ≡ Refused e = rw (q, w) at k in absurd (lacks-first EXDEV cs (nb (blame-none EXDEV b D p)) (λ z. omega arith) (eqb-true (first cs) EXDEV w)))
          (λ w.
          let p : no (first cs) ≡ Refused e = rw (q, w) at k in
          let z : first cs ≡ e.0 = cc in
          ((λ v. eqb-false (first cs) EACCES q (z ∙ v)), (λ v. eqb-false (first cs) EXDEV w (z ∙ v))))))
          (λ h m k. absurd (let z : ◌≡◌ {A = ℕ} 0 1 = cc in omega arith))

    -- the thread is live, so its layers are in use
    module _ (dead : thread_live T.threads t ≡ false → first cs ≡ ESRCH) where
      told_in : {e : Errno} {l : ℕ} {s : Rights} → Told e l s → elem l D ≡ true
      told_in (inl p) = youngest_in p.1
      told_in (inr p) = youngest_in p.1

      verdict-live : (first cs ≡ EACCES) ⊎ (first cs ≡ EXDEV) → thread_live T.threads t ≡ true
      verdict-live v = split (thread_live T.threads t) (λ q. q) (λ q. let d = dead q in either v (λ x. absurd (omega arith)) (λ x. absurd (omega arith)))

      named-below : {e : Errno} {l : ℕ} {s : Rights} → named a b D r ≡ Denied e l s → l < max_layers
      named-below {e} {l} k =
          let p = named-denied k in
          (reached_in_use T (facts T p.0) l (t, verdict-live p.1, told_in p.2)).0

-- ---- where the sets lie
none_within : (m : ℕ) → within 0 m ≡ true
none_within m = has_within 0 m (λ i h. clash (has 0 i) h (has-none i))

missing-within : (es : List ℕ) (L : Layer) (e m : ℕ) → within (missing es L e m) m ≡ true
missing-within es L e m = has_within (missing es L e m) m (λ i h. and_l (has m i) _ (sym (has-missing es L e m i) ∙ h))

pub port-within : (L : Layer) (p m : ℕ) → within (port_missing L p m) m ≡ true
port-within L p m = has_within (port_missing L p m) m (λ i h. and_l (has m i) _ (sym (has-port-missing L p m i) ∙ h))

-- of two sets joined, each in its part of a join
join-within : (a b c d : ℕ) → within a c ≡ true → within b d ≡ true → within (join a b) (join c d) ≡ true
join-within a b c d p q = has_within (join a b) (join c d) (λ i h.
    has_join c d i ∙ either (or_cases (has a i) (has b i) (sym (has_join a b i) ∙ h))
    (λ x. or_left (has c i) (has d i) (within_has a c i p x))
    (λ x. or_right (has c i) (has d i) (within_has b d i q x)))

without-join : (a b c : ℕ) → join (without a c) (without b c) ≡ without (join a b) c
without-join a b c = ext_has (join (without a c) (without b c)) (without (join a b) c) (λ i.
    has_join (without a c) (without b c) i
    ∙ ap₂ ◌||◌ (has-without a c i) (has-without b c i)
    ∙ sym (has-without (join a b) c i ∙ ap (λ (x : Bool). x && not (has c i)) (has_join a b i) ∙ and-or_distrib_right (has a i) (has b i) (not (has c i))))

module _ (es : List ℕ) (L : Layer) (m : Move) where
  needs-within : within (denied_needs es L m) (without (join m.leave.0 m.enter.0) REFER) ≡ true
  unfolding denied_needs
  needs-within = rw (← without-join m.leave.0 m.enter.0 REFER)
      (join-within _ _ (without m.leave.0 REFER) (without m.enter.0 REFER) (missing-within es L m.source (without m.leave.0 REFER)) (missing-within es L m.target (without m.enter.0 REFER)))

  pub uncontained-within : (p1 p2 o rights : ℕ) → within (uncontained es L p1 p2 o rights) rights ≡ true
  unfolding uncontained
  uncontained-within p1 p2 o rights = has_within (uncontained es L p1 p2 o rights) rights (λ i h.
      let x = missing es L p1 rights in
      let y = rights_on L.rules path_rule o in
      let u = and_l (has (without x y) i) _ (sym (has-without (without x y) (denied es L p2) i) ∙ h) in
      within_has x rights i (missing-within es L p1 rights) (and_l (has x i) _ (sym (has-without x y i) ∙ u)))

  crossed-within : (crossed es L m ≡ REFER) ⊎ (within (crossed es L m) (join m.rights.0 m.back.0) ≡ true)
  unfolding crossed escaping
  crossed-within = split (eqb m.source m.target)
      (λ q. inr (rw q (none_within (join m.rights.0 m.back.0))))
      (λ q. split (eqb (denied_refer es L m) 0)
      (λ z. inr (rw (q, z) (join-within _ _ m.rights.0 m.back.0 (uncontained-within m.source m.target m.object m.rights.0) (uncontained-within m.target m.source m.other m.back.0))))
      (λ z. inl (rw (q, z) refl)))

pub move-lies : (T : Tables) (m : Move)
    → Lies (record { denied = denied_move T m; crossed = crossed_move T m; asked = without (join m.leave.0 m.enter.0) REFER; moved = join m.rights.0 m.back.0 })
move-lies T m = record {
  denied = λ l. needs-within T.entries (layer_at T.layers T.pool l) m;
  crossed = λ l. crossed-within T.entries (layer_at T.layers T.pool l) m;
}

pub nothing-lies : {a : ℕ} → Lies (record { denied = none; crossed = none; asked = a; moved = 0 })
nothing-lies {a} = record { denied = λ l. none_within a; crossed = λ l. inr (none_within 0) }

pub lies_at : (f : ℕ → ℕ) (m : ℕ) → ((l : ℕ) → within (f l) m ≡ true) → Lies (record { denied = f; crossed = none; asked = m; moved = 0 })
lies_at f m h = record { denied = h; crossed = λ l. inr (none_within 0) }

pub entry-lies : (T : Tables) (e m : ℕ) → Lies (record { denied = denied_at T e m; crossed = none; asked = m; moved = 0 })
entry-lies T e m = lies_at _ m (λ l. missing-within T.entries (layer_at T.layers T.pool l) e m)

-- ---- every call
pub data Shape (T : Tables) (c : Call) : Type 0 where
  -- without a verdict, and so without its numbers
  plain : (done : Outcome) (n : ℕ) → done.reply ≡ Done n → outcome_of T c ≡ call T (refusals_of T c) done → Lacks EACCES (refusals_of T c) → Lacks EXDEV (refusals_of T c) → Lies (verdict_on T c) → Shape T c
  -- with a verdict on a thread that is live, whose numbers come from layers with a set
  judged : (done : Outcome) (n : ℕ) → done.reply ≡ Done n → outcome_of T c ≡ naming (verdict_on T c).denied (verdict_on T c).crossed (domain_of T (caller c)) (call T (refusals_of T c) done)
      → (thread_live T.threads (caller c) ≡ false → first (refusals_of T c) ≡ ESRCH) → (any (some (verdict_on T c).denied) (domain_of T (caller c)) ≡ false → Lacks EACCES (refusals_of T c))
      → (any (some (verdict_on T c).crossed) (domain_of T (caller c)) ≡ false → Lacks EXDEV (refusals_of T c)) → Lies (verdict_on T c) → Shape T c

unfoldable pub shape : (T : Tables) (c : Call) → Shape T c
unfolding outcome_of created create_done closed close_done path_added port_added add_done restrict_call restrict_done cloned clone_done end_call end_done privs_set admin_set mark_done layer_read access_call port_call task_call tree_create tree_remove tree_link tree_rename tree_exchange
    first refusals_of verdict_on caller create_checks create_form create_masks close_checks add_path_checks add_port_checks add_form path_form rule_port_form restrict_checks restrict_form restrict_room layer_checks clone_checks end_checks mark_checks task_checks
    access_checks access_names access_mask lacks layer_lacks port_checks port_form port_lacks layer_port_lacks
    tree_create_checks create_shape create_verdict create_later remove_checks remove_shape remove_verdict remove_later
    link_checks link_shape link_verdict link_later rename_checks rename_names rename_shape rename_verdict rename_later exchange_checks exchange_names exchange_shape exchange_verdict verdict layer_denies
shape T (create_ruleset bs flags) = plain _ _ refl refl tt tt nothing-lies
shape T (close_ruleset r) = plain _ _ refl refl tt tt nothing-lies
shape T (add_path_rule r e rights flags) = plain _ _ refl refl tt tt nothing-lies
shape T (add_port_rule r p rights flags) = plain _ _ refl refl tt tt nothing-lies
shape T (restrict t r flags) = plain _ _ refl refl tt tt nothing-lies
shape T (layer-rules_lem l) = plain _ _ refl refl tt tt nothing-lies
shape T (clone t) = plain _ _ refl refl tt tt nothing-lies
shape T (end-thread_lem t) = plain _ _ refl refl tt tt nothing-lies
shape T (set_no_new_privs t) = plain _ _ refl refl tt tt nothing-lies
shape T (set-admin_lem t on) = plain _ _ refl refl tt tt nothing-lies
shape T (access t e m) = judged _ _ refl refl (λ q. rw q refl) (λ q. (q, tt)) (λ q. tt) (entry-lies T e m)
shape T (port t p m) = judged _ _ refl refl (λ q. rw q refl) (λ q. (q, tt)) (λ q. tt) (lies_at _ m (λ l. port-within (layer_at T.layers T.pool l) p m))
shape T (task t u i) = plain _ _ refl refl tt tt nothing-lies
shape T (create t d k) = judged _ _ refl refl (λ q. rw q refl) (λ q. (q, tt)) (λ q. tt) (entry-lies T d (make_of (kind_of k)))
shape T (remove t e) = judged _ _ refl refl (λ q. rw q refl) (λ q. (q, tt)) (λ q. tt) (entry-lies T (parent T.entries e) (remove_of (kind_of (kind T.entries e))))
shape T (link t s d) = judged _ _ refl refl (λ q. rw q refl) (λ q. (q, tt)) (λ q. (sym (crosses_any T (link_move T.entries s d) (domain_of T t)) ∙ q, tt)) (move-lies T (link_move T.entries s d))
shape T (rename t s d x) = judged _ _ refl refl (λ q. rw q refl) (λ q. (q, tt)) (λ q. (sym (crosses_any T (rename_move T.entries s d x) (domain_of T t)) ∙ q, tt)) (move-lies T (rename_move T.entries s d x))
shape T (exchange t s d x) = judged _ _ refl refl (λ q. rw q refl) (λ q. (q, tt)) (λ q. (sym (crosses_any T (exchange_move T.entries s d x) (domain_of T t)) ∙ q, tt)) (move-lies T (exchange_move T.entries s d x))

module _ (T : Tables) (c : Call) where
  abbrev answered : {o : Outcome} {r : Reply} → outcome_of T c ≡ o → reply T c ≡ r → o.reply ≡ r
  answered same h = sym (ap (λ (x : Outcome). x.reply) same) ∙ h

  number : Shape T c → error_of (reply T c) ≡ first (not (sound T) ⇒ EIO ∷ refusals_of T c)
  number (plain done n d same a x in-asked) = ap (λ (o : Outcome). error_of o.reply) same ∙ call-number T (refusals_of T c) done n d
  number (judged done n d same dead a x in-asked) = ap (λ (o : Outcome). error_of o.reply) same ∙ error-named _ _ _ _ ∙ call-number T (refusals_of T c) done n d

  -- a refusal "changes no cell"
  same_left : Shape T c → is_done (reply T c) ≡ false → after T c ≡ T
  same_left (plain done n d same a x in-asked) h = ap (λ (o : Outcome). o.left) same ∙ call_same T (refusals_of T c) done n d (sym (ap (λ (o : Outcome). is_done o.reply) same) ∙ h)
  same_left (judged done n d same dead a x in-asked) h =
      ap (λ (o : Outcome). o.left) same ∙ call_same T (refusals_of T c) done n d (sym (ap (λ (o : Outcome). is_done o.reply) same ∙ done-named _ _ _ (call T (refusals_of T c) done).reply) ∙ h)

  told : Shape T c → (e : Errno) (l : ℕ) (s : Rights) → reply T c ≡ Denied e l s → ByVerdict T c e l s
  told (plain done n d same a x in-asked) e l s h = plain-denied T (refusals_of T c) done n d (answered same h)
  told (judged done n d same dead a x in-asked) e l s h =
      let k = answered same h in
      record { named = (named-denied T (refusals_of T c) done n d (caller c) _ _ k).2; below = named-below T (refusals_of T c) done n d (caller c) _ _ dead k }

  others : Shape T c → (e : Errno) → reply T c ≡ Refused e → (e.0 ≡ EACCES → ⊥) × (e.0 ≡ EXDEV → ⊥)
  others (plain done n d same a x in-asked) e h =
      let k = answered same h in
      (plain-refused T (refusals_of T c) done n d EACCES (λ z. omega arith) a (λ z. omega arith) k, plain-refused T (refusals_of T c) done n d EXDEV (λ z. omega arith) x (λ z. omega arith) k)
  others (judged done n d same dead a x in-asked) e h = named-refused T (refusals_of T c) done n d (caller c) _ _ a x (answered same h)

  lies : Shape T c → Lies (verdict_on T c)
  lies (plain done n d same a x in-asked) = in-asked
  lies (judged done n d same dead a x in-asked) = in-asked

pub refused-same : (T : Tables) (c : Call) → is_done (reply T c) ≡ false → after T c ≡ T
refused-same T c = same_left T c (shape T c)

pub layer-named : LayerNamed
layer-named = record { number = λ T c. number T c (shape T c); denied = λ T c. told T c (shape T c); others = λ T c. others T c (shape T c); lies = λ T c. lies T c (shape T c) }

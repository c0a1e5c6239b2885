-- What no call that does not end it takes from a live thread: it stays live, the layers of its domain stay as they are, its domain only grows. Assumes nothing.
use mathlib.Core.Path.{◌≡◌, refl, sym, ap, subst, ◌∙◌}
use mathlib.Core.Bool.{true, false, not, ◌&&◌}
use mathlib.Core.List.{List, [], ◌∷◌}
use Prim.Native.Nat.{ℕ, suc, pred, ◌+◌, ◌*◌, ◌≤◌, ◌<◌}
use native.Mathlib.Numerals.{add-one}
use native.Mathlib.Omega.{arith}
use lib.Dec.{eqb, ltb}
use lib.ListN.{length}
use borrow.Author.Tests.{eqb-true, eqb-false, ltb-true, not-false}
use Rattle.laws.specs.Tests.{elem}
use Rattle.laws.specs.Refusals.{Check, first}
use Rattle.laws.specs.Cells.{cell, put_cell}
use Rattle.laws.proofs.Bools.{split, clash, or_right, not_of_true}
use Rattle.laws.proofs.Tests.{first_passes}
use Rattle.laws.proofs.Cells.{cell_put, cell_put_beside}
use Rattle.laws.proofs.Copies.{copied-before}
use Rattle.laws.proofs.Refusals.{passed}
use Rattle.access.specs.Limits.{max_threads, max_domain}
use Rattle.access.specs.declared.errno.Reply.TheVariants.{Done}
use Rattle.tables.specs.Tables.{Tables, layer_width, rule_width, thread_width, pool_used, youngest, thread_live}
use Rattle.tables.specs.Layers.{ruleset_at, layer_parent, layer_at, layer_in_use}
use Rattle.tables.specs.Outcome.{Outcome, outcome}
use Rattle.judge.specs.Domain.{chain, domain}
use Rattle.sound.specs.Sound.{sound}
use Rattle.sound.specs.Call.{call}
use Rattle.sound.proofs.Facts.{Sound, facts}
use Rattle.sound.proofs.Calls.{call-done}
use Rattle.sound_domains.proofs.Hierarchy.{no_thread}
use Rattle.ruleset.specs.Create.{create_done, created, close_done, closed}
use Rattle.rule.specs.Rule.{add_done, path_added, port_added}
use Rattle.domain_restrict.specs.Restrict.{restrict_checks, free_layer, restricted, restrict_done, restrict_call}
use Rattle.domain.specs.Threads.{free_thread, clone_checks, held_more, clone_done, cloned, mark_done, privs_set, admin_set}
use Rattle.domain.specs.Layer.{layer_read}
use Rattle.fs_access.specs.Access.{access_call}
use Rattle.net.specs.Port.{port_call}
use Rattle.task.specs.Task.{task_call}
use Rattle.tree.specs.Create.{tree_created, tree_create, tree_remove}
use Rattle.tree.specs.Link.{tree_link}
use Rattle.tree.specs.Rename.{tree_rename}
use Rattle.tree.specs.Exchange.{tree_exchange}
use Rattle.domain_end.specs.End.{end_checks, ended, end_done, end_call}
use Rattle.kept_domains.proofs.Rows.{row_beside}
use Rattle.kept_domains.proofs.Counts.{layer_recounted}
use Rattle.kept_domains.proofs.Marks.{copy_other, more_same}
use Rattle.kept_domains.proofs.Chains.{chain-around, chain_agree}
use Rattle.kept_domains.proofs.Threads.{live_below}
use Rattle.kept_domains.proofs.Layers.{new_layers, new_pool, new-other, new-parent, pool-length, layer-same}
use Rattle.kept_domains.proofs.Restrict.{Allowed, allowed, record_free, unheld, unnamed, has, same-parent}
use Rattle.kept_end.proofs.Put.{domain_in_use}
use Rattle.kept_end.proofs.End.{ended-lives, ended-domain, ended-layer, end_live}
use Rattle.theorems.specs.Calls.{Call, create_ruleset, close_ruleset, add_path_rule, add_port_rule, restrict, layer-rules_lem, clone, end-thread_lem, set_no_new_privs, set-admin_lem, access, port, task, create, remove, link, rename, exchange, outcome_of, after, reply, after_all, is_done, would_end, ends}
use Rattle.theorems.specs.Claim.{domain_of, Grown, Lives}
use Rattle.theorems.proofs.Naming.{call-cases}
use Rattle.theorems.proofs.Chains.{chain-less}

-- what tables T' keep of T for a thread t that is live in T
pub record Stays (T T' : Tables) (t : ℕ) : Type 0 where
  pub layers : (l : ℕ) → elem l (domain_of T t) ≡ true → layer_at T'.layers T'.pool l ≡ layer_at T.layers T.pool l
  pub lives : thread_live T'.threads t ≡ true
  pub grown : Grown (domain_of T t) (domain_of T' t)

-- ---- any call: it is refused and changes nothing, or what it does keeps
call_stays : (T : Tables) (cs : List Check) (done : Outcome) (v : ℕ) → Stays T T v → (sound T ≡ true → first cs ≡ 0 → Stays T done.left v) → Stays T (call T cs done).left v
call_stays T cs done v s f = call-cases T cs done (λ o. Stays T o.left v) (λ h. s) (λ h z. s) f

-- ---- parents, masks, rules and the thread's layer stand
module _ (T T' : Tables) (t : ℕ)
    (a : (l : ℕ) → layer_parent T'.layers l ≡ layer_parent T.layers l)
    (b : (l : ℕ) → layer_at T'.layers T'.pool l ≡ layer_at T.layers T.pool l)
    (lives : thread_live T'.threads t ≡ true)
    (same : youngest T'.threads t ≡ youngest T.threads t) where
  stays_threads : Stays T T' t
  unfolding Grown domain
  stays_threads = record {
    layers = λ l h. b l;
    lives = lives;
    grown = λ l m. rw (same, chain_agree T.layers T'.layers a max_domain (youngest T.threads t)) m;
  }

pub stays_alone : (T T' : Tables) (t : ℕ) → thread_live T.threads t ≡ true → T'.layers ≡ T.layers → T'.pool ≡ T.pool → T'.threads ≡ T.threads → Stays T T' t
stays_alone T T' t v a b c = stays_threads T T' t (λ l. rw a refl) (λ l. rw (a, b) refl) (rw c v) (rw c refl)

pub stays_self : (T : Tables) (t : ℕ) → thread_live T.threads t ≡ true → Stays T T t
stays_self T t v = stays_alone T T t v refl refl refl

-- ---- restrict
module _ (T : Tables) (t r : ℕ) (S : Sound T) (A : Allowed T t r) where
  abbrev ls : List ℕ
  ls = T.layers

  abbrev rs : List ℕ
  rs = T.rulesets

  abbrev ts : List ℕ
  ts = T.threads

  abbrev used : ℕ
  used = free_layer ls

  abbrev taken : ℕ
  taken = pool_used T.system

  abbrev y : ℕ
  y = youngest ts t

  abbrev ls' : List ℕ
  ls' = new_layers ls rs used taken r y

  abbrev ts' : List ℕ
  ts' = put_cell ts thread_width t 1 (used + 1)

  not_used : (u : ℕ) → thread_live ts u ≡ true → youngest ts u ≡ suc used → ⊥
  not_used u v = no_thread ls ts used (unheld T t r S A) u (live_below ts u S.lengths.threads v)

  chains : (n z : ℕ) → (z ≡ suc used → ⊥) → chain ls' n z ≡ chain ls n z
  chains = chain-around ls used (unnamed T t r S A) ls' (same-parent T t r S A)

  -- the new layer, then the old chain
  chain-new : chain ls' max_domain (used + 1) ≡ used ∷ domain ls ts t
  unfolding chain domain
  chain-new =
      rw (add-one used, new-parent ls rs used taken r y (has T t r S A))
      (ap (λ (xs : List ℕ). used ∷ xs) (chains (pred max_domain) y (not_used t A.live) ∙ chain-less ls (pred max_domain) y A.short))

  domain-new : domain ls' ts' t ≡ used ∷ domain ls ts t
  unfolding domain
  domain-new =
      let b = live_below ts t S.lengths.threads A.live in
      rw (cell_put ts thread_width t 1 (used + 1) (let w = S.lengths.threads in omega arith)) chain-new

  domain_old : (u : ℕ) → (u ≡ t → ⊥) → thread_live ts u ≡ true → domain ls' ts' u ≡ domain ls ts u
  unfolding domain
  domain_old u d v = rw (row_beside ts thread_width t 1 (used + 1) u (omega arith) d 1 (omega arith)) (chains max_domain (youngest ts u) (not_used u v))

  grown-here : (u l : ℕ) → thread_live ts u ≡ true → elem l (domain ls ts u) ≡ true → elem l (domain ls' ts' u) ≡ true
  unfolding elem
  grown-here u l v m = split (eqb u t)
      (λ q. let e = eqb-true u t q in rw (e, domain-new) (or_right (eqb l used) (elem l (domain ls ts t)) (rw e at m)))
      (λ q. rw (domain_old u (eqb-false u t q) v) m)

  state_same : (u : ℕ) → thread_live ts u ≡ true → thread_live ts' u ≡ true
  unfolding thread_live
  state_same u v = split (eqb u t)
      (λ q. let e = eqb-true u t q in rw (e, cell_put_beside ts thread_width t 1 (used + 1) 0 (λ z. omega arith)) (rw e at v))
      (λ q. rw (row_beside ts thread_width t 1 (used + 1) u (omega arith) (eqb-false u t q) 0 (omega arith)) v)

  restrict_stays : (u : ℕ) → thread_live ts u ≡ true → Stays T (restricted T t r) u
  unfolding restricted Grown
  restrict_stays u v = record {
    layers = λ l m.
        let i = domain_in_use T 0 S u (live_below ts u S.lengths.threads v) l m in
        let d : (l ≡ used → ⊥) = λ e. clash (layer_in_use ls used) (rw e at i.1) (record_free T t r S A) in
        let fits : rule_width * taken ≤ length T.pool = (let p = S.lengths.pool in let q = A.space in omega arith) in
        layer-same ls ls' T.pool (new_pool T.pool rs taken r) l taken (new-other ls rs used taken r y l d) (pool-length T.pool rs taken r) fits
        (copied-before T.pool (rule_width * taken) (ruleset_at rs r).rules (length (ruleset_at rs r).rules))
        (S.layers.each l i.0 i.1).in_pool;
    lives = state_same u v;
    grown = λ l m. grown-here u l v m;
  }

-- ---- clone: a row that was free
free-thread : (ts : List ℕ) (u : ℕ) → ltb (free_thread ts) max_threads ≡ true → thread_live ts u ≡ true → u ≡ free_thread ts → ⊥
unfolding free_thread
free-thread ts u h v e =
    let p = first_passes (λ t. not (thread_live ts t)) max_threads (ltb-true (free_thread ts) max_threads h) in
    clash (not (thread_live ts (free_thread ts))) p (not_of_true (thread_live ts (free_thread ts)) (rw e at v))

clone_stays : (T : Tables) (t u : ℕ) → first (clone_checks T t) ≡ 0 → thread_live T.threads u ≡ true → Stays T (clone_done T t).left u
unfolding clone_checks clone_done thread_live
clone_stays T t u z v =
    let ls = T.layers in
    let ts = T.threads in
    let h = not-false (ltb (free_thread ts) max_threads) (passed (clone_checks T t) z).1.0 in
    let same : (m k : ℕ) → k < 6 → cell (held_more ls (youngest ts t)) layer_width m k ≡ cell ls layer_width m k = more_same ls (youngest ts t) in
    stays_threads T (clone_done T t).left u (λ l. same l 0 (omega arith)) (layer_recounted ls (held_more ls (youngest ts t)) T.pool same)
    (rw (copy_other ts (free_thread ts) t u (free-thread ts u h v) 0 (omega arith)) v)
    (copy_other ts (free_thread ts) t u (free-thread ts u h v) 1 (omega arith))

-- ---- marks: cell 2 or 3
beside : (ts : List ℕ) (t k v : ℕ) → 2 ≤ k → k < thread_width → (u j : ℕ) → j < 2 → cell (put_cell ts thread_width t k v) thread_width u j ≡ cell ts thread_width u j
beside ts t k v a b u j c = split (eqb u t)
    (λ q. rw (eqb-true u t q) (cell_put_beside ts thread_width t k v j (λ e. omega arith)))
    (λ q. row_beside ts thread_width t k v u b (eqb-false u t q) j (omega arith))

mark_stays : (T : Tables) (t k v u : ℕ) → thread_live T.threads u ≡ true → 2 ≤ k → k < thread_width → Stays T (mark_done T t k v).left u
unfolding mark_done thread_live
mark_stays T t k v u w a b = stays_threads T (mark_done T t k v).left u (λ l. refl) (λ l. refl)
    (rw (beside T.threads t k v a b u 0 (omega arith)) w)
    (beside T.threads t k v a b u 1 (omega arith))

-- ---- end: of another thread
end_stays : (T : Tables) (t u : ℕ) → sound T ≡ true → first (end_checks T t) ≡ 0 → thread_live T.threads u ≡ true → ends T (end-thread_lem t) u ≡ false → Stays T (end_done T t).left u
unfolding ends would_end outcome_of end_call end_done Grown
end_stays T t u h z v e =
    let o = call-done T (end_checks T t) (outcome (Done 0) (ended T t)) (sym h) refl refl z in
    let d : (u ≡ t → ⊥) = eqb-false u t (subst (λ (x : Outcome). (is_done x.reply && eqb u t) ≡ false) (sym o) e) in
    let S = facts T h in
    let w = end_live T t z in
    record {
      layers = ended-layer T t S w u d v;
      lives = ended-lives T t S w u d v;
      grown = λ l m. rw (ended-domain T t S w u d v) m;
    }

-- ---- every call
pub stays : (T : Tables) (c : Call) (v : ℕ) → thread_live T.threads v ≡ true → ends T c v ≡ false → Stays T (after T c) v
unfolding outcome_of created create_done closed close_done path_added port_added add_done restrict_call restrict_done cloned end_call privs_set admin_set layer_read access_call port_call task_call tree_create tree_created tree_remove tree_link tree_rename tree_exchange
stays T (create_ruleset bs flags) v w keeps = call_stays T _ _ v (stays_self T v w) (λ h z. stays_alone T _ v w refl refl refl)
stays T (close_ruleset r) v w keeps = call_stays T _ _ v (stays_self T v w) (λ h z. stays_alone T _ v w refl refl refl)
stays T (add_path_rule r e rights flags) v w keeps = call_stays T _ _ v (stays_self T v w) (λ h z. stays_alone T _ v w refl refl refl)
stays T (add_port_rule r p rights flags) v w keeps = call_stays T _ _ v (stays_self T v w) (λ h z. stays_alone T _ v w refl refl refl)
stays T (restrict t r flags) v w keeps = call_stays T (restrict_checks T t r flags) _ v (stays_self T v w) (λ h z. restrict_stays T t r (facts T h) (allowed T t r flags z) v w)
stays T (layer-rules_lem l) v w keeps = call_stays T _ _ v (stays_self T v w) (λ h z. stays_self T v w)
stays T (clone t) v w keeps = call_stays T (clone_checks T t) _ v (stays_self T v w) (λ h z. clone_stays T t v z w)
stays T (end-thread_lem t) v w keeps = call_stays T (end_checks T t) _ v (stays_self T v w) (λ h z. end_stays T t v h z w keeps)
stays T (set_no_new_privs t) v w keeps = call_stays T _ _ v (stays_self T v w) (λ h z. mark_stays T t 2 1 v w (omega arith) (omega arith))
stays T (set-admin_lem t on) v w keeps = call_stays T _ _ v (stays_self T v w) (λ h z. mark_stays T t 3 _ v w (omega arith) (omega arith))
stays T (access t e m) v w keeps = call_stays T _ _ v (stays_self T v w) (λ h z. stays_self T v w)
stays T (port t p m) v w keeps = call_stays T _ _ v (stays_self T v w) (λ h z. stays_self T v w)
stays T (task t u i) v w keeps = call_stays T _ _ v (stays_self T v w) (λ h z. stays_self T v w)
stays T (create t d k) v w keeps = call_stays T _ _ v (stays_self T v w) (λ h z. stays_alone T _ v w refl refl refl)
stays T (remove t e) v w keeps = call_stays T _ _ v (stays_self T v w) (λ h z. stays_alone T _ v w refl refl refl)
stays T (link t s d) v w keeps = call_stays T _ _ v (stays_self T v w) (λ h z. stays_alone T _ v w refl refl refl)
stays T (rename t s d x) v w keeps = call_stays T _ _ v (stays_self T v w) (λ h z. stays_alone T _ v w refl refl refl)
stays T (exchange t s d x) v w keeps = call_stays T _ _ v (stays_self T v w) (λ h z. stays_alone T _ v w refl refl refl)

-- ---- a list of calls
pub stays_on : (T T1 T2 : Tables) (t : ℕ) → Stays T T1 t → Stays T1 T2 t → Stays T T2 t
unfolding Grown
stays_on T T1 T2 t p q = record {
  layers = λ l m. q.layers l (p.grown l m) ∙ p.layers l m;
  lives = q.lives;
  grown = λ l m. q.grown l (p.grown l m);
}

pub all_stays : (cs : List Call) (T : Tables) (t : ℕ) → thread_live T.threads t ≡ true → Lives T cs t → Stays T (after_all T cs) t
unfolding after_all Lives
all_stays [] T t v k = stays_self T t v
all_stays (c ∷ cs) T t v k =
    let S = stays T c t v k.0 in
    stays_on T (after T c) (after_all (after T c) cs) t S (all_stays cs (after T c) t S.lives k.1)

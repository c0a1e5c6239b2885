-- What a thread holds is what its requests are granted. Assumes nothing.
use mathlib.Core.Path.{◌≡◌, refl, sym, ap, ◌∙◌}
use mathlib.Core.Bool.{Bool, true, false, not, cond, ◌&&◌}
use mathlib.Core.List.{List, [], ◌∷◌, ◌++◌}
use Prim.Native.Nat.{ℕ}
use native.Mathlib.Omega.{arith}
use borrow.Author.Tests.{not-false}
use Rattle.laws.specs.Tests.{elem, any}
use Rattle.laws.specs.Refusals.{Check, ◌⇒◌, first}
use Rattle.laws.proofs.Bools.{and_l, and_r, both, not_of_false, not_of_true, clash, split}
use Rattle.laws.proofs.Tests.{any_find, any_at}
use Rattle.laws.proofs.Refusals.{passed, join_go}
use Rattle.access.specs.Rights.{has, all_fs, file_set}
use Rattle.access.proofs.Laws.{within_has}
use Rattle.access.specs.Errno.{EPERM, EACCES}
use Rattle.access.specs.declared.errno.Reply.{Reply}
use Rattle.access.specs.declared.errno.Reply.TheVariants.{Done}
use Rattle.tables.specs.Tables.{Tables, is_dir, past_file_set, port_rule, thread_live}
use Rattle.tables.specs.Layers.{Layer, layer_at}
use Rattle.tables.specs.Outcome.{Outcome, outcome, error_of, named, naming}
use Rattle.judge.specs.Rules.{rights_on}
use Rattle.judge.specs.Judge.{granted, handled}
use Rattle.judge.specs.Domain.{lacks, port_lacks}
use Rattle.judge.proofs.Laws.{has-denied, lacks-none, lacks-some, port-lacks-none, port-lacks-some}
use Rattle.sound.specs.Sound.{sound}
use Rattle.sound.specs.Call.{call}
use Rattle.sound.proofs.Calls.{call-refused, call-done}
use Rattle.fs.specs.Move.{entry_rights}
use Rattle.fs_access.specs.Access.{access_names, access_mask, access_checks, access_call}
use Rattle.net.specs.Port.{port_form, port_checks, port_call}
use Rattle.task.specs.declared.Scope.{Scope}
use Rattle.task.specs.Task.{task_checks, task_call}
use Rattle.task.proofs.Reach.{reaches-self}
use Rattle.theorems.specs.Calls.{outcome_of}
use Rattle.theorems.specs.Claim.{domain_of, holds, port_grants, may_reach}
use Rattle.theorems.specs.Granted.{Judged, RightsAnswered}
use Rattle.theorems.proofs.Naming.{error-named}

-- the reply of a request whose last check, with the error n, is all that can refuse
pub data Answered (n : ℕ) (r : Reply) : Bool → Type 0 where
  denying : error_of r ≡ n → Answered n r true
  granting : r ≡ Done 0 → Answered n r false

module _ (n : ℕ) (fails : 0 ≡ n → ⊥) where
  last-check : (T : Tables) (cs : List Check) (v : Bool) → sound T ≡ true → first cs ≡ cond v n 0 → Answered n (call T cs (outcome (Done 0) T)).reply v
  last-check T cs true h k =
      denying (ap (λ (o : Outcome). error_of o.reply) (sym (call-refused T cs (outcome (Done 0) T) (sym h) refl (sym k) (λ z. fails (sym z)))))
  last-check T cs false h k =
      granting (ap (λ (o : Outcome). o.reply) (sym (call-done T cs (outcome (Done 0) T) (sym h) refl (sym k) refl)))

  -- a reply by a test that fails exactly if G
  judged : {r : Reply} {G : Type 0} (b : Bool) → Answered n r b → (G → b ≡ false) → (b ≡ false → G) → Judged n r G
  judged true (denying h) f g =
      record {
        granted = λ x. clash true refl (f x);
        only = λ z. absurd (fails (sym (ap error_of z) ∙ h));
        denied = λ n. h;
        lacked = λ z x. clash true refl (f x);
      }
  judged false (granting h) f g =
      record {
        granted = λ x. h;
        only = λ z. g refl;
        denied = λ n. absurd (n (g refl));
        lacked = λ z. absurd (fails (sym (ap error_of h) ∙ z));
      }

-- the same where a layer is named
named-check : (n : ℕ) (a b : ℕ → ℕ) (D : List ℕ) (o : Outcome) (v : Bool) → Answered n o.reply v → Answered n (naming a b D o).reply v
unfolding named
named-check n a b D o true (denying h) = denying (error-named a b D o.reply ∙ h)
named-check n a b D o false (granting h) = granting (ap (named a b D) h)

-- ---- layers D, where layer l handles right i if h l i and grants it if g l i; b: one of them denies a right of the mask m
module _ (D : List ℕ) (m : ℕ) (h g : ℕ → ℕ → Bool) (b : Bool)
    (none : b ≡ false → (l : ℕ) → elem l D ≡ true → (i : ℕ) → has m i ≡ true → h l i ≡ true → g l i ≡ true)
    (some : b ≡ true → (l : ℕ) × (i : ℕ) × (elem l D ≡ true) × (has m i ≡ true) × (h l i ≡ true) × (g l i ≡ false)) where
  grants-each : b ≡ false → (i : ℕ) → has m i ≡ true → not (any (λ l. h l i && not (g l i)) D) ≡ true
  grants-each v i q = not_of_false (any (λ l. h l i && not (g l i)) D) (split (any (λ l. h l i && not (g l i)) D)
      (λ a.
      let s = any_find (λ l. h l i && not (g l i)) D a in
      let l = s.0 in
      let k = none v l s.1 i q (and_l (h l i) (not (g l i)) s.2) in
      clash (not (g l i)) (and_r (h l i) (not (g l i)) s.2) (not_of_true (g l i) k))
      (λ a. a))

  each-granted : ((i : ℕ) → has m i ≡ true → not (any (λ l. h l i && not (g l i)) D) ≡ true) → b ≡ false
  each-granted f = split b
      (λ v.
      let s = some v in
      let l = s.0 in
      let i = s.1 in
      let a = any_at (λ k. h k i && not (g k i)) D l s.2 (both (h l i) (not (g l i)) s.4 (not_of_false (g l i) s.5)) in
      clash (not (any (λ k. h k i && not (g k i)) D)) (f i s.3) (not_of_true (any (λ k. h k i && not (g k i)) D) a))
      (λ v. v)

-- ---- an access
module _ (T : Tables) (t e m : ℕ) (names : first (access_names T.entries T.threads t e) ≡ 0) (mask : first (access_mask T.entries e m) ≡ 0) where
  abbrev es : List ℕ
  es = T.entries

  abbrev lacking : Bool
  lacking = lacks es T.layers T.pool (domain_of T t) e m

  -- the mask asks for rights of the entry's kind
  of_kind : (i : ℕ) → has m i ≡ true → has (entry_rights es e) i ≡ true
  unfolding access_mask past_file_set entry_rights
  of_kind i h =
      let p = passed (access_mask es e m) mask in
      split (is_dir es e)
      (λ q. rw q (within_has m all_fs i (not-false _ p.1.0) h))
      (λ q. rw q (within_has m file_set i (not-false _ (rw q at p.1.1.0)) h))

  access-first : first (access_checks T t e m) ≡ cond lacking EACCES 0
  unfolding access_checks access_names access_mask first
  access-first =
      sym (join_go (access_names es T.threads t e) (access_mask es e m ++ (lacking ⇒ EACCES ∷ [])) tt refl names (join_go (access_mask es e m) (lacking ⇒ EACCES ∷ []) tt refl mask refl))

  abbrev layer : ℕ → Layer
  layer l = layer_at T.layers T.pool l

  access-held : lacking ≡ false → (i : ℕ) → has m i ≡ true → holds T (domain_of T t) e i ≡ true
  unfolding holds
  access-held v i q = both (has (entry_rights es e) i) _ (of_kind i q)
      (simp has-denied (grants-each (domain_of T t) m (λ l i. has (handled (layer l)) i) (λ l i. has (granted es (layer l) e) i) lacking
      (lacks-none es T.layers T.pool (domain_of T t) e m) (lacks-some es T.layers T.pool (domain_of T t) e m) v i q))

  access-all : ((i : ℕ) → has m i ≡ true → holds T (domain_of T t) e i ≡ true) → lacking ≡ false
  unfolding holds
  access-all f = each-granted (domain_of T t) m (λ l i. has (handled (layer l)) i) (λ l i. has (granted es (layer l) e) i) lacking
      (lacks-none es T.layers T.pool (domain_of T t) e m) (lacks-some es T.layers T.pool (domain_of T t) e m)
      (λ i q. simp has-denied at (and_r (has (entry_rights es e) i) _ (f i q)))

-- ---- a port
module _ (T : Tables) (t p m : ℕ) (form : first (port_form T.threads t p m) ≡ 0) where
  abbrev lacking_port : Bool
  lacking_port = port_lacks T.layers T.pool (domain_of T t) p m

  port-first : first (port_checks T t p m) ≡ cond lacking_port EACCES 0
  unfolding port_checks port_form first
  port-first = sym (join_go (port_form T.threads t p m) (lacking_port ⇒ EACCES ∷ []) tt refl form refl)

  port-held : lacking_port ≡ false → (i : ℕ) → has m i ≡ true → port_grants T (domain_of T t) p i ≡ true
  unfolding port_grants
  port-held = grants-each (domain_of T t) m (λ l i. has (layer_at T.layers T.pool l).net i) (λ l i. has (rights_on (layer_at T.layers T.pool l).rules port_rule p) i)
      lacking_port (port-lacks-none T.layers T.pool (domain_of T t) p m) (port-lacks-some T.layers T.pool (domain_of T t) p m)

  port-all : ((i : ℕ) → has m i ≡ true → port_grants T (domain_of T t) p i ≡ true) → lacking_port ≡ false
  unfolding port_grants
  port-all = each-granted (domain_of T t) m (λ l i. has (layer_at T.layers T.pool l).net i) (λ l i. has (rights_on (layer_at T.layers T.pool l).rules port_rule p) i)
      lacking_port (port-lacks-none T.layers T.pool (domain_of T t) p m) (port-lacks-some T.layers T.pool (domain_of T t) p m)

-- ---- a thread
self-reached : (T : Tables) (t : ℕ) (i : Scope) → may_reach T i t t ≡ true
unfolding may_reach
self-reached T t i = reaches-self T.layers i (domain_of T t)

module _ (T : Tables) (t u : ℕ) (i : Scope) (vt : thread_live T.threads t ≡ true) (vu : thread_live T.threads u ≡ true) where
  task-first : first (task_checks T.layers T.threads t u i) ≡ cond (not (may_reach T i t u)) EPERM 0
  unfolding task_checks first may_reach
  task-first = rw (vt, vu) refl

pub rights-answered : RightsAnswered
unfolding outcome_of access_call port_call task_call
rights-answered =
    let eacces : (0 ≡ EACCES → ⊥) = λ z. omega arith in
    let eperm : (0 ≡ EPERM → ⊥) = λ z. omega arith in
    let asked : (T : Tables) (t u : ℕ) (i : Scope) → sound T ≡ true → thread_live T.threads t ≡ true → thread_live T.threads u ≡ true → Judged EPERM (task_call T t u i).reply (may_reach T i t u ≡ true) =
    λ T t u i h a b. judged EPERM eperm (not (may_reach T i t u)) (last-check EPERM eperm T (task_checks T.layers T.threads t u i) _ h (task-first T t u i a b)) (not_of_true (may_reach T i t u)) (not-false (may_reach T i t u)) in
    record {
      access = λ T t e m h a b. judged EACCES eacces (lacking T t e m a b) (named-check EACCES _ _ _ (call T (access_checks T t e m) (outcome (Done 0) T)) _ (last-check EACCES eacces T (access_checks T t e m) (lacking T t e m a b) h (access-first T t e m a b))) (access-all T t e m a b) (access-held T t e m a b);
      ports = λ T t p m h a. judged EACCES eacces (lacking_port T t p m a) (named-check EACCES _ _ _ (call T (port_checks T t p m) (outcome (Done 0) T)) _ (last-check EACCES eacces T (port_checks T t p m) (lacking_port T t p m a) h (port-first T t p m a))) (port-all T t p m a) (port-held T t p m a);
      tasks = asked;
      self = λ T t i h a. (asked T t t i h a a).granted (self-reached T t i);
    }

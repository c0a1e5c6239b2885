-- Rights and answers: "Demand 3 speaks of rights as "How a path is judged" defines them .., so it leans on demand 2". What a thread holds by
-- the definitions of Claim is what its requests are granted.
use Rattle.std.specs.Prelude.{◌≡◌, true, ℕ}
use Rattle.laws.specs.Refusals.{first}
use Rattle.access.specs.Rights.{has}
use Rattle.access.specs.Errno.{EPERM, EACCES}
use Rattle.access.specs.declared.errno.Reply.{Reply}
use Rattle.access.specs.declared.errno.Reply.TheVariants.{Done}
use Rattle.tables.specs.Tables.{Tables, thread_live}
use Rattle.tables.specs.Outcome.{error_of}
use Rattle.sound.specs.Sound.{sound}
use Rattle.fs_access.specs.Access.{access_names, access_mask}
use Rattle.net.specs.Port.{port_form}
use Rattle.task.specs.declared.Scope.{Scope}
use Rattle.theorems.specs.Calls.{access, port, task, reply}
use Rattle.theorems.specs.Claim.{domain_of, holds, port_grants, may_reach}

-- each right of a mask has the property
abbrev pub Each : ℕ → (ℕ → Type 0) → Type 0
Each m P = (i : ℕ) → has m i ≡ true → P i

-- a reply is 0 exactly if G, and the error n exactly if not
pub record Judged (n : ℕ) (r : Reply) (G : Type 0) : Type 0 where
  pub granted : G → r ≡ Done 0
  pub only : r ≡ Done 0 → G
  pub denied : (G → ⊥) → error_of r ≡ n
  pub lacked : error_of r ≡ n → G → ⊥

-- on sound tables, past the checks that precede the verdict
pub record RightsAnswered : Type 0 where
  -- an access is granted exactly if the entry holds each right asked for, under the thread's domain
  pub access : (T : Tables) (t e m : ℕ) → sound T ≡ true → first (access_names T.entries T.threads t e) ≡ 0 → first (access_mask T.entries e m) ≡ 0
      → Judged EACCES (reply T (access t e m)) (Each m (λ i. holds T (domain_of T t) e i ≡ true))
  -- a port is granted exactly if the domain grants each right asked for there
  pub ports : (T : Tables) (t p m : ℕ) → sound T ≡ true → first (port_form T.threads t p m) ≡ 0
      → Judged EACCES (reply T (port t p m)) (Each m (λ i. port_grants T (domain_of T t) p i ≡ true))
  -- a live thread may signal another, or reach its abstract socket, exactly if it can reach it
  pub tasks : (T : Tables) (t u : ℕ) (s : Scope) → sound T ≡ true → thread_live T.threads t ≡ true → thread_live T.threads u ≡ true
      → Judged EPERM (reply T (task t u s)) (may_reach T s t u ≡ true)
  -- "Signalling oneself is always allowed"
  pub self : (T : Tables) (t : ℕ) (s : Scope) → sound T ≡ true → thread_live T.threads t ≡ true → reply T (task t t s) ≡ Done 0

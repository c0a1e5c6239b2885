-- Document 02, W10, "Scopes come alive".
use Rattle.std.specs.Prelude.{Bool, not, ◌&&◌, List, [], ◌∷◌, ℕ}
use Rattle.laws.specs.Tests.{any, elem}
use Rattle.laws.specs.Refusals.{Check, ◌⇒◌}
use Rattle.access.specs.Rights.{within, ABSTRACT_UNIX_SOCKET, SIGNAL}
use Rattle.access.specs.Errno.{EPERM, ESRCH}
use Rattle.access.specs.declared.errno.Reply.TheVariants.{Done}
use Rattle.tables.specs.Tables.{Tables, thread_live}
use Rattle.tables.specs.Layers.{layer_scope}
use Rattle.tables.specs.Outcome.{Outcome, outcome}
use Rattle.judge.specs.Domain.{domain}
use Rattle.sound.specs.Call.{call}
use Rattle.task.specs.declared.Scope.{Scope}
use Rattle.task.specs.declared.Scope.TheVariants.{AbstractSocket, Signal}

-- the scope of "signal, or reach the abstract socket of, another thread"
unfoldable pub scope_right : Scope → ℕ
scope_right AbstractSocket = ABSTRACT_UNIX_SOCKET
scope_right Signal = SIGNAL

-- layer l "handles that scope" i, and is not "also a layer of the other thread's domain" E
unfoldable pub escapes : List ℕ → ℕ → List ℕ → ℕ → Bool
escapes ls i E l = within i (layer_scope ls l) && not (elem l E)

-- "exactly if every layer in its domain that handles that scope is also a layer of the other thread's domain": of the domains D and E
unfoldable pub reaches : List ℕ → Scope → List ℕ → List ℕ → Bool
reaches ls s D E = not (any (escapes ls (scope_right s) E) D)

-- "otherwise EPERM. Both threads must be live, else ESRCH"
unfoldable pub task_checks : List ℕ → List ℕ → ℕ → ℕ → Scope → List Check
task_checks ls ts t u s =
    not (thread_live ts t) ⇒ ESRCH ∷ not (thread_live ts u) ⇒ ESRCH ∷ not (reaches ls s (domain ls ts t) (domain ls ts u)) ⇒ EPERM ∷ []

unfoldable pub task_call : Tables → ℕ → ℕ → Scope → Outcome
task_call T t u s = call T (task_checks T.layers T.threads t u s) (outcome (Done 0) T)

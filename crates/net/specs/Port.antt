-- Document 01, "Port": a request to bind or connect.
use Rattle.std.specs.Prelude.{not, List, [], ◌∷◌, ◌++◌, ℕ, eqb, ltb}
use Rattle.laws.specs.Refusals.{Check, ◌⇒◌}
use Rattle.access.specs.Rights.{within, all_net}
use Rattle.access.specs.Errno.{ESRCH, EACCES, EINVAL}
use Rattle.access.specs.Limits.{max_port}
use Rattle.access.specs.declared.errno.Reply.TheVariants.{Done}
use Rattle.tables.specs.Tables.{Tables, thread_live}
use Rattle.tables.specs.Outcome.{Outcome, outcome}
use Rattle.judge.specs.Domain.{domain, port_lacks}
use Rattle.judge.specs.Blame.{naming_port}
use Rattle.sound.specs.Call.{call}

-- "ESRCH; 0 to 65,535, else EINVAL; empty or unknown mask EINVAL": a bit is unknown only if above 1, whatever the level
unfoldable pub port_form : List ℕ → ℕ → ℕ → ℕ → List Check
port_form ts t port m =
    not (thread_live ts t) ⇒ ESRCH ∷ ltb max_port port ⇒ EINVAL ∷ eqb m 0 ⇒ EINVAL ∷ not (within m all_net) ⇒ EINVAL ∷ []

-- "EACCES if some layer handles a requested right and has no rule for that port with it"
unfoldable pub port_checks : Tables → ℕ → ℕ → ℕ → List Check
port_checks T t port m =
    port_form T.threads t port m ++ (port_lacks T.layers T.pool (domain T.layers T.threads t) port m ⇒ EACCES ∷ [])

unfoldable pub port_call : Tables → ℕ → ℕ → ℕ → Outcome
port_call T t port m = naming_port T t port m (call T (port_checks T t port m) (outcome (Done 0) T))

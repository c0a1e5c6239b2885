-- Document 02, W8: which layer refused a request, and what it denies.
use Rattle.std.specs.Prelude.{List, ℕ}
use Rattle.laws.specs.Refusals.{Check, first}
use Rattle.access.specs.Reply.{reply_to}
use Rattle.access.specs.declared.errno.Reply.{Reply}
use Rattle.tables.specs.Tables.{Tables}
use Rattle.tables.specs.Layers.{layer_at}
use Rattle.tables.specs.Outcome.{Outcome, named, naming}
use Rattle.judge.specs.Judge.{missing, port_missing}
use Rattle.judge.specs.Domain.{domain}

-- a domain holds nothing but what it denies against a request: only EACCES names a layer
abbrev pub none : ℕ → ℕ
none l = 0

-- "on an access .. all denied rights asked for": of the rights m at an entry, those that layer l denies
abbrev pub denied_at : Tables → ℕ → ℕ → ℕ → ℕ
denied_at T e m l = missing T.entries (layer_at T.layers T.pool l) e m

-- the reply to refusals, with the layer
abbrev pub entry_reply : Tables → ℕ → ℕ → ℕ → List Check → Reply
entry_reply T t e m cs = named (denied_at T e m) none (domain T.layers T.threads t) (reply_to (first cs))

abbrev pub naming_entry : Tables → ℕ → ℕ → ℕ → Outcome → Outcome
naming_entry T t e m o = naming (denied_at T e m) none (domain T.layers T.threads t) o

-- "or port": at a port
abbrev pub denied_port : Tables → ℕ → ℕ → ℕ → ℕ
denied_port T p m l = port_missing (layer_at T.layers T.pool l) p m

abbrev pub port_reply : Tables → ℕ → ℕ → ℕ → List Check → Reply
port_reply T t p m cs = named (denied_port T p m) none (domain T.layers T.threads t) (reply_to (first cs))

abbrev pub naming_port : Tables → ℕ → ℕ → ℕ → Outcome → Outcome
naming_port T t p m o = naming (denied_port T p m) none (domain T.layers T.threads t) o

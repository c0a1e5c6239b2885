-- What an exported call answers and leaves.
use Rattle.std.specs.Prelude.{◌≡◌, cond, List, ℕ, ◌*◌, min, eqb, length}
use Rattle.access.specs.Reply.{reply_to}
use Rattle.tables.specs.Tables.{Tables, rule_width}
use Rattle.tables.specs.Layers.{layer_first}
use Rattle.domain.specs.Layer.{layer_code}
use Rattle.codes.specs.Codes.{number, reported, reported_access}
use Rattle.queue.specs.Queue.{Queue, Posted}
use Rattle.policy.specs.Find.{found}
use Rattle.named.specs.Named.{Named, NamedOutcome}
use Rattle.named.specs.Policy.{apply_named, found_number, found_place, applied_place, placed}

-- an exported call answers the reply's number r, and leaves the tables N
abbrev pub Answers : ℕ → Named → NamedOutcome → Type 0
Answers r N o = (r ≡ number o.reply) × (N ≡ o.left)

-- a call with a verdict also writes a report, from `cells` to `cells'`
abbrev pub Tells : ℕ → Named → List ℕ → List ℕ → NamedOutcome → Type 0
Tells r N cells cells' o = Answers r N o × (cells' ≡ reported cells o.reply)

-- access also reports how many entries' rules were read, n
abbrev pub TellsAccess : ℕ → Named → List ℕ → List ℕ → NamedOutcome → ℕ → Type 0
TellsAccess r N cells cells' o n = Answers r N o × (cells' ≡ reported_access cells o.reply n)

-- a name in two policy files: the number, and a report of the file, a place in it and a length
abbrev pub FindsPolicy : ℕ → List ℕ → List ℕ → List ℕ → List ℕ → List ℕ → Type 0
FindsPolicy r cells cells' stock site name = (r ≡ number (reply_to (found_number (found stock site name)))) × (cells' ≡ placed cells (found_place (found stock site name)))

-- its ruleset applied to the tables N, which leaves M
abbrev pub AppliesPolicy : ℕ → Named → Named → List ℕ → List ℕ → List ℕ → List ℕ → List ℕ → Type 0
AppliesPolicy r N M cells cells' stock site name = Answers r M (apply_named N stock site name) × (cells' ≡ placed cells (applied_place N stock site name))

-- a post answers the reply's number r, and leaves the queue Q
abbrev pub Posts : ℕ → Queue → Posted → Type 0
Posts r Q p = (r ≡ number p.reply) × (Q ≡ p.left)

-- the first pool cell of a layer's rules; 0 with a refusal
unfoldable pub span_from : Tables → ℕ → ℕ
span_from T l = cond (eqb (layer_code T l) 0) (min (rule_width * layer_first T.layers l) (length T.pool)) 0

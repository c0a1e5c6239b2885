-- Document 02, W1: the six tables with the names beside them.
use Rattle.std.specs.Prelude.{Bool, cond, not, ◌&&◌, List, [], ◌∷◌, ℕ, ◌*◌, eqb, length, replicate}
use Rattle.laws.specs.Refusals.{Check, ◌⇒◌, first}
use Rattle.access.specs.Errno.{EIO}
use Rattle.access.specs.Limits.{max_entries}
use Rattle.access.specs.declared.errno.Reply.{Reply}
use Rattle.access.specs.declared.errno.Reply.TheVariants.{Done, Refused}
use Rattle.tables.specs.Tables.{Tables}
use Rattle.tables.specs.Outcome.{Outcome, outcome}
use Rattle.tables.specs.Fresh.{fresh_tables, fresh_checks}
use Rattle.sound.specs.Sound.{sound}
use Rattle.names.specs.Names.{name_width, names_sound}

pub record Named : Type 0 where
  -- the six tables
  pub core : Tables
  pub names : List ℕ

abbrev pub with_names : Tables → List ℕ → Named
with_names T ns = record { core = T; names = ns }

-- "soundness includes this"
unfoldable pub named_sound : Named → Bool
named_sound N = sound N.core && names_sound N.core.entries N.names

-- ---- what a call answers and leaves
-- the reply, and the tables after the call
pub record NamedOutcome : Type 0 where
  pub reply : Reply
  pub left : Named

abbrev pub named_outcome : Reply → Named → NamedOutcome
named_outcome r N = record { reply = r; left = N }

-- "A refusal returns its number, told apart from a success, and changes no cell"
abbrev pub named_refused : ℕ → Named → NamedOutcome
named_refused e N = named_outcome (Refused (record { 0 = e })) N

-- the first refusal that applies; where none does, what the call does
unfoldable pub named_answer : Named → List Check → NamedOutcome → NamedOutcome
named_answer N cs done = let e = first cs in cond (eqb e 0) done (named_refused e N)

-- unsound tables are EIO; then the call's own refusals, in order; then what it does
unfoldable pub named_call : Named → List Check → NamedOutcome → NamedOutcome
named_call N cs done = named_answer N (not (named_sound N) ⇒ EIO ∷ cs) done

-- W8: the reply of a call with a verdict, as `f` makes it of the reply on the six tables
abbrev pub judged_by : (Outcome → Outcome) → NamedOutcome → NamedOutcome
judged_by f o = named_outcome (f (outcome o.reply o.left.core)).reply o.left

-- ---- a call that neither reads nor writes names
-- EIO on unsound names, else its outcome on the six tables with the names as they were
unfoldable pub lift : Named → Outcome → NamedOutcome
lift N o = cond (names_sound N.core.entries N.names) (named_outcome o.reply (with_names o.left N.names)) (named_refused EIO N)

-- W2, the entries read: "0 if refused before the verdict"
unfoldable pub lift_count : Named → ℕ → ℕ
lift_count N n = cond (names_sound N.core.entries N.names) n 0

-- a layer's rules: "EIO comes with an empty part too"
unfoldable pub lift_part : Named → List ℕ → List ℕ
lift_part N part = cond (names_sound N.core.entries N.names) part []

-- ---- fresh tables: "Anything free is zero", and only the root is there
unfoldable pub no_names : List ℕ
no_names = replicate (name_width * max_entries) 0

unfoldable pub fresh_named : ℕ → Named
fresh_named level = with_names (fresh_tables level) no_names

-- "tables of wrong length are EIO, then another level than 0 to 6 is EINVAL": the table of names as the others
unfoldable pub fresh_named_checks : Named → ℕ → List Check
fresh_named_checks N level = not (eqb (length N.names) (name_width * max_entries)) ⇒ EIO ∷ fresh_checks N.core level

unfoldable pub freshened_named : Named → ℕ → NamedOutcome
freshened_named N level = named_answer N (fresh_named_checks N level) (named_outcome (Done 0) (fresh_named level))

-- Document 02, W11: what happened since a log was empty, and when it is unbroken.
use Rattle.std.specs.Prelude.{◌≡◌, Bool, true, false, ◌&&◌, List, [], ◌∷◌, ℕ, ltb, leb}
use Rattle.named.specs.Named.{Named, freshened_named}
use Rattle.tree_log.specs.Changes.{Change}
use Rattle.tree_log.specs.Logged.{Log, logged_outcome, logged_log, LogCall, plain, logged, replay, after_logged}

-- the tables, and this log
pub record Moment : Type 0 where
  pub tables : Named
  pub log : Log

abbrev pub moment : Named → Log → Moment
moment N L = record { tables = N; log = L }

pub data Step : Type 0 where
  -- a thread's tree call with this log
  ours : ℕ → Change → Step
  -- any other call; a tree call among them has another log
  other : LogCall → Step
  -- a making of fresh tables, of a level
  fresh : ℕ → Step

-- "only calls wrote the tables, only these changes the log"
unfoldable pub next : Moment → Step → Moment
next M (ours t c) = moment (logged_outcome M.tables M.log t c).left (logged_log M.tables M.log t c)
next M (other c) = moment (after_logged M.tables c) M.log
next M (fresh level) = moment (freshened_named M.tables level).left M.log

unfoldable pub last : Moment → List Step → Moment
last M [] = M
last M (h ∷ hs) = last (next M h) hs

-- "each tree change since went into it and no other log"; "no replay .. has changed a cell of them since (even where the tree stays the same)"
unfoldable pub Leaves : Named → LogCall → Type 0
Leaves N (plain c q) = Unit {0}
Leaves N (logged t c L) = ((after_logged N (logged t c L)).core.entries ≡ N.core.entries) × ((after_logged N (logged t c L)).names ≡ N.names)
Leaves N (replay bs) = after_logged N (replay bs) ≡ N

-- "no .. making of fresh tables has changed a cell of them since"
unfoldable pub Allowed : Moment → Step → Type 0
Allowed M (ours t c) = Unit {0}
Allowed M (other c) = Leaves M.tables c
Allowed M (fresh level) = (freshened_named M.tables level).left ≡ M.tables

-- each of the steps, at the moment when it is made
unfoldable pub Each : (Moment → Step → Type 0) → Moment → List Step → Type 0
Each P M [] = Unit {0}
Each P M (h ∷ hs) = P M h × Each P (next M h) hs

-- of the steps since the log was empty. "none after a cut": a cut ends the history
abbrev pub Unbroken : Moment → List Step → Type 0
Unbroken M hs = Each Allowed M hs

-- ---- the steps up to the last one whose field is whole in the first k bytes of the log
unfoldable pub wrote_within : ℕ → Moment → Step → Bool
wrote_within k M h = ltb M.log.used (next M h).log.used && leb (next M h).log.used k

-- a step, if it wrote such a field or one after it did
unfoldable pub keep_if : Bool → Step → List Step → List Step
keep_if true h hs = h ∷ hs
keep_if false h [] = []
keep_if false h (g ∷ hs) = h ∷ g ∷ hs

unfoldable pub up_to : ℕ → Moment → List Step → List Step
up_to k M [] = []
up_to k M (h ∷ hs) = keep_if (wrote_within k M h) h (up_to k (next M h) hs)

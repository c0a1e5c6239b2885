-- Document 02, W11: the calls that change the tree, with a log, and every call after this request in one type.
use Rattle.std.specs.Prelude.{◌≡◌, Bool, cond, not, ◌&&◌, List, ◌++◌, ℕ, ◌+◌, leb, length, take, drop}
use Rattle.access.specs.Errno.{ENOSPC}
use Rattle.access.specs.declared.errno.Reply.{Reply}
use Rattle.named.specs.Named.{Named, NamedOutcome, named_refused}
use Rattle.named.specs.Calls.{NamedCall, outcome_named, after_named}
use Rattle.tree_log.specs.Changes.{Change, call_of, field_of}
use Rattle.tree_log.specs.Tree.{tree_of, same_tree}
use Rattle.tree_log.specs.Replay.{replay_named}

-- the bytes that a log may take, and how many of them are written
pub record Log : Type 0 where
  pub bytes : List ℕ
  pub used : ℕ

-- the log itself
unfoldable pub written : Log → List ℕ
written L = take L.used L.bytes

-- a used mark behind the end leaves no room
unfoldable pub has_room : Log → List ℕ → Bool
has_room L f = leb (L.used + length f) (length L.bytes)

unfoldable pub append : Log → List ℕ → Log
append L f = record { bytes = take L.used L.bytes ++ (f ++ drop (L.used + length f) L.bytes); used = L.used + length f }

-- the call changes an entry or a name
unfoldable pub alters : Named → NamedCall → Bool
alters N c = not (same_tree (tree_of N) (tree_of (after_named N c)))

-- "A change whose field has no room is ENOSPC, after all its other refusals, and alters neither tables nor log"; a call that alters nothing needs no room
unfoldable pub logged_outcome : Named → Log → ℕ → Change → NamedOutcome
logged_outcome N L t c = cond (alters N (call_of t c) && not (has_room L (field_of c))) (named_refused ENOSPC N) (outcome_named N (call_of t c))

-- the change goes into the log
unfoldable pub enters : Named → Log → ℕ → Change → Bool
enters N L t c = alters N (call_of t c) && has_room L (field_of c)

-- "Each successful tree change, in this request also one of names alone, is appended"
unfoldable pub logged_log : Named → Log → ℕ → Change → Log
logged_log N L t c = cond (enters N L t c) (append L (field_of c)) L

-- ---- every call
-- one of those that do not change the tree
unfoldable pub Unlogged : NamedCall → Type 0
Unlogged c = (t : ℕ) (d : Change) → call_of t d ≡ c → ⊥

pub data LogCall : Type 0 where
  plain : (c : NamedCall) → Unlogged c → LogCall
  -- thread, change, log
  logged : ℕ → Change → Log → LogCall
  -- the written bytes of a log
  replay : List ℕ → LogCall

unfoldable pub outcome_logged : Named → LogCall → NamedOutcome
outcome_logged N (plain c q) = outcome_named N c
outcome_logged N (logged t c L) = logged_outcome N L t c
outcome_logged N (replay bs) = replay_named N bs

abbrev pub after_logged : Named → LogCall → Named
after_logged N c = (outcome_logged N c).left

abbrev pub reply_logged : Named → LogCall → Reply
reply_logged N c = (outcome_logged N c).reply

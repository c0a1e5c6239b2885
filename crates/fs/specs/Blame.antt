-- Document 02, W8: which layer refused a move, and what it holds against it.
use Rattle.std.specs.Prelude.{cond, List, ℕ, eqb}
use Rattle.laws.specs.Refusals.{Check, first}
use Rattle.access.specs.Rights.{REFER}
use Rattle.access.specs.Reply.{reply_to}
use Rattle.access.specs.declared.errno.Reply.{Reply}
use Rattle.tables.specs.Tables.{Tables}
use Rattle.tables.specs.Layers.{Layer, layer_at}
use Rattle.tables.specs.Outcome.{Outcome, named, naming}
use Rattle.judge.specs.Domain.{domain}
use Rattle.fs.specs.declared.verdict.Move.{Move}
use Rattle.fs.specs.Move.{denied_needs, denied_refer, escaping}

-- "for EXDEV REFER if that layer denies it, and otherwise the rights that fail containment there. Sets of two directories or two moves are joined"
unfoldable pub crossed : List ℕ → Layer → Move → ℕ
crossed es L m = cond (eqb m.source m.target) 0 (cond (eqb (denied_refer es L m) 0) (escaping es L m) REFER)

-- "for EACCES on a tree change the denied needs without REFER"
abbrev pub denied_move : Tables → Move → ℕ → ℕ
denied_move T m l = denied_needs T.entries (layer_at T.layers T.pool l) m

abbrev pub crossed_move : Tables → Move → ℕ → ℕ
crossed_move T m l = crossed T.entries (layer_at T.layers T.pool l) m

-- the reply to refusals, with the layer
abbrev pub move_reply : Tables → ℕ → Move → List Check → Reply
move_reply T t m cs = named (denied_move T m) (crossed_move T m) (domain T.layers T.threads t) (reply_to (first cs))

abbrev pub naming_move : Tables → ℕ → Move → Outcome → Outcome
naming_move T t m o = naming (denied_move T m) (crossed_move T m) (domain T.layers T.threads t) o

-- The moves of link, rename and exchange, as the verdict reads them: P1 is the source's parent, P2 the target directory d.
use Rattle.std.specs.Prelude.{Bool, List, ℕ, eqb}
use Rattle.access.specs.Kinds.{kind_of}
use Rattle.access.specs.declared.kinds.MaybeKind.{MaybeKind}
use Rattle.access.specs.declared.kinds.MaybeKind.TheVariants.{Known, None}
use Rattle.tables.specs.Tables.{kind, parent, object}
use Rattle.fs.specs.Needs.{source_needs, target_needs}
use Rattle.fs.specs.Move.{entry_rights}
use Rattle.fs.specs.declared.needs.Step.{Step}
use Rattle.fs.specs.declared.needs.Step.TheVariants.{Link, Rename, Exchange}
use Rattle.fs.specs.declared.verdict.Move.{Move}
use Rattle.tree.specs.declared.Replaced.{Replaced}
use Rattle.tree.specs.declared.Replaced.TheVariants.{None as NoEntry, Entry}

-- the needs, by the kinds as the cells have them; sound tables have no other kinds than those of document 01
unfoldable pub needs_from : Step → MaybeKind → MaybeKind → Bool → ℕ
needs_from step (Known k1) k2 same = source_needs step k1 k2 same
needs_from step None k2 same = 0

unfoldable pub needs_to : Step → MaybeKind → MaybeKind → Bool → ℕ
needs_to step (Known k1) k2 same = target_needs step k1 k2 same
needs_to step None k2 same = 0

abbrev pub kind_at : List ℕ → ℕ → MaybeKind
kind_at es e = kind_of (kind es e)

abbrev pub replaced_kind : List ℕ → Replaced → MaybeKind
replaced_kind es NoEntry = None
replaced_kind es (Entry x) = kind_at es x

-- what moves to d in a step, with what moves the other way: an object and the rights that its kind can hold
unfoldable pub move_of : Step → List ℕ → ℕ → ℕ → MaybeKind → ℕ → ℕ → Move
move_of step es s d k2 other back =
    record {
      source = parent es s;
      target = d;
      leave = record { 0 = needs_from step (kind_at es s) k2 (eqb (parent es s) d) };
      enter = record { 0 = needs_to step (kind_at es s) k2 (eqb (parent es s) d) };
      object = object es s;
      rights = record { 0 = entry_rights es s };
      other = other;
      back = record { 0 = back };
    }

abbrev pub link_move : List ℕ → ℕ → ℕ → Move
link_move es s d = move_of Link es s d None 0 0

abbrev pub rename_move : List ℕ → ℕ → ℕ → Replaced → Move
rename_move es s d x = move_of Rename es s d (replaced_kind es x) 0 0

abbrev pub exchange_move : List ℕ → ℕ → ℕ → ℕ → Move
exchange_move es s d x = move_of Exchange es s d (kind_at es x) (object es x) (entry_rights es x)

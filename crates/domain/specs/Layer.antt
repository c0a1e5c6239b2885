-- Document 01: a caller reads one layer's rules "as a part of the .. pool, not a copy; a layer not in use gives an empty part and EBADF,
-- and EIO comes with an empty part too".
use Rattle.std.specs.Prelude.{cond, not, List, [], ◌∷◌, ℕ, eqb}
use Rattle.laws.specs.Refusals.{Check, ◌⇒◌}
use Rattle.access.specs.Errno.{EBADF}
use Rattle.access.specs.declared.errno.Reply.TheVariants.{Done}
use Rattle.tables.specs.Tables.{Tables}
use Rattle.tables.specs.Layers.{layer_at, layer_in_use}
use Rattle.tables.specs.Outcome.{Outcome, outcome, error_of}
use Rattle.sound.specs.Call.{call}

-- "a layer not in use gives .. EBADF"
unfoldable pub layer_checks : Tables → ℕ → List Check
layer_checks T l = not (layer_in_use T.layers l) ⇒ EBADF ∷ []

-- the call: a success is 0, and no cell changes
unfoldable pub layer_read : Tables → ℕ → Outcome
layer_read T l = call T (layer_checks T l) (outcome (Done 0) T)

-- 0, or the number of the refusal
unfoldable pub layer_code : Tables → ℕ → ℕ
layer_code T l = error_of (layer_read T l).reply

-- the part of the pool
unfoldable pub layer_part : Tables → ℕ → List ℕ
layer_part T l = cond (eqb (layer_code T l) 0) (layer_at T.layers T.pool l).rules []

-- A call on tables: "Else the answer is EIO, before all others".
use Rattle.std.specs.Prelude.{not, List, ◌∷◌}
use Rattle.laws.specs.Refusals.{Check, ◌⇒◌}
use Rattle.access.specs.Errno.{EIO}
use Rattle.tables.specs.Tables.{Tables}
use Rattle.tables.specs.Outcome.{Outcome, answer}
use Rattle.sound.specs.Sound.{sound}

-- unsound tables are EIO; then the call's own refusals, in order; then what it does
unfoldable pub call : Tables → List Check → Outcome → Outcome
call T cs done = answer T (not (sound T) ⇒ EIO ∷ cs) done

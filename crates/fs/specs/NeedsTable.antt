-- Document 02, W9: "the needs of link, rename and exchange" as "one table of 336 entries (three steps, seven source kinds, none or seven target kinds,
-- same directory or not)".
use Rattle.std.specs.Prelude.{◌≡◌, Bool, true, false, cond, not, ◌&&◌, List, ℕ, ◌+◌, ◌-◌, ◌*◌, ◌/◌, ◌%◌, ◌^◌, eqb, get_or}
use Rattle.access.specs.Rights.{fs_rights}
use Rattle.access.specs.Kinds.{kind_number, directory, last_kind}
use Rattle.access.specs.declared.kinds.Kind.{Kind}
use Rattle.access.specs.declared.kinds.MaybeKind.{MaybeKind}
use Rattle.access.specs.declared.kinds.MaybeKind.TheVariants.{Known, None}
use Rattle.fs.specs.declared.needs.Step.{Step}
use Rattle.fs.specs.declared.needs.Step.TheVariants.{Link, Rename, Exchange}
use Rattle.fs.specs.Needs.{source_needs, target_needs}

-- the place of each part in a row's number
abbrev pub step_number : Step → ℕ
step_number Link = 0
step_number Rename = 1
step_number Exchange = 2

abbrev pub other_number : MaybeKind → ℕ
other_number None = 0
other_number (Known k) = kind_number k

abbrev pub same_number : Bool → ℕ
same_number same = cond same 1 0

-- the rows, in the order of step, source kind, target kind, same directory or not
unfoldable pub needs_row : Step → Kind → MaybeKind → Bool → ℕ
needs_row step k1 k2 same = 2 * ((last_kind + 1) * (last_kind * step_number step + (kind_number k1 - 1)) + other_number k2) + same_number same

abbrev pub needs_rows : ℕ
needs_rows = 336

-- all but the "impossible rows (link of a directory, link with a target kind, exchange with none)"
unfoldable pub possible : Step → Kind → MaybeKind → Bool
possible Link k1 k2 = not (eqb (kind_number k1) directory) && eqb (other_number k2) 0
possible Rename k1 k2 = true
possible Exchange k1 k2 = not (eqb (other_number k2) 0)

-- the two sets of a row: the needs at P1 are its low 16 bits, the needs at P2 the next 16
abbrev pub low_set : ℕ → ℕ
low_set x = x % 2 ^ fs_rights

abbrev pub high_set : ℕ → ℕ
high_set x = x / 2 ^ fs_rights

-- "every other row agrees with the rule in 01, REFER included"
pub record NeedsTable (xs : List ℕ) : Type 0 where
  pub source : (step : Step) (k1 : Kind) (k2 : MaybeKind) (same : Bool) → possible step k1 k2 ≡ true
      → low_set (get_or xs (needs_row step k1 k2 same) 0) ≡ source_needs step k1 k2 same
  pub target : (step : Step) (k1 : Kind) (k2 : MaybeKind) (same : Bool) → possible step k1 k2 ≡ true
      → high_set (get_or xs (needs_row step k1 k2 same) 0) ≡ target_needs step k1 k2 same
  pub zero : (step : Step) (k1 : Kind) (k2 : MaybeKind) (same : Bool) → possible step k1 k2 ≡ false → get_or xs (needs_row step k1 k2 same) 0 ≡ 0

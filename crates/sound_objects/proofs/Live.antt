-- An entry is live, or a directory, by the first cell of its row. Assumes nothing.
use mathlib.Core.Path.{◌≡◌, refl, sym, ap, ◌∙◌}
use mathlib.Core.Bool.{true, false, not}
use mathlib.Core.List.{List}
use Prim.Native.Nat.{ℕ, ◌*◌}
use native.Mathlib.Nat.{add-zero}
use lib.ListN.{get_or}
use borrow.Author.Tests.{eq-eqb, ne_eqb}
use Rattle.tables.specs.Tables.{kind, live, is_dir}

-- the cell where the code reads the kind
abbrev pub first : List ℕ → ℕ → ℕ
first es e = get_or es (3 * e) 0

pub first_kind : (es : List ℕ) (e : ℕ) → first es e ≡ kind es e
first_kind es e = rw (add-zero)

pub live_no : (es : List ℕ) (e : ℕ) → first es e ≡ 0 → live es e ≡ false
unfolding live
live_no es e h = ap not (eq-eqb (kind es e) 0 (sym (first_kind es e) ∙ h))

pub live_yes : (es : List ℕ) (e : ℕ) → (first es e ≡ 0 → ⊥) → live es e ≡ true
unfolding live
live_yes es e h = ap not (ne_eqb (kind es e) 0 (λ z. h (first_kind es e ∙ z)))

-- entries of one kind are directories, or none is
pub same_dir : (es : List ℕ) (e f : ℕ) → kind es e ≡ kind es f → is_dir es e ≡ is_dir es f
unfolding is_dir
same_dir es e f h = rw h refl

use mathlib.Core.Path.{sym, ap, ◌∙◌}
use mathlib.Core.Bool.{not}
use lib.Dec.{eqb}
use lib.ListN.{get_or}
use borrow.Author.Rules.{rules}
use borrow.Author.Tests.{eq-eqb, ne_eqb}
use Rattle.laws.proofs.Bools.{or_left, or_right, nor}
use Rattle.laws.proofs.Refusals.{refusals, first-is, none, hit, miss, miss_ne, miss_le}
use Rattle.names.specs.Names.{slash}
use Rattle.names.specs.Paths.{path_checks}
use Rattle.path_lookup.proofs.path_checks.Goals as goal

pub returns-then-path-eq0 : goal.returns-then-path-eq0
unfolding path_checks
returns-then-path-eq0 c =
    first-is (search refusals depth 16 fits 20000)

pub returns-then-path-gt-MAX_PATH : goal.returns-then-path-gt-MAX_PATH
unfolding path_checks
returns-then-path-gt-MAX_PATH c =
    first-is (search refusals depth 16 fits 20000)

pub returns-then-path-ne-SLASH : goal.returns-then-path-ne-SLASH
unfolding path_checks
returns-then-path-ne-SLASH c =
    first-is (miss_ne c.if-path-eq0.false (miss_le c.if-path-gt-MAX_PATH.false (hit (or_left _ _ (ap not (ne_eqb _ _ c.if-path-ne-SLASH.true))))))

pub returns-then-has_byte : goal.returns-then-has_byte
unfolding path_checks
returns-then-has_byte c =
    let p = c.args.path.now in
    first-is (miss_ne c.if-path-eq0.false (miss_le c.if-path-gt-MAX_PATH.false (hit (or_right (not (eqb (get_or p 0 0) slash)) _ (sym c.has_byte.ensures ∙ c.if-has_byte.true)))))

pub returns : goal.returns
unfolding path_checks
returns c =
    first-is
    (miss_ne c.if-path-eq0.false
    (miss_le c.if-path-gt-MAX_PATH.false
    (miss (nor _ _ (ap not (eq-eqb _ _ c.if-path-ne-SLASH.false)) (sym c.has_byte.ensures ∙ c.if-has_byte.false)) none)))

-- the source is the directory or above it
use mathlib.Core.Path.{refl}
use mathlib.Core.List.{List, [], ◌∷◌}
use Prim.Native.Nat.{ℕ}
use Rattle.laws.specs.Refusals.{Check, ◌⇒◌}
use Rattle.laws.proofs.Refusals.{join_stop, join_go, first-is, none, hit_by, miss_by}
use Rattle.access.specs.Errno.{EINVAL}
use Rattle.tree.specs.Entries.{is_above}
use Rattle.tree_log.specs.Tree.{tree_checks}
use Rattle.named.proofs.Orders.{name_early}
use Rattle.log_checks.proofs.Places.{move_refuses}
use Rattle.log_checks.proofs.rename_refusal.Goals as goal

abbrev up : List ℕ → ℕ → ℕ → List Check
up es s d = is_above es s d ⇒ EINVAL ∷ []

pub returns-then-a-ne0 : goal.returns-then-a-ne0
unfolding tree_checks
returns-then-a-ne0 c =
    join_stop _ _ c.move_place-a.ensures c.if-a-ne0.true

pub returns-then-b-ne0 : goal.returns-then-b-ne0
unfolding tree_checks
returns-then-b-ne0 c =
    join_go _ _ (move_refuses _ _ _) c.move_place-a.ensures c.if-a-ne0.false (join_stop _ _ c.name_checks-b.ensures c.if-b-ne0.true)

pub returns-then-is_above : goal.returns-then-is_above
unfolding tree_checks
returns-then-is_above c =
    join_go _ _ (move_refuses _ _ _) c.move_place-a.ensures c.if-a-ne0.false (join_go _ _ (name_early _).1 c.name_checks-b.ensures c.if-b-ne0.false (first-is (hit_by c.is_above.ensures c.if-is_above.true)))

pub returns : goal.returns
unfolding tree_checks
returns c =
    join_go _ _ (move_refuses _ _ _) c.move_place-a.ensures c.if-a-ne0.false (join_go _ _ (name_early _).1 c.name_checks-b.ensures c.if-b-ne0.false
    (join_go (up _ _ _) _ tt (first-is (miss_by c.is_above.ensures c.if-is_above.false none)) refl (rw c.requires at c.rename_later.ensures)))

-- the rules end where the slice does, or before
use mathlib.Core.Path.{ap, ◌∙◌}
use Prim.Native.Nat.{ℕ, ◌+◌, ◌*◌, ◌/◌, ◌≤◌}
use native.Mathlib.Omega.{arith}
use lib.ListN.{length, get_or}
use Rattle.laws.proofs.Tests.{first_bound}
use Rattle.tables.specs.Tables.{rule_width}
use Rattle.judge.specs.Rules.{is_rule, rule_place, rights_on}
use Rattle.judge.proofs.rules.rights_on.Goals as goal
use Rattle.judge.proofs.rules.rights_on.Goals.{After-rule_start-at}

small : (c : After-rule_start-at) → c.rule_start-at.result ≤ length c.args.rules.now
unfolding rule_place
small c =
    let a = c.args in
    let h = first_bound (is_rule a.rules.now a.ty a.key) (length a.rules.now / rule_width) in
    let e = c.rule_start-at.ensures in
    omega arith

pub overflow_add-at : goal.overflow_add-at
unfolding rights_on
overflow_add-at c =
    let h = small c in omega arith

pub returns : goal.returns
unfolding rights_on
returns c =
    let a = c.args in
    c.read.ensures ∙ ap (λ (i : ℕ). get_or a.rules.now (i + 2) 0) c.rule_start-at.ensures

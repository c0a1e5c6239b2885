use mathlib.Core.Path.{◌≡◌, sym, ◌∙◌}
use lib.Dec.{leb}
use borrow.Author.Rules.{rules}
use Rattle.laws.proofs.Refusals.{first-is, none, hit, miss}
use Rattle.access.specs.Limits.{max_entries}
use Rattle.policy_write.specs.File.{write_rules}
use Rattle.policy_picks.proofs.Picking.{sweeps_any, pick-any, overlong_any}
use Rattle.policy_picks.proofs.write_rules.Goals as goal

pub returns-then-any_sweeps : goal.returns-then-any_sweeps
unfolding write_rules
returns-then-any_sweeps c =
    let a = c.args in first-is (hit (sym (c.any_sweeps.ensures ∙ sweeps_any a.entries.now a.rules.now) ∙ c.if-any_sweeps.true))

pub any_lacking-requires : goal.any_lacking-requires
unfolding write_rules
any_lacking-requires c =
    c.requires.room

pub returns-then-any_lacking : goal.returns-then-any_lacking
unfolding write_rules
returns-then-any_lacking c =
    let a = c.args in
    first-is (miss (sym (c.any_sweeps.ensures ∙ sweeps_any a.entries.now a.rules.now) ∙ c.if-any_sweeps.false)
    (hit (sym (c.any_lacking.ensures ∙ pick-any (leb max_entries) a.entries.now a.names.now a.rules.now a.picks.now c.requires) ∙ c.if-any_lacking.true)))

pub any_overlong-requires : goal.any_overlong-requires
unfolding write_rules
any_overlong-requires c =
    c.requires.room

pub returns-then-any_overlong : goal.returns-then-any_overlong
unfolding write_rules
returns-then-any_overlong c =
    let a = c.args in
    first-is (miss (sym (c.any_sweeps.ensures ∙ sweeps_any a.entries.now a.rules.now) ∙ c.if-any_sweeps.false)
    (miss (sym (c.any_lacking.ensures ∙ pick-any (leb max_entries) a.entries.now a.names.now a.rules.now a.picks.now c.requires) ∙ c.if-any_lacking.false)
    (hit (sym (c.any_overlong.ensures ∙ overlong_any a.entries.now a.names.now a.rules.now a.picks.now c.requires) ∙ c.if-any_overlong.true))))

pub returns : goal.returns
unfolding write_rules
returns c =
    let a = c.args in
    first-is (miss (sym (c.any_sweeps.ensures ∙ sweeps_any a.entries.now a.rules.now) ∙ c.if-any_sweeps.false)
    (miss (sym (c.any_lacking.ensures ∙ pick-any (leb max_entries) a.entries.now a.names.now a.rules.now a.picks.now c.requires) ∙ c.if-any_lacking.false)
    (miss (sym (c.any_overlong.ensures ∙ overlong_any a.entries.now a.names.now a.rules.now a.picks.now c.requires) ∙ c.if-any_overlong.false) none)))

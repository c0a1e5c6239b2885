use mathlib.Core.Path.{sym, ◌∙◌, subst}
use native.Mathlib.Omega.{arith}
use borrow.Author.Rules.{rules}
use Rattle.policy_write.specs.File.{policy_file}
use Rattle.syscalls_write.specs.Ready.{Ready}
use Rattle.syscalls_write.proofs.Opened.{is-chosen}
use Rattle.syscalls_write.proofs.Answered.{rules-reply, rules-left, room-reply, room-left}
use Rattle.syscalls_write.proofs.write_open.Goals as goal

pub pick_all-requires : goal.pick_all-requires
pick_all-requires c =
    let a = c.args in
    let R = subst (Ready a.entries.now a.names.now a.name.now) (sym c.ruleset_rules-rules.ensures) c.requires in
    (R.rooted, R.few)

pub returns-then-e-ne0 : goal.returns-then-e-ne0
returns-then-e-ne0 c =
    let a = c.args in
    let file = policy_file a.entries.now a.rulesets.now a.names.now a.r a.name.now in record { reply = rules-reply a.entries.now a.rulesets.now a.names.now a.r file a.out.now c.ruleset_rules-rules.ensures c.write_rules-e.ensures c.if-e-ne0.true; output = rules-left a.entries.now a.rulesets.now a.names.now a.r file a.out.now c.ruleset_rules-rules.ensures c.write_rules-e.ensures c.if-e-ne0.true }

pub write_picked-requires : goal.write_picked-requires
write_picked-requires c =
    let a = c.args in
    let own = c.ruleset_rules-rules.ensures in
    let R = subst (Ready a.entries.now a.names.now a.name.now) (sym own) c.requires in
    is-chosen a.entries.now a.rulesets.now a.names.now a.r a.name.now _ _ own R c.pick_all.ensures (sym c.write_rules-e.ensures ∙ c.if-e-ne0.false)

pub returns : goal.returns
returns c =
    let a = c.args in
    let file = policy_file a.entries.now a.rulesets.now a.names.now a.r a.name.now in record { reply = room-reply a.entries.now a.rulesets.now a.names.now a.r file a.out.now c.ruleset_rules-rules.ensures c.write_rules-e.ensures c.if-e-ne0.false c.write_picked.ensures.reply; output = room-left a.entries.now a.rulesets.now a.names.now a.r file a.out.now c.ruleset_rules-rules.ensures c.write_rules-e.ensures c.if-e-ne0.false c.write_picked.ensures.output }

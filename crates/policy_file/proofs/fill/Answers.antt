use mathlib.Core.Path.{◌≡◌, refl, sym, ap, ◌∙◌}
use native.Mathlib.Omega.{arith}
use borrow.Author.Rules.{rules}
use Rattle.policy_file.proofs.Filled.{own-masks, laid_short, ports_fit, parts_long, paths_fit, last_fit, filled}
use Rattle.policy_file.proofs.fill.Goals as goal

pub put_name-masks-requires : goal.put_name-masks-requires
put_name-masks-requires c =
    let a = c.args in
    let room = c.requires.2 in
    let n = parts_long a.entries.now a.rulesets.now a.names.now a.r a.name.now a.rules.now a.picks.now c.requires.0 a.paths.now a.m a.ports.now a.k c.requires.1 in
    (c.requires.0.name_short, omega arith)

pub put_masks-first-requires : goal.put_masks-first-requires
put_masks-first-requires c =
    let a = c.args in
    let room = c.requires.2 in
    let n = parts_long a.entries.now a.rulesets.now a.names.now a.r a.name.now a.rules.now a.picks.now c.requires.0 a.paths.now a.m a.ports.now a.k c.requires.1 in
    let x = c.put_name-masks.ensures.1 in
    omega arith

pub put_paths-last-requires : goal.put_paths-last-requires
put_paths-last-requires c =
    let a = c.args in
    (laid_short a.entries.now a.rulesets.now a.names.now a.r a.name.now a.rules.now a.picks.now c.requires.0 a.paths.now a.m a.ports.now a.k c.requires.1, paths_fit a.entries.now a.rulesets.now a.names.now a.r a.name.now a.rules.now a.picks.now c.requires.0 a.paths.now a.m a.ports.now a.k c.requires.1 c.put_masks-first.auto.out c.put_name-masks.auto.out c.requires.2 c.put_name-masks.ensures.1 c.put_masks-first.ensures.1)

pub put_ports-requires : goal.put_ports-requires
put_ports-requires c =
    let a = c.args in
    (ports_fit a.entries.now a.rulesets.now a.names.now a.r a.name.now a.rules.now a.picks.now c.requires.0 a.paths.now a.m a.ports.now a.k c.requires.1, last_fit a.entries.now a.rulesets.now a.names.now a.r a.name.now a.rules.now a.picks.now c.requires.0 a.paths.now a.m a.ports.now a.k c.requires.1 c.put_paths-last.auto.out c.put_masks-first.auto.out c.put_name-masks.auto.out c.requires.2 c.put_name-masks.ensures.1 c.put_masks-first.ensures.1 c.put_paths-last.ensures.1)

pub returns : goal.returns
returns c =
    let a = c.args in
    filled a.entries.now a.rulesets.now a.names.now a.r a.name.now a.rules.now a.picks.now c.requires.0 a.paths.now a.m a.ports.now a.k c.requires.1 a.out.now c.requires.2 (own-masks a.rulesets.now a.r c.ruleset_fs-fs.ensures c.ruleset_net-net.ensures c.ruleset_scope-scope.ensures) c.put_name-masks.ensures.0 c.put_name-masks.ensures.1
    c.put_masks-first.ensures.0 c.put_masks-first.ensures.1 c.put_paths-last.ensures.0 c.put_paths-last.ensures.1 c.put_ports.ensures

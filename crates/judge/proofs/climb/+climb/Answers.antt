use mathlib.Core.Path.{◌≡◌, refl, sym, ◌∙◌}
use Prim.Native.Nat.{◌+◌, ◌-◌}
use Rattle.access.specs.Rights.{without}
use Rattle.judge.specs.Judge.{grants}
use Rattle.judge.specs.Read.{read_up}
use Rattle.judge.proofs.Climbs.{climb_done, climb_root, climb_last, climb_from}
use Rattle.judge.proofs.climb.+climb.Goals as goal

pub returns-then-is_empty-clause-read : goal.returns-then-is_empty-clause-read
returns-then-is_empty-clause-read t c =
    let a = c.args in
    (climb_done a.entries.now.now a.rules.now.now a.left a.e a.asked.0 _ (refl, refl) c.is_empty.ensures c.if-is_empty.true).1

pub returns-then-e-eq0-clause-missing : goal.returns-then-e-eq0-clause-missing
returns-then-e-eq0-clause-missing t c =
    let a = c.args in
    (climb_root a.entries.now.now a.rules.now.now {total = 1024 - a.left + read_up a.entries.now.now a.rules.now.now a.left a.e a.asked.0} a.left a.e a.asked.0 (1024 - a.left) (refl, refl) c.is_empty.ensures c.if-is_empty.false c.own_rights.ensures c.without-missing.ensures c.if-e-eq0.true).0

pub returns-then-e-eq0-clause-read : goal.returns-then-e-eq0-clause-read
returns-then-e-eq0-clause-read t c =
    let a = c.args in
    (climb_root a.entries.now.now a.rules.now.now {whole = without a.asked.0 (grants a.entries.now.now a.rules.now.now a.left a.e)} a.left a.e a.asked.0 _ (refl, refl) c.is_empty.ensures c.if-is_empty.false c.own_rights.ensures c.without-missing.ensures c.if-e-eq0.true).1

pub returns-then-left-eq0-clause-missing : goal.returns-then-left-eq0-clause-missing
returns-then-left-eq0-clause-missing t c =
    let a = c.args in
    (climb_last a.entries.now.now a.rules.now.now {total = 1024 - a.left + read_up a.entries.now.now a.rules.now.now a.left a.e a.asked.0} a.left a.e a.asked.0 (1024 - a.left) (refl, refl) c.is_empty.ensures c.if-is_empty.false c.own_rights.ensures c.without-missing.ensures c.if-left-eq0.true).0

pub returns-then-left-eq0-clause-read : goal.returns-then-left-eq0-clause-read
returns-then-left-eq0-clause-read t c =
    let a = c.args in
    (climb_last a.entries.now.now a.rules.now.now {whole = without a.asked.0 (grants a.entries.now.now a.rules.now.now a.left a.e)} a.left a.e a.asked.0 _ (refl, refl) c.is_empty.ensures c.if-is_empty.false c.own_rights.ensures c.without-missing.ensures c.if-left-eq0.true).1

pub returns-clause-missing : goal.returns-clause-missing
returns-clause-missing t c =
    let a = c.args in
    (climb_from a.entries.now.now a.rules.now.now a.left a.e a.asked.0 1024 c.if-left-eq0.false c.requires c.is_empty.ensures c.if-is_empty.false c.own_rights.ensures c.without-missing.ensures c.if-e-eq0.false c.parent_of.ensures (c.climb.ensures.missing, c.climb.ensures.read)).0

pub returns-clause-read : goal.returns-clause-read
returns-clause-read t c =
    let a = c.args in
    (climb_from a.entries.now.now a.rules.now.now a.left a.e a.asked.0 1024 c.if-left-eq0.false c.requires c.is_empty.ensures c.if-is_empty.false c.own_rights.ensures c.without-missing.ensures c.if-e-eq0.false c.parent_of.ensures (c.climb.ensures.missing, c.climb.ensures.read)).1

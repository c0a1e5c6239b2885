use mathlib.Core.Bool.{not}
use mathlib.Core.Path.{ap}
use lib.Dec.{eqb}
use lib.ListN.{length}
use borrow.Author.Tests.{eq-eqb, ne_eqb, lt-ltb, le-ltb}
use Rattle.laws.proofs.Bools.{or_left, or_right, nor}
use Rattle.laws.proofs.Refusals.{first-is, none, hit, miss, miss_not, miss_ne_by, refusals, reads}
use Rattle.policy.specs.Files.{max_ruleset_name}
use Rattle.policy_write.specs.File.{write_form}
use Rattle.syscalls_write.proofs.write_form.Goals as goal

pub returns-then-level_of-eq0 : goal.returns-then-level_of-eq0
unfolding write_form
returns-then-level_of-eq0 c =
    first-is (search (reads, refusals) depth 16 fits 20000)

pub returns-then-not-ruleset_open : goal.returns-then-not-ruleset_open
unfolding write_form
returns-then-not-ruleset_open c =
    first-is (search (reads, refusals) depth 16 fits 20000)

pub returns-then-name-eq0 : goal.returns-then-name-eq0
unfolding write_form
returns-then-name-eq0 c =
    first-is (miss_ne_by c.level_of.ensures c.if-level_of-eq0.false (miss_not c.ruleset_open.ensures (ap not c.if-not-ruleset_open.false) (hit (or_left _ _ (eq-eqb _ _ c.if-name-eq0.true)))))

pub returns-then-name-gt-MAX_RULESET_NAME : goal.returns-then-name-gt-MAX_RULESET_NAME
unfolding write_form
returns-then-name-gt-MAX_RULESET_NAME c =
    let n = c.args.name in
    first-is (miss_ne_by c.level_of.ensures c.if-level_of-eq0.false (miss_not c.ruleset_open.ensures (ap not c.if-not-ruleset_open.false) (hit (or_right (eqb (length n.now) 0) _ (lt-ltb max_ruleset_name (length n.now) c.if-name-gt-MAX_RULESET_NAME.true)))))

pub returns : goal.returns
unfolding write_form
returns c =
    first-is (miss_ne_by c.level_of.ensures c.if-level_of-eq0.false (miss_not c.ruleset_open.ensures (ap not c.if-not-ruleset_open.false) (miss (nor _ _ (ne_eqb _ _ c.if-name-eq0.false) (le-ltb _ _ c.if-name-gt-MAX_RULESET_NAME.false)) none)))

use mathlib.Core.Path.{sym, ap, ◌∙◌}
use Prim.Native.Nat.{ℕ, ◌+◌, ◌*◌, ◌/◌}
use native.Mathlib.Nat.{add-zero}
use borrow.Author.Rules.{rules}
use borrow.Author.Tests.{eq-eqb, ne_eqb}
use lib.Dec.{eqb}
use lib.ListN.{get_or}
use Rattle.tables.specs.Tables.{rule_width, rule_key}
use Rattle.judge.specs.Rules.{is_rule}
use Rattle.judge.proofs.rules.is_rule.Goals as goal

pub returns-then-rules-at : goal.returns-then-rules-at
unfolding is_rule
returns-then-rules-at c =
    let a = c.args in
    rw (ne_eqb (rule_key a.rules.now (a.at / rule_width)) a.key (λ z. c.if-rules-at.true (ap (λ (x : ℕ). get_or a.rules.now (x + 1) 0) c.requires.start ∙ z)))

pub returns : goal.returns
unfolding is_rule
returns c =
    let a = c.args in
    rw (eq-eqb (rule_key a.rules.now (a.at / rule_width)) a.key (ap (λ (x : ℕ). get_or a.rules.now (x + 1) 0) (sym c.requires.start) ∙ c.if-rules-at.false), add-zero (rule_width * (a.at / rule_width)))
    (ap (λ (x : ℕ). eqb (get_or a.rules.now x 0) a.ty) c.requires.start)

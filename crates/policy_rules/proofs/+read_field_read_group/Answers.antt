use mathlib.Core.Path.{◌≡◌, refl, sym, ap, ◌∙◌}
use Prim.Native.Nat.{ℕ}
use native.Mathlib.Omega.{arith}
use Rattle.laws.specs.Cells.{part}
use Rattle.policy.specs.Fields.{pieces}
use Rattle.policy.specs.Grammar.{each, rule}
use Rattle.policy.proofs.Grammar.{each_fault, each-done}
use Rattle.policy_rules.proofs.Items.{turn}
use Rattle.policy_rules.proofs.+read_field_read_group.Goals as goal

pub read_field-overflow_sub-depth : goal.read_field-overflow_sub-depth
read_field-overflow_sub-depth t c = c.in-Group.ensures.deep

pub read_field-read_group-requires : goal.read_field-read_group-requires
read_field-read_group-requires t c =
    let g = c.in-Group.ensures in
    (omega arith, (omega arith, omega arith))

pub read_field-returns-in-Group : goal.read_field-returns-in-Group
read_field-returns-in-Group t c =
    c.read_group.ensures ∙ sym c.in-Group.ensures.answer

pub read_group-loop-at-init : goal.read_group-loop-at-init
read_group-loop-at-init t c = (omega arith, omega arith, refl)

pub read_group-read_field-requires : goal.read_group-read_field-requires
read_group-read_field-requires t c = (omega arith, (omega arith, omega arith))

pub read_group-loop-at-smaller : goal.read_group-loop-at-smaller
read_group-loop-at-smaller t c =
    let q = turn c.args.depth c.args.f.now c.loop-at.at c.args.s.end c.in-Next.n c.requires.1 c.loop-at-test.true (sym c.read_field.ensures ∙ c.in-Next.is) in
    omega arith

pub read_group-loop-at-preserved : goal.read_group-loop-at-preserved
read_group-loop-at-preserved t c =
    let i = c.loop-at.invariant in
    let q = turn c.args.depth c.args.f.now c.loop-at.at c.args.s.end c.in-Next.n c.requires.1 c.loop-at-test.true (sym c.read_field.ensures ∙ c.in-Next.is) in
    (omega arith, q.1, i.2 ∙ q.2)

pub read_group-returns-in-Fault : goal.read_group-returns-in-Fault
read_group-returns-in-Fault t c =
    sym (c.loop-at.invariant.2 ∙ each_fault (rule c.args.depth) c.args.f.now c.loop-at.at c.args.s.end c.requires.1 c.loop-at-test.true _ (sym c.read_field.ensures ∙ c.in-Fault.is))

pub read_group-returns : goal.read_group-returns
read_group-returns t c =
    let l = c.loop-at in
    let a = c.args in
    let e : l.at ≡ a.s.end = omega arith in
    sym (l.invariant.2 ∙ ap (λ (k : ℕ). each (rule a.depth) k (pieces (part a.f.now k a.s.end))) e ∙ each-done (rule a.depth) a.f.now a.s.end)

use mathlib.Core.Path.{◌≡◌, sym, subst, ap, ◌∙◌}
use Prim.Native.Nat.{ℕ, ◌≤◌, ◌-◌, ◌<◌}
use native.Mathlib.Omega.{arith}
use borrow.Author.Rules.{rules}
use lib.ListN.{length, get_or}
use Rattle.laws.specs.Cells.{part}
use Rattle.policy.specs.Fields.{pieces}
use Rattle.policy.specs.Files.{read_from, read_file}
use Rattle.policy_names.specs.Buckets.{Indexed}
use Rattle.policy_names.proofs.Buckets.{indexed-start}
use Rattle.policy_files.specs.Next.{IndexedAfter}
use Rattle.policy_files.proofs.Reading.{read-start, read-on, read_fault, read_short, read-fine}
use Rattle.policy_files.proofs.read_with.Goals as goal

pub loop-at-init : goal.loop-at-init
loop-at-init c =
    (omega arith, (read-start _, indexed-start _ _ c.requires))

pub read_next-requires : goal.read_next-requires
read_next-requires c =
    (c.loop-at-test.true, c.loop-at.invariant.1.1)

pub loop-at-smaller : goal.loop-at-smaller
loop-at-smaller c =
    let turned : let f = c.args.f.now in
    let n = c.in-Next.n in
    (c.loop-at.at < n) × (n ≤ length f) × (read_from f c.loop-at.before c.loop-at.at (pieces (part f c.loop-at.at (length f))) ≡ read_from f (get_or f c.loop-at.at 0) n (pieces (part f n (length f)))) = read-on c.args.f.now c.loop-at.before c.loop-at.at c.loop-at-test.true _ (sym c.read_next.ensures.0 ∙ c.in-Next.is) in
    let q = turned in omega arith

pub loop-at-preserved : goal.loop-at-preserved
loop-at-preserved c =
    let turned : let f = c.args.f.now in
    let n = c.in-Next.n in
    (c.loop-at.at < n) × (n ≤ length f) × (read_from f c.loop-at.before c.loop-at.at (pieces (part f c.loop-at.at (length f))) ≡ read_from f (get_or f c.loop-at.at 0) n (pieces (part f n (length f)))) = read-on c.args.f.now c.loop-at.before c.loop-at.at c.loop-at-test.true _ (sym c.read_next.ensures.0 ∙ c.in-Next.is) in
    let q = turned in
    (q.1, (c.loop-at.invariant.1.0 ∙ q.2, subst (IndexedAfter c.args.f.now _) c.in-Next.is c.read_next.ensures.1))

pub shape_of-seen-in-Fault : goal.shape_of-seen-in-Fault
shape_of-seen-in-Fault c =
    subst (IndexedAfter c.args.f.now _) c.in-Fault.is c.read_next.ensures.1 ∙ sym c.requires

pub returns-in-Fault : goal.returns-in-Fault
returns-in-Fault c =
    sym (c.loop-at.invariant.1.0 ∙ read_fault c.args.f.now c.loop-at.before c.loop-at.at c.loop-at-test.true _ (sym c.read_next.ensures.0 ∙ c.in-Fault.is))

pub shape_of-seen-then-before-eq-RULESET_TAG : goal.shape_of-seen-then-before-eq-RULESET_TAG
shape_of-seen-then-before-eq-RULESET_TAG c =
    c.loop-at.invariant.1.1.size ∙ sym c.requires

pub returns-then-before-eq-RULESET_TAG : goal.returns-then-before-eq-RULESET_TAG
returns-then-before-eq-RULESET_TAG c =
    let f = c.args.f.now in
    let e : length f ≡ c.loop-at.at = omega arith in
    sym (c.loop-at.invariant.1.0 ∙ ap (λ (k : ℕ). read_from f c.loop-at.before c.loop-at.at (pieces (part f c.loop-at.at k))) e ∙ read_short f c.loop-at.before c.loop-at.at c.if-before-eq-RULESET_TAG.true)

pub shape_of-seen : goal.shape_of-seen
shape_of-seen c =
    c.loop-at.invariant.1.1.size ∙ sym c.requires

pub returns : goal.returns
returns c =
    let f = c.args.f.now in
    let e : length f ≡ c.loop-at.at = omega arith in
    sym (c.loop-at.invariant.1.0 ∙ ap (λ (k : ℕ). read_from f c.loop-at.before c.loop-at.at (pieces (part f c.loop-at.at k))) e ∙ read-fine f c.loop-at.before c.loop-at.at c.if-before-eq-RULESET_TAG.false)

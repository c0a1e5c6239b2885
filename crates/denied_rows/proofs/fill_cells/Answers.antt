use mathlib.Core.Path.{◌≡◌, ap, ◌∙◌}
use mathlib.Core.List.{List}
use Prim.Native.Nat.{ℕ, ◌-◌, ◌≤◌}
use native.Mathlib.Omega.{arith}
use borrow.Author.Rules.{rules}
use Rattle.tables.specs.Tables.{path_rule, object}
use Rattle.judge.specs.Rules.{rights_on}
use Rattle.denied_rows.specs.Rows.{RowTo}
use Rattle.denied_rows.proofs.Kept.{row_none, row_more, without-few, masks-few}
use Rattle.denied_rows.proofs.fill_cells.Goals as goal

pub offset_bounds-entries-e : goal.offset_bounds-entries-e
offset_bounds-entries-e c =
    let w = c.requires.0.long in omega arith

pub bounds-entries-e : goal.bounds-entries-e
bounds-entries-e c =
    let w = c.requires.0.long in omega arith

pub loop-l-init : goal.loop-l-init
loop-l-init c =
    (omega arith, row_none _ _ _ _ _)

pub denied_above-held-requires : goal.denied_above-held-requires
denied_above-held-requires c =
    let l = c.loop-l in
    let p = c.requires in
    let z = l.invariant.1.size in
    let b = p.1.1.0 in
    ((p.0.long, z ∙ b), ((p.1.0.0, (p.0.parents _ p.1.0.1).0), (omega arith, masks-few _ _ _ p.0 l.l (omega arith))))

pub overflow_cast-rows : goal.overflow_cast-rows
overflow_cast-rows c =
    let h = c.denied_above-held.ensures.1 in
    let k = without-few _ c.rights_on-own.result.0 h in
    let e = c.without.ensures in
    omega arith

pub offset_bounds-rows-e : goal.offset_bounds-rows-e
offset_bounds-rows-e c =
    let l = c.loop-l in let p = c.requires in let z = l.invariant.1.size in let b = p.1.1.0 in omega arith

pub bounds-rows-e : goal.bounds-rows-e
bounds-rows-e c =
    let l = c.loop-l in let p = c.requires in let z = l.invariant.1.size in let b = p.1.1.0 in omega arith

pub loop-l-preserved : goal.loop-l-preserved
loop-l-preserved c =
    let l = c.loop-l in
    let p = c.requires in
    let a = c.args in
    let z = l.invariant.1.size in
    let b = p.1.1.0 in
    (omega arith, row_more _ _ _ _ _ l.rows l.l l.invariant.1 (omega arith) (omega arith) c.denied_above-held.ensures.0 (c.rights_on-own.ensures ∙ ap (λ (x : List ℕ). rights_on x path_rule (object a.entries.now a.e)) c.layer_rules.ensures) c.without.ensures)

pub shape_of-rows : goal.shape_of-rows
shape_of-rows c =
    c.loop-l.invariant.1.size

pub returns : goal.returns
returns c =
    let l = c.loop-l in
    let z : l.l ≡ c.args.top = omega arith in
    rw z at l.invariant.1

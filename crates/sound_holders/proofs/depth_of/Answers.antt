use mathlib.Core.Path.{◌≡◌, ap, ◌∙◌}
use mathlib.Core.List.{List}
use Prim.Native.Nat.{ℕ, ◌+◌, ◌-◌, ◌*◌, ◌≤◌}
use native.Mathlib.Omega.{arith}
use lib.ListN.{get_or}
use Rattle.access.specs.Limits.{max_domain}
use Rattle.tables.specs.Tables.{layer_width}
use Rattle.sound_domains.specs.Counting.{depth, Depths}
use Rattle.sound_domains.proofs.Depths.{depth-end, depth-none, depth-cell, depth-past, depth-less, depth_over}
use Rattle.sound_holders.proofs.depth_of.Goals as goal

known : (ls ds : List ℕ) (l : ℕ) → Depths ls ds l → (y : ℕ) → (y ≡ 0 → ⊥) → y ≤ l → (get_or ds (y - 1) 0 ≤ max_domain) × (get_or ds (y - 1) 0 ≡ depth ls max_domain y)
known ls ds l D y d h =
    let k = D.1 (y - 1) (omega arith) in
    let e : y - 1 + 1 ≡ y = omega arith in
    (k.0, k.1 ∙ ap (depth ls max_domain) e)

pub returns-then-at-eq0 : goal.returns-then-at-eq0
returns-then-at-eq0 c =
    let l = c.loop-n in
    let e = depth-end c.args.layers.now (max_domain - l.n) l.at c.if-at-eq0.true in
    let i = l.invariant in
    (omega arith, omega arith)

pub returns-then-d : goal.returns-then-d
returns-then-d c =
    let l = c.loop-n in
    let k = known c.args.layers.now c.args.depths.now c.args.l c.requires.1.1 l.at (omega arith) (omega arith) in
    let g = depth_over c.args.layers.now (max_domain - l.n) max_domain l.at (omega arith) (omega arith) in
    let i = l.invariant in
    omega arith

pub returns-else-d : goal.returns-else-d
returns-else-d c =
    let l = c.loop-n in
    let k = known c.args.layers.now c.args.depths.now c.args.l c.requires.1.1 l.at (omega arith) (omega arith) in
    let g = depth-less c.args.layers.now (max_domain - l.n) max_domain l.at (omega arith) (omega arith) in
    let i = l.invariant in
    (omega arith, omega arith)

pub returns-then-at : goal.returns-then-at
returns-then-at c =
    let l = c.loop-n in
    let e = depth-past c.args.layers.now (max_domain - l.n) l.at c.requires.0 c.if-at.true in
    let i = l.invariant in
    (omega arith, omega arith)

pub loop-n-preserved : goal.loop-n-preserved
loop-n-preserved c =
    let l = c.loop-n in
    let e = depth-cell c.args.layers.now (max_domain - l.n) l.at (λ z. omega arith) (λ z. omega arith) in
    let m : max_domain - l.n - 1 ≡ max_domain - (l.n + 1) = omega arith in
    let f = ap (λ (k : ℕ). depth c.args.layers.now k (get_or c.args.layers.now (layer_width * (l.at - 1)) 0)) m in
    let i = l.invariant in
    omega arith

pub returns-then-at-eq0-2 : goal.returns-then-at-eq0-2
returns-then-at-eq0-2 c =
    let l = c.loop-n in
    let e = depth-end c.args.layers.now (max_domain - l.n) l.at c.if-at-eq0-2.true in
    let i = l.invariant in
    (omega arith, omega arith)

pub returns-else-at-eq0-2 : goal.returns-else-at-eq0-2
returns-else-at-eq0-2 c =
    let l = c.loop-n in
    let e = depth-none c.args.layers.now (max_domain - l.n) l.at (omega arith) c.if-at-eq0-2.false in
    let i = l.invariant in
    omega arith

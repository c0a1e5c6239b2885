use mathlib.Core.Path.{◌≡◌, sym, ◌∙◌}
use mathlib.Core.Bool.{true}
use mathlib.Core.List.{List}
use Prim.Native.Nat.{ℕ, ◌+◌, ◌≤◌}
use native.Mathlib.Omega.{arith}
use Rattle.laws.proofs.Conditions.{all-is, conditions, last, holds_by, fails_by}
use Rattle.access.specs.Limits.{max_pool}
use Rattle.tables.specs.Layers.{layer_first, layer_count, layer_at}
use Rattle.sound_layers.specs.Layers.{run_placed, layer_sound}
use Rattle.sound_layers.proofs.Facts.{placed_run}
use Rattle.sound_layers.proofs.layer_sound.Goals as goal

-- a layer whose run passes its test lies in the pool
in_pool : (ls : List ℕ) (l taken : ℕ) → run_placed (layer_first ls l) (layer_count ls l) taken ≡ true → taken ≤ max_pool → layer_first ls l + layer_count ls l ≤ max_pool
in_pool ls l taken h k =
    let P = placed_run (layer_first ls l) (layer_count ls l) taken h in omega (arith, P.in_pool, k)

pub returns-then-not-run_placed : goal.returns-then-not-run_placed
unfolding layer_sound layer_at
returns-then-not-run_placed c =
    all-is (search conditions depth 16)

pub returns-then-not-handles_any : goal.returns-then-not-handles_any
unfolding layer_sound layer_at
returns-then-not-handles_any c =
    all-is (search conditions depth 16)

pub returns-then-not-masks_known : goal.returns-then-not-masks_known
unfolding layer_sound layer_at
returns-then-not-masks_known c =
    all-is
    (holds_by c.run_placed.ensures c.if-not-run_placed.false
    (holds_by c.handles_any.ensures c.if-not-handles_any.false (fails_by c.masks_known.ensures c.if-not-masks_known.true)))

pub overflow_mul-from : goal.overflow_mul-from
unfolding layer_sound layer_at
overflow_mul-from c =
    let h = in_pool c.args.layers.now c.args.l c.args.taken (sym c.run_placed.ensures ∙ c.if-not-run_placed.false) c.requires.1.1.0 in omega arith

pub overflow_mul-to : goal.overflow_mul-to
unfolding layer_sound layer_at
overflow_mul-to c =
    let h = in_pool c.args.layers.now c.args.l c.args.taken (sym c.run_placed.ensures ∙ c.if-not-run_placed.false) c.requires.1.1.0 in omega arith

pub overflow_add-to : goal.overflow_add-to
unfolding layer_sound layer_at
overflow_add-to c =
    let h = in_pool c.args.layers.now c.args.l c.args.taken (sym c.run_placed.ensures ∙ c.if-not-run_placed.false) c.requires.1.1.0 in omega arith

pub offset_bounds-pool-from : goal.offset_bounds-pool-from
unfolding layer_sound layer_at
offset_bounds-pool-from c =
    let h = in_pool c.args.layers.now c.args.l c.args.taken (sym c.run_placed.ensures ∙ c.if-not-run_placed.false) c.requires.1.1.0 in omega arith

pub slice_bounds-rules_sound-end : goal.slice_bounds-rules_sound-end
unfolding layer_sound layer_at
slice_bounds-rules_sound-end c =
    let h = in_pool c.args.layers.now c.args.l c.args.taken (sym c.run_placed.ensures ∙ c.if-not-run_placed.false) c.requires.1.1.0 in omega arith

pub returns : goal.returns
unfolding layer_sound layer_at
returns c =
    all-is
    (holds_by c.run_placed.ensures c.if-not-run_placed.false
    (holds_by c.handles_any.ensures c.if-not-handles_any.false
    (holds_by c.masks_known.ensures c.if-not-masks_known.false (last c.rules_sound.ensures))))

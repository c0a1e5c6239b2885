use mathlib.Core.Path.{refl, sym, ◌∙◌}
use native.Mathlib.Nat.{add-zero}
use native.Mathlib.Omega.{arith}
use Rattle.laws.proofs.Tests.{all_none, all_more}
use Rattle.sound_rules.proofs.Loop.{rule-is, rule_fails, key_fails, all-passed}
use Rattle.sound_keys.proofs.rules_sound.Goals as goal

pub loop-i-init : goal.loop-i-init
loop-i-init c =
    (all_none _, all_none _, refl, λ j l. absurd (omega arith))

pub returns-then-not-cells_sound : goal.returns-then-not-cells_sound
returns-then-not-cells_sound c =
    rule_fails _ _ _ _ _ c.loop-i.i (omega arith) (rule-is _ _ _ _ c.args.rules.now c.loop-i.i _ _ _ _ (rw (add-zero _)) refl refl c.cells_sound.ensures ∙ c.if-not-cells_sound.true)

pub returns-then-not-take_key : goal.returns-then-not-take_key
returns-then-not-take_key c =
    key_fails _ _ _ _ _ c.loop-i.i (omega arith) (sym c.take_key.ensures.0 ∙ c.if-not-take_key.true)

pub loop-i-preserved : goal.loop-i-preserved
loop-i-preserved c =
    let l = c.loop-i in
    let r = c.if-not-take_key.false in (
      all_more _ _ l.invariant.0 (rule-is _ _ _ _ c.args.rules.now c.loop-i.i _ _ _ _ (rw (add-zero _)) refl refl c.cells_sound.ensures ∙ c.if-not-cells_sound.false),
      all_more _ _ l.invariant.1 (sym c.take_key.ensures.0 ∙ r),
      c.take_key.auto.seen ∙ l.invariant.2,
      c.take_key.ensures.1 r,
    )

pub returns : goal.returns
returns c =
    let l = c.loop-i in all-passed _ _ _ _ _ l.i (omega arith) (omega arith) l.invariant.0 l.invariant.1

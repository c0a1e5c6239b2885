use mathlib.Core.Bool.{not}
use mathlib.Core.Path.{refl, ap}
use native.Mathlib.Omega.{arith}
use Rattle.laws.proofs.Refusals.{first-is, refusals}
use Rattle.sound.proofs.Calls.{call-unsound, call-refused, call-done}
use Rattle.domain.specs.Layer.{layer_checks, layer_read}
use Rattle.domain.proofs.Changes.{code_is}
use Rattle.domain_layer.proofs.layer_code.Goals as goal

pub returns-then-not-is_sound : goal.returns-then-not-is_sound
unfolding layer_checks layer_read
returns-then-not-is_sound c =
    code_is _ _ (call-unsound _ _ _ c.is_sound.ensures (ap not c.if-not-is_sound.true))

pub returns-then-not-layer_in_use : goal.returns-then-not-layer_in_use
unfolding layer_checks layer_read
returns-then-not-layer_in_use c =
    code_is _ _ (call-refused _ _ _ c.is_sound.ensures (ap not c.if-not-is_sound.false) (first-is (search refusals depth 16 fits 20000)) (λ z. omega arith))

pub returns : goal.returns
unfolding layer_checks layer_read
returns c =
    code_is _ _ (call-done _ _ _ c.is_sound.ensures (ap not c.if-not-is_sound.false) (first-is (search refusals depth 16 fits 20000)) refl)

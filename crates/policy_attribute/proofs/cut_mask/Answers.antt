use mathlib.Core.Path.{ap, ◌∙◌}
use Prim.Native.Nat.{ℕ}
use Rattle.access.specs.Rights.{without}
use Rattle.policy_attribute.proofs.cut_mask.Goals as goal

pub returns : goal.returns
returns c =
    c.without-cut.ensures ∙ ap (λ (k : ℕ). without c.args.m k) c.without.ensures

use mathlib.Core.Path.{◌∙◌}
use native.Mathlib.Omega.{arith}
use Rattle.log_fields.specs.Seen.{change_of}
use Rattle.log_fields.proofs.Values.{long_value, short_value}
use Rattle.log_fields.proofs.read_field.Goals as goal

pub returns-then-v-gt-MAX_VALUE : goal.returns-then-v-gt-MAX_VALUE
unfolding change_of
returns-then-v-gt-MAX_VALUE c =
    let a = c.args in long_value a.v.now a.tag c.if-v-gt-MAX_VALUE.true

pub returns : goal.returns
unfolding change_of
returns c =
    let a = c.args in c.read_value.ensures ∙ short_value a.v.now a.tag (omega arith)

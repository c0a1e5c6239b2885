use mathlib.Core.Path.{◌≡◌, refl, sym, ap, ◌∙◌}
use native.Mathlib.Omega.{arith}
use borrow.Author.Rules.{rules}
use mathlib.Core.List.{[], ◌∷◌}
use Prim.Native.Nat.{◌+◌, ◌/◌, ◌%◌}
use lib.ListN.{length}
use Rattle.policy.specs.Fields.{ruleset_tag}
use Rattle.policy_write.specs.Written.{field_bytes}
use Rattle.policy_fill.proofs.Parts.{put_two}
use Rattle.policy_fill.proofs.put_name.Goals as goal

pub put_header-requires : goal.put_header-requires
unfolding field_bytes
put_header-requires c =
    let p = c.requires.0 in let q = c.requires.1 in (omega arith, omega arith)

pub put_bytes-requires : goal.put_bytes-requires
unfolding field_bytes
put_bytes-requires c =
    let q = c.requires.1 in omega arith

pub overflow_add-result : goal.overflow_add-result
unfolding field_bytes
overflow_add-result c =
    let p = c.requires.0 in omega arith

pub returns : goal.returns
unfolding field_bytes
returns c =
    let a = c.args in
    let n = length a.name.now in
    (put_two a.out.now 0 (ruleset_tag ∷ n % 256 ∷ n / 256 ∷ []) a.name.now c.put_header.ensures c.put_bytes.ensures (omega arith), refl)

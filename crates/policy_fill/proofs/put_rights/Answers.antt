use mathlib.Core.Path.{◌≡◌, refl, sym, ap, ◌∙◌}
use native.Mathlib.Omega.{arith}
use borrow.Author.Rules.{rules}
use mathlib.Core.List.{[], ◌∷◌}
use Prim.Native.Nat.{◌+◌, ◌/◌, ◌%◌}
use Rattle.policy.specs.Grammar.{rights_size}
use Rattle.policy.specs.Fields.{bytes_of}
use Rattle.policy_fill.proofs.Parts.{put_two}
use Rattle.policy_fill.proofs.put_rights.Goals as goal

pub put_header-requires : goal.put_header-requires
put_header-requires c =
    let p = c.requires.0 in (omega arith, c.requires.1)

pub overflow_add-at : goal.overflow_add-at
overflow_add-at c =
    let p = c.requires.0 in omega arith

pub put_number-requires : goal.put_number-requires
put_number-requires c =
    let p = c.requires.0 in omega arith

pub returns : goal.returns
returns c =
    let a = c.args in
    put_two a.out.now a.at (a.tag ∷ a.len % 256 ∷ a.len / 256 ∷ []) (bytes_of rights_size a.rights.0) c.put_header.ensures c.put_number.ensures (omega arith)

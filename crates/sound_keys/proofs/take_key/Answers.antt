-- A clear flag: no rule before has the key. A set one: what `new_key` tells.
use mathlib.Core.Path.{sym, ap, ◌∙◌}
use native.Mathlib.Omega.{arith}
use Rattle.sound_rules.specs.Flags.{flag_of}
use Rattle.sound_rules.proofs.Flags.{flag_in, marked_more, clear_new}
use Rattle.sound_keys.proofs.take_key.Goals as goal

pub is_set-requires : goal.is_set-requires
is_set-requires c =
    let h = flag_in _ _ c.flag_of-b.ensures in omega arith

pub set_flag-requires : goal.set_flag-requires
set_flag-requires c =
    let h = flag_in _ _ c.flag_of-b.ensures in omega arith

pub returns : goal.returns
returns c =
    let p = c.requires in
    let own = c.flag_of-b.ensures ∙ ap flag_of p.1.1 in (
      sym (clear_new c.args.rules.now c.args.i c.flag_of-b.result own c.args.seen.now p.2.1 (sym c.is_set.ensures ∙ c.if-is_set.false)),
      λ r. rw c.set_flag.ensures (marked_more c.args.rules.now c.args.i c.flag_of-b.result own c.args.seen.now p.2.1 (let h = flag_in _ _ c.flag_of-b.ensures in omega arith)),
    )

use mathlib.Core.Bool.{false≢true}
use native.Mathlib.Omega.{arith}
use borrow.Author.Rules.{rules}
use Rattle.sound_names.proofs.Told.{wrong_length, told-sound, told-unsound, told_open}
use Rattle.sound_names.proofs.names_indexed.Goals as goal

pub returns-then-names-ne-NAMES_BYTES : goal.returns-then-names-ne-NAMES_BYTES
returns-then-names-ne-NAMES_BYTES c =
    (wrong_length _ c.args.names.now c.if-names-ne-NAMES_BYTES.true, λ z. absurd (false≢true z))

pub names_by_order-requires : goal.names_by_order-requires
names_by_order-requires c =
    (omega arith, told_open _ c.args.names.now c.names_by_chains-answer.new.heads c.names_by_chains-answer.new.links c.names_by_chains-answer.ensures c.in-Open.is)

pub returns-in-Sound : goal.returns-in-Sound
returns-in-Sound c =
    told-sound _ _ _ _ c.names_by_chains-answer.ensures c.in-Sound.is

pub returns-in-Unsound : goal.returns-in-Unsound
returns-in-Unsound c =
    (told-unsound _ _ c.names_by_chains-answer.new.heads c.names_by_chains-answer.new.links c.names_by_chains-answer.ensures c.in-Unsound.is, λ z. absurd (false≢true z))

pub returns-in-Open : goal.returns-in-Open
returns-in-Open c =
    (c.names_by_order.ensures, λ z. absurd (false≢true z))

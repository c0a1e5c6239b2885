use mathlib.Core.Bool.{not}
use mathlib.Core.Path.{sym, ◌∙◌, ap}
use borrow.Author.Rules.{rules}
use borrow.Author.Tests.{not-false}
use Rattle.syscalls_policy.proofs.Meant.{unsound-reply, unsound-place}
use Rattle.syscalls_policy.proofs.apply_policy.Goals as goal

pub returns-then-not-named_sound : goal.returns-then-not-named_sound
returns-then-not-named_sound c =
    let a = c.args in record { reply = unsound-reply _ a.stock.now a.site.now a.name.now a.report.now c.named_sound.ensures (ap not c.if-not-named_sound.true); report = c.report_nothing.ensures ∙ unsound-place _ a.stock.now a.site.now a.name.now a.report.now c.named_sound.ensures (ap not c.if-not-named_sound.true) }

pub apply_meant-requires : goal.apply_meant-requires
apply_meant-requires c =
    sym c.named_sound.ensures ∙ c.if-not-named_sound.false

pub returns : goal.returns
returns c =
    c.apply_meant.ensures

use mathlib.Core.Bool.{not}
use mathlib.Core.Path.{sym, ◌∙◌, ap}
use borrow.Author.Rules.{rules}
use borrow.Author.Tests.{not-false}
use Rattle.syscalls_write.proofs.Opened.{ready}
use Rattle.syscalls_write.proofs.Answered.{unsound-reply, unsound-left, form_reply, form_left, rest-reply, rest-left}
use Rattle.syscalls_write.proofs.write_policy.Goals as goal

pub returns-then-not-named_sound : goal.returns-then-not-named_sound
returns-then-not-named_sound c =
    let a = c.args in
    record { reply = unsound-reply _ a.r a.name.now a.out.now c.named_sound.ensures (ap not c.if-not-named_sound.true); output = unsound-left _ a.r a.name.now a.out.now c.named_sound.ensures (ap not c.if-not-named_sound.true) }

pub returns-then-e-ne0 : goal.returns-then-e-ne0
returns-then-e-ne0 c =
    let a = c.args in record { reply = form_reply _ a.r a.name.now a.out.now c.named_sound.ensures (ap not c.if-not-named_sound.false) c.write_form-e.ensures c.if-e-ne0.true; output = form_left _ a.r a.name.now a.out.now c.named_sound.ensures (ap not c.if-not-named_sound.false) c.write_form-e.ensures c.if-e-ne0.true }

pub write_open-requires : goal.write_open-requires
write_open-requires c =
    let a = c.args in
    ready _ (sym c.named_sound.ensures ∙ c.if-not-named_sound.false) a.r a.name.now (sym c.write_form-e.ensures ∙ c.if-e-ne0.false)

pub returns : goal.returns
returns c =
    let a = c.args in record { reply = rest-reply _ a.r a.name.now a.out.now c.named_sound.ensures (ap not c.if-not-named_sound.false) c.write_form-e.ensures c.if-e-ne0.false c.write_open.ensures.reply; output = rest-left _ a.r a.name.now a.out.now c.named_sound.ensures (ap not c.if-not-named_sound.false) c.write_form-e.ensures c.if-e-ne0.false c.write_open.ensures.output }

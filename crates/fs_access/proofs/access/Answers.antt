use Rattle.tables.proofs.Blames.{name_stop, name_go, named-asked}
use Rattle.verdict.proofs.Answers.{entry-last}
use Rattle.fs_access.specs.Access.{access_names, access_mask, access_checks}
use Rattle.fs_access.proofs.Counts.{none_read, none_read_late, some_read}
use Rattle.fs_access.proofs.access.Goals as goal

pub returns-then-a-ne0 : goal.returns-then-a-ne0
unfolding access_checks access_names access_mask
returns-then-a-ne0 c = record { reply = named-asked _ _ _ _ _ (name_stop _ _ _ _ _ tt c.access_names-a.ensures c.if-a-ne0.true); read = none_read _ _ _ _ c.access_names-a.ensures c.if-a-ne0.true }

pub returns-then-b-ne0 : goal.returns-then-b-ne0
unfolding access_checks access_names access_mask
returns-then-b-ne0 c = record { reply = named-asked _ _ _ _ _ (name_go _ _ _ _ _ tt c.access_names-a.ensures c.if-a-ne0.false (name_stop _ _ _ _ _ tt c.access_mask-b.ensures c.if-b-ne0.true)); read = none_read_late _ _ _ _ c.access_names-a.ensures c.if-a-ne0.false c.access_mask-b.ensures c.if-b-ne0.true }

pub returns : goal.returns
unfolding access_checks access_names access_mask
returns c = record { reply = named-asked _ _ _ _ _ (name_go _ _ _ _ _ tt c.access_names-a.ensures c.if-a-ne0.false (name_go _ _ _ _ _ tt c.access_mask-b.ensures c.if-b-ne0.false (entry-last _ _ _ _ _ _ _ c.thread_judged-judged.ensures.denial c.reply.ensures))); read = some_read _ _ _ _ c.access_names-a.ensures c.if-a-ne0.false c.access_mask-b.ensures c.if-b-ne0.false c.thread_judged-judged.ensures.read }

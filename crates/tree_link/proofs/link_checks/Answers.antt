use mathlib.Core.Path.{sym, ◌∙◌}
use Rattle.tables.proofs.Blames.{name_stop, name_go, name_last}
use Rattle.verdict.proofs.Answers.{move-is, move_stop}
use Rattle.fs.specs.Move.{verdict}
use Rattle.tree.specs.Link.{link_shape, link_verdict, link_later, link_checks}
use Rattle.tree_moves.proofs.Rows.{rows_possible}
use Rattle.tree_link.proofs.link_checks.Goals as goal

pub returns-then-a-ne0 : goal.returns-then-a-ne0
unfolding link_checks link_shape link_verdict link_later verdict
returns-then-a-ne0 c =
    name_stop _ _ _ _ _ tt c.link_shape-a.ensures c.if-a-ne0.true

pub link_denial-denial-requires : goal.link_denial-denial-requires
link_denial-denial-requires c =
    rows_possible.link _ _ _ _ (sym c.link_shape-a.ensures ∙ c.if-a-ne0.false)

pub returns-then-refusal-ne0 : goal.returns-then-refusal-ne0
unfolding link_checks link_shape link_verdict link_later verdict
returns-then-refusal-ne0 c =
    name_go _ _ _ _ _ tt c.link_shape-a.ensures c.if-a-ne0.false
    (move_stop _ _ _ _ _ _ c.link_denial-denial.ensures c.reply.ensures _ c.refusal.ensures c.if-refusal-ne0.true)

pub link_later-requires : goal.link_later-requires
unfolding link_checks link_shape link_verdict link_later verdict
link_later-requires c =
    c.requires

pub returns : goal.returns
unfolding link_checks link_shape link_verdict link_later verdict
returns c =
    name_go _ _ _ _ _ tt c.link_shape-a.ensures c.if-a-ne0.false
    (name_go _ _ _ _ _ tt (move-is _ _ _ _ _ _ c.link_denial-denial.ensures c.refusal.ensures) c.if-refusal-ne0.false (name_last _ _ _ _ tt c.link_later.ensures c.to.ensures))

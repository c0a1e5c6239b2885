use mathlib.Core.Path.{sym, ◌∙◌}
use Rattle.tables.proofs.Blames.{name_stop, name_go}
use Rattle.verdict.proofs.Answers.{move-last}
use Rattle.tree.specs.Exchange.{exchange_names, exchange_shape, exchange_verdict, exchange_checks}
use Rattle.tree_moves.proofs.Rows.{rows_possible}
use Rattle.tree_exchange.proofs.exchange_checks.Goals as goal

pub returns-then-a-ne0 : goal.returns-then-a-ne0
unfolding exchange_checks exchange_names exchange_shape exchange_verdict
returns-then-a-ne0 c =
    name_stop _ _ _ _ _ tt c.exchange_names-a.ensures c.if-a-ne0.true

pub returns-then-b-ne0 : goal.returns-then-b-ne0
unfolding exchange_checks exchange_names exchange_shape exchange_verdict
returns-then-b-ne0 c =
    name_go _ _ _ _ _ tt c.exchange_names-a.ensures c.if-a-ne0.false (name_stop _ _ _ _ _ tt c.exchange_shape-b.ensures c.if-b-ne0.true)

pub exchange_denial-requires : goal.exchange_denial-requires
exchange_denial-requires c =
    rows_possible.exchange _ _ _ _ _ c.requires (sym c.exchange_names-a.ensures ∙ c.if-a-ne0.false)

pub returns : goal.returns
unfolding exchange_checks exchange_names exchange_shape exchange_verdict
returns c =
    name_go _ _ _ _ _ tt c.exchange_names-a.ensures c.if-a-ne0.false (name_go _ _ _ _ _ tt c.exchange_shape-b.ensures c.if-b-ne0.false
    (move-last _ _ _ _ _ _ c.exchange_denial.ensures c.reply.ensures))

use mathlib.Core.Path.{sym, ◌∙◌}
use borrow.Author.Rules.{rules}
use Rattle.tables.proofs.Blames.{name_stop, name_go}
use Rattle.verdict.proofs.Answers.{move-last}
use Rattle.tree.specs.Exchange.{exchange_names, exchange_shape, exchange_verdict, exchange_checks}
use Rattle.tree_moves.proofs.Rows.{rows_possible}
use Rattle.batch_asked.proofs.Asked.{directories, exchanged_live}
use Rattle.batch_exchange.proofs.exchange_reply.Goals as goal

pub returns-then-a-ne0 : goal.returns-then-a-ne0
unfolding exchange_checks exchange_names exchange_shape exchange_verdict
returns-then-a-ne0 c =
    record { reply = name_stop _ _ _ _ _ tt c.exchange_names-a.ensures c.if-a-ne0.true; ready = c.requires.1.1 }

pub returns-then-b-ne0 : goal.returns-then-b-ne0
unfolding exchange_checks exchange_names exchange_shape exchange_verdict
returns-then-b-ne0 c = record { reply = name_go _ _ _ _ _ tt c.exchange_names-a.ensures c.if-a-ne0.false (name_stop _ _ _ _ _ tt c.exchange_shape-b.ensures c.if-b-ne0.true); ready = c.requires.1.1 }

pub exchange_move-m-requires : goal.exchange_move-m-requires
exchange_move-m-requires c =
    let p = c.requires in
    (p.1.0, rows_possible.exchange _ _ _ _ _ p.0 (sym c.exchange_names-a.ensures ∙ c.if-a-ne0.false))

pub move_denial-denial-requires : goal.move_denial-denial-requires
move_denial-denial-requires c =
    let p = c.requires in
    (p.1.1, directories _ _ _ _ _ _ _ c.exchange_move-m.ensures p.1.1.rows_ready.parents (exchanged_live _ _ _ _ _ (sym c.exchange_names-a.ensures ∙ c.if-a-ne0.false)))

pub returns : goal.returns
unfolding exchange_checks exchange_names exchange_shape exchange_verdict
returns c = record {
  reply = name_go _ _ _ _ _ tt c.exchange_names-a.ensures c.if-a-ne0.false
      (name_go _ _ _ _ _ tt c.exchange_shape-b.ensures c.if-b-ne0.false
      (move-last _ _ _ _ _ _ (rw c.exchange_move-m.ensures at c.move_denial-denial.ensures.denial) c.reply.ensures));
  ready = c.move_denial-denial.ensures.ready;
}

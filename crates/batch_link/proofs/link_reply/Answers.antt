use mathlib.Core.Path.{sym, ◌∙◌}
use native.Mathlib.Omega.{arith}
use borrow.Author.Rules.{rules}
use Rattle.verdict.proofs.Answers.{move-last}
use Rattle.tree.specs.Link.{link_verdict}
use Rattle.tree_moves.proofs.Rows.{links}
use Rattle.named.specs.Tree.{link_before}
use Rattle.named.specs.Batch.{link_asked}
use Rattle.named.proofs.Orders.{link_early, new_early}
use Rattle.named.proofs.Replies.{target_stops, name_stops}
use Rattle.batch_asked.proofs.Asked.{directories, linked-live, test_stops, test_passes}
use Rattle.batch_link.proofs.link_reply.Goals as goal

pub returns-then-a-ne0 : goal.returns-then-a-ne0
unfolding link_asked link_before link_verdict
returns-then-a-ne0 c =
    record { reply = target_stops _ _ _ _ _ _ (link_early _ _ _ _ _) (new_early _ _ _ _) c.link_target-a.ensures c.if-a-ne0.true; ready = c.requires.1.1 }

pub returns-then-b-ne0 : goal.returns-then-b-ne0
unfolding link_asked link_before link_verdict
returns-then-b-ne0 c = record { reply = name_stops _ _ _ _ _ _ (link_early _ _ _ _ _) (new_early _ _ _ _) c.link_target-a.ensures c.if-a-ne0.false c.new_name-b.ensures c.if-b-ne0.true; ready = c.requires.1.1 }

pub returns-then-is_dir : goal.returns-then-is_dir
unfolding link_asked link_before link_verdict
returns-then-is_dir c = record {
  reply = test_stops _ _ _ _ _ (link_early _ _ _ _ _) (new_early _ _ _ _) c.link_target-a.ensures c.if-a-ne0.false c.new_name-b.ensures c.if-b-ne0.false _ _
      c.is_dir.ensures (tt, tt) c.if-is_dir.true (λ z. omega arith);
  ready = c.requires.1.1;
}

pub link_move-m-requires : goal.link_move-m-requires
unfolding link_asked link_before link_verdict
link_move-m-requires c =
    (c.requires.0, links _ _ (sym c.is_dir.ensures ∙ c.if-is_dir.false))

pub move_denial-denial-requires : goal.move_denial-denial-requires
unfolding link_asked link_before link_verdict
move_denial-denial-requires c =
    let p = c.requires in
    (p.1.1, directories _ _ _ _ _ _ _ c.link_move-m.ensures p.1.1.rows_ready.parents (linked-live _ _ _ _ _ (sym c.link_target-a.ensures ∙ c.if-a-ne0.false)))

pub returns : goal.returns
unfolding link_asked link_before link_verdict
returns c = record {
  reply = test_passes _ _ _ _ _ (link_early _ _ _ _ _) (new_early _ _ _ _) c.link_target-a.ensures c.if-a-ne0.false c.new_name-b.ensures c.if-b-ne0.false _ _
      c.is_dir.ensures (tt, tt) c.if-is_dir.false (move-last _ _ _ _ _ _ (rw c.link_move-m.ensures at c.move_denial-denial.ensures.denial) c.reply.ensures);
  ready = c.move_denial-denial.ensures.ready;
}

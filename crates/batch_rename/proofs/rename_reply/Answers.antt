use mathlib.Core.Path.{sym, ◌∙◌}
use native.Mathlib.Omega.{arith}
use borrow.Author.Rules.{rules}
use Rattle.verdict.proofs.Answers.{move-last}
use Rattle.tree.specs.Rename.{rename_verdict}
use Rattle.named.specs.Tree.{replaced_by, rename_before}
use Rattle.named.specs.Batch.{rename_asked}
use Rattle.named.proofs.Orders.{link_early, name_early}
use Rattle.named.proofs.Replies.{target_stops, name_stops}
use Rattle.batch_asked.proofs.Asked.{directories, linked-live, test_stops, test_passes}
use Rattle.batch_rename.proofs.rename_reply.Goals as goal

pub returns-then-a-ne0 : goal.returns-then-a-ne0
unfolding rename_asked rename_before rename_verdict replaced_by
returns-then-a-ne0 c =
    record { reply = target_stops _ _ _ _ _ _ (link_early _ _ _ _ _) (name_early _) c.link_target-a.ensures c.if-a-ne0.true; ready = c.requires.1.1 }

pub returns-then-b-ne0 : goal.returns-then-b-ne0
unfolding rename_asked rename_before rename_verdict replaced_by
returns-then-b-ne0 c = record { reply = name_stops _ _ _ _ _ _ (link_early _ _ _ _ _) (name_early _) c.link_target-a.ensures c.if-a-ne0.false c.name_checks-b.ensures c.if-b-ne0.true; ready = c.requires.1.1 }

pub returns-then-is_above : goal.returns-then-is_above
unfolding rename_asked rename_before rename_verdict replaced_by
returns-then-is_above c = record {
  reply = test_stops _ _ _ _ _ (link_early _ _ _ _ _) (name_early _) c.link_target-a.ensures c.if-a-ne0.false c.name_checks-b.ensures c.if-b-ne0.false _ _
      c.is_above.ensures (tt, tt) c.if-is_above.true (λ z. omega arith);
  ready = c.requires.1.1;
}

pub move_denial-denial-requires : goal.move_denial-denial-requires
unfolding rename_asked rename_before rename_verdict replaced_by
move_denial-denial-requires c =
    let p = c.requires in
    (p.1.1, directories _ _ _ _ _ _ _ c.rename_move-m.ensures p.1.1.rows_ready.parents (linked-live _ _ _ _ _ (sym c.link_target-a.ensures ∙ c.if-a-ne0.false)))

pub returns : goal.returns
unfolding rename_asked rename_before rename_verdict replaced_by
returns c = record {
  reply = test_passes _ _ _ _ _ (link_early _ _ _ _ _) (name_early _) c.link_target-a.ensures c.if-a-ne0.false c.name_checks-b.ensures c.if-b-ne0.false _ _
      c.is_above.ensures (tt, tt) c.if-is_above.false (move-last _ _ _ _ _ _ (rw (c.rename_move-m.ensures, c.bearer_by_index-x.ensures) at c.move_denial-denial.ensures.denial) c.reply.ensures);
  ready = c.move_denial-denial.ensures.ready;
}

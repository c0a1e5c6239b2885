use borrow.Author.Rules.{rules}
use Rattle.log_changes.proofs.Trying.{link-refused_lem, link_fits, link-made}
use Rattle.log_changes.proofs.try_link.Goals as goal

pub returns-then-link_refusal-ne0 : goal.returns-then-link_refusal-ne0
returns-then-link_refusal-ne0 c =
    link-refused_lem _ _ _ _ _ c.link_refusal.ensures c.if-link_refusal-ne0.true

pub apply_link-requires : goal.apply_link-requires
apply_link-requires c =
    c.free_entry-e.ensures

pub put_name-requires : goal.put_name-requires
put_name-requires c =
    link_fits _ _ _ _ _ c.link_refusal.ensures c.if-link_refusal-ne0.false

pub returns : goal.returns
returns c =
    link-made _ _ _ _ _ c.link_refusal.ensures c.if-link_refusal-ne0.false c.free_entry-e.ensures c.apply_link.ensures c.put_name.ensures

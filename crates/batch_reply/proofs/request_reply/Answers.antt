use borrow.Author.Rules.{rules}
use Rattle.named.proofs.Made.{core-sound}
use Rattle.batch_reply.proofs.Replies.{is-access, is-port, is-link, is-rename, is-exchange}
use Rattle.batch_reply.proofs.request_reply.Goals as goal

pub returns-then-sort-eq-ACCESS : goal.returns-then-sort-eq-ACCESS
returns-then-sort-eq-ACCESS c =
    record { reply = is-access _ c.requires.0 _ _ _ _ _ _ c.if-sort-eq-ACCESS.true c.access_reply.ensures.reply; ready = c.access_reply.ensures.ready }

pub returns-then-sort-eq-PORT : goal.returns-then-sort-eq-PORT
returns-then-sort-eq-PORT c =
    let p = c.requires in
    record { reply = is-port _ p.0 _ _ _ _ _ _ c.if-sort-eq-ACCESS.false c.if-sort-eq-PORT.true c.port_reply.ensures; ready = p.1.1.1 }

pub returns-then-sort-eq-LINK : goal.returns-then-sort-eq-LINK
returns-then-sort-eq-LINK c =
    let named = c.request_name-name.ensures in
    record { reply = is-link _ c.requires.0 _ _ _ _ _ _ c.if-sort-eq-ACCESS.false c.if-sort-eq-PORT.false c.if-sort-eq-LINK.true (rw named at c.link_reply.ensures.reply); ready = c.link_reply.ensures.ready }

pub returns-then-sort-eq-RENAME : goal.returns-then-sort-eq-RENAME
returns-then-sort-eq-RENAME c =
    let named = c.request_name-name-then-sort-eq-RENAME.ensures in
    record { reply = is-rename _ c.requires.0 _ _ _ _ _ _ c.if-sort-eq-ACCESS.false c.if-sort-eq-PORT.false c.if-sort-eq-LINK.false c.if-sort-eq-RENAME.true (rw named at c.rename_reply.ensures.reply); ready = c.rename_reply.ensures.ready }

pub exchange_reply-requires : goal.exchange_reply-requires
exchange_reply-requires c =
    let p = c.requires in (core-sound _ p.0, (p.1.0, p.1.1.1))

pub returns : goal.returns
returns c =
    record { reply = is-exchange _ c.requires.0 _ _ _ _ _ _ c.if-sort-eq-ACCESS.false c.if-sort-eq-PORT.false c.if-sort-eq-LINK.false c.if-sort-eq-RENAME.false c.exchange_reply.ensures.reply; ready = c.exchange_reply.ensures.ready }

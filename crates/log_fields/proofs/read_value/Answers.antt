use mathlib.Core.Path.{◌∙◌}
use Rattle.log_fields.specs.Seen.{change_of}
use Rattle.log_fields.proofs.Values.{tag_create, tag_remove, tag_link, tag_rename, tag_exchange, tag_none}
use Rattle.log_fields.proofs.read_value.Goals as goal

pub returns-then-tag-eq-CREATE_TAG : goal.returns-then-tag-eq-CREATE_TAG
unfolding change_of
returns-then-tag-eq-CREATE_TAG c =
    let a = c.args in c.read_create.ensures ∙ tag_create a.v.now a.tag c.if-tag-eq-CREATE_TAG.true

pub returns-then-tag-eq-REMOVE_TAG : goal.returns-then-tag-eq-REMOVE_TAG
unfolding change_of
returns-then-tag-eq-REMOVE_TAG c =
    let a = c.args in c.read_remove.ensures ∙ tag_remove a.v.now a.tag c.if-tag-eq-REMOVE_TAG.true

pub returns-then-tag-eq-LINK_TAG : goal.returns-then-tag-eq-LINK_TAG
unfolding change_of
returns-then-tag-eq-LINK_TAG c =
    let a = c.args in c.read_link.ensures ∙ tag_link a.v.now a.tag c.if-tag-eq-LINK_TAG.true

pub returns-then-tag-eq-RENAME_TAG : goal.returns-then-tag-eq-RENAME_TAG
unfolding change_of
returns-then-tag-eq-RENAME_TAG c =
    let a = c.args in c.read_rename.ensures ∙ tag_rename a.v.now a.tag c.if-tag-eq-RENAME_TAG.true

pub returns-then-tag-eq-EXCHANGE_TAG : goal.returns-then-tag-eq-EXCHANGE_TAG
unfolding change_of
returns-then-tag-eq-EXCHANGE_TAG c =
    let a = c.args in c.read_exchange.ensures ∙ tag_exchange a.v.now a.tag c.if-tag-eq-EXCHANGE_TAG.true

pub returns : goal.returns
unfolding change_of
returns c =
    let a = c.args in tag_none a.v.now a.tag c.if-tag-eq-CREATE_TAG.false c.if-tag-eq-REMOVE_TAG.false c.if-tag-eq-LINK_TAG.false c.if-tag-eq-RENAME_TAG.false c.if-tag-eq-EXCHANGE_TAG.false

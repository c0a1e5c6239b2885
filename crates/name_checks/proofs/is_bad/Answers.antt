use mathlib.Core.Path.{sym, ◌∙◌}
use borrow.Author.Rules.{rules}
use Rattle.names.specs.Names.{bad_bytes}
use Rattle.name_checks.proofs.Scans.{empty, not_empty}
use Rattle.name_checks.proofs.is_bad.Goals as goal

pub returns-then-name-eq0 : goal.returns-then-name-eq0
unfolding bad_bytes
returns-then-name-eq0 c =
    rw (empty c.args.name.now c.if-name-eq0.true)

pub returns-then-has_byte : goal.returns-then-has_byte
unfolding bad_bytes
returns-then-has_byte c =
    let a = c.args in
    rw (not_empty a.name.now c.if-name-eq0.false, sym c.has_byte.ensures ∙ c.if-has_byte.true)

pub returns-then-has_byte-2 : goal.returns-then-has_byte-2
unfolding bad_bytes
returns-then-has_byte-2 c =
    let a = c.args in
    rw (not_empty a.name.now c.if-name-eq0.false, sym c.has_byte.ensures ∙ c.if-has_byte.false, sym c.has_byte-2.ensures ∙ c.if-has_byte-2.true)

pub returns-then-is_dot : goal.returns-then-is_dot
unfolding bad_bytes
returns-then-is_dot c =
    let a = c.args in
    rw (not_empty a.name.now c.if-name-eq0.false, sym c.has_byte.ensures ∙ c.if-has_byte.false, sym c.has_byte-2.ensures ∙ c.if-has_byte-2.false, sym c.is_dot.ensures ∙ c.if-is_dot.true)

pub returns : goal.returns
unfolding bad_bytes
returns c =
    let a = c.args in
    rw (not_empty a.name.now c.if-name-eq0.false, sym c.has_byte.ensures ∙ c.if-has_byte.false, sym c.has_byte-2.ensures ∙ c.if-has_byte-2.false, sym c.is_dot.ensures ∙ c.if-is_dot.false)
    c.is_dot_dot.ensures

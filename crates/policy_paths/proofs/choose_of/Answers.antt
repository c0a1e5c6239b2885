use mathlib.Core.Path.{sym, ap, ◌∙◌}
use mathlib.Core.Bool.{not}
use borrow.Author.Rules.{rules}
use borrow.Author.Tests.{not-false}
use Rattle.policy_paths.proofs.Choosing.{entry-live, not_entry, now_first, not_first}
use Rattle.policy_paths.proofs.choose_of.Goals as goal

pub returns-then-not-is_entry_of : goal.returns-then-not-is_entry_of
returns-then-not-is_entry_of c =
    let a = c.args in
    not_entry a.entries.now a.names.now a.o a.e a.c (ap not (sym c.is_entry_of.ensures) ∙ (ap not c.if-not-is_entry_of.true))

pub goes_first-requires : goal.goes_first-requires
goes_first-requires c =
    let a = c.args in
    (c.requires.0, entry-live a.entries.now a.o a.e (not-false _ (ap not (sym c.is_entry_of.ensures) ∙ (ap not c.if-not-is_entry_of.false))), c.requires.1)

pub returns-then-goes_first : goal.returns-then-goes_first
returns-then-goes_first c =
    let a = c.args in
    now_first a.entries.now a.names.now a.o a.e a.c (ap not (sym c.is_entry_of.ensures) ∙ (ap not c.if-not-is_entry_of.false)) (sym c.goes_first.ensures ∙ c.if-goes_first.true)

pub returns-else-goes_first : goal.returns-else-goes_first
returns-else-goes_first c =
    let a = c.args in
    not_first a.entries.now a.names.now a.o a.e a.c (ap not (sym c.is_entry_of.ensures) ∙ (ap not c.if-not-is_entry_of.false)) (sym c.goes_first.ensures ∙ c.if-goes_first.false)

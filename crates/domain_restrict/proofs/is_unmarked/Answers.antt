use mathlib.Core.Path.{sym, ◌∙◌}
use borrow.Author.Tests.{eq-eqb, ne_eqb}
use Rattle.domain_restrict.specs.Restrict.{unmarked}
use Rattle.domain_restrict.proofs.is_unmarked.Goals as goal

pub returns-then-no_new_privs_of-ne0 : goal.returns-then-no_new_privs_of-ne0
unfolding unmarked
returns-then-no_new_privs_of-ne0 c =
    rw (ne_eqb _ 0 (λ e. c.if-no_new_privs_of-ne0.true (c.no_new_privs_of.ensures ∙ e)))

pub returns : goal.returns
unfolding unmarked
returns c =
    rw (eq-eqb _ 0 (sym c.no_new_privs_of.ensures ∙ c.if-no_new_privs_of-ne0.false), c.admin_of.ensures)

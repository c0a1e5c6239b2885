use mathlib.Core.Path.{sym, ap, ◌∙◌}
use mathlib.Core.List.{List}
use Prim.Native.Nat.{ℕ}
use borrow.Author.Rules.{rules}
use borrow.Author.Tests.{eq-eqb, ne_eqb, not-true, not-false}
use Rattle.names.specs.Names.{same_bytes, is_named}
use Rattle.name_bearer.proofs.is_named_so.Goals as goal

pub returns-then-x-eq0 : goal.returns-then-x-eq0
unfolding is_named
returns-then-x-eq0 c =
    rw (eq-eqb _ 0 c.if-x-eq0.true)

pub returns-then-not-entry_live : goal.returns-then-not-entry_live
unfolding is_named
returns-then-not-entry_live c =
    let a = c.args in
    rw (ne_eqb a.x 0 c.if-x-eq0.false, sym c.entry_live.ensures ∙ c.if-not-entry_live.true)

pub returns : goal.returns
unfolding is_named
returns c =
    let a = c.args in
    rw (ne_eqb a.x 0 c.if-x-eq0.false, sym c.entry_live.ensures ∙ c.if-not-entry_live.false)
    (c.same_bytes.ensures ∙ ap (λ (m : List ℕ). same_bytes m a.name.now) c.name_of.ensures)

use native.Mathlib.Omega.{arith}
use borrow.Author.Rules.{rules}
use borrow.Author.Tests.{eq-eqb, ne_eqb}
use Rattle.codes.specs.Codes.{code_of}
use Rattle.codes.proofs.code_of.Goals as goal

pub returns-then-e-eq0 : goal.returns-then-e-eq0
unfolding code_of
returns-then-e-eq0 c =
    rw (eq-eqb _ _ c.if-e-eq0.true)

pub returns : goal.returns
unfolding code_of
returns c =
    rw (ne_eqb _ _ c.if-e-eq0.false) (omega arith)

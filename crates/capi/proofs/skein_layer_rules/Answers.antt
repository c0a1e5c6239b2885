use mathlib.Core.Path.{ap, ◌∙◌}
use borrow.Author.Rules.{rules}
use Rattle.codes.specs.Codes.{code_of}
use Rattle.capi.proofs.Answers.{lifted-number, lifted_span}
use Rattle.capi.proofs.skein_layer_rules.Goals as goal

pub returns : goal.returns
returns c =
    let l = c.layer_rules-rules.ensures in
    record { answer = (c.code_of.ensures ∙ ap code_of l.answer ∙ lifted-number _ _, l.left); part = rw (c.report.ensures, lifted_span _ _ c.span_from-from.ensures l.answer, l.part) }

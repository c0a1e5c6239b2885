use mathlib.Core.Path.{refl}
use borrow.Author.Rules.{rules}
use Rattle.capi.proofs.skein_component.Goals as goal

pub returns : goal.returns
returns c =
    let s = c.component_span-span.ensures in
    record { answer = refl; part = rw (c.report.ensures, s.start, s.length) refl }

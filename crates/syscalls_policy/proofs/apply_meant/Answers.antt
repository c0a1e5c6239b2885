use mathlib.Core.Path.{◌≡◌, sym, subst, ap, ◌∙◌}
use mathlib.Core.List.{List}
use Prim.Native.Nat.{ℕ}
use borrow.Author.Rules.{rules}
use Rattle.tables.specs.Tables.{level}
use Rattle.policy.specs.Find.{part_of}
use Rattle.policy.specs.Meaning.{rules_of}
use Rattle.policy_find.specs.Within.{Within}
use Rattle.policy_find.proofs.Finding.{found_within}
use Rattle.policy_walk.specs.Flat.{flatten}
use Rattle.policy_walk.proofs.Found.{found-rules}
use Rattle.syscalls_policy.proofs.Meant.{files_refuse, files_place, applies, done-place, refused-place}
use Rattle.syscalls_policy.proofs.apply_meant.Goals as goal

pub returns-then-e-ne0 : goal.returns-then-e-ne0
returns-then-e-ne0 c =
    let a = c.args in record { reply = files_refuse _ a.stock.now a.site.now a.name.now a.report.now c.requires c.find-meant.ensures c.found_number-e.ensures c.if-e-ne0.true; report = c.report_found.ensures ∙ files_place _ a.stock.now a.site.now a.name.now a.report.now c.requires c.find-meant.ensures c.found_number-e.ensures c.if-e-ne0.true }

pub part_in-part-requires : goal.part_in-part-requires
part_in-part-requires c =
    let a = c.args in
    subst (Within a.stock.now a.site.now) (sym c.find-meant.ensures) (found_within a.stock.now a.site.now a.name.now)

pub apply_part-reply-requires : goal.apply_part-reply-requires
apply_part-reply-requires c =
    let a = c.args in
    let l : ℕ = level a.system.now in (
      c.requires,
      subst (λ (g : List ℕ). flatten l g ≡ rules_of l g) (sym (c.part_in-part.ensures ∙ ap (part_of a.stock.now a.site.now) c.find-meant.ensures)) (found-rules a.stock.now a.site.now a.name.now l),
    )

pub returns-then-is_refused : goal.returns-then-is_refused
returns-then-is_refused c =
    let a = c.args in record { reply = applies _ a.stock.now a.site.now a.name.now a.report.now c.requires c.find-meant.ensures c.found_number-e.ensures c.if-e-ne0.false c.part_in-part.ensures c.apply_part-reply.ensures; report = c.report_nothing.ensures ∙ refused-place _ a.stock.now a.site.now a.name.now a.report.now c.requires c.find-meant.ensures c.found_number-e.ensures c.if-e-ne0.false c.part_in-part.ensures c.apply_part-reply.ensures (sym c.is_refused.ensures ∙ c.if-is_refused.true) }

pub returns : goal.returns
returns c =
    let a = c.args in record { reply = applies _ a.stock.now a.site.now a.name.now a.report.now c.requires c.find-meant.ensures c.found_number-e.ensures c.if-e-ne0.false c.part_in-part.ensures c.apply_part-reply.ensures; report = c.report_found-2.ensures ∙ done-place _ a.stock.now a.site.now a.name.now a.report.now c.requires c.find-meant.ensures c.found_number-e.ensures c.if-e-ne0.false c.part_in-part.ensures c.apply_part-reply.ensures (sym c.is_refused.ensures ∙ c.if-is_refused.false) }

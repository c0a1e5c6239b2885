-- the ruleset's part lies in its file
use mathlib.Core.Path.{sym, subst, ap, ◌∙◌}
use borrow.Author.Rules.{rules}
use Rattle.policy.specs.Find.{bytes_in, part_of}
use Rattle.policy.specs.declared.File.{File}
use Rattle.policy.specs.declared.Found.TheVariants.{At}
use Rattle.policy_find.specs.Within.{Inside, Within}
use Rattle.policy_find.proofs.part_in.Goals as goal

pub slice_bounds-result-count : goal.slice_bounds-result-count
unfolding bytes_in part_of
slice_bounds-result-count c =
    let within : let a = c.args in Inside (bytes_in a.stock.now a.site.now c.in-At.file) c.in-At.s = subst (Within c.args.stock.now c.args.site.now) c.in-At.is c.requires in
    let in_stock : Inside c.args.stock.now c.in-At.s = let a = c.args in
    subst (λ (file : File). Inside (bytes_in a.stock.now a.site.now file) c.in-At.s) c.in-Stock.is (within) in
    (in_stock).0

pub slice_bounds-result-start : goal.slice_bounds-result-start
unfolding bytes_in part_of
slice_bounds-result-start c =
    let within : let a = c.args in Inside (bytes_in a.stock.now a.site.now c.in-At.file) c.in-At.s = subst (Within c.args.stock.now c.args.site.now) c.in-At.is c.requires in
    let in_stock : Inside c.args.stock.now c.in-At.s = let a = c.args in
    subst (λ (file : File). Inside (bytes_in a.stock.now a.site.now file) c.in-At.s) c.in-Stock.is (within) in
    (in_stock).0

pub slice_bounds-result-end : goal.slice_bounds-result-end
unfolding bytes_in part_of
slice_bounds-result-end c =
    let within : let a = c.args in Inside (bytes_in a.stock.now a.site.now c.in-At.file) c.in-At.s = subst (Within c.args.stock.now c.args.site.now) c.in-At.is c.requires in
    let in_stock : Inside c.args.stock.now c.in-At.s = let a = c.args in
    subst (λ (file : File). Inside (bytes_in a.stock.now a.site.now file) c.in-At.s) c.in-Stock.is (within) in
    (in_stock).1

pub slice_bounds-result-count-in-Site : goal.slice_bounds-result-count-in-Site
unfolding bytes_in part_of
slice_bounds-result-count-in-Site c =
    let within : let a = c.args in Inside (bytes_in a.stock.now a.site.now c.in-At.file) c.in-At.s = subst (Within c.args.stock.now c.args.site.now) c.in-At.is c.requires in
    let in_site : Inside c.args.site.now c.in-At.s = let a = c.args in
    subst (λ (file : File). Inside (bytes_in a.stock.now a.site.now file) c.in-At.s) c.in-Site.is (within) in
    (in_site).0

pub slice_bounds-result-start-in-Site : goal.slice_bounds-result-start-in-Site
unfolding bytes_in part_of
slice_bounds-result-start-in-Site c =
    let within : let a = c.args in Inside (bytes_in a.stock.now a.site.now c.in-At.file) c.in-At.s = subst (Within c.args.stock.now c.args.site.now) c.in-At.is c.requires in
    let in_site : Inside c.args.site.now c.in-At.s = let a = c.args in
    subst (λ (file : File). Inside (bytes_in a.stock.now a.site.now file) c.in-At.s) c.in-Site.is (within) in
    (in_site).0

pub slice_bounds-result-end-in-Site : goal.slice_bounds-result-end-in-Site
unfolding bytes_in part_of
slice_bounds-result-end-in-Site c =
    let within : let a = c.args in Inside (bytes_in a.stock.now a.site.now c.in-At.file) c.in-At.s = subst (Within c.args.stock.now c.args.site.now) c.in-At.is c.requires in
    let in_site : Inside c.args.site.now c.in-At.s = let a = c.args in
    subst (λ (file : File). Inside (bytes_in a.stock.now a.site.now file) c.in-At.s) c.in-Site.is (within) in
    (in_site).1

pub returns-in-Stock : goal.returns-in-Stock
unfolding bytes_in part_of
returns-in-Stock c =
    let a = c.args in
    sym (ap (part_of a.stock.now a.site.now) (c.in-At.is ∙ ap (λ (file : File). At file c.in-At.s) c.in-Stock.is))

pub returns-in-Site : goal.returns-in-Site
unfolding bytes_in part_of
returns-in-Site c =
    let a = c.args in
    sym (ap (part_of a.stock.now a.site.now) (c.in-At.is ∙ ap (λ (file : File). At file c.in-At.s) c.in-Site.is))

pub returns-in-TooBig : goal.returns-in-TooBig
unfolding bytes_in part_of
returns-in-TooBig c =
    let a = c.args in sym (ap (part_of a.stock.now a.site.now) c.in-TooBig.is)

pub returns-in-Damaged : goal.returns-in-Damaged
unfolding bytes_in part_of
returns-in-Damaged c =
    let a = c.args in sym (ap (part_of a.stock.now a.site.now) c.in-Damaged.is)

pub returns-in-Missing : goal.returns-in-Missing
unfolding bytes_in part_of
returns-in-Missing c =
    let a = c.args in sym (ap (part_of a.stock.now a.site.now) c.in-Missing.is)

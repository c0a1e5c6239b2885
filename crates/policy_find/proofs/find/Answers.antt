-- the stock's file is fine
use mathlib.Core.Path.{◌≡◌, sym, ◌∙◌}
use borrow.Author.Rules.{rules}
use Rattle.policy.specs.Find.{checked, has_or, found}
use Rattle.policy.specs.declared.File.TheVariants.{Stock, Site}
use Rattle.policy.specs.declared.Found.TheVariants.{Missing}
use Rattle.policy_find.proofs.Finding.{checked_big, checked_fault, checked-fine}
use Rattle.policy_find.proofs.find.Goals as goal

pub returns-then-stock-gt-MAX_FILE : goal.returns-then-stock-gt-MAX_FILE
unfolding found
returns-then-stock-gt-MAX_FILE c =
    sym (checked_big Stock _ _ c.if-stock-gt-MAX_FILE.true)

pub returns-in-Fault : goal.returns-in-Fault
unfolding found
returns-in-Fault c =
    let a = c.args in
    sym (checked_fault Stock a.stock.now _ c.if-stock-gt-MAX_FILE.false (sym c.read_file.ensures ∙ c.in-Fault.is))

pub returns-then-site-gt-MAX_FILE : goal.returns-then-site-gt-MAX_FILE
unfolding found
returns-then-site-gt-MAX_FILE c =
    let past_stock : let a = c.args in
    found a.stock.now a.site.now a.name.now ≡ checked Site a.site.now (has_or Site a.site.now a.name.now (has_or Stock a.stock.now a.name.now Missing)) = let a = c.args in
    checked-fine Stock a.stock.now _ c.if-stock-gt-MAX_FILE.false (sym c.read_file.ensures ∙ c.in_default.is) in
    sym (past_stock ∙ checked_big Site _ _ c.if-site-gt-MAX_FILE.true)

pub returns-in-Fault-read_file : goal.returns-in-Fault-read_file
unfolding found
returns-in-Fault-read_file c =
    let past_stock : let a = c.args in
    found a.stock.now a.site.now a.name.now ≡ checked Site a.site.now (has_or Site a.site.now a.name.now (has_or Stock a.stock.now a.name.now Missing)) = let a = c.args in
    checked-fine Stock a.stock.now _ c.if-stock-gt-MAX_FILE.false (sym c.read_file.ensures ∙ c.in_default.is) in
    let a = c.args in
    sym (past_stock ∙ checked_fault Site a.site.now _ c.if-site-gt-MAX_FILE.false (sym c.read_file-2.ensures ∙ c.in-Fault-read_file.is))

pub returns : goal.returns
unfolding found
returns c =
    let past_stock : let a = c.args in
    found a.stock.now a.site.now a.name.now ≡ checked Site a.site.now (has_or Site a.site.now a.name.now (has_or Stock a.stock.now a.name.now Missing)) = let a = c.args in
    checked-fine Stock a.stock.now _ c.if-stock-gt-MAX_FILE.false (sym c.read_file.ensures ∙ c.in_default.is) in
    let past_both : let a = c.args in
    found a.stock.now a.site.now a.name.now ≡ has_or Site a.site.now a.name.now (has_or Stock a.stock.now a.name.now Missing) = let a = c.args in
    past_stock ∙ checked-fine Site a.site.now _ c.if-site-gt-MAX_FILE.false (sym c.read_file-2.ensures ∙ c.in_default-read_file.is) in
    rw (c.has_or.ensures, c.has_or-in_stock.ensures) (sym (past_both))

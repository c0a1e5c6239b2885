use mathlib.Core.Path.{ap, ◌∙◌}
use borrow.Author.Rules.{rules}
use Rattle.access.specs.Reply.{reply_to}
use Rattle.policy.specs.declared.Found.{Found}
use Rattle.named.specs.Policy.{found_number, found_place, placed}
use Rattle.syscalls_policy.proofs.find_policy.Goals as goal

pub returns : goal.returns
returns c = record { reply = c.to.ensures ∙ ap reply_to (c.found_number.ensures ∙ ap found_number c.find-meant.ensures); report = c.report_found.ensures ∙ ap (λ (g : Found). placed c.args.report.now (found_place g)) c.find-meant.ensures }

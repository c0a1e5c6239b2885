-- What one step of the walk tells.
use Rattle.std.specs.Prelude.{◌≡◌, Bool, true, cond, ◌&&◌, ◌||◌, List, [], ◌++◌, ℕ, ◌+◌, ◌≤◌, ◌<◌, eqb, leb, get_or}
use Rattle.laws.specs.Cells.{part}
use Rattle.policy.specs.Fields.{path_tag, port_tag, header, group_header}
use Rattle.policy.specs.Meaning.{Rule, rule_of}
use Rattle.policy_walk.specs.Flat.{flatten}
use Rattle.policy_walk.specs.declared.Step.{Step}
use Rattle.policy_walk.specs.declared.Step.TheVariants as step

-- the tag of a path rule or of a port rule
unfoldable pub is_rule_tag : ℕ → Bool
is_rule_tag t = eqb t path_tag || eqb t port_tag

-- where the walk goes on from the group from `at` to `next`
unfoldable pub past_group : List ℕ → ℕ → ℕ → ℕ → ℕ
past_group f at next level = cond (leb (at + group_header) next && leb (get_or f (at + header) 0) level) (at + group_header) next

-- the next counted rule of the part from `at` to `end` has its value from `from` to `next`, where the walk goes on
pub record RuleAt (level : ℕ) (f : List ℕ) (at end tag from next : ℕ) : Type 0 where
  pub on : at < from
  pub ordered : from ≤ next
  pub inside : next ≤ end
  pub tagged : is_rule_tag tag ≡ true
  pub rules : flatten level (part f at end) ≡ rule_of tag (part f from next) ++ flatten level (part f next end)

abbrev pub StepIs : ℕ → List ℕ → ℕ → ℕ → Step → Type 0
StepIs level f at end (step.Rule tag from next) = RuleAt level f at end tag from next
StepIs level f at end step.End = flatten level (part f at end) ≡ []

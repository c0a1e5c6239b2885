-- A rule of a policy file, added to sound tables.
use Rattle.std.specs.Prelude.{◌≡◌, true, cond, List, ℕ, eqb, drop}
use Rattle.access.specs.declared.errno.Reply.{Reply}
use Rattle.ruleset.specs.Attribute.{number}
use Rattle.policy.specs.Fields.{path_tag}
use Rattle.policy.specs.Grammar.{rights_size}
use Rattle.policy.specs.Meaning.{Rule, path, port}
use Rattle.named.specs.Named.{Named, named_sound, NamedOutcome, named_outcome}

-- the rule of a field, whose tag is that of a path rule or of a port rule
unfoldable pub rule_in : ℕ → List ℕ → Rule
rule_in t v =
    let rights = number v 0 rights_size in
    cond (eqb t path_tag) (path rights (drop rights_size v)) (port rights (number v rights_size 2))

-- the reply a and the tables M are what a call comes to, and M is sound
pub record Soundly (o : NamedOutcome) (a : Reply) (M : Named) : Type 0 where
  pub comes : named_outcome a M ≡ o
  pub still : named_sound M ≡ true

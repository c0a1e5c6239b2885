-- Request W12: writing the policy file of a ruleset, as a call on tables with names.
use Rattle.std.specs.Prelude.{cond, List, ℕ, length}
use Rattle.access.specs.declared.errno.Reply.TheVariants.{Done}
use Rattle.theorems.specs.Calls.{is_done}
use Rattle.policy_write.specs.File.{policy_file, written_over, write_checks}
use Rattle.named.specs.Named.{Named, NamedOutcome, named_outcome, named_call}

abbrev pub file_of : Named → ℕ → List ℕ → List ℕ
file_of N r name = policy_file N.core.entries N.core.rulesets N.names r name

-- "success returns the length"; no cell changes
unfoldable pub write_named : Named → ℕ → List ℕ → List ℕ → NamedOutcome
write_named N r name out = named_call N (write_checks N.core N.names r name out) (named_outcome (Done (length (file_of N r name))) N)

-- the output: "All leave the output buffer alone; success .. leaves the rest alone"
unfoldable pub written_out : Named → ℕ → List ℕ → List ℕ → List ℕ
written_out N r name out = cond (is_done (write_named N r name out).reply) (written_over (file_of N r name) out) out

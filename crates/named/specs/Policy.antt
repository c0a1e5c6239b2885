-- Request W4: a ruleset of two policy files, applied. "Applying a ruleset makes the same calls in file order, stops at the first refusal with that number, and
-- then closes what it opened, so no cell differs".
use Rattle.std.specs.Prelude.{Bool, true, cond, not, ◌||◌, List, [], ◌∷◌, ℕ, ◌-◌, eqb, set}
use Rattle.laws.specs.Refusals.{Check, ◌⇒◌}
use Rattle.access.specs.Errno.{ENOENT, E2BIG, EBADMSG}
use Rattle.access.specs.declared.errno.Reply.{Reply}
use Rattle.access.specs.declared.errno.Reply.TheVariants.{Done, Refused, Denied}
use Rattle.tables.specs.Tables.{level}
use Rattle.theorems.specs.Calls.{Call, create_ruleset, close_ruleset, add_path_rule, add_port_rule, outcome_of, is_done}
use Rattle.names.specs.Paths.{path_checks, found}
use Rattle.policy.specs.Find.{part_of}
use Rattle.policy.specs.Find as files
use Rattle.policy.specs.Meaning.{Rule, path, port, rules_of, attribute}
use Rattle.policy.specs.declared.File.{File}
use Rattle.policy.specs.declared.File.TheVariants.{Stock, Site}
use Rattle.policy.specs.declared.Found.{Found}
use Rattle.policy.specs.declared.Found.TheVariants.{At, TooBig, Damaged, Missing}
use Rattle.named.specs.Named.{Named, named_sound, NamedOutcome, named_outcome, named_call, lift}

-- the entry that an absolute path names
abbrev pub lookup_named : Named → List ℕ → NamedOutcome
lookup_named N p = named_call N (path_checks p) (named_outcome (found N.core.entries N.names p) N)

-- a call that neither reads nor writes names
abbrev pub on_named : Named → Call → NamedOutcome
on_named N c = lift N (outcome_of N.core c)

-- ---- "the same calls", with no flags
-- "A path is any bytes, looked up just before its rule is added": what the lookup refuses comes before what the add refuses
unfoldable pub add_at : Named → ℕ → ℕ → Reply → NamedOutcome
add_at N r rights (Done e) = on_named N (add_path_rule r e rights 0)
add_at N r rights (Refused e) = named_outcome (Refused e) N
add_at N r rights (Denied e l s) = named_outcome (Denied e l s) N

unfoldable pub add_rule : ℕ → Named → Rule → NamedOutcome
add_rule r N (path rights p) = add_at N r rights (lookup_named N p).reply
add_rule r N (port rights n) = on_named N (add_port_rule r n rights 0)

-- "stops at the first refusal with that number, and then closes what it opened"
unfoldable pub or_close : ℕ → Reply → Named → (Named → NamedOutcome) → NamedOutcome
or_close r (Done n) N rest = rest N
or_close r (Refused e) N rest = named_outcome (Refused e) (on_named N (close_ruleset r)).left
or_close r (Denied e l s) N rest = named_outcome (Denied e l s) (on_named N (close_ruleset r)).left

-- "in file order"; a success replies the ruleset's number
unfoldable pub add_rules : ℕ → List Rule → Named → NamedOutcome
add_rules r [] N = named_outcome (Done r) N
add_rules r (q ∷ qs) N = let o = add_rule r N q in or_close r o.reply o.left (add_rules r qs)

unfoldable pub then_add : List Rule → Reply → Named → NamedOutcome
then_add rules (Done r) N = add_rules r rules N
then_add rules (Refused e) N = named_outcome (Refused e) N
then_add rules (Denied e l s) N = named_outcome (Denied e l s) N

-- a ruleset's part of a file, applied
unfoldable pub applied : Named → List ℕ → NamedOutcome
applied N s =
    let l = level N.core.system in
    let o = on_named N (create_ruleset (attribute l s) 0) in
    then_add (rules_of l s) o.reply o.left

-- ---- the ruleset of a name in the two files
-- what the files or the name refuse: "one over 32,768 bytes is E2BIG", "Anything else is EBADMSG", "Neither has it: ENOENT"
unfoldable pub found_number : Found → ℕ
found_number (At file s) = 0
found_number (TooBig file) = E2BIG
found_number (Damaged file p) = EBADMSG
found_number Missing = ENOENT

unfoldable pub found_checks : List ℕ → List ℕ → List ℕ → List Check
found_checks stock site name = let e = found_number (files.found stock site name) in not (eqb e 0) ⇒ e ∷ []

unfoldable pub apply_named : Named → List ℕ → List ℕ → List ℕ → NamedOutcome
apply_named N stock site name = named_call N (found_checks stock site name) (applied N (part_of stock site (files.found stock site name)))

-- ---- what is said beside the number: the file, a place in it and a length
pub record Place : Type 0 where
  pub file : ℕ
  pub at : ℕ
  pub size : ℕ

abbrev pub place : ℕ → ℕ → ℕ → Place
place f a n = record { file = f; at = a; size = n }

unfoldable pub file_number : File → ℕ
file_number Stock = 0
file_number Site = 1

-- "damage in either is reported with its file": the ruleset's part; or the place of the fault
unfoldable pub found_place : Found → Place
found_place (At file s) = place (file_number file) s.at (s.end - s.at)
found_place (TooBig file) = place (file_number file) 0 0
found_place (Damaged file p) = place (file_number file) p 0
found_place Missing = place 0 0 0

-- the same of an application that the files or the name refuse, or that is done; nothing where the tables are unsound or a call refuses
unfoldable pub applied_place : Named → List ℕ → List ℕ → List ℕ → Place
applied_place N stock site name =
    let f = files.found stock site name in
    cond (named_sound N) (cond (not (eqb (found_number f) 0) || is_done (apply_named N stock site name).reply) (found_place f) (place 0 0 0)) (place 0 0 0)

-- a report has as many of the three as it has cells
unfoldable pub placed : List ℕ → Place → List ℕ
placed cells p = set (set (set cells 0 p.file) 1 p.at) 2 p.size

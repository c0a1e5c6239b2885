-- Document 01, the worked tree: its fourteen starred cases, as one table. Each case starts anew, from fresh tables at level 6.
use Rattle.std.specs.Prelude.{◌≡◌, List, [], ◌∷◌, ◌++◌, map, ℕ}
use Rattle.access.specs.Rights.{EXECUTE, WRITE_FILE, READ_FILE, REMOVE_FILE, MAKE_REG, REFER}
use Rattle.access.specs.Errno.{EACCES, EXDEV}
use Rattle.access.specs.Limits.{max_level}
use Rattle.access.specs.declared.errno.Reply.{Reply}
use Rattle.access.specs.declared.errno.Reply.TheVariants.{Done, Denied}
use Rattle.tables.specs.Fresh.{fresh_tables}
use Rattle.tree.specs.declared.Replaced.TheVariants.{None}
use Rattle.theorems.specs.Calls.{Call, create_ruleset, add_path_rule, restrict, set_no_new_privs, access, create, link, rename, reply, after_all}

-- calls from fresh tables, a last call, and what that one answers
pub record Case : Type 0 where
  pub calls : List Call
  pub last : Call
  pub answer : Reply

abbrev pub case : List Call → Call → Reply → Case
case cs c r = record { calls = cs; last = c; answer = r }

-- a refusal with its layer and what that denies (document 02, W8)
abbrev pub denied : ℕ → ℕ → ℕ → Reply
denied e l s = Denied (record { 0 = e }) l (record { 0 = s })

-- "1 /cal and 2 /import are directories, 3 /cal/table and 4 /import/feed regular"; thread 0 may restrict itself
abbrev pub start : List Call
start = create 0 0 2 ∷ create 0 0 2 ∷ create 0 1 1 ∷ create 0 2 1 ∷ set_no_new_privs 0 ∷ []

-- "Layer A handles 8486, rules: 1 gets 4, 2 gets 8486. B is A with 8452 for 1; C is A with 8484 for 1": ruleset 0, by what 1 gets
abbrev pub asked : ℕ → List Call
asked cal = create_ruleset (38 ∷ 33 ∷ 0 ∷ 0 ∷ 0 ∷ 0 ∷ 0 ∷ 0 ∷ []) 0 ∷ add_path_rule 0 1 cal 0 ∷ add_path_rule 0 2 8486 0 ∷ []

abbrev pub layer : ℕ → List Call
layer cal = start ++ (asked cal ++ (restrict 0 0 0 ∷ []))

abbrev pub A : List Call
A = layer 4

abbrev pub B : List Call
B = layer 8452

abbrev pub C : List Call
C = layer 8484

-- "C with a rule giving 3 the mask 2"
abbrev pub C3 : List Call
C3 = start ++ (asked 8484 ++ (add_path_rule 0 3 2 0 ∷ restrict 0 0 0 ∷ []))

-- "B then a layer handling 2 with no rules"
abbrev pub B2 : List Call
B2 = B ++ (create_ruleset (2 ∷ 0 ∷ 0 ∷ 0 ∷ 0 ∷ 0 ∷ 0 ∷ 0 ∷ []) 0 ∷ restrict 0 1 0 ∷ [])

abbrev pub cases : List Case
cases =
    case A (access 0 3 READ_FILE) (Done 0)
    ∷ case A (access 0 3 WRITE_FILE) (denied EACCES 0 WRITE_FILE)
    ∷ case A (access 0 4 WRITE_FILE) (Done 0)
    ∷ case A (access 0 3 EXECUTE) (Done 0)
    ∷ case A (rename 0 4 1 None) (denied EACCES 0 MAKE_REG)
    ∷ case B (rename 0 4 1 None) (Done 0)
    ∷ case (B ++ (rename 0 4 1 None ∷ [])) (access 0 4 WRITE_FILE) (denied EACCES 0 WRITE_FILE)
    ∷ case B (rename 0 3 2 None) (denied EACCES 0 REMOVE_FILE)
    ∷ case C (rename 0 3 2 None) (denied EXDEV 0 WRITE_FILE)
    ∷ case C3 (rename 0 3 2 None) (Done 0)
    ∷ case (B ++ (link 0 4 1 ∷ [])) (access 0 4 WRITE_FILE) (Done 0)
    ∷ case B2 (access 0 4 READ_FILE) (Done 0)
    ∷ case B2 (rename 0 4 1 None) (denied EXDEV 1 REFER)
    ∷ case B2 (rename 0 4 2 None) (Done 0)
    ∷ []

-- what a case's last call answers
abbrev pub given : Case → Reply
given c = reply (after_all (fresh_tables max_level) c.calls) c.last

-- every case's last call answers what document 01 says
abbrev pub Starred : Type 0
Starred = map given cases ≡ map (λ c. c.answer) cases

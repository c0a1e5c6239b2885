-- Document 01, the worked tree, on tables with names: "01's cases keep each entry's name". Each case starts anew, from fresh tables at level 6.
use Rattle.std.specs.Prelude.{◌≡◌, refl, List, [], ◌∷◌, ◌++◌, map, ℕ}
use Rattle.access.specs.Rights.{EXECUTE, WRITE_FILE, READ_FILE, REMOVE_FILE, MAKE_REG, REFER}
use Rattle.access.specs.Errno.{EACCES, EXDEV}
use Rattle.access.specs.Limits.{max_level}
use Rattle.access.specs.declared.errno.Reply.{Reply}
use Rattle.access.specs.declared.errno.Reply.TheVariants.{Done, Denied}
use Rattle.theorems.specs.Calls.{create_ruleset, add_path_rule, restrict, set_no_new_privs, access}
use Rattle.named.specs.Named.{fresh_named}
use Rattle.named.specs.Calls.{NamedCall, lifted, create, link, rename, reply_named, all_named}

-- calls from fresh tables, a last call, and what that one answers
pub record Case : Type 0 where
  pub calls : List NamedCall
  pub last : NamedCall
  pub answer : Reply

abbrev pub case : List NamedCall → NamedCall → Reply → Case
case cs c r = record { calls = cs; last = c; answer = r }

-- a refusal with its layer and what that denies (document 02, W8)
abbrev pub denied : ℕ → ℕ → ℕ → Reply
denied e l s = Denied (record { 0 = e }) l (record { 0 = s })

-- "cal", "import", "table" and "feed"
abbrev pub cal : List ℕ
cal = 99 ∷ 97 ∷ 108 ∷ []

abbrev pub import_name : List ℕ
import_name = 105 ∷ 109 ∷ 112 ∷ 111 ∷ 114 ∷ 116 ∷ []

abbrev pub table : List ℕ
table = 116 ∷ 97 ∷ 98 ∷ 108 ∷ 101 ∷ []

abbrev pub feed : List ℕ
feed = 102 ∷ 101 ∷ 101 ∷ 100 ∷ []

-- "1 /cal and 2 /import are directories, 3 /cal/table and 4 /import/feed regular"; thread 0 may restrict itself
abbrev pub start : List NamedCall
start = create 0 0 2 cal ∷ create 0 0 2 import_name ∷ create 0 1 1 table ∷ create 0 2 1 feed ∷ lifted (set_no_new_privs 0) refl ∷ []

-- "Layer A handles 8486, rules: 1 gets 4, 2 gets 8486. B is A with 8452 for 1; C is A with 8484 for 1": ruleset 0, by what 1 gets
abbrev pub asked : ℕ → List NamedCall
asked m =
    lifted (create_ruleset (38 ∷ 33 ∷ 0 ∷ 0 ∷ 0 ∷ 0 ∷ 0 ∷ 0 ∷ []) 0) refl
    ∷ lifted (add_path_rule 0 1 m 0) refl
    ∷ lifted (add_path_rule 0 2 8486 0) refl
    ∷ []

abbrev pub layer : ℕ → List NamedCall
layer m = start ++ (asked m ++ (lifted (restrict 0 0 0) refl ∷ []))

abbrev pub A : List NamedCall
A = layer 4

abbrev pub B : List NamedCall
B = layer 8452

abbrev pub C : List NamedCall
C = layer 8484

-- "C with a rule giving 3 the mask 2"
abbrev pub C3 : List NamedCall
C3 = start ++ (asked 8484 ++ (lifted (add_path_rule 0 3 2 0) refl ∷ lifted (restrict 0 0 0) refl ∷ []))

-- "B then a layer handling 2 with no rules"
abbrev pub B2 : List NamedCall
B2 = B ++ (lifted (create_ruleset (2 ∷ 0 ∷ 0 ∷ 0 ∷ 0 ∷ 0 ∷ 0 ∷ 0 ∷ []) 0) refl ∷ lifted (restrict 0 1 0) refl ∷ [])

abbrev pub cases : List Case
cases =
    case A (lifted (access 0 3 READ_FILE) refl) (Done 0)
    ∷ case A (lifted (access 0 3 WRITE_FILE) refl) (denied EACCES 0 WRITE_FILE)
    ∷ case A (lifted (access 0 4 WRITE_FILE) refl) (Done 0)
    ∷ case A (lifted (access 0 3 EXECUTE) refl) (Done 0)
    ∷ case A (rename 0 4 1 feed) (denied EACCES 0 MAKE_REG)
    ∷ case B (rename 0 4 1 feed) (Done 0)
    ∷ case (B ++ (rename 0 4 1 feed ∷ [])) (lifted (access 0 4 WRITE_FILE) refl) (denied EACCES 0 WRITE_FILE)
    ∷ case B (rename 0 3 2 table) (denied EACCES 0 REMOVE_FILE)
    ∷ case C (rename 0 3 2 table) (denied EXDEV 0 WRITE_FILE)
    ∷ case C3 (rename 0 3 2 table) (Done 0)
    ∷ case (B ++ (link 0 4 1 feed ∷ [])) (lifted (access 0 4 WRITE_FILE) refl) (Done 0)
    ∷ case B2 (lifted (access 0 4 READ_FILE) refl) (Done 0)
    ∷ case B2 (rename 0 4 1 feed) (denied EXDEV 1 REFER)
    -- the bearer of the name in 2 is 4 itself
    ∷ case B2 (rename 0 4 2 feed) (Done 0)
    ∷ []

-- what a case's last call answers
abbrev pub given : Case → Reply
given c = reply_named (all_named (fresh_named max_level) c.calls) c.last

-- every case's last call answers what document 01 says
abbrev pub Starred : Type 0
Starred = map given cases ≡ map (λ c. c.answer) cases

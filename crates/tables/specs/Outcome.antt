-- What a call answers and what it leaves.
use Rattle.std.specs.Prelude.{cond, List, [], ◌∷◌, ℕ, eqb}
use Rattle.laws.specs.Refusals.{Check, first}
use Rattle.access.specs.Errno.{EACCES, EXDEV}
use Rattle.access.specs.declared.errno.Reply.{Reply}
use Rattle.access.specs.declared.errno.Reply.TheVariants.{Done, Refused, Denied}
use Rattle.tables.specs.Tables.{Tables, tables}

-- the reply, and the tables after the call
pub record Outcome : Type 0 where
  pub reply : Reply
  pub left : Tables

abbrev pub outcome : Reply → Tables → Outcome
outcome r T = record { reply = r; left = T }

-- "A refusal returns its number, told apart from a success, and changes no cell"
abbrev pub refused : ℕ → Tables → Outcome
refused e T = outcome (Refused (record { 0 = e })) T

-- a refusal's number; 0 for a success
abbrev pub error_of : Reply → ℕ
error_of (Done n) = 0
error_of (Refused e) = e.0
error_of (Denied e l s) = e.0

-- the first refusal that applies; where none does, what the call does
unfoldable pub answer : Tables → List Check → Outcome → Outcome
answer T cs done = let e = first cs in cond (eqb e 0) done (refused e T)

-- document 02, W8: "names the youngest layer whose set is not empty, and that set"; D has the layers of a domain, youngest first, f the set of each
unfoldable pub blame : ℕ → (ℕ → ℕ) → List ℕ → Reply
blame e f [] = Refused (record { 0 = e })
blame e f (l ∷ D) = let r = blame e f D in cond (eqb (f l) 0) r (Denied (record { 0 = e }) l (record { 0 = f l }))

-- EACCES names a layer by the sets a, EXDEV by the sets b; other replies name none
unfoldable pub named : (ℕ → ℕ) → (ℕ → ℕ) → List ℕ → Reply → Reply
named a b D (Done n) = Done n
named a b D (Refused e) = cond (eqb e.0 EACCES) (blame EACCES a D) (cond (eqb e.0 EXDEV) (blame EXDEV b D) (Refused e))
named a b D (Denied e l s) = Denied e l s

-- a call with a verdict: which layer refused it is said after the number is known
abbrev pub naming : (ℕ → ℕ) → (ℕ → ℕ) → List ℕ → Outcome → Outcome
naming a b D o = outcome (named a b D o.reply) o.left

-- the tables with one of them changed
abbrev pub with_rulesets : Tables → List ℕ → Tables
with_rulesets T rs = tables T.system T.entries rs T.layers T.pool T.threads

abbrev pub with_threads : Tables → List ℕ → Tables
with_threads T ts = tables T.system T.entries T.rulesets T.layers T.pool ts

-- The numbers that stand for a reply.
use Rattle.std.specs.Prelude.{cond, List, ℕ, ◌+◌, ◌-◌, ◌^◌, eqb, ltb, set}
use Rattle.access.specs.Limits.{max_layers}
use Rattle.access.specs.declared.errno.Reply.{Reply}
use Rattle.access.specs.declared.errno.Reply.TheVariants.{Done, Refused, Denied}

-- an error number, as C reads it in a signed number: 2^64 minus it; no error is 0
unfoldable pub code_of : ℕ → ℕ
code_of e = cond (eqb e 0) 0 (2 ^ 64 - e)

-- a success is its own number
unfoldable pub number : Reply → ℕ
number (Done n) = n
number (Refused e) = code_of e.0
number (Denied e l s) = code_of e.0

-- a layer's number + 1, as in the tables; no reply names another layer (theorems, Named)
unfoldable pub layer_cell : ℕ → ℕ
layer_cell l = cond (ltb l max_layers) (l + 1) 0

-- what a reply says: the error number, 0 for none; the layer that it names, 0 for none; and the set of rights
pub record Said : Type 0 where
  pub error : ℕ
  pub layer : ℕ
  pub rights : ℕ

abbrev says : ℕ → ℕ → ℕ → Said
says e l s = record { error = e; layer = l; rights = s }

-- document 02, W8: "Other answers name layer "none" and the empty set"
unfoldable pub said : Reply → Said
said (Done n) = says 0 0 0
said (Refused e) = says e.0 0 0
said (Denied e l s) = says e.0 (layer_cell l) s.0

-- a report: the layer and the rights, as many of them as it has cells
unfoldable pub reported : List ℕ → Reply → List ℕ
reported cells r = set (set cells 0 (said r).layer) 1 (said r).rights

-- the report of an access: also how many entries' rules were read
unfoldable pub reported_access : List ℕ → Reply → ℕ → List ℕ
reported_access cells r n = set (reported cells r) 2 n

-- Laws of the change that adding a rule makes. Assumes nothing.
use mathlib.Core.Path.{◌≡◌}
use mathlib.Core.List.{List}
use Prim.Native.Nat.{ℕ, ◌+◌, ◌*◌, ◌/◌, ◌≤◌}
use native.Mathlib.Omega.{arith}
use lib.ListN.{length}
use Rattle.laws.specs.Cells.{part, put_cell}
use Rattle.laws.proofs.Cells.{part-short}
use Rattle.laws.proofs.Tests.{first_bound}
use Rattle.tables.specs.Tables.{ruleset_width, ruleset_head, rule_width}
use Rattle.tables.specs.Layers.{ruleset_at, ruleset_from, ruleset_to}
use Rattle.judge.specs.Rules.{is_rule, rule_place}
use Rattle.rule.specs.Rule.{place_in, appended}

-- a rule's place is within the table
pub place-small : (rs : List ℕ) (r ty key : ℕ) → place_in rs r ty key ≤ length rs
unfolding rule_place ruleset_at
place-small rs r ty key =
    let rules = part rs (ruleset_from r) (ruleset_to rs r) in
    let b = first_bound (is_rule rules ty key) (length rules / rule_width) in
    let s = part-short rs (ruleset_from r) (ruleset_to rs r) in
    omega arith

-- where the cells of rule i begin in the row, and a cell of row r written
abbrev pub rule_start : ℕ → ℕ
rule_start i = ruleset_head + rule_width * i

abbrev pub put : ℕ → List ℕ → ℕ → ℕ → List ℕ
put r xs k v = put_cell xs ruleset_width r k v

-- the cells of a new rule, written one after the other
module _ (rs : List ℕ) (r i ty key rights : ℕ) where
  pub append-is : {a b c d : List ℕ} → a ≡ put r rs (rule_start i) ty → b ≡ put r a (rule_start i + 1) key → c ≡ put r b (rule_start i + 2) rights → d ≡ put r c 3 (i + 1) → d ≡ appended rs r i ty key rights
  unfolding appended
  append-is p q s t =
      let e : ruleset_head + (rule_width * i + 0) ≡ rule_start i = omega arith in
      let f : ruleset_head + (rule_width * i + 1) ≡ rule_start i + 1 = omega arith in
      let g : ruleset_head + (rule_width * i + 2) ≡ rule_start i + 2 = omega arith in
      rw (e, f, g) (cc)

-- How the loop over the rules comes to its answer. Assumes nothing.
use mathlib.Core.Path.{◌≡◌, sym}
use mathlib.Core.Bool.{Bool, true, false}
use mathlib.Core.List.{List}
use Prim.Native.Nat.{ℕ, ◌<◌, ◌≤◌}
use Rattle.laws.specs.Tests.{all_below}
use Rattle.laws.proofs.Bools.{split, clash}
use Rattle.laws.proofs.Conditions.{last, holds, all-is}
use Rattle.laws.proofs.Tests.{all-at, all_done, all_of-at}
use Rattle.tables.specs.Tables.{rule_type, rule_key, rule_rights}
use Rattle.sound_rules.specs.Rules.{cells_sound, rule_sound, new_key, rule_count, rules_sound}

module _ (es : List ℕ) (next fs net : ℕ) (rules : List ℕ) where
  -- the cells of rule i, read once
  pub rule-is : (i ty key rights : ℕ) (r : Bool) → ty ≡ rule_type rules i → key ≡ rule_key rules i → rights ≡ rule_rights rules i
      → r ≡ cells_sound es next fs net ty key rights → rule_sound es next fs net rules i ≡ r
  unfolding rule_sound
  rule-is i ty key rights r t k g e = rw (← t, ← k, ← g) (sym e)

  module _ (i : ℕ) where
    -- rule i is not sound
    pub rule_fails : i < rule_count rules → rule_sound es next fs net rules i ≡ false → false ≡ rules_sound es next fs net rules
    unfolding rules_sound
    rule_fails l h =
        split (rules_sound es next fs net rules)
        (λ e. clash (rule_sound es next fs net rules i) (all-at (rule_sound es next fs net rules) (rule_count rules) i (all_of-at _ 0 e) l) h)
        (λ e. sym e)

    -- the key of rule i is not new
    pub key_fails : i < rule_count rules → new_key rules i ≡ false → false ≡ rules_sound es next fs net rules
    unfolding rules_sound
    key_fails l h =
        split (rules_sound es next fs net rules)
        (λ e. clash (new_key rules i) (all-at (new_key rules) (rule_count rules) i (all_of-at _ 1 e) l) h)
        (λ e. sym e)

    -- every rule was passed
    pub all-passed : i ≤ rule_count rules → rule_count rules ≤ i → all_below (rule_sound es next fs net rules) i ≡ true → all_below (new_key rules) i ≡ true
        → true ≡ rules_sound es next fs net rules
    unfolding rules_sound
    all-passed a b s k =
        all-is
        (holds (sym (all_done (rule_sound es next fs net rules) (rule_count rules) i a b s)) (last (all_done (new_key rules) (rule_count rules) i a b k)))

-- What a rule's pick tells of the rule, and the tests over all rules. Assumes nothing.
use mathlib.Core.Path.{◌≡◌, refl, sym, ap, ◌∙◌}
use mathlib.Core.Bool.{Bool, true, false, cond, ◌&&◌, ◌||◌}
use mathlib.Core.List.{List}
use Prim.Native.Nat.{ℕ, zero, suc, ◌+◌, ◌≤◌, ◌<◌}
use native.Mathlib.Omega.{arith}
use lib.Dec.{eqb, ltb}
use lib.ListN.{length, get_or, set}
use lib.Seq.{get_or-set_same, get_or-set_other}
use borrow.Author.Tests.{eq-eqb, ne_eqb, eqb-true, eqb-false}
use Rattle.laws.specs.Tests.{any_below}
use Rattle.laws.proofs.Bools.{split}
use Rattle.tables.specs.Tables.{object, path_rule, rule_type, rule_key, rule_rights}
use Rattle.sound_rules.specs.Rules.{rule_count}
use Rattle.rule.specs.Rule.{sweeping}
use Rattle.names.specs.Paths.{max_path, path_of}
use Rattle.policy_write.specs.Chosen.{chosen, chosen_path}
use Rattle.policy_write.specs.File.{any_path}
use Rattle.policy_picks.specs.Picks.{pick_of, Picks, pick_at, any_pick, sweeps_at}

-- ---- one rule
module _ (rules : List ℕ) (i : ℕ) {t : ℕ} (q : t ≡ rule_type rules i) where
  pub pick_other : (es ns : List ℕ) → (t ≡ path_rule → ⊥) → 0 ≡ pick_of es ns rules i
  unfolding pick_of
  pick_other es ns n = rw (ne_eqb (rule_type rules i) path_rule (λ e. n (q ∙ e))) refl

  pub pick-path : (es ns : List ℕ) → t ≡ path_rule → {k r : ℕ} → k ≡ rule_key rules i → r ≡ chosen es ns k → r ≡ pick_of es ns rules i
  unfolding pick_of
  pick-path es ns e k r = rw (eq-eqb (rule_type rules i) path_rule (sym q ∙ e)) (r ∙ ap (chosen es ns) k)

  pub at_other : (test : ℕ → Bool) (picks : List ℕ) → (t ≡ path_rule → ⊥) → false ≡ pick_at test rules picks i
  unfolding pick_at
  at_other test picks n = rw (ne_eqb (rule_type rules i) path_rule (λ e. n (q ∙ e))) refl

  pub at_path : (test : ℕ → Bool) (picks : List ℕ) → t ≡ path_rule → {b : Bool} → b ≡ test (get_or picks i 0) → b ≡ pick_at test rules picks i
  unfolding pick_at
  at_path test picks e b = rw (eq-eqb (rule_type rules i) path_rule (sym q ∙ e)) b

-- of a path rule it is the entry that is chosen for its object
pub picked-path : (es ns rules picks : List ℕ) → Picks es ns rules picks → (i : ℕ) → i < rule_count rules → rule_type rules i ≡ path_rule → get_or picks i 0 ≡ chosen es ns (rule_key rules i)
unfolding pick_of
picked-path es ns rules picks P i h t = P.picked i h ∙ rw (eq-eqb (rule_type rules i) path_rule t) refl

-- ---- a turn of the loop that fills cells
pub filled_more : (f : ℕ → ℕ) (xs : List ℕ) (i v : ℕ) → i < length xs → ((j : ℕ) → j < i → get_or xs j 0 ≡ f j) → v ≡ f i → (j : ℕ) → j < i + 1 → get_or (set xs i v) j 0 ≡ f j
filled_more f xs i v h before e j m = split (eqb j i)
    (λ q. let z = eqb-true j i q in rw z (get_or-set_same xs i v 0 h ∙ e))
    (λ q. let z = eqb-false j i q in get_or-set_other xs i j v 0 z ∙ before j (omega arith))

-- ---- all rules
same-any : (p q : ℕ → Bool) (n : ℕ) → ((i : ℕ) → i < n → p i ≡ q i) → any_below p n ≡ any_below q n
unfolding any_below
same-any p q zero f = refl
same-any p q (suc n) f = rw (same-any p q n (λ i h. f i (omega arith)), f n (omega arith)) refl

pub sweeps_any : (es rules : List ℕ) → any_below (sweeps_at es rules) (rule_count rules) ≡ any_path (λ o rights. eqb o (object es 0) && sweeping 0 rights) rules
unfolding any_path sweeps_at
sweeps_any es rules = same-any (sweeps_at es rules) (λ i. eqb (rule_type rules i) path_rule && (eqb (rule_key rules i) (object es 0) && sweeping 0 (rule_rights rules i))) (rule_count rules) (λ i h. refl)

pub pick-any : (test : ℕ → Bool) (es ns rules picks : List ℕ) → Picks es ns rules picks → any_pick test rules picks ≡ any_path (λ o rights. test (chosen es ns o)) rules
unfolding any_pick any_path pick_at
pick-any test es ns rules picks P = same-any (pick_at test rules picks) (λ i. eqb (rule_type rules i) path_rule && test (chosen es ns (rule_key rules i))) (rule_count rules)
    (λ i h. split (eqb (rule_type rules i) path_rule) (λ e. rw e (ap test (picked-path es ns rules picks P i h (eqb-true (rule_type rules i) path_rule e)))) (λ e. rw e refl))

pub overlong_any : (es ns rules picks : List ℕ) → Picks es ns rules picks
    → any_pick (λ e. ltb max_path (length (path_of es ns e))) rules picks ≡ any_path (λ o rights. ltb max_path (length (chosen_path es ns o))) rules
unfolding chosen_path
overlong_any es ns rules picks P = pick-any (λ e. ltb max_path (length (path_of es ns e))) es ns rules picks P

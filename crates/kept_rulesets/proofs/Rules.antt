-- A row with a rule's rights joined, and a row with a rule more, by the row's cells. Assumes nothing.
use mathlib.Core.Path.{◌≡◌, refl, sym, ap, ◌∙◌}
use mathlib.Core.List.{List}
use Prim.Native.Nat.{ℕ, ◌+◌, ◌<◌}
use native.Mathlib.Omega.{arith}
use lib.Dec.{eqb}
use borrow.Author.Tests.{eqb-true, eqb-false}
use Rattle.laws.proofs.Bools.{split}
use Rattle.access.specs.Rights.{join, file_set}
use Rattle.access.specs.Limits.{max_rules}
use Rattle.access.proofs.Laws.{within-join, join-some}
use Rattle.rule.specs.Rule.{rule_cell}
use Rattle.kept_rulesets.proofs.Rows.{Rule, rule-same, Row}

-- two rules for one object or port, their rights joined
rule-join : {es : List ℕ} {next fs net ty key a b : ℕ} → Rule es next fs net ty key a → Rule es next fs net ty key b → Rule es next fs net ty key (join a b)
rule-join {es} {next} {fs} {net} {ty} {key} {a} {b} A B = record {
  typed = A.typed;
  path = λ t. record {
    below = (A.path t).below;
    some = join-some a b (A.path t).some;
    asked = within-join a b fs (A.path t).asked (B.path t).asked;
    fits = λ e l v d o. within-join a b file_set ((A.path t).fits e l v d o) ((B.path t).fits e l v d o);
  };
  port = λ t. record {
    in_range_lem = (A.port t).in_range_lem;
    some = join-some a b (A.port t).some;
    asked = within-join a b net (A.port t).asked (B.port t).asked;
  };
}

module _ (es : List ℕ) (next level : ℕ) (c c' : ℕ → ℕ) (R : Row es next level c) (ty key rights : ℕ) (new : Rule es next (c 0) (c 1) ty key rights) where
  -- rule p is for the key, and its rights are joined
  module _ (p : ℕ) (small : p < c 3) (of-type : c (rule_cell p 0) ≡ ty) (of-key : c (rule_cell p 1) ≡ key)
      (wider : c' (rule_cell p 2) ≡ join (c (rule_cell p 2)) rights) (same : (k : ℕ) → (k ≡ rule_cell p 2 → ⊥) → c' k ≡ c k) where
    pub row_joined : Row es next level c'
    row_joined =
        let n : c' 3 ≡ c 3 = same 3 (omega arith) in
        let few = R.few in
        let type-same : (i : ℕ) → c' (rule_cell i 0) ≡ c (rule_cell i 0) = λ i. same (rule_cell i 0) (omega arith) in
        let key-same : (i : ℕ) → c' (rule_cell i 1) ≡ c (rule_cell i 1) = λ i. same (rule_cell i 1) (omega arith) in
        record {
          few = omega arith;
          masks = rw (same 0 (omega arith), same 1 (omega arith), same 2 (omega arith)) R.masks;
          rest = λ k a b. same k (omega arith) ∙ R.rest k (omega arith) b;
          each = λ i l. split (eqb i p)
              (λ q. let e = eqb-true i p q in
              rw e
              (rule-same (same 0 (omega arith)) (same 1 (omega arith)) (type-same p) (key-same p) wider
              (rule-join (R.each p small) (rule-same refl refl of-type of-key refl new))))
              (λ q. let d = eqb-false i p q in
              rule-same (same 0 (omega arith)) (same 1 (omega arith)) (type-same i) (key-same i) (same (rule_cell i 2) (omega arith)) (R.each i (omega arith)));
          apart = λ i j l m t k. R.apart i j (omega arith) (omega arith) (sym (type-same i) ∙ t ∙ type-same j) (sym (key-same i) ∙ k ∙ key-same j);
        }

  -- no rule is for the key, and there is room for one
  module _ (room : c 3 < max_rules) (none : (i : ℕ) → i < c 3 → c (rule_cell i 0) ≡ ty → c (rule_cell i 1) ≡ key → ⊥)
      (one_more : c' 3 ≡ c 3 + 1) (put-type : c' (rule_cell (c 3) 0) ≡ ty) (put-key : c' (rule_cell (c 3) 1) ≡ key) (put-rights : c' (rule_cell (c 3) 2) ≡ rights)
      (same : (k : ℕ) → (k ≡ 3 → ⊥) → (k ≡ rule_cell (c 3) 0 → ⊥) → (k ≡ rule_cell (c 3) 1 → ⊥) → (k ≡ rule_cell (c 3) 2 → ⊥) → c' k ≡ c k) where
    -- the cells of a rule that was there
    old : (i k : ℕ) → i < c 3 → k < 3 → c' (rule_cell i k) ≡ c (rule_cell i k)
    old i k l m = same (rule_cell i k) (omega arith) (omega arith) (omega arith) (omega arith)

    -- a rule that was there is not for the key
    old_new : (i j : ℕ) → i < c 3 → j ≡ c 3 → c' (rule_cell i 0) ≡ c' (rule_cell j 0) → c' (rule_cell i 1) ≡ c' (rule_cell j 1) → ⊥
    old_new i j l e t k =
        none i l
        (sym (old i 0 l (omega arith)) ∙ t ∙ ap (λ (m : ℕ). c' (rule_cell m 0)) e ∙ put-type)
        (sym (old i 1 l (omega arith)) ∙ k ∙ ap (λ (m : ℕ). c' (rule_cell m 1)) e ∙ put-key)

    pub row_appended : Row es next level c'
    row_appended =
        let fs-same : c' 0 ≡ c 0 = same 0 (omega arith) (omega arith) (omega arith) (omega arith) in
        let net-same : c' 1 ≡ c 1 = same 1 (omega arith) (omega arith) (omega arith) (omega arith) in
        record {
          few = omega arith;
          masks = rw (fs-same, net-same, same 2 (omega arith) (omega arith) (omega arith) (omega arith)) R.masks;
          rest = λ k a b. same k (omega arith) (omega arith) (omega arith) (omega arith) ∙ R.rest k (omega arith) b;
          each = λ i l. split (eqb i (c 3))
              (λ q. rw (eqb-true i (c 3) q) (rule-same fs-same net-same put-type put-key put-rights new))
              (λ q. let d = eqb-false i (c 3) q in
              let m : i < c 3 = omega arith in
              rule-same fs-same net-same (old i 0 m (omega arith)) (old i 1 m (omega arith)) (old i 2 m (omega arith)) (R.each i m));
          apart = λ i j l m t k. split (eqb i (c 3))
              (λ q. let e = eqb-true i (c 3) q in
              split (eqb j (c 3)) (λ u. e ∙ sym (eqb-true j (c 3) u))
              (λ u. let d = eqb-false j (c 3) u in absurd (old_new j i (omega arith) e (sym t) (sym k))))
              (λ q. let d = eqb-false i (c 3) q in
              let a : i < c 3 = omega arith in
              split (eqb j (c 3)) (λ u. absurd (old_new i j a (eqb-true j (c 3) u) t k))
              (λ u. let f = eqb-false j (c 3) u in
              let b : j < c 3 = omega arith in
              R.apart i j a b (sym (old i 0 a (omega arith)) ∙ t ∙ old j 0 b (omega arith)) (sym (old i 1 a (omega arith)) ∙ k ∙ old j 1 b (omega arith))));
        }

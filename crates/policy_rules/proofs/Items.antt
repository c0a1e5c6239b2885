-- What the code's tests tell of the first field of a part. Assumes nothing.
use mathlib.Core.Path.{◌≡◌, ap, ◌∙◌}
use mathlib.Core.Bool.{true, false}
use mathlib.Core.List.{List, [], ◌∷◌}
use Prim.Native.Nat.{ℕ, ◌+◌, ◌-◌, ◌≤◌, ◌<◌}
use native.Mathlib.Omega.{arith}
use lib.ListN.{length, get_or, drop}
use borrow.Author.Tests.{le-leb, lt-leb}
use Rattle.laws.specs.Cells.{part}
use Rattle.laws.proofs.Bools.{split}
use Rattle.laws.proofs.Cells.{part_length}
use Rattle.access.specs.Limits.{max_level}
use Rattle.policy.specs.Fields.{group_tag, header, group_header, field, stray, size, pieces, front}
use Rattle.policy.specs.Front.{WholeAt}
use Rattle.policy.specs.Grammar.{each, tested, is_rule, is_level, rule}
use Rattle.policy.specs.declared.Read.TheVariants.{Next, Fault}
use Rattle.policy.proofs.Parts.{part_none, drop-part, part-first}
use Rattle.policy.proofs.Pieces.{part-front}
use Rattle.policy.proofs.Grammar.{rule_group, rule_deeper, rule_no_level, rule-stray, rule-other, level-some, rule-ends, each_next}
use Rattle.policy.proofs.Walks.{front-whole}
use Rattle.policy_rules.specs.Items.{rule_at, group_at, ItemIs}
use Rattle.policy_rules.specs.declared.Item.{Item}
use Rattle.policy_rules.specs.declared.Item.TheVariants.{Group, Bad}

-- ---- a group's level
module _ (f : List ℕ) (at next : ℕ) (le : next ≤ length f) where
  level_byte : at + group_header ≤ next → get_or (part f (at + header) next) 0 0 ≡ get_or f (at + header) 0
  level_byte h = part-first f (at + header) next (omega arith) le

  pub no_level : at + header ≤ next → next < at + group_header → Bad ≡ group_at f at next
  unfolding group_at is_level
  no_level g h = let e : next ≡ at + header = omega arith in rw (e, part_none f (at + header))

  module _ (h : at + group_header ≤ next) where
    pub level_low : get_or f (at + header) 0 < 1 → Bad ≡ group_at f at next
    unfolding group_at is_level
    level_low k = rw (level_byte h, lt-leb 1 (get_or f (at + header) 0) k)

    pub level_high : 1 ≤ get_or f (at + header) 0 → max_level < get_or f (at + header) 0 → Bad ≡ group_at f at next
    unfolding group_at is_level
    level_high j k = rw (level_byte h, le-leb 1 (get_or f (at + header) 0) j, lt-leb (get_or f (at + header) 0) max_level k)

    pub level-fine : 1 ≤ get_or f (at + header) 0 → get_or f (at + header) 0 ≤ max_level → Group (record { at = at + group_header; end = next }) ≡ group_at f at next
    unfolding group_at is_level
    level-fine j k = rw (level_byte h, le-leb 1 (get_or f (at + header) 0) j, le-leb (get_or f (at + header) 0) max_level k)

-- ---- what a field is
module _ (f : List ℕ) (d at end : ℕ) where
  pub bad_cut : (s : List ℕ) → pieces (part f at end) ≡ stray s ∷ [] → rule_at f d at end ≡ Fault at
  unfolding front
  bad_cut s e = rw e (rule-stray d at s)

  module _ (tag next : ℕ) (le : end ≤ length f) (w : WholeAt f at end tag next) where
    abbrev value : List ℕ
    value = part f (at + header) next

    length_value : length value ≡ next - (at + header)
    length_value = part_length f (at + header) next (omega arith)

    is_field : rule_at f d at end ≡ rule d at (field tag value)
    is_field = ap (rule d at) (front-whole f at end le tag next w)

    pub too_deep : tag ≡ group_tag → d ≡ 0 → rule_at f d at end ≡ Fault at
    too_deep t z = is_field ∙ rw (t, z) (rule_deeper at value)

    -- no group: a rule, or faulty
    module _ (t : tag ≡ group_tag → ⊥) where
      by_test : rule_at f d at end ≡ tested (is_rule tag (next - at - header)) at (field tag value)
      by_test = let l : length value ≡ next - at - header = omega (arith, length_value) in is_field ∙ rule-other d at tag value t ∙ rw l

      pub is-a-rule : is_rule tag (next - at - header) ≡ true → rule_at f d at end ≡ Next next
      unfolding tested size
      is-a-rule e = let l = length_value in let n : length value + header + at ≡ next = omega arith in by_test ∙ rw e (ap Next (omega arith))

      pub no_rule : is_rule tag (next - at - header) ≡ false → rule_at f d at end ≡ Fault at
      unfolding tested
      no_rule e = by_test ∙ rw e

    pub is_a_group : (r : Item) → tag ≡ group_tag → (d ≡ 0 → ⊥) → r ≡ group_at f at next → ItemIs f d at end r
    unfolding group_at
    is_a_group r t z e =
        let is-group : rule_at f d at end ≡ rule d at (field group_tag value) = is_field ∙ ap (λ (k : ℕ). rule d at (field k value)) t in
        rw e
        (split (is_level value)
        (λ level.
        let some = level-some value level in
        let four : at + header + 1 ≡ at + group_header = omega arith in
        let inside : drop 1 value ≡ part f (at + group_header) next = drop-part f 1 (at + header) next ∙ rw four in
        rw level
        (record {
          after = omega arith;
          ordered = omega (arith, length_value);
          inside = w.inside;
          deep = omega arith;
          answer = is-group ∙ rule_group d at value (omega arith) level ∙ ap (λ (v : List ℕ). each (rule (d - 1)) (at + group_header) (pieces v)) inside;
        }))
        (λ level. rw level (is-group ∙ rule_no_level d at value level)))

-- a turn of the group reader
pub turn : (d : ℕ) (f : List ℕ) (at end n : ℕ) → end ≤ length f → at < end → rule_at f d at end ≡ Next n →
    (at < n) × (n ≤ end) × (each (rule d) at (pieces (part f at end)) ≡ each (rule d) n (pieces (part f n end)))
turn d f at end n le lt e =
    let q : n ≡ at + size (front (pieces (part f at end))) = rule-ends d at _ n e in
    let s = part-front f at end le lt in
    (omega arith, omega arith, each_next (rule d) f at end le lt n e q)

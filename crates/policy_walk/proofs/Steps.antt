-- One step of the walk, on parts of a file. Assumes nothing.
use mathlib.Core.Path.{◌≡◌, refl, sym, ap, ◌∙◌}
use mathlib.Core.Bool.{true, false, ◌&&◌}
use mathlib.Core.List.{List, [], ◌∷◌, ◌++◌}
use Prim.Native.Nat.{ℕ, ◌+◌, ◌≤◌, ◌<◌}
use native.Mathlib.Omega.{arith}
use lib.Dec.{eqb, leb}
use lib.ListN.{length, get_or, drop}
use borrow.Author.Tests.{le-leb, lt-leb, leb-true, leb-false, eq-eqb, ne_eqb}
use Rattle.laws.specs.Cells.{part}
use Rattle.laws.proofs.Bools.{split, and_l, or_l, or_r, clash}
use Rattle.laws.proofs.Cells.{part_length}
use Rattle.policy.specs.Fields.{path_tag, port_tag, group_tag, header, group_header, field, stray, size, pieces, front}
use Rattle.policy.specs.Front.{WholeAt}
use Rattle.policy.specs.Meaning.{rule_of}
use Rattle.policy.proofs.Parts.{part_none, drop-part, part-first, part-append}
use Rattle.policy.proofs.Walks.{front-whole, whole-ends}
use Rattle.policy_walk.specs.Flat.{flat_step, flatten}
use Rattle.policy_walk.specs.Steps.{is_rule_tag, past_group}
use Rattle.policy_walk.proofs.Flat.{flatten_nil, flatten-step}

-- ---- behind a group, or in it
module _ (f : List ℕ) (at next level : ℕ) where
  pub past-short : next < at + group_header → next ≡ past_group f at next level
  unfolding past_group
  past-short h = rw (lt-leb (at + group_header) next h)

  pub past_higher : at + group_header ≤ next → level < get_or f (at + header) 0 → next ≡ past_group f at next level
  unfolding past_group
  past_higher h k = rw (le-leb (at + group_header) next h, lt-leb (get_or f (at + header) 0) level k)

  pub past-reached : at + group_header ≤ next → get_or f (at + header) 0 ≤ level → at + group_header ≡ past_group f at next level
  unfolding past_group
  past-reached h k = rw (le-leb (at + group_header) next h, le-leb (get_or f (at + header) 0) level k)

  -- it goes on after the field's tag, and not past its end
  pub past-on : {r : ℕ} → at + header ≤ next → r ≡ past_group f at next level → (at < r) × (r ≤ next)
  unfolding past_group
  past-on {r} h e =
      let b = leb (get_or f (at + header) 0) level in
      split (leb (at + group_header) next && b)
      (λ q. let k = leb-true (at + group_header) next (and_l (leb (at + group_header) next) b q) in let x : r ≡ at + group_header = e ∙ rw q in (omega arith, omega arith))
      (λ q. let x : r ≡ next = e ∙ rw q in (omega arith, omega arith))

-- ---- the rules from a place on
no_group : (t : ℕ) → is_rule_tag t ≡ true → (t ≡ group_tag → ⊥)
unfolding is_rule_tag
no_group t r e = clash (is_rule_tag group_tag) (rw e at r) refl

module _ (level : ℕ) (f : List ℕ) (at end : ℕ) (le : end ≤ length f) (lt : at < end) where
  some_left : 0 < length (part f at end)
  some_left = let l = part_length f at end le in omega arith

  pub at_cut : pieces (part f at end) ≡ stray (part f at end) ∷ [] → flatten level (part f at end) ≡ []
  unfolding flat_step front
  at_cut e = flatten-step level (part f at end) some_left ∙ rw e

  module _ (t n : ℕ) (w : WholeAt f at end t n) where
    abbrev value : List ℕ
    value = part f (at + header) n

    at_field : flatten level (part f at end) ≡ flat_step (flatten level) level (part f n end) (field t value)
    at_field =
        let p : front (pieces (part f at end)) ≡ field t value = front-whole f at end le t n w in
        let z : at + size (front (pieces (part f at end))) ≡ n = sym (whole-ends f at end le t n w) in
        flatten-step level (part f at end) some_left ∙ rw (drop-part f (size (front (pieces (part f at end)))) at end, z, p)

    at_plain : (t ≡ group_tag → ⊥) → flatten level (part f at end) ≡ rule_of t value ++ flatten level (part f n end)
    unfolding flat_step
    at_plain q = at_field ∙ rw (ne_eqb t group_tag q)

    pub at-rule : is_rule_tag t ≡ true → flatten level (part f at end) ≡ rule_of t value ++ flatten level (part f n end)
    at-rule r = at_plain (no_group t r)

    pub at_other : is_rule_tag t ≡ false → (t ≡ group_tag → ⊥) → flatten level (part f at end) ≡ flatten level (part f n end)
    unfolding rule_of is_rule_tag
    at_other r q = at_plain q ∙ rw (or_l (eqb t path_tag) (eqb t port_tag) r, or_r (eqb t path_tag) (eqb t port_tag) r)

    pub at_group : {r : ℕ} → t ≡ group_tag → r ≡ past_group f at n level → flatten level (part f at end) ≡ flatten level (part f r end)
    unfolding flat_step past_group
    at_group q e =
        rw e
        (split (leb (at + group_header) n)
        (λ a.
        let h : at + group_header ≤ n = leb-true (at + group_header) n a in
        let four : at + header + 1 ≡ at + group_header = omega arith in
        let inner : drop 1 value ++ part f n end ≡ part f (at + group_header) end = ap (λ (l : List ℕ). l ++ part f n end) (drop-part f 1 (at + header) n ∙ ap (λ (k : ℕ). part f k n) four) ∙ part-append f (at + group_header) n end h w.inside in
        let byte : get_or value 0 0 ≡ get_or f (at + header) 0 = part-first f (at + header) n (omega arith) (omega arith) in
        split (leb (get_or f (at + header) 0) level)
        (λ b. rw (a, b) (at_field ∙ rw (eq-eqb t group_tag q, byte, b, inner)))
        (λ b. rw (a, b) (at_field ∙ rw (eq-eqb t group_tag q, byte, b))))
        (λ a.
        let h = leb-false (at + group_header) n a in
        let s : n ≡ at + header = omega arith in
        let none : value ≡ [] = rw s (part_none f (at + header)) in
        rw a (at_field ∙ rw (eq-eqb t group_tag q, none, le-leb 0 level (omega arith)))))

pub at-end : (level : ℕ) (f : List ℕ) (at : ℕ) → flatten level (part f at at) ≡ []
at-end level f at = rw (part_none f at) (flatten_nil level)

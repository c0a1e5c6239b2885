-- Laws of rules and groups: what a field's tests tell, and where reading ends. Assumes nothing.
use mathlib.Core.Path.{◌≡◌, refl, sym, ap, ◌∙◌}
use mathlib.Core.Bool.{Bool, true, false, false≢true}
use mathlib.Core.List.{List, [], ◌∷◌}
use Prim.Native.Nat.{ℕ, zero, suc, ◌+◌, ◌-◌, ◌≤◌, ◌<◌}
use native.Mathlib.Omega.{arith}
use native.Mathlib.Numerals.{sub-one}
use lib.Dec.{eqb}
use lib.ListN.{length, drop, length-drop}
use borrow.Author.Tests.{ne_eqb}
use Rattle.laws.specs.Cells.{part}
use Rattle.laws.proofs.Bools.{split}
use Rattle.policy.specs.Fields.{group_tag, group_header, Piece, field, stray, size, pieces, front}
use Rattle.policy.specs.Grammar.{and_then, each, tested, is_rule, is_level, plain, group_or, rule}
use Rattle.policy.specs.declared.Read.{Read}
use Rattle.policy.specs.declared.Read.TheVariants.{Next, Fault}
use Rattle.policy.proofs.Parts.{part_none}
use Rattle.policy.proofs.Pieces.{sizes, pieces_sizes, pieces_nil, part_step}

-- ---- what is read of a field where d more groups may nest
pub rule_group : (d at : ℕ) (v : List ℕ) → 0 < d → is_level v ≡ true → rule d at (field group_tag v) ≡ each (rule (d - 1)) (at + group_header) (pieces (drop 1 v))
unfolding rule group_or
rule_group zero at v h e = absurd (omega arith)
rule_group (suc d) at v h e = rw (e, sub-one)

pub rule_deeper : (at : ℕ) (v : List ℕ) → rule 0 at (field group_tag v) ≡ Fault at
unfolding rule plain is_rule tested
rule_deeper at v = refl

pub rule_no_level : (d at : ℕ) (v : List ℕ) → is_level v ≡ false → rule d at (field group_tag v) ≡ Fault at
unfolding rule group_or plain is_rule tested
rule_no_level zero at v e = refl
rule_no_level (suc d) at v e = rw e

pub rule-stray : (d at : ℕ) (s : List ℕ) → rule d at (stray s) ≡ Fault at
unfolding rule plain group_or
rule-stray zero at s = refl
rule-stray (suc d) at s = refl

pub rule-other : (d at t : ℕ) (v : List ℕ) → (t ≡ group_tag → ⊥) → rule d at (field t v) ≡ tested (is_rule t (length v)) at (field t v)
unfolding rule plain group_or
rule-other zero at t v h = refl
rule-other (suc d) at t v h = rw (ne_eqb t group_tag h)

-- ---- where reading ends
pub fault_next : {A : Type 0} (m n : ℕ) → Fault m ≡ Next n → A
fault_next m n e = absurd (let z : ◌≡◌ {A = ℕ} 0 1 = cc in omega arith)

-- both were fine
pub then_both : (q r : Read) (n : ℕ) → and_then q r ≡ Next n → (m : ℕ) × (q ≡ Next m) × (r ≡ Next n)
unfolding and_then
then_both (Next m) r n e = (m, refl, e)
then_both (Fault m) r n e = fault_next m n e

each-ends : (g : ℕ → Piece → Read) (at : ℕ) (ps : List Piece) (n : ℕ) → each g at ps ≡ Next n → n ≡ at + sizes ps
unfolding each sizes
each-ends g at [] n e = let q : at ≡ n = cc in omega arith
each-ends g at (p ∷ ps) n e = let k = each-ends g (at + size p) ps n (then_both (g at p) (each g (at + size p) ps) n e).2 in omega arith

pub tested-ends : (b : Bool) (at : ℕ) (p : Piece) (n : ℕ) → tested b at p ≡ Next n → n ≡ at + size p
unfolding tested
tested-ends true at p n e = let q : at + size p ≡ n = cc in sym q
tested-ends false at p n e = fault_next at n e

plain-ends : (at : ℕ) (p : Piece) (n : ℕ) → plain at p ≡ Next n → n ≡ at + size p
unfolding plain
plain-ends at (stray s) n e = fault_next at n e
plain-ends at (field t v) n e = tested-ends (is_rule t (length v)) at (field t v) n e

-- a value with a level is not empty
pub level-some : (v : List ℕ) → is_level v ≡ true → 1 ≤ length v
unfolding is_level
level-some [] e = absurd (false≢true e)
level-some (x ∷ v) e = omega arith

group_or-ends : (inner : ℕ → Piece → Read) (at : ℕ) (p : Piece) (n : ℕ) → group_or inner at p ≡ Next n → n ≡ at + size p
unfolding group_or size
group_or-ends inner at (stray s) n e = fault_next at n e
group_or-ends inner at (field t v) n e =
    split (eqb t group_tag)
    (λ five. split (is_level v)
    (λ level.
    let k = each-ends inner (at + group_header) (pieces (drop 1 v)) n (rw (five, level) at e) in
    let s = pieces_sizes (drop 1 v) in
    let l = length-drop 1 v in
    let some = level-some v level in
    omega arith)
    (λ level. fault_next at n (rw (five, level) at e)))
    (λ other. plain-ends at (field t v) n (rw other at e))

pub rule-ends : (d at : ℕ) (p : Piece) (n : ℕ) → rule d at p ≡ Next n → n ≡ at + size p
unfolding rule
rule-ends zero at p n e = plain-ends at p n e
rule-ends (suc d) at p n e = group_or-ends (rule d) at p n e

-- ---- one field of a part is read, and reading goes on after it
module _ (g : ℕ → Piece → Read) (f : List ℕ) (at end : ℕ) (le : end ≤ length f) (lt : at < end) where
  abbrev here : Piece
  here = front (pieces (part f at end))

  each_step : each g at (pieces (part f at end)) ≡ and_then (g at here) (each g (at + size here) (pieces (part f (at + size here) end)))
  each_step = ap (each g at) (part_step f at end le lt) ∙ unfold each in refl

  pub each_next : (n : ℕ) → g at here ≡ Next n → n ≡ at + size here → each g at (pieces (part f at end)) ≡ each g n (pieces (part f n end))
  each_next n e q = each_step ∙ rw (e, q) (unfold and_then in refl)

  pub each_fault : (n : ℕ) → g at here ≡ Fault n → each g at (pieces (part f at end)) ≡ Fault n
  each_fault n e = each_step ∙ rw e (unfold and_then in refl)

pub each-done : (g : ℕ → Piece → Read) (f : List ℕ) (at : ℕ) → each g at (pieces (part f at at)) ≡ Next at
unfolding each
each-done g f at = rw (part_none f at, pieces_nil)

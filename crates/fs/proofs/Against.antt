-- What a layer denies at the two directories decides what it holds against a move. Assumes nothing.
use mathlib.Core.Path.{◌≡◌, refl, sym, ap, ap₂, ◌∙◌}
use mathlib.Core.Bool.{Bool, true, false, not, ◌&&◌, and-true, and-false}
use mathlib.Core.List.{List}
use Prim.Native.Nat.{ℕ}
use lib.Dec.{eqb}
use borrow.Author.Tests.{eqb-true}
use Rattle.laws.proofs.Bools.{split, and_l, or_left, or_right}
use Rattle.access.specs.Rights.{has, join, meet, without, REFER}
use Rattle.access.proofs.Laws.{has_join, has_meet, has-without, has-none, ext_has}
use Rattle.tables.specs.Tables.{path_rule}
use Rattle.tables.specs.Layers.{Layer}
use Rattle.judge.specs.Rules.{rights_on}
use Rattle.judge.specs.Judge.{denied, missing}
use Rattle.judge.proofs.Laws.{has-missing, missing-denied}
use Rattle.fs.specs.declared.verdict.Move.{Move}
use Rattle.fs.specs.Move.{denied_needs, denied_refer, uncontained, escaping}
use Rattle.fs.specs.Against.{compared, at_source, at_target, needs_against, refer_against, escaping_against, crossed_against}
use Rattle.fs.specs.Blame.{crossed}

-- ---- a set d that agrees with what the layer denies at e, on the rights n that matter there: what a climb found missing of n, or all that is denied
pub record Agrees (es : List ℕ) (L : Layer) (e n d : ℕ) : Type 0 where
  pub on : (i : ℕ) → has n i ≡ true → has d i ≡ has (denied es L e) i

module _ (es : List ℕ) (L : Layer) (e : ℕ) where
  -- what code found missing of the rights a and w
  pub missing_agrees : (a v : ℕ) {w n d : ℕ} → w ≡ v → n ≡ join a w → d ≡ missing es L e n → Agrees es L e (join a v) d
  missing_agrees a v p q r = record {
    on = λ i h. ap (λ (x : ℕ). has x i) (r ∙ ap (missing es L e) (q ∙ ap (join a) p)) ∙ missing-denied es L e (join a v) i ∙ rw h refl;
  }

  -- all that is denied
  pub denied_agrees : (n : ℕ) {d : ℕ} → d ≡ denied es L e → Agrees es L e n d
  denied_agrees n q = record { on = λ i h. ap (λ (x : ℕ). has x i) q }

  module _ (n d : ℕ) (a : Agrees es L e n d) (p : ℕ) (h : (i : ℕ) → has p i ≡ true → has n i ≡ true) where
    -- within a part p of n: what is denied of it
    part-denied : meet d p ≡ missing es L e p
    part-denied = ext_has (meet d p) (missing es L e p) (λ i.
        has_meet d p i
        ∙ inside (has p i) (has d i) (has (denied es L e) i) (λ k. a.on i (h i k))
        ∙ sym (missing-denied es L e p i))
      where
        inside : (b x y : Bool) → (b ≡ true → x ≡ y) → (x && b) ≡ (b && y)
        inside true x y f = and-true x ∙ f refl
        inside false x y f = and-false x

    -- and what is left of it
    part_left : without p d ≡ without p (denied es L e)
    part_left = ext_has (without p d) (without p (denied es L e)) (λ i.
        has-without p d i
        ∙ outside (has p i) (has d i) (has (denied es L e) i) (λ k. a.on i (h i k))
        ∙ sym (has-without p (denied es L e) i))
      where
        outside : (b x y : Bool) → (b ≡ true → x ≡ y) → (b && not x) ≡ (b && not y)
        outside true x y f = ap not (f refl)
        outside false x y f = refl

-- ---- taking away
pub none_left : (a b : ℕ) {r : Bool} → r ≡ eqb a 0 → r ≡ true → a ≡ without a b
none_left a b q t = let z = eqb-true a 0 (sym q ∙ t) in rw z (ext_has 0 (without 0 b) (λ i. has-none i ∙ sym (has-without 0 b i ∙ ap (λ (x : Bool). x && not (has b i)) (has-none i))))

without_swap : (a b c : ℕ) → without (without a b) c ≡ without (without a c) b
without_swap a b c = ext_has (without (without a b) c) (without (without a c) b) (λ i.
    has-without (without a b) c i
    ∙ ap (λ (x : Bool). x && not (has c i)) (has-without a b i)
    ∙ swapped (has a i) (not (has b i)) (not (has c i))
    ∙ sym (has-without (without a c) b i ∙ ap (λ (x : Bool). x && not (has b i)) (has-without a c i)))
  where
    swapped : (x y z : Bool) → ((x && y) && z) ≡ ((x && z) && y)
    swapped true true true = refl
    swapped true true false = refl
    swapped true false true = refl
    swapped true false false = refl
    swapped false y z = refl

-- ---- which sets are parts
join_l : (a b i : ℕ) → has a i ≡ true → has (join a b) i ≡ true
join_l a b i h = has_join a b i ∙ or_left (has a i) (has b i) h

join_r : (a b i : ℕ) → has b i ≡ true → has (join a b) i ≡ true
join_r a b i h = has_join a b i ∙ or_right (has a i) (has b i) h

less : (a b i : ℕ) → has (without a b) i ≡ true → has a i ≡ true
less a b i h = and_l (has a i) (not (has b i)) (sym (has-without a b i) ∙ h)

both_l : (a b i : ℕ) → has (meet a b) i ≡ true → has a i ≡ true
both_l a b i h = and_l (has a i) (has b i) (sym (has_meet a b i) ∙ h)

-- between two directories
apart : (m : Move) → eqb m.source m.target ≡ false → compared m ≡ join m.rights.0 m.back.0
unfolding compared
apart m q = rw q refl

module _ (es : List ℕ) (L : Layer) where
  -- one way: x and y are the sets where it comes from and where it goes, n1 and n2 the rights that matter there
  one_way : (p1 p2 o rights n1 n2 x y : ℕ) → Agrees es L p1 n1 x → Agrees es L p2 n2 y
      → ((i : ℕ) → has rights i ≡ true → has n1 i ≡ true)
      → ((i : ℕ) → has rights i ≡ true → has n2 i ≡ true)
      → without (without (meet x rights) y) (rights_on L.rules path_rule o) ≡ uncontained es L p1 p2 o rights
  unfolding uncontained
  one_way p1 p2 o rights n1 n2 x y a b h k =
      let own = rights_on L.rules path_rule o in
      let held = without (missing es L p1 rights) own in
      without_swap (meet x rights) y own
      ∙ ap (λ (z : ℕ). without (without z own) y) (part-denied es L p1 n1 x a rights h)
      ∙ part_left es L p2 n2 y b held (λ i q. k i (and_l (has rights i) _ (sym (has-missing es L p1 rights i) ∙ less (missing es L p1 rights) own i q)))

-- ---- the two sets, at P1 and at P2
module _ (es : List ℕ) (L : Layer) (m : Move) {d1 d2 : ℕ} (a1 : Agrees es L m.source (at_source m) d1) (a2 : Agrees es L m.target (at_target m) d2) where
  needs_against_lem : needs_against m d1 d2 ≡ denied_needs es L m
  unfolding needs_against denied_needs
  needs_against_lem =
      ap₂ join
      (part-denied es L m.source (at_source m) d1 a1 (without m.leave.0 REFER) (λ i h. join_l m.leave.0 (compared m) i (less m.leave.0 REFER i h)))
      (part-denied es L m.target (at_target m) d2 a2 (without m.enter.0 REFER) (λ i h. join_l m.enter.0 (compared m) i (less m.enter.0 REFER i h)))

  refer_against_lem : refer_against m d1 d2 ≡ denied_refer es L m
  unfolding refer_against denied_refer
  refer_against_lem =
      ap₂ join
      (part-denied es L m.source (at_source m) d1 a1 (meet m.leave.0 REFER) (λ i h. join_l m.leave.0 (compared m) i (both_l m.leave.0 REFER i h)))
      (part-denied es L m.target (at_target m) d2 a2 (meet m.enter.0 REFER) (λ i h. join_l m.enter.0 (compared m) i (both_l m.enter.0 REFER i h)))

  escaping_against_lem : eqb m.source m.target ≡ false
      → escaping_against m d1 d2 (rights_on L.rules path_rule m.object) (rights_on L.rules path_rule m.other) ≡ escaping es L m
  unfolding escaping_against escaping
  escaping_against_lem q =
      ap₂ join
      (one_way es L m.source m.target m.object m.rights.0 (at_source m) (at_target m) d1 d2 a1 a2 (λ i h. join_r m.leave.0 (compared m) i (there i h)) (λ i h. join_r m.enter.0 (compared m) i (there i h)))
      (one_way es L m.target m.source m.other m.back.0 (at_target m) (at_source m) d2 d1 a2 a1 (λ i h. join_r m.enter.0 (compared m) i (back i h)) (λ i h. join_r m.leave.0 (compared m) i (back i h)))
    where
      there : (i : ℕ) → has m.rights.0 i ≡ true → has (compared m) i ≡ true
      there i h = ap (λ (x : ℕ). has x i) (apart m q) ∙ join_l m.rights.0 m.back.0 i h

      back : (i : ℕ) → has m.back.0 i ≡ true → has (compared m) i ≡ true
      back i h = ap (λ (x : ℕ). has x i) (apart m q) ∙ join_r m.rights.0 m.back.0 i h

  crossed_against_lem : crossed_against m d1 d2 (rights_on L.rules path_rule m.object) (rights_on L.rules path_rule m.other) ≡ crossed es L m
  unfolding crossed_against crossed
  crossed_against_lem = split (eqb m.source m.target) (λ q. rw q refl) (λ q. rw (q, refer_against_lem, escaping_against_lem q) refl)

  -- how code comes to both
  pub needs_by : {r : ℕ} → r ≡ needs_against m d1 d2 → r ≡ denied_needs es L m
  needs_by h = h ∙ needs_against_lem

  pub crossed-is : {r : ℕ} → r ≡ crossed_against m d1 d2 (rights_on L.rules path_rule m.object) (rights_on L.rules path_rule m.other) → r ≡ crossed es L m
  crossed-is h = h ∙ crossed_against_lem

-- how code comes to the rights that fail containment
pub escaping_by : (m : Move) (d1 d2 own other : ℕ) {x h t y k s r : ℕ}
    → x ≡ meet d1 m.rights.0
    → h ≡ without x d2
    → t ≡ without h own
    → y ≡ meet d2 m.back.0
    → k ≡ without y d1
    → s ≡ without k other
    → r ≡ join t s
    → r ≡ escaping_against m d1 d2 own other
unfolding escaping_against
escaping_by m d1 d2 own other a1 a2 a3 a4 a5 a6 a7 = rw (a7, a6, a5, a4, a3, a2, a1) refl

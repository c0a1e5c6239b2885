-- A layer that may hold nothing holds nothing. Assumes nothing.
use mathlib.Core.Path.{◌≡◌, refl, sym, ap, ◌∙◌}
use mathlib.Core.Bool.{Bool, true, false, ◌&&◌, not, false≢true}
use Prim.Native.Nat.{ℕ}
use native.Mathlib.Omega.{arith}
use lib.Bits.{and_le_l, and_le_r, or_add_and, or_zero_l}
use lib.Dec.{eqb}
use Rattle.laws.proofs.Bools.{split}
use Rattle.access.specs.Rights.{has, join, meet, without, REFER}
use Rattle.access.proofs.Laws.{has_meet, has-without, has-none, ext_has}
use Rattle.judge.proofs.Climbs.{without-none}
use Rattle.fs.specs.declared.verdict.Move.{Move}
use Rattle.fs.specs.Against.{needs_against, refer_against, escaping_against, crossed_against}
use Rattle.row_walks.specs.Rows.{may_hold}

join-none : (a b : ℕ) → join a b ≡ 0 → (a ≡ 0) × (b ≡ 0)
join-none a b h = let s = or_add_and a b in let l = and_le_l a b in let r = and_le_r a b in (omega arith, omega arith)

none-joined : (a b : ℕ) → a ≡ 0 → b ≡ 0 → join a b ≡ 0
none-joined a b p q = rw (p, q) (or_zero_l 0)

none_in : (x y z : Bool) → (x && y) ≡ false → (x && (y && z)) ≡ false
none_in true true z h = absurd (false≢true (sym h))
none_in true false z h = refl
none_in false y z h = refl

-- of a set that d has nothing of, d has nothing of a part
module _ (d a : ℕ) (h : meet d a ≡ 0) where
  no_right : (i : ℕ) → (has d i && has a i) ≡ false
  no_right i = sym (has_meet d a i) ∙ ap (λ (x : ℕ). has x i) h ∙ has-none i

  part_none : (s : ℕ) (w : ℕ → Bool) → ((i : ℕ) → has s i ≡ (has a i && w i)) → meet d s ≡ 0
  part_none s w e = ext_has (meet d s) 0 (λ i. has_meet d s i ∙ rw (e i) (none_in (has d i) (has a i) (w i) (no_right i)) ∙ sym (has-none i))

  without-part : (b : ℕ) → meet d (without a b) ≡ 0
  without-part b = part_none (without a b) (λ i. not (has b i)) (has-without a b)

  meet-part : (b : ℕ) → meet d (meet a b) ≡ 0
  meet-part b = part_none (meet a b) (has b) (has_meet a b)

module _ (m : Move) (d1 d2 : ℕ) (h : may_hold m d1 d2 ≡ 0) where
  each : ((meet d1 m.leave.0 ≡ 0) × (meet d2 m.enter.0 ≡ 0)) × ((without (meet d1 m.rights.0) d2 ≡ 0) × (without (meet d2 m.back.0) d1 ≡ 0))
  unfolding may_hold
  each = let p = join-none (join (meet d1 m.leave.0) (meet d2 m.enter.0)) _ h in (join-none _ _ p.0, join-none _ _ p.1)

  pub needs-none : 0 ≡ needs_against m d1 d2
  unfolding needs_against
  needs-none = sym (none-joined _ _ (without-part d1 m.leave.0 each.0.0 REFER) (without-part d2 m.enter.0 each.0.1 REFER))

  refer-none : refer_against m d1 d2 ≡ 0
  unfolding refer_against
  refer-none = none-joined _ _ (meet-part d1 m.leave.0 each.0.0 REFER) (meet-part d2 m.enter.0 each.0.1 REFER)

  escaping-none : (own other : ℕ) → escaping_against m d1 d2 own other ≡ 0
  unfolding escaping_against
  escaping-none own other = rw (each.1.0, each.1.1) (none-joined _ _ (without-none own) (without-none other))

  pub crossed-none : (own other : ℕ) → 0 ≡ crossed_against m d1 d2 own other
  unfolding crossed_against
  crossed-none own other = split (eqb m.source m.target) (λ q. rw q refl) (λ q. rw (q, refer-none) (sym (escaping-none own other)))

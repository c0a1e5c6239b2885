-- Climbs in a sound tree, before and after a change. Assumes nothing.
use mathlib.Core.Path.{◌≡◌, refl, sym, ap, ◌∙◌}
use mathlib.Core.Bool.{true, false}
use mathlib.Core.List.{List}
use Prim.Native.Nat.{ℕ, zero, suc, ◌+◌, ◌*◌}
use native.Mathlib.Omega.{arith}
use lib.Dec.{eqb}
use borrow.Author.Tests.{eqb-true, eqb-false}
use Rattle.laws.proofs.Bools.{split, clash}
use Rattle.access.specs.Limits.{max_entries}
use Rattle.tables.specs.Tables.{parent, live, is_dir}
use Rattle.sound_tree.specs.Tree.{reaches}
use Rattle.sound_tree.proofs.Reach.{up, up_add, reach_of}
use Rattle.sound_tree.proofs.Facts.{Tree}
use Rattle.tree.specs.Entries.{above}
use Rattle.kept_tree.proofs.Written.{live_dir}

-- the climb from z comes to entry 0
abbrev pub Reach : List ℕ → ℕ → Type 0
Reach es z = (k : ℕ) × (up es k z ≡ 0)

-- the climb from z never comes to m
abbrev pub Avoids : List ℕ → ℕ → ℕ → Type 0
Avoids es m z = (k : ℕ) → up es k z ≡ m → ⊥

pub root_up : (es : List ℕ) → parent es 0 ≡ 0 → (k : ℕ) → up es k 0 ≡ 0
unfolding up
root_up es h zero = refl
root_up es h (suc k) = rw h (root_up es h k)

pub root_live : (es : List ℕ) (next : ℕ) → Tree es next → live es 0 ≡ true
unfolding live
root_live es next Z = rw Z.root_dir

pub up_live : (es : List ℕ) → ((e : ℕ) → live es e ≡ true → is_dir es (parent es e) ≡ true) → (k z : ℕ) → live es z ≡ true → live es (up es k z) ≡ true
unfolding up
up_live es d zero z a = a
up_live es d (suc k) z a = up_live es d k (parent es z) (live_dir es (parent es z) (d z a))

pub step_reach : (es : List ℕ) (z : ℕ) → Reach es (parent es z) → Reach es z
unfolding up
step_reach es z r = (suc r.0, r.1)

pub root_reach : (es : List ℕ) (z : ℕ) → z ≡ 0 → Reach es z
unfolding up
root_reach es z e = (0, e)

-- what the test for "equal or above" tells
pub above_avoids : (es : List ℕ) → parent es 0 ≡ 0 → (m : ℕ) → (0 ≡ m → ⊥) → (n z : ℕ) → reaches es n z ≡ true → above es n m z ≡ false → Avoids es m z
unfolding reaches above up
above_avoids es t m q zero z r h k e = q (sym (root_up es t k) ∙ ap (up es k) (sym (eqb-true z 0 r)) ∙ e)
above_avoids es t m q (suc n) z r h zero e = split (eqb z m) (λ p. clash true refl (rw p at h)) (λ p. eqb-false z m p e)
above_avoids es t m q (suc n) z r h (suc k) e = split (eqb z m)
    (λ p. clash true refl (rw p at h))
    (λ p. split (eqb z 0)
    (λ o. q (sym (root_up es t (suc k)) ∙ ap (up es (suc k)) (sym (eqb-true z 0 o)) ∙ e))
    (λ o. above_avoids es t m q n (parent es z) (rw o at r) (rw (p, o) at h) k e))

-- nothing stands above its own parent
cycle : (es : List ℕ) (x p : ℕ) → up es p x ≡ x → (n : ℕ) → up es (n * p) x ≡ x
unfolding up
cycle es x p h zero = ap (λ (m : ℕ). up es m x) (let z : 0 * p ≡ 0 = omega arith in z)
cycle es x p h (suc n) =
    ap (λ (m : ℕ). up es m x) (let z : suc n * p ≡ n * p + p = omega arith in z) ∙ up_add es (n * p) p x ∙ ap (up es p) (cycle es x p h n) ∙ h

pub own-parent : (es : List ℕ) (next : ℕ) → Tree es next → (x : ℕ) → live es x ≡ true → (0 ≡ x → ⊥) → Avoids es x (parent es x)
unfolding up
own-parent es next Z x a q k h =
    let r = reach_of es max_entries x (Z.tops x a) in
    let n = r.0 in
    let e : up es (n * suc k) x ≡ x = cycle es x (suc k) h n in
    let e0 : up es (n * suc k) x ≡ 0 =
    ap (λ (m : ℕ). up es m x) (let z : n * suc k ≡ n + n * k = omega arith in z) ∙ up_add es n (n * k) x ∙ ap (up es (n * k)) r.2 ∙ root_up es Z.root_top (n * k) in
    q (sym e0 ∙ e)

-- a climb along which no parent changed
pub same_climb : (es es' : List ℕ) (k z : ℕ) → ((j : ℕ) → parent es' (up es j z) ≡ parent es (up es j z)) → up es' k z ≡ up es k z
unfolding up
same_climb es es' zero z h = refl
same_climb es es' (suc k) z h = ap (up es' k) (h 0) ∙ same_climb es es' k (parent es z) (λ j. h (suc j))

pub same_reach : (es es' : List ℕ) (next : ℕ) → Tree es next → (z : ℕ) → live es z ≡ true → ((j : ℕ) → parent es' (up es j z) ≡ parent es (up es j z)) → Reach es' z
same_reach es es' next Z z a h = let r = reach_of es max_entries z (Z.tops z a) in (r.0, same_climb es es' r.0 z h ∙ r.2)

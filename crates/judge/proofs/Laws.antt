-- What a judgement says, right by right: what a layer grants from the entry up, what it denies, and what the verdict of a domain tells. Assumes nothing.
use mathlib.Core.Path.{◌≡◌, refl, sym, ap, ◌∙◌}
use mathlib.Core.Bool.{Bool, true, false, not, ◌&&◌, ◌||◌, and_assoc}
use mathlib.Core.List.{List}
use Prim.Native.Nat.{ℕ, zero, suc, ◌≤◌, pred}
use native.Mathlib.Nat.{not-suc-le-zero}
use native.Mathlib.Omega.{arith}
use lib.Dec.{eqb}
use borrow.Author.Tests.{eqb-true, eqb-false, not-true, not-false}
use Rattle.laws.specs.Tests.{elem, any}
use Rattle.laws.proofs.Bools.{and_l, and_r, both, or_cases, or_left, or_right, not_of_false, clash, split, either}
use Rattle.laws.proofs.Tests.{any_find, any_none}
use Rattle.access.specs.Limits.{max_entries}
use Rattle.access.specs.Rights.{has, join, meet, without, REFER}
use Rattle.access.proofs.Laws.{has_join, has_meet, has-without, has-only, has-none, some-bit, ext_has}
use Rattle.tables.specs.Tables.{parent, live, port_rule}
use Rattle.tables.specs.Layers.{Layer, layer_at}
use Rattle.sound_tree.specs.Tree.{reaches}
use Rattle.sound_tree.proofs.Climb.{reaches_up}
use Rattle.sound_tree.proofs.Reach.{up}
use Rattle.sound_tree.proofs.Facts.{Tree}
use Rattle.judge.specs.Rules.{rights_on}
use Rattle.judge.specs.Judge.{own_rights, grants, granted, handled, denied, missing, port_missing}
use Rattle.judge.specs.Domain.{layer_lacks, lacks, layer_port_lacks, port_lacks}
use Rattle.judge.proofs.Climbs.{grants_root, grants_up}

-- ---- the climb
module _ (es rules : List ℕ) where
  -- a climb that comes to the root within n steps sees no more with more
  grants-enough : (n m e : ℕ) → n ≤ m → reaches es n e ≡ true → grants es rules m e ≡ grants es rules n e
  unfolding grants reaches
  grants-enough zero m e l h = let z = eqb-true e 0 h in grants_root es rules m e z
  grants-enough (suc n) zero e l h = absurd (not-suc-le-zero l)
  grants-enough (suc n) (suc m) e l h = split (eqb e 0)
      (λ q. let z = eqb-true e 0 q in grants_root es rules (suc m) e z ∙ sym (grants_root es rules (suc n) e z))
      (λ q. rw q (ap (join (own_rights es rules e)) (grants-enough n m (parent es e) (omega arith) (rw q at h))))

  module _ (i : ℕ) where
    -- a step of the climb, for one right
    step-has : (n e : ℕ) → eqb e 0 ≡ false → has (grants es rules (suc n) e) i ≡ (has (own_rights es rules e) i || has (grants es rules n (parent es e)) i)
    unfolding grants
    step-has n e q = rw q (has_join (own_rights es rules e) (grants es rules n (parent es e)) i)

    -- a right that is granted stands on the way
    grants_way : (n e : ℕ) → has (grants es rules n e) i ≡ true → (k : ℕ) × (has (own_rights es rules (up es k e)) i ≡ true)
    unfolding grants up
    grants_way zero e h = (0, h)
    grants_way (suc n) e h = split (eqb e 0)
        (λ q. (0, rw q at h))
        (λ q. either (or_cases (has (own_rights es rules e) i) (has (grants es rules n (parent es e)) i) (sym (step-has n e q) ∙ h))
        (λ o. (0, o))
        (λ o. let s = grants_way n (parent es e) o in (suc s.0, s.1)))

    -- and a right on the way is granted, if the climb comes to a root that is its own parent
    module _ (top : parent es 0 ≡ 0) where
      root_up : (k : ℕ) → up es k 0 ≡ 0
      unfolding up
      root_up zero = refl
      root_up (suc k) = ap (up es k) top ∙ root_up k

      at_root : (n k e : ℕ) → e ≡ 0 → has (own_rights es rules (up es k e)) i ≡ true → has (grants es rules n e) i ≡ true
      at_root n k e z h =
          let stays : up es k e ≡ e = ap (up es k) z ∙ root_up k ∙ sym z in
          ap (λ (m : ℕ). has m i) (grants_root es rules n e z ∙ ap (own_rights es rules) (sym stays)) ∙ h

      way_grants : (n k e : ℕ) → reaches es n e ≡ true → has (own_rights es rules (up es k e)) i ≡ true → has (grants es rules n e) i ≡ true
      unfolding reaches up
      way_grants zero k e r h = at_root zero k e (eqb-true e 0 r) h
      way_grants (suc n) zero e r h = split (eqb e 0)
          (λ q. at_root (suc n) zero e (eqb-true e 0 q) h)
          (λ q. step-has n e q ∙ or_left (has (own_rights es rules e) i) (has (grants es rules n (parent es e)) i) h)
      way_grants (suc n) (suc k) e r h = split (eqb e 0)
          (λ q. at_root (suc n) (suc k) e (eqb-true e 0 q) h)
          (λ q. step-has n e q ∙ or_right (has (own_rights es rules e) i) (has (grants es rules n (parent es e)) i) (way_grants n k (parent es e) (rw q at r) h))

module _ (es : List ℕ) (L : Layer) where
  -- "for the root the rule alone counts"
  pub granted_root : granted es L 0 ≡ own_rights es L.rules 0
  unfolding granted
  granted_root = grants_root es L.rules max_entries 0 refl

  -- a right that the layer grants an entry is in its rule on that entry's object, or on that of an entry above
  pub granted_way : (e i : ℕ) → has (granted es L e) i ≡ true → (k : ℕ) × (has (own_rights es L.rules (up es k e)) i ≡ true)
  unfolding granted
  granted_way e i h = grants_way es L.rules i max_entries e h

  -- "the rights of its rule on that entry's object, joined with what it grants the parent", where the climb ends
  pub granted-on : (e : ℕ) → reaches es max_entries e ≡ true → (e ≡ 0 → ⊥) → granted es L e ≡ join (own_rights es L.rules e) (granted es L (parent es e))
  unfolding granted
  granted-on e r d =
      let ends : reaches es (pred max_entries) (parent es e) ≡ true = sym (reaches_up es max_entries e d (λ z. omega arith)) ∙ r in
      grants_up es L.rules max_entries e d (λ z. omega arith)
      ∙ ap (join (own_rights es L.rules e)) (sym (grants-enough es L.rules (pred max_entries) max_entries (parent es e) (omega arith) ends))

  module _ (next : ℕ) (Z : Tree es next) (e : ℕ) (l : live es e ≡ true) where
    -- and so for any live entry
    pub granted_up : (e ≡ 0 → ⊥) → granted es L e ≡ join (own_rights es L.rules e) (granted es L (parent es e))
    granted_up d = granted-on e (Z.tops e l) d

    -- and the way back
    pub way_granted : (k i : ℕ) → has (own_rights es L.rules (up es k e)) i ≡ true → has (granted es L e) i ≡ true
    unfolding granted
    way_granted k i h = way_grants es L.rules i Z.root_top max_entries k e (Z.tops e l) h

-- ---- right by right
-- of the rights m, those handled and not granted
has_left : (m h g i : ℕ) → has (without (meet m h) g) i ≡ (has m i && (has h i && not (has g i)))
has_left m h g i =
    has-without (meet m h) g i ∙ ap (λ (b : Bool). b && not (has g i)) (has_meet m h i) ∙ and_assoc (has m i) (has h i) (not (has g i))

-- "a layer handles REFER unasked only if its file system mask is not zero"
pub has-handled : (L : Layer) (i : ℕ) → has (handled L) i ≡ (has L.fs i || (not (eqb L.fs 0) && eqb i 13))
unfolding handled
has-handled L i = split (eqb L.fs 0)
    (λ q. let z = eqb-true L.fs 0 q in rw (q, z) (rw (has-none i)))
    (λ q. rw q (has_join L.fs REFER i ∙ ap (λ (b : Bool). has L.fs i || b) (has-only 13 i)))

module _ (es : List ℕ) (L : Layer) (e : ℕ) where
  -- "A layer denies a right if it handles it and doesn't grant it"
  pub has-denied : (i : ℕ) → has (denied es L e) i ≡ (has (handled L) i && not (has (granted es L e) i))
  unfolding denied
  has-denied i = has-without (handled L) (granted es L e) i

  pub has-missing : (m i : ℕ) → has (missing es L e m) i ≡ (has m i && (has (handled L) i && not (has (granted es L e) i)))
  unfolding missing
  has-missing m i = has_left m (handled L) (granted es L e) i

  -- of the rights m, those that the layer denies
  pub missing-denied : (m i : ℕ) → has (missing es L e m) i ≡ (has m i && has (denied es L e) i)
  missing-denied m i = has-missing m i ∙ ap (λ (b : Bool). has m i && b) (sym (has-denied i))

  pub meet-denied : (m : ℕ) → meet m (denied es L e) ≡ missing es L e m
  meet-denied m = ext_has (meet m (denied es L e)) (missing es L e m) (λ i. has_meet m (denied es L e) i ∙ sym (missing-denied m i))

pub has-port-missing : (L : Layer) (port m i : ℕ) → has (port_missing L port m) i ≡ (has m i && (has L.net i && not (has (rights_on L.rules port_rule port) i)))
unfolding port_missing
has-port-missing L port m i = has_left m L.net (rights_on L.rules port_rule port) i

-- ---- the verdict of a domain, for layers that handle h and grant g
module _ (h g : ℕ → ℕ) (m : ℕ) where
  abbrev judged : ℕ → Bool
  judged l = not (eqb (without (meet m (h l)) (g l)) 0)

  judged-none : (D : List ℕ) → any judged D ≡ false → (l : ℕ) → elem l D ≡ true → (i : ℕ) → has m i ≡ true → has (h l) i ≡ true → has (g l) i ≡ true
  judged-none D v l d i a b =
      let z = eqb-true (without (meet m (h l)) (g l)) 0 (not-false _ (any_none judged D v l d)) in
      let k = sym (has_left m (h l) (g l) i) ∙ ap (λ (n : ℕ). has n i) z ∙ has-none i in
      split (has (g l) i) (λ q. q) (λ q. clash _ (both (has m i) _ a (both (has (h l) i) _ b (not_of_false (has (g l) i) q))) k)

  judged-some : (D : List ℕ) → any judged D ≡ true → (l : ℕ) × (i : ℕ) × (elem l D ≡ true) × (has m i ≡ true) × (has (h l) i ≡ true) × (has (g l) i ≡ false)
  judged-some D v =
      let s = any_find judged D v in
      let l = s.0 in
      let t = some-bit (without (meet m (h l)) (g l)) (eqb-false _ 0 (not-true _ s.2)) in
      let i = t.0 in
      let k : (has m i && (has (h l) i && not (has (g l) i))) ≡ true = sym (has_left m (h l) (g l) i) ∙ t.1 in
      let r = and_r (has m i) (has (h l) i && not (has (g l) i)) k in
      (l, i, s.1, and_l (has m i) (has (h l) i && not (has (g l) i)) k, and_l (has (h l) i) (not (has (g l) i)) r, not-true (has (g l) i) (and_r (has (h l) i) (not (has (g l) i)) r))

module _ (es ls ps D : List ℕ) (e m : ℕ) where
  -- "The domain grants a right if no layer denies it"
  pub lacks-none : lacks es ls ps D e m ≡ false → (l : ℕ) → elem l D ≡ true → (i : ℕ) → has m i ≡ true → has (handled (layer_at ls ps l)) i ≡ true
      → has (granted es (layer_at ls ps l) e) i ≡ true
  unfolding lacks layer_lacks missing
  lacks-none = judged-none (λ l. handled (layer_at ls ps l)) (λ l. granted es (layer_at ls ps l) e) m D

  pub lacks-some : lacks es ls ps D e m ≡ true
      → (l : ℕ) × (i : ℕ) × (elem l D ≡ true) × (has m i ≡ true) × (has (handled (layer_at ls ps l)) i ≡ true) × (has (granted es (layer_at ls ps l) e) i ≡ false)
  unfolding lacks layer_lacks missing
  lacks-some = judged-some (λ l. handled (layer_at ls ps l)) (λ l. granted es (layer_at ls ps l) e) m D

module _ (ls ps D : List ℕ) (port m : ℕ) where
  -- "if some layer of it handles the right and has no rule for that port with it"
  pub port-lacks-none : port_lacks ls ps D port m ≡ false → (l : ℕ) → elem l D ≡ true → (i : ℕ) → has m i ≡ true → has (layer_at ls ps l).net i ≡ true
      → has (rights_on (layer_at ls ps l).rules port_rule port) i ≡ true
  unfolding port_lacks layer_port_lacks port_missing
  port-lacks-none = judged-none (λ l. (layer_at ls ps l).net) (λ l. rights_on (layer_at ls ps l).rules port_rule port) m D

  pub port-lacks-some : port_lacks ls ps D port m ≡ true
      → (l : ℕ) × (i : ℕ) × (elem l D ≡ true) × (has m i ≡ true) × (has (layer_at ls ps l).net i ≡ true) × (has (rights_on (layer_at ls ps l).rules port_rule port) i ≡ false)
  unfolding port_lacks layer_port_lacks port_missing
  port-lacks-some = judged-some (λ l. (layer_at ls ps l).net) (λ l. rights_on (layer_at ls ps l).rules port_rule port) m D

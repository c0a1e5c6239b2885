-- What an accepted move tells of a layer of the caller's domain: a right that was shut where the entry stood is shut where it goes. Assumes nothing.
use mathlib.Core.Path.{◌≡◌, sym, ap, ◌∙◌}
use mathlib.Core.Bool.{true, false}
use mathlib.Core.List.{List}
use Prim.Native.Nat.{ℕ}
use lib.Dec.{eqb}
use borrow.Author.Tests.{eqb-true, eqb-false, ne_eqb, not-false}
use Rattle.laws.specs.Tests.{any, elem}
use Rattle.laws.proofs.Bools.{split, clash, both, or_l, or_r, not_of_false}
use Rattle.laws.proofs.Tests.{any_none}
use Rattle.access.specs.Rights.{has, join, without}
use Rattle.access.specs.declared.kinds.MaybeKind.{MaybeKind}
use Rattle.access.proofs.Laws.{has_join, has-without, has-none}
use Rattle.tables.specs.Tables.{parent, object, live, path_rule}
use Rattle.tables.specs.Layers.{Layer, layer_at}
use Rattle.sound_tree.proofs.Facts.{Tree}
use Rattle.judge.specs.Rules.{rights_on}
use Rattle.judge.specs.Judge.{handled, denied, missing}
use Rattle.judge.proofs.Laws.{has-missing, has-denied}
use Rattle.fs.specs.Move.{entry_rights, denied_refer, uncontained, escaping, crossing, layer_crosses}
use Rattle.fs.specs.declared.needs.Step.{Step}
use Rattle.fs.specs.declared.verdict.Move.{Move}
use Rattle.tree.specs.Moves.{move_of}
use Rattle.theorems.proofs.Shut.{gives, Shut, shut_here, shut_up, denied_shut, shut_denied}

-- nothing escapes
module _ (es ls ps D : List ℕ) (m : Move) (v : any (layer_crosses es ls ps m) D ≡ false) (l : ℕ) (c : elem l D ≡ true) where
  crossing-none : crossing es (layer_at ls ps l) m ≡ 0
  unfolding layer_crosses
  crossing-none = eqb-true (crossing es (layer_at ls ps l) m) 0 (not-false _ (any_none (layer_crosses es ls ps m) D v l c))

  escaping-none : (m.source ≡ m.target → ⊥) → (i : ℕ) → has (escaping es (layer_at ls ps l) m) i ≡ false
  unfolding crossing
  escaping-none n i =
      let L = layer_at ls ps l in
      let z : join (denied_refer es L m) (escaping es L m) ≡ 0 = rw (ne_eqb m.source m.target n) at crossing-none in
      or_r (has (denied_refer es L m) i) (has (escaping es L m) i) (sym (has_join (denied_refer es L m) (escaping es L m) i) ∙ ap (λ (k : ℕ). has k i) z ∙ has-none i)

  -- neither there nor back
  neither : (m.source ≡ m.target → ⊥) → (i : ℕ)
      → (has (uncontained es (layer_at ls ps l) m.source m.target m.object m.rights.0) i ≡ false) × (has (uncontained es (layer_at ls ps l) m.target m.source m.other m.back.0) i ≡ false)
  unfolding escaping
  neither n i =
      let a = uncontained es (layer_at ls ps l) m.source m.target m.object m.rights.0 in
      let b = uncontained es (layer_at ls ps l) m.target m.source m.other m.back.0 in
      let z = sym (has_join a b i) ∙ escaping-none n i in
      (or_l (has a i) (has b i) z, or_r (has a i) (has b i) z)

module _ (es : List ℕ) (next : ℕ) (Z : Tree es next) (i : ℕ) where
  -- containment, for one right
  contained : (L : Layer) → has (handled L) i ≡ true → (p q o rights : ℕ) → has (uncontained es L p q o rights) i ≡ false → has rights i ≡ true → gives L i o ≡ false
      → live es q ≡ true → Shut es (gives L i) p → Shut es (gives L i) q
  unfolding uncontained gives
  contained L hd p q o rights u r g lq s =
      let own = rights_on L.rules path_rule o in
      let gone = missing es L p rights in
      let m : has gone i ≡ true = has-missing es L p rights i ∙ both (has rights i) _ r (sym (has-denied es L p i) ∙ shut_denied es L p i hd s) in
      let w : has (without gone own) i ≡ true = has-without gone own i ∙ both (has gone i) _ m (not_of_false (has own i) g) in
      split (has (denied es L q) i)
      (λ d. denied_shut es L q i next Z lq d)
      (λ d. clash _ (has-without (without gone own) (denied es L q) i ∙ both (has (without gone own) i) _ w (not_of_false (has (denied es L q) i) d)) u)

  module _ (ls ps D : List ℕ) (l : ℕ) (c : elem l D ≡ true) (hd : has (handled (layer_at ls ps l)) i ≡ true) (step : Step) (s d : ℕ) (k2 : MaybeKind) (other back : ℕ)
      (v : any (layer_crosses es ls ps (move_of step es s d k2 other back)) D ≡ false) where
    -- what is shut at s is shut at its new parent
    pub shut_there : live es d ≡ true → has (entry_rights es s) i ≡ true → Shut es (gives (layer_at ls ps l) i) s → Shut es (gives (layer_at ls ps l) i) d
    unfolding move_of
    shut_there ld r h =
        let L = layer_at ls ps l in
        let p = shut_up es (gives L i) s h in
        split (eqb (parent es s) d)
        (λ q. rw (← (eqb-true (parent es s) d q)) p)
        (λ q. contained L hd (parent es s) d (object es s) (entry_rights es s) (neither es ls ps D (move_of step es s d k2 other back) v l c (eqb-false (parent es s) d q) i).0 r
        (shut_here es (gives L i) s h) ld p)

    -- and what is shut at the exchanged entry, where s stood
    pub shut_back : (x : ℕ) → other ≡ object es x → back ≡ entry_rights es x → parent es x ≡ d → live es (parent es s) ≡ true → has (entry_rights es x) i ≡ true
        → Shut es (gives (layer_at ls ps l) i) x → Shut es (gives (layer_at ls ps l) i) (parent es s)
    unfolding move_of
    shut_back x eo eb px lp r h =
        let L = layer_at ls ps l in
        let p : Shut es (gives L i) d = rw px at (shut_up es (gives L i) x h) in
        split (eqb (parent es s) d)
        (λ q. rw (eqb-true (parent es s) d q) p)
        (λ q. contained L hd d (parent es s) other back (neither es ls ps D (move_of step es s d k2 other back) v l c (eqb-false (parent es s) d q) i).1 (rw eb r)
        (rw eo (shut_here es (gives L i) x h)) lp p)

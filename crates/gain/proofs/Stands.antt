-- A thing that stood in another directory: in each layer, containment fails for the rights that it would gain, right by right. Assumes nothing.
use mathlib.Core.Path.{◌≡◌, refl, sym, ap, ap₂, ◌∙◌}
use mathlib.Core.Bool.{Bool, true, false, not, ◌&&◌, ◌||◌}
use mathlib.Core.List.{List}
use Prim.Native.Nat.{ℕ, zero, suc}
use Rattle.access.specs.Rights.{has, meet, without}
use Rattle.access.proofs.Laws.{has_join, has_meet, has-without, ext_has}
use Rattle.tables.specs.Tables.{parent, object, live, path_rule}
use Rattle.tables.specs.Layers.{Layer}
use Rattle.sound_tree.proofs.Facts.{Tree}
use Rattle.sound_tree.proofs.Reach.{up}
use Rattle.judge.specs.Rules.{rights_on}
use Rattle.judge.specs.Judge.{own_rights, grants, granted, handled, denied, missing}
use Rattle.judge.proofs.Laws.{granted_up, has-denied, has-missing}
use Rattle.fs.specs.Move.{entry_rights, uncontained}
use Rattle.gain.specs.Gain.{gained}

-- the way up from z is on es' as it is on es
abbrev pub SameWay : List ℕ → List ℕ → ℕ → Type 0
SameWay es es' z = (k : ℕ) → (parent es' (up es k z) ≡ parent es (up es k z)) × (object es' (up es k z) ≡ object es (up es k z))

-- then a layer grants z the same
same-grants : (es es' rules : List ℕ) (n z : ℕ) → SameWay es es' z → grants es' rules n z ≡ grants es rules n z
unfolding grants up
same-grants es es' rules zero z w = rw (w 0).1 refl
same-grants es es' rules (suc n) z w = rw ((w 0).1, (w 0).0, same-grants es es' rules n (parent es z) (λ k. w (suc k))) refl

pub same-granted : (es es' : List ℕ) (L : Layer) (z : ℕ) → SameWay es es' z → granted es' L z ≡ granted es L z
unfolding granted
same-granted es es' L z w = same-grants es es' L.rules _ z w

-- ---- what is denied an entry, by its own rule and by what its directory is granted
module _ (es : List ℕ) (next : ℕ) (Z : Tree es next) (L : Layer) (e i : ℕ) (alive : live es e ≡ true) (not_root : e ≡ 0 → ⊥) where
  denied_up : has (denied es L e) i ≡ (has (handled L) i && not (has (own_rights es L.rules e) i || has (granted es L (parent es e)) i))
  denied_up = has-denied es L e i
      ∙ ap (λ (b : Bool). has (handled L) i && not b)
      (ap (λ (g : ℕ). has g i) (granted_up es L next Z e alive not_root) ∙ has_join (own_rights es L.rules e) (granted es L (parent es e)) i)

-- on es', e' is a live entry of e's object that stands in d, and the way up from d is as on es
pub record Stands (es es' : List ℕ) (e e' d : ℕ) : Type 0 where
  pub next : ℕ
  pub tree : Tree es' next
  pub alive : live es' e' ≡ true
  pub not_root : e' ≡ 0 → ⊥
  pub thing : object es' e' ≡ object es e
  pub place : parent es' e' ≡ d
  pub way : SameWay es es' d

-- both sets for one right: r of the kind, h handled, o by the own rule, p and q granted in the two directories
both_ways : (r h o p q : Bool) → (((r && (h && not p)) && not o) && not (h && not q)) ≡ ((r && (h && not (o || p))) && not (h && not (o || q)))
both_ways false h o p q = refl
both_ways true false o p q = refl
both_ways true true true true q = refl
both_ways true true true false q = refl
both_ways true true false true q = refl
both_ways true true false false q = refl

module _ (es es' : List ℕ) (e e' d next : ℕ) (Z : Tree es next) (alive : live es e ≡ true) (not_root : e ≡ 0 → ⊥) (S : Stands es es' e e' d) (L : Layer) where
  abbrev own : ℕ
  own = rights_on L.rules path_rule (object es e)

  module _ (i : ℕ) where
    has-uncontained : has (uncontained es L (parent es e) d (object es e) (entry_rights es e)) i
        ≡ (((has (entry_rights es e) i && (has (handled L) i && not (has (granted es L (parent es e)) i))) && not (has own i)) && not (has (handled L) i && not (has (granted es L d) i)))
    unfolding uncontained
    has-uncontained =
        let gone = missing es L (parent es e) (entry_rights es e) in
        has-without (without gone own) (denied es L d) i
        ∙ ap₂ (λ (a b : Bool). a && not b) (has-without gone own i ∙ ap (λ (b : Bool). b && not (has own i)) (has-missing es L (parent es e) (entry_rights es e) i)) (has-denied es L d i)

    -- the thing is denied where it would stand what its own rule and d do not grant
    denied_there : has (denied es' L e') i ≡ (has (handled L) i && not (has own i || has (granted es L d) i))
    denied_there = denied_up es' S.next S.tree L e' i S.alive S.not_root
        ∙ rw (S.thing, S.place, same-granted es es' L d S.way) refl

    -- one right
    pub sharp_right : has (uncontained es L (parent es e) d (object es e) (entry_rights es e)) i ≡ has (gained es es' L e e') i
    unfolding gained
    sharp_right =
        let rights = entry_rights es e in
        has-uncontained
        ∙ both_ways (has rights i) (has (handled L) i) (has own i) (has (granted es L (parent es e)) i) (has (granted es L d) i)
        ∙ ap₂ (λ (a b : Bool). (has rights i && a) && not b) (sym (denied_up es next Z L e i alive not_root)) (sym denied_there)
        ∙ ap (λ (b : Bool). b && not (has (denied es' L e') i)) (sym (has_meet rights (denied es L e) i))
        ∙ sym (has-without (meet rights (denied es L e)) (denied es' L e') i)

  -- all rights of the layer: the set that fails containment is the set gained
  pub sharp : uncontained es L (parent es e) d (object es e) (entry_rights es e) ≡ gained es es' L e e'
  sharp = ext_has _ _ sharp_right

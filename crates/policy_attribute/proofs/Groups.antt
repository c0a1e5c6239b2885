-- Whether a field is a group, field by field. Assumes nothing.
use mathlib.Core.Path.{◌≡◌, refl, sym, ap, ◌∙◌}
use mathlib.Core.Bool.{true, false}
use mathlib.Core.List.{List, [], ◌∷◌}
use Prim.Native.Nat.{ℕ, ◌≤◌, ◌<◌}
use lib.ListN.{length, get_or}
use borrow.Author.Tests.{eq-eqb, ne_eqb}
use Rattle.laws.specs.Cells.{part}
use Rattle.policy.specs.Fields.{group_tag, stray, tag_of, pieces, front}
use Rattle.policy.specs.Front.{WholeAt}
use Rattle.policy.specs.Meaning.{any_group}
use Rattle.policy.proofs.Parts.{part-all, part_none}
use Rattle.policy.proofs.Pieces.{pieces_nil, part_step}
use Rattle.policy.proofs.Walks.{tag_at, front-whole}

pub any-start : (f : List ℕ) → any_group (pieces f) ≡ any_group (pieces (part f 0 (length f)))
any-start f = ap (λ (l : List ℕ). any_group (pieces l)) (sym (part-all f))

pub any-done : (f : List ℕ) (at : ℕ) → any_group (pieces (part f at at)) ≡ false
unfolding any_group
any-done f at = rw (part_none f at, pieces_nil)

module _ (f : List ℕ) (at end : ℕ) (le : end ≤ length f) (h : at < end) where
  pub any_here : get_or f at 0 ≡ group_tag → any_group (pieces (part f at end)) ≡ true
  unfolding any_group
  any_here e = rw (part_step f at end le h, eq-eqb _ group_tag (tag_at f at end le h ∙ e))

  module _ (q : get_or f at 0 ≡ group_tag → ⊥) where
    pub any-cut : pieces (part f at end) ≡ stray (part f at end) ∷ [] → any_group (pieces (part f at end)) ≡ false
    unfolding any_group front
    any-cut e = let t : tag_of (stray (part f at end)) ≡ get_or f at 0 = ap (λ ps. tag_of (front ps)) (sym e) ∙ tag_at f at end le h in rw (e, ne_eqb _ group_tag (λ z. q (sym t ∙ z)))

    pub any-past : (t n : ℕ) → WholeAt f at end t n → any_group (pieces (part f at end)) ≡ any_group (pieces (part f n end))
    unfolding any_group tag_of front
    any-past t n w = let g : t ≡ get_or f at 0 = ap (λ ps. tag_of (front ps)) (sym w.here) ∙ tag_at f at end le h in rw (w.here, ne_eqb t group_tag (λ z. q (sym g ∙ z)))

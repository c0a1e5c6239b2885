-- A replay keeps sound tables sound, and so does every call after this request. Assumes nothing.
use mathlib.Core.Path.{◌≡◌, refl, sym, ap, subst}
use mathlib.Core.Bool.{true}
use mathlib.Core.List.{List, [], ◌∷◌}
use Prim.Native.Nat.{ℕ}
use lib.Dec.{eqb}
use borrow.Author.Tests.{eqb-true}
use Rattle.laws.specs.Refusals.{first}
use Rattle.laws.proofs.Bools.{split, and_l}
use Rattle.named.specs.Named.{Named, named_sound, NamedOutcome}
use Rattle.named.proofs.Made.{named-goes}
use Rattle.named.proofs.Kept.{kept}
use Rattle.policy.specs.Fields.{Piece, field, stray, pieces}
use Rattle.tree_log.specs.Changes.{Change, call_of, Read, Listed, Unlisted, read_field}
use Rattle.tree_log.specs.Tree.{Tree, tree_of, with_tree, tree_checks, changed, fits}
use Rattle.tree_log.specs.Replay.{Replayed, Applied, Faulty, on_read, replayed, replay_outcome, replay_named}
use Rattle.tree_log.specs.Logged.{LogCall, plain, logged, replay, outcome_logged, after_logged}
use Rattle.tree_log.proofs.Entering.{logged-cases}
use Rattle.tree_log.proofs.Trees.{tree_twice, tree-own, tree_back}
use Rattle.tree_log.proofs.Changed.{change-kept}

SoundAfter : Named → Replayed → Type 0
SoundAfter N (Applied S n) = named_sound (with_tree N S) ≡ true
SoundAfter N Faulty = Unit {0}

pub one_kept : (N : Named) (S : Tree) (c : Change) → named_sound (with_tree N S) ≡ true → fits S c ≡ true → named_sound (with_tree N (changed S c)) ≡ true
unfolding fits
one_kept N S c h f =
    let b = tree_back N S h in
    let z : first (tree_checks S c) ≡ 0 = eqb-true (first (tree_checks S c)) 0 (and_l (eqb (first (tree_checks S c)) 0) _ f) in
    rw (b, tree_twice N S (changed S c)) at (change-kept (with_tree N S) h c (rw b z))

read_kept : (r : Read) (N : Named) (S : Tree) (ps : List Piece) → named_sound (with_tree N S) ≡ true → ((R : Tree) → named_sound (with_tree N R) ≡ true → SoundAfter N (replayed ps R))
    → SoundAfter N (on_read r S (replayed ps))
unfolding on_read SoundAfter
read_kept (Listed c) N S ps h k = split (fits S c) (λ f. rw f (k (changed S c) (one_kept N S c h f))) (λ f. rw f tt)
read_kept Unlisted N S ps h k = tt

replayed-kept : (ps : List Piece) (N : Named) (S : Tree) → named_sound (with_tree N S) ≡ true → SoundAfter N (replayed ps S)
unfolding replayed SoundAfter
replayed-kept [] N S h = h
replayed-kept (stray b ∷ ps) N S h = h
replayed-kept (field t v ∷ ps) N S h = read_kept (read_field t v) N S ps h (λ R g. replayed-kept ps N R g)

-- what a replay leaves: the tables with another tree, sound if they were
outcome-kept : (N : Named) (r : Replayed) → named_sound N ≡ true → SoundAfter N r
    → (named_sound (replay_outcome N r).left ≡ true) × ((replay_outcome N r).left ≡ with_tree N (tree_of (replay_outcome N r).left))
unfolding SoundAfter replay_outcome
outcome-kept N (Applied S n) h s = (s, sym (ap (with_tree N) (tree_back N S s)))
outcome-kept N Faulty h s = (h, sym (tree-own N))

module _ (N : Named) (bs : List ℕ) (h : named_sound N ≡ true) where
  replay_both : (named_sound (replay_named N bs).left ≡ true) × ((replay_named N bs).left ≡ with_tree N (tree_of (replay_named N bs).left))
  unfolding replay_named first
  replay_both =
      let r = replayed (pieces bs) (tree_of N) in
      let e = ap (λ (o : NamedOutcome). o.left) (named-goes N [] (replay_outcome N r) h refl refl) in
      rw e at (outcome-kept N r h (replayed-kept (pieces bs) N (tree_of N) (rw (tree-own N) h)))

  pub replay-kept : named_sound (replay_named N bs).left ≡ true
  replay-kept = replay_both.0

  pub replay-left : (replay_named N bs).left ≡ with_tree N (tree_of (replay_named N bs).left)
  replay-left = replay_both.1

pub kept-logged : (N : Named) (c : LogCall) → named_sound N ≡ true → named_sound (after_logged N c) ≡ true
unfolding outcome_logged
kept-logged N (plain c q) h = kept N c h
kept-logged N (logged t c L) h = logged-cases N t c L
    (λ q. subst (λ (o : NamedOutcome). named_sound o.left ≡ true) (sym q) (kept N (call_of t c) h))
    (λ q. subst (λ (M : Named). named_sound M ≡ true) (sym q) h)
kept-logged N (replay bs) h = replay-kept N bs h

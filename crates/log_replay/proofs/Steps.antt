-- A step of a replay: a whole field, and the tail. Assumes nothing.
use mathlib.Core.Path.{◌≡◌, refl, sym, ap, subst, ◌∙◌}
use mathlib.Core.Bool.{Bool, true, false}
use mathlib.Core.List.{List, [], ◌∷◌}
use Prim.Native.Nat.{ℕ, ◌+◌, ◌-◌, ◌≤◌}
use lib.ListN.{length}
use Rattle.laws.specs.Cells.{part}
use Rattle.laws.proofs.Bools.{clash}
use Rattle.laws.proofs.Cells.{part_length}
use Rattle.policy.specs.Fields.{header, stray, pieces}
use Rattle.policy.specs.Front.{WholeAt}
use Rattle.policy.proofs.Parts.{part_none}
use Rattle.policy.proofs.Pieces.{pieces_nil}
use Rattle.tree_log.specs.Changes.{Change, Read, Listed, Unlisted, read_field}
use Rattle.tree_log.specs.Tree.{Tree, with_tree, changed, fits}
use Rattle.tree_log.specs.Replay.{Replayed, Applied, Faulty, on_read, replayed}
use Rattle.tree_log.proofs.Trees.{tree_back}
use Rattle.tree_log.proofs.Idle.{fits-idle}
use Rattle.tree_log.proofs.Kept.{one_kept}
use Rattle.log_changes.specs.Tried.{Tried, accepted, tried_as, tried, tried_read}
use Rattle.log_changes.proofs.Trying.{tried-made, tried-left}
use Rattle.log_replay.specs.Replays.{SoundTree}

module _ (S : Tree) (K : SoundTree S) where
  -- what the code tests is what the definition asks
  fits-accepted : (c : Change) → fits S c ≡ accepted S c
  unfolding accepted
  fits-accepted c = rw (tree_back K.around S K.is-sound_lem) at (fits-idle (with_tree K.around S) K.is-sound_lem c)

  fits-made : (c : Change) {b : Bool} {R : Tree} → tried_as b R ≡ tried S c → fits S c ≡ b
  fits-made c q = fits-accepted c ∙ sym (tried-made S c) ∙ sym (ap (λ (t : Tried). t.made) q)

  left-made : (c : Change) {b : Bool} {R : Tree} → tried_as b R ≡ tried S c → b ≡ true → R ≡ changed S c
  left-made c q h = ap (λ (t : Tried). t.left) q ∙ tried-left S c (sym (fits-accepted c) ∙ fits-made c q ∙ h)

  -- the field's change was made
  read_goes : (r : Read) {b : Bool} {R : Tree} → tried_as b R ≡ tried_read r S → b ≡ true → (rest : Tree → Replayed) → on_read r S rest ≡ rest R
  unfolding tried_read on_read
  read_goes (Listed c) q h rest = rw (fits-made c q ∙ h) (sym (ap rest (left-made c q h)))
  read_goes Unlisted q h rest = clash _ h (ap (λ (t : Tried). t.made) q)

  read-sound : (r : Read) {b : Bool} {R : Tree} → tried_as b R ≡ tried_read r S → b ≡ true → SoundTree R
  unfolding tried_read
  read-sound (Listed c) q h =
      subst SoundTree (sym (left-made c q h)) (record { around = K.around; is-sound_lem = one_kept K.around S c K.is-sound_lem (fits-made c q ∙ h) })
  read-sound Unlisted q h = clash _ h (ap (λ (t : Tried). t.made) q)

  read_stops : (r : Read) {b : Bool} {R : Tree} → tried_as b R ≡ tried_read r S → b ≡ false → (rest : Tree → Replayed) → on_read r S rest ≡ Faulty
  unfolding tried_read on_read
  read_stops (Listed c) q h rest = rw (fits-made c q ∙ h) refl
  read_stops Unlisted q h rest = refl

  -- ---- a log from a place on
  module _ (f : List ℕ) (at end : ℕ) where
    module _ {tag next : ℕ} (w : WholeAt f at end tag next) {b : Bool} {R : Tree} (q : tried_as b R ≡ tried_read (read_field tag (part f (at + header) next)) S) where
      pub goes_on : b ≡ true → replayed (pieces (part f at end)) S ≡ replayed (pieces (part f next end)) R
      unfolding replayed
      goes_on h = rw w.here (read_goes _ q h (replayed (pieces (part f next end))))

      pub sound-on : b ≡ true → SoundTree R
      sound-on h = read-sound _ q h

      pub stops : b ≡ false → replayed (pieces (part f at end)) S ≡ Faulty
      unfolding replayed
      stops h = rw w.here (read_stops _ q h (replayed (pieces (part f next end))))

    -- the tail is no whole field
    pub tail : end ≤ length f → pieces (part f at end) ≡ stray (part f at end) ∷ [] → replayed (pieces (part f at end)) S ≡ Applied S (end - at)
    unfolding replayed
    tail l e = rw (e, part_length f at end l) refl

    -- nothing is left
    pub ends : at ≡ end → replayed (pieces (part f at end)) S ≡ Applied S 0
    unfolding replayed
    ends e = rw (e, part_none f end, pieces_nil) refl

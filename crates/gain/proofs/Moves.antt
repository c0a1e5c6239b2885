-- Where the thing would stand if it were moved, exchanged or linked, and the set that fails containment there. Assumes nothing.
use mathlib.Core.Path.{◌≡◌, sym, ap, ap₂, ◌∙◌}
use mathlib.Core.Bool.{Bool, true, false, ◌||◌, or-false}
use mathlib.Core.List.{List}
use Prim.Native.Nat.{ℕ, zero, suc, ◌+◌, ◌*◌, ◌<◌}
use native.Mathlib.Omega.{arith}
use native.Mathlib.Nat.{le_refl}
use lib.Dec.{ltb}
use lib.ListN.{length}
use borrow.Author.Tests.{ltb-true}
use Rattle.laws.proofs.Bools.{split, clash}
use Rattle.access.specs.Limits.{max_entries}
use Rattle.access.specs.Rights.{has, join, meet, without}
use Rattle.access.specs.declared.kinds.MaybeKind.{MaybeKind}
use Rattle.access.specs.declared.kinds.MaybeKind.TheVariants.{None}
use Rattle.access.proofs.Laws.{has_join, has-none, ext_has, within_has}
use Rattle.tables.specs.Tables.{Tables, entry_width, counter, kind, parent, object, live, is_dir}
use Rattle.tables.specs.Layers.{Layer}
use Rattle.sound_tree.proofs.Reach.{up}
use Rattle.sound.proofs.Facts.{Sound, facts}
use Rattle.judge.specs.Judge.{handled, denied}
use Rattle.fs.specs.Move.{entry_rights, uncontained, escaping}
use Rattle.fs.specs.declared.needs.Step.{Step}
use Rattle.fs.specs.declared.needs.Step.TheVariants.{Link}
use Rattle.tree.specs.Entries.{free_entry, free_row, with_entries}
use Rattle.tree.specs.Moves.{move_of, link_move, exchange_move}
use Rattle.tree.specs.Link.{linked}
use Rattle.kept_tree.proofs.Written.{kind-move, object-move, parent_stay, parent-move, length-move, live_dir, live_same, dir_same, put_other, kind_put, parent_put, object_put}
use Rattle.kept_tree.proofs.Climbs.{Avoids, own-parent, same_climb, up_live, root_live}
use Rattle.kept_tree.proofs.Fill.{fill_tree, free-entry, live-some, no_dir}
use Rattle.kept_tree.proofs.Move.{kept_move}
use Rattle.theorems.proofs.Named.{uncontained-within}
use Rattle.gain.specs.Gain.{gained, if_moved, if_exchanged, rename_gain, exchange_gain, link_gain}
use Rattle.gain.proofs.Stands.{SameWay, same-granted, Stands, sharp}

-- ---- nothing moves back: what escapes is what fails containment one way
one_way : (step : Step) (es : List ℕ) (s d : ℕ) (k2 : MaybeKind) (L : Layer)
    → escaping es L (move_of step es s d k2 0 0) ≡ uncontained es L (parent es s) d (object es s) (entry_rights es s)
unfolding escaping move_of
one_way step es s d k2 L =
    let there = uncontained es L (parent es s) d (object es s) (entry_rights es s) in
    let back = uncontained es L d (parent es s) 0 0 in
    let none : (i : ℕ) → has back i ≡ false =
    λ i. split (has back i) (λ h. clash (has 0 i) (within_has back 0 i (uncontained-within es L (move_of step es s d k2 0 0) d (parent es s) 0 0) h) (has-none i)) (λ h. h) in
    ext_has (join there back) there (λ i. has_join there back i ∙ ap (λ (b : Bool). has there i || b) (none i) ∙ or-false (has there i))

-- ---- one thing moves
module _ (T : Tables) (S : Sound T) (s d : ℕ) (source : live T.entries s ≡ true) (nz : 0 ≡ s → ⊥) (home : is_dir T.entries d ≡ true) (away : Avoids T.entries s d) where
  moved_to : parent (if_moved T.entries s d) s ≡ d
  moved_to = parent-move T.entries s d (let w = S.tree.long in let l = S.tree.small s source in omega arith)

  moved-sound : Sound (with_entries T (if_moved T.entries s d))
  moved-sound = facts (with_entries T (if_moved T.entries s d)) (kept_move T S s d source nz home away)

  pub moved_stands : Stands T.entries (if_moved T.entries s d) s s d
  moved_stands =
      let es = T.entries in
      record {
        next = counter T.system;
        tree = moved-sound.tree;
        alive = live_same es (if_moved es s d) s (kind-move es s d s) ∙ source;
        not_root = λ e. nz (sym e);
        thing = object-move es s d s;
        place = moved_to;
        way = λ k. (parent_stay es s d (up es k d) (away k), object-move es s d (up es k d));
      }

  pub move_sharp : (step : Step) (k2 : MaybeKind) (L : Layer) → escaping T.entries L (move_of step T.entries s d k2 0 0) ≡ rename_gain T.entries s d L
  move_sharp step k2 L = one_way step T.entries s d k2 L
      ∙ sharp T.entries (if_moved T.entries s d) s s d _ S.tree source (λ e. nz (sym e)) moved_stands L

  -- the row of an entry of d that s would replace is not on its way
  module _ (y : ℕ) (other : live T.entries y ≡ true) (ny : 0 ≡ y → ⊥) (child : parent T.entries y ≡ d) (apart : parent T.entries s ≡ d → ⊥) where
    off_way : Avoids (if_moved T.entries s d) y s
    unfolding up
    off_way zero e = apart (ap (parent T.entries) e ∙ child)
    off_way (suc k) e =
        let es = T.entries in
        let one = if_moved es s d in
        own-parent es _ S.tree y other ny k
        (ap (up es k) child ∙ sym (same_climb es one k d (λ j. parent_stay es s d (up es j d) (away j))) ∙ ap (up one k) (sym moved_to) ∙ e)

    pub replaced_off : (L : Layer) → gained T.entries (free_row (if_moved T.entries s d) y) L s s ≡ rename_gain T.entries s d L
    unfolding gained denied free_row
    replaced_off L =
        let es = T.entries in
        let one = if_moved es s d in
        ap (λ (g : ℕ). without (meet (entry_rights es s) (denied es L s)) (without (handled L) g))
        (same-granted one (free_row one y) L s
        (λ k. (put_other one y 0 0 0 (up one k s) 1 (off_way k) (omega arith), put_other one y 0 0 0 (up one k s) 2 (off_way k) (omega arith))))

-- ---- two things change places
module _ (T : Tables) (S : Sound T) (s d x : ℕ) (source : live T.entries s ≡ true) (nz : 0 ≡ s → ⊥) (home : is_dir T.entries d ≡ true) (away : Avoids T.entries s d)
    (other : live T.entries x ≡ true) (nx : 0 ≡ x → ⊥) (child : parent T.entries x ≡ d) (back : Avoids T.entries x (parent T.entries s))
    (apart : parent T.entries s ≡ d → ⊥) where
  abbrev es : List ℕ
  es = T.entries

  abbrev p : ℕ
  p = parent T.entries s

  abbrev one : List ℕ
  one = if_moved T.entries s d

  abbrev two : List ℕ
  two = if_exchanged T.entries s d x

  -- a climb that comes neither to s nor to x is as it was
  stays : (z : ℕ) → Avoids es s z → Avoids es x z → SameWay es two z
  stays z a b k = (parent_stay one x p (up es k z) (b k) ∙ parent_stay es s d (up es k z) (a k), object-move one x p (up es k z) ∙ object-move es s d (up es k z))

  -- s comes neither to itself from where it stood, nor x from d
  from_p : Avoids es s p
  from_p = own-parent es _ S.tree s source nz

  from_d : Avoids es x d
  from_d k e = own-parent es _ S.tree x other nx k (ap (up es k) child ∙ e)

  live_stays : (z : ℕ) → live es z ≡ true → live two z ≡ true
  live_stays z l = live_same one two z (kind-move one x p z) ∙ (live_same es one z (kind-move es s d z) ∙ l)

  swapped-sound : Sound (with_entries T two)
  swapped-sound =
      let U = with_entries T one in
      facts (with_entries U two) (kept_move U (moved-sound T S s d source nz home away) x p
      (live_same es one x (kind-move es s d x) ∙ other) nx (dir_same es one p p (kind-move es s d p) ∙ S.tree.in_dir s source)
      (λ k e. back k (sym (same_climb es one k p (λ j. parent_stay es s d (up es j p) (from_p j))) ∙ e)))

  there_stands : Stands es two s s d
  there_stands = record {
    next = counter T.system;
    tree = swapped-sound.tree;
    alive = live_stays s source;
    not_root = λ e. nz (sym e);
    thing = object-move one x p s ∙ object-move es s d s;
    place = parent_stay one x p s (λ e. apart (ap (parent es) e ∙ child)) ∙ moved_to T S s d source nz home away;
    way = stays d away from_d;
  }

  back_stands : Stands es two x x p
  back_stands = record {
    next = counter T.system;
    tree = swapped-sound.tree;
    alive = live_stays x other;
    not_root = λ e. nx (sym e);
    thing = object-move one x p x ∙ object-move es s d x;
    place = parent-move one x p (let w = S.tree.long in let l = S.tree.small x other in let m = length-move es s d in omega arith);
    way = stays p from_p back;
  }

  pub exchange_sharp : (L : Layer) → escaping es L (exchange_move es s d x) ≡ exchange_gain es s d x L
  unfolding escaping move_of
  exchange_sharp L = ap₂ join
      (sharp es two s s d _ S.tree source (λ e. nz (sym e)) there_stands L)
      (ap (λ (u : ℕ). uncontained es L u p (object es x) (entry_rights es x)) (sym child)
      ∙ sharp es two x x p _ S.tree other (λ e. nx (sym e)) back_stands L)

-- ---- a new entry
module _ (T : Tables) (S : Sound T) (s d : ℕ) (source : live T.entries s ≡ true) (home : is_dir T.entries d ≡ true) (file : is_dir T.entries s ≡ false)
    (room : free_entry T.entries < max_entries) where
  abbrev old : List ℕ
  old = T.entries

  abbrev n : ℕ
  n = free_entry T.entries

  -- no live entry is the free one
  not_free : (z : ℕ) → live old z ≡ true → z ≡ n → ⊥
  not_free z l e = clash (live old z) l (ap (live old) e ∙ free-entry old room)

  pub linked_stands : Stands old (linked old s d) s n d
  unfolding linked live
  linked_stands =
      let k = kind old s in
      let o = object old s in
      let c = counter T.system in
      let Z = S.tree in
      let cells : entry_width * n + 2 < length old = let w = Z.long in omega arith in
      let off : (j : ℕ) → up old j d ≡ n → ⊥ = λ j. not_free (up old j d) (up_live old Z.in_dir j d (live_dir old d home)) in
      let tree = fill_tree old c c Z n k d o room (free-entry old room) home (live-some old s source) (Z.kinds s source) (le_refl c) (Z.objects s source)
      (λ f a q. (Z.agreed.kinds_agree_lem f s a source q, no_dir old s file)) in
      record {
        next = c;
        tree = tree;
        alive = rw (kind_put old n k d o cells) source;
        not_root = λ e. not_free 0 (root_live old c Z) (sym e);
        thing = object_put old n k d o cells;
        place = parent_put old n k d o cells;
        way = λ j. (put_other old n k d o (up old j d) 1 (off j) (omega arith), put_other old n k d o (up old j d) 2 (off j) (omega arith));
      }

-- ---- a link, with an entry free or not
module _ (T : Tables) (S : Sound T) (s d : ℕ) (source : live T.entries s ≡ true) (nz : 0 ≡ s → ⊥) (home : is_dir T.entries d ≡ true) (file : is_dir T.entries s ≡ false) where
  -- only directories are above d
  dir_up : (k z : ℕ) → is_dir T.entries z ≡ true → is_dir T.entries (up T.entries k z) ≡ true
  unfolding up
  dir_up zero z h = h
  dir_up (suc k) z h = dir_up k (parent T.entries z) (S.tree.in_dir z (live_dir T.entries z h))

  off_files : Avoids T.entries s d
  off_files k e = clash (is_dir T.entries (up T.entries k d)) (dir_up k d home) (ap (is_dir T.entries) e ∙ file)

  source_sharp : (L : Layer) → escaping T.entries L (link_move T.entries s d) ≡ rename_gain T.entries s d L
  source_sharp L = move_sharp T S s d source nz home off_files Link None L

  pub link_sharp : (L : Layer) → escaping T.entries L (link_move T.entries s d) ≡ link_gain T.entries s d L
  link_sharp L = let es = T.entries in split (ltb (free_entry es) max_entries)
      (λ q. rw q (one_way Link es s d None L
      ∙ sharp es (linked es s d) s (free_entry es) d _ S.tree source (λ e. nz (sym e)) (linked_stands T S s d source home file (ltb-true (free_entry es) max_entries q)) L))
      (λ q. rw q (source_sharp L))

  pub link-same : (L : Layer) → link_gain T.entries s d L ≡ rename_gain T.entries s d L
  link-same L = sym (link_sharp L) ∙ source_sharp L

-- A right that a layer denies an entry stays denied through a call from a thread that the layer binds; and what it denies an entry, it denies a new link of it. Assumes nothing.
use mathlib.Core.Path.{◌≡◌, refl}
use mathlib.Core.Bool.{true, false, and-false}
use mathlib.Core.List.{List, [], ◌∷◌}
use mathlib.Core.Logic.{◌⊎◌, inl, inr}
use Prim.Native.Nat.{ℕ}
use native.Mathlib.Omega.{arith}
use lib.Dec.{eqb}
use borrow.Author.Tests.{eqb-true, eqb-false}
use Rattle.laws.specs.Tests.{elem}
use Rattle.laws.proofs.Bools.{split, either}
use Rattle.access.specs.Rights.{has}
use Rattle.access.specs.declared.errno.Reply.TheVariants.{Done}
use Rattle.access.specs.declared.kinds.MaybeKind.TheVariants.{None}
use Rattle.tables.specs.Tables.{Tables, counter, kind, parent, object, live}
use Rattle.tables.specs.Layers.{layer_at}
use Rattle.sound.specs.Sound.{sound}
use Rattle.sound.proofs.Facts.{facts}
use Rattle.judge.specs.Judge.{denied, handled}
use Rattle.fs.specs.Move.{entry_rights}
use Rattle.fs.specs.declared.needs.Step.TheVariants.{Link}
use Rattle.tree.specs.Entries.{free_entry}
use Rattle.tree.specs.Link.{linked}
use Rattle.theorems.specs.Calls.{Call, link, after, reply, caller, frees, would_free, is_done}
use Rattle.theorems.specs.Claim.{domain_of, ChangesTree}
use Rattle.theorems.proofs.Links.{number, after-link, Checked, checked}
use Rattle.theorems.proofs.Shut.{gives, Shut, shut_here, shut_cons, denied-handled, denied_shut, shut_denied, dir_holds, live_same, still_shut}
use Rattle.kept_tree.proofs.Written.{parent_put, object_put, live_dir}
use Rattle.theorems.proofs.Contained.{shut_there}
use Rattle.theorems.proofs.Steps.{step}

-- what a call does not free stays, with its kind and its object
pub kept_entry : (T : Tables) (c : Call) (e : ℕ) → sound T ≡ true → live T.entries e ≡ true → frees T c e ≡ false
    → (live (after T c).entries e ≡ true) × (kind (after T c).entries e ≡ kind T.entries e) × (object (after T c).entries e ≡ object T.entries e)
kept_entry T c e s l g =
    let F = (step T s c).frame in
    let k = F.keeps_kind e l g in
    (live_same T.entries (after T c).entries e k l, k, F.keeps_object e l g)

-- two lists are the same or not
same? : (xs ys : List ℕ) → (xs ≡ ys) ⊎ (xs ≡ ys → ⊥)
same? [] [] = inl refl
same? [] (y ∷ ys) = inr (λ e. let z : ◌≡◌ {A = ℕ} 0 1 = cc in omega arith)
same? (x ∷ xs) [] = inr (λ e. let z : ◌≡◌ {A = ℕ} 0 1 = cc in omega arith)
same? (x ∷ xs) (y ∷ ys) = split (eqb x y)
    (λ q. either (same? xs ys)
    (λ e. let p = eqb-true x y q in inl cc)
    (λ n. inr (λ e. n cc)))
    (λ q. inr (λ e. eqb-false x y q cc))

-- shut before, shut after
still : (T : Tables) (c : Call) (l e i : ℕ) → sound T ≡ true → elem l (domain_of T (caller c)) ≡ true → live T.entries e ≡ true → frees T c e ≡ false
    → has (entry_rights T.entries e) i ≡ true → has (handled (layer_at T.layers T.pool l)) i ≡ true
    → Shut T.entries (gives (layer_at T.layers T.pool l) i) e → Shut (after T c).entries (gives (layer_at T.layers T.pool l) i) e
still T c l e i s m a g r hd h =
    let S = step T s c in
    still_shut T.entries (after T c).entries (frees T c) (gives (layer_at T.layers T.pool l) i) i S.frame (S.above l i m hd) e a g r h

pub denied-kept : (T : Tables) (c : Call) (l e i : ℕ) → sound T ≡ true → (ChangesTree T c → elem l (domain_of T (caller c)) ≡ true)
    → live T.entries e ≡ true → frees T c e ≡ false → has (entry_rights T.entries e) i ≡ true
    → has (denied T.entries (layer_at T.layers T.pool l) e) i ≡ true → has (denied (after T c).entries (layer_at T.layers T.pool l) e) i ≡ true
unfolding ChangesTree
denied-kept T c l e i s w a g r h =
    let es = T.entries in
    let L = layer_at T.layers T.pool l in
    either (same? (after T c).entries es)
    (λ u. rw u h)
    (λ n.
    let hd = denied-handled es L e i h in
    shut_denied (after T c).entries L e i hd (still T c l e i s (w n) a g r hd (denied_shut es L e i (counter T.system) (facts T s).tree a h)))

-- ---- a new link
module _ (T : Tables) (u s d n : ℕ) (h : sound T ≡ true) (y : reply T (link u s d) ≡ Done n) where
  abbrev C : Checked T u s d n y
  C = checked T u s d n y

  link-object : object (after T (link u s d)).entries n ≡ object T.entries s
  unfolding linked
  link-object = rw (after-link T u s d n y, number T u s d n y) (object_put T.entries (free_entry T.entries) (kind T.entries s) d (object T.entries s) C.room)

  link-parent : parent (after T (link u s d)).entries n ≡ d
  unfolding linked
  link-parent = rw (after-link T u s d n y, number T u s d n y) (parent_put T.entries (free_entry T.entries) (kind T.entries s) d (object T.entries s) C.room)

  link-frees : (e : ℕ) → frees T (link u s d) e ≡ false
  unfolding frees would_free
  link-frees e = and-false (is_done (reply T (link u s d)))

  link_shut : (l i : ℕ) → elem l (domain_of T u) ≡ true → has (entry_rights T.entries s) i ≡ true → has (handled (layer_at T.layers T.pool l)) i ≡ true
      → Shut T.entries (gives (layer_at T.layers T.pool l) i) s → Shut (after T (link u s d)).entries (gives (layer_at T.layers T.pool l) i) n
  unfolding caller
  link_shut l i m r hd x =
      let es = T.entries in
      let es' = (after T (link u s d)).entries in
      let f = gives (layer_at T.layers T.pool l) i in
      let ld = live_dir es d C.target in
      let sd : Shut es f d = shut_there es (counter T.system) (facts T h).tree i T.layers T.pool (domain_of T u) l m hd Link s d None 0 0 C.within ld r x in
      let sd' : Shut es' f d = still T (link u s d) l d i h m ld (link-frees d) (dir_holds es s d i C.target r) hd sd in
      shut_cons es' f n (rw link-object (shut_here es f s x)) (rw link-parent sd')

pub link-denied : (T : Tables) (u s d n l i : ℕ) → sound T ≡ true → reply T (link u s d) ≡ Done n → elem l (domain_of T u) ≡ true
    → has (entry_rights T.entries s) i ≡ true → has (denied T.entries (layer_at T.layers T.pool l) s) i ≡ true
    → has (denied (after T (link u s d)).entries (layer_at T.layers T.pool l) n) i ≡ true
link-denied T u s d n l i h y m r x =
    let es = T.entries in
    let L = layer_at T.layers T.pool l in
    let hd = denied-handled es L s i x in
    shut_denied (after T (link u s d)).entries L n i hd
    (link_shut T u s d n h y l i m r hd (denied_shut es L s i (counter T.system) (facts T h).tree (checked T u s d n y).source x))

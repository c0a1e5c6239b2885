-- Demand 3 on the six tables with jumps among the calls: a jump gives the entries that calls would leave from here, all else but the next object number as it is.
-- Assumes nothing.
use mathlib.Core.Path.{◌≡◌, refl, sym, ◌∙◌}
use mathlib.Core.Bool.{true, false, and-false}
use mathlib.Core.List.{List, [], ◌∷◌, ◌++◌}
use Prim.Native.Nat.{ℕ}
use lib.ListN.{set}
use Rattle.laws.specs.Tests.{elem}
use Rattle.laws.proofs.Bools.{split}
use Rattle.access.specs.Rights.{has}
use Rattle.access.specs.declared.errno.Reply.TheVariants.{Done}
use Rattle.tables.specs.Tables.{Tables, tables, kind, live, thread_live}
use Rattle.tables.specs.Layers.{Layer}
use Rattle.fs.specs.Move.{entry_rights}
use Rattle.sound.specs.Sound.{sound}
use Rattle.theorems.specs.Calls.{Call, link, after, reply, after_all, caller, is_done, frees, would_end, ends}
use Rattle.theorems.specs.Claim.{domain_of, holds, Grown, ChangesTree, Within, Kept, Lives}
use Rattle.theorems.proofs.Kept.{kept}
use Rattle.theorems.proofs.Denied.{denied-kept, kept_entry, link-denied}
use Rattle.theorems.proofs.Stays.{Stays, stays, stays_alone, stays_self, stays_on}
use Rattle.theorems.proofs.Links.{link-new}
use Rattle.theorems.proofs.Assembly.{layer_of, denies, rights-same, not_held, lacked, find_lack}
use Rattle.theorems.proofs.Assembly as assembly

pub data Event : Type 0 where
  call : Call → Event
  -- the calls, and the next object number
  jump : List Call → ℕ → Event

-- the tables with other entries and another next object number
abbrev pub jumped : Tables → List ℕ → ℕ → Tables
jumped T es v = tables (set T.system 1 v) es T.rulesets T.layers T.pool T.threads

unfoldable pub after_e : Tables → Event → Tables
after_e T (call c) = after T c
after_e T (jump bs v) = jumped T (after_all T bs).entries v

unfoldable pub all_e : Tables → List Event → Tables
all_e T [] = T
all_e T (v ∷ vs) = all_e (after_e T v) vs

-- for the domain D and the thread t, which no call ends
unfoldable pub FairE : List ℕ → ℕ → Tables → Event → Type 0
FairE D t T (call c) = (ChangesTree T c → Grown D (domain_of T (caller c))) × (ends T c t ≡ false)
FairE D t T (jump bs v) = Within D T bs × Lives T bs t × (sound (after_e T (jump bs v)) ≡ true)

-- the entry e is not freed
unfoldable pub SafeE : ℕ → Tables → Event → Type 0
SafeE e T (call c) = frees T c e ≡ false
SafeE e T (jump bs v) = Kept T bs e

unfoldable pub EachE : (Tables → Event → Type 0) → Tables → List Event → Type 0
EachE P T [] = Unit {0}
EachE P T (v ∷ vs) = P T v × EachE P (after_e T v) vs

pub all_join : (xs : List Event) (T : Tables) (ys : List Event) → all_e T (xs ++ ys) ≡ all_e (all_e T xs) ys
unfolding all_e
all_join [] T ys = refl
all_join (x ∷ xs) T ys = all_join xs (after_e T x) ys

pub each-join : (P : Tables → Event → Type 0) (xs : List Event) (T : Tables) (ys : List Event) → EachE P T xs → EachE P (all_e T xs) ys → EachE P T (xs ++ ys)
unfolding all_e EachE
each-join P [] T ys p q = q
each-join P (x ∷ xs) T ys p q = (p.0, each-join P xs (after_e T x) ys p.1 q)

-- ---- one event
pub jump_stays : (T : Tables) (t : ℕ) (es : List ℕ) (v : ℕ) → thread_live T.threads t ≡ true → Stays T (jumped T es v) t
jump_stays T t es v a = stays_alone T (jumped T es v) t a refl refl refl

module _ (D : List ℕ) (t : ℕ) where
  event_stays : (T : Tables) (v : Event) → thread_live T.threads t ≡ true → FairE D t T v → Stays T (after_e T v) t
  unfolding after_e FairE
  event_stays T (call c) a w = stays T c t a w.1
  event_stays T (jump bs v) a w = jump_stays T t _ v a

  event-sound : (T : Tables) (v : Event) → sound T ≡ true → FairE D t T v → sound (after_e T v) ≡ true
  unfolding after_e FairE
  event-sound T (call c) h w = kept T c h
  event-sound T (jump bs v) h w = w.2

-- live as before, with its kind
abbrev Same : List ℕ → List ℕ → ℕ → Type 0
Same es es' e = (live es' e ≡ true) × (kind es' e ≡ kind es e)

all_same : (cs : List Call) (T : Tables) (e : ℕ) → sound T ≡ true → live T.entries e ≡ true → Kept T cs e → Same T.entries (after_all T cs).entries e
all_same = assembly.all_same kept denied-kept kept_entry link-denied

event-same : (T : Tables) (v : Event) (e : ℕ) → sound T ≡ true → live T.entries e ≡ true → SafeE e T v → Same T.entries (after_e T v).entries e
unfolding after_e SafeE
event-same T (call c) e h a k = let p = kept_entry T c e h a k in (p.0, p.1)
event-same T (jump bs v) e h a k = all_same bs T e h a k

event-denied : (T : Tables) (v : Event) (D : List ℕ) (t l e i : ℕ) → sound T ≡ true → thread_live T.threads t ≡ true → FairE D t T v → elem l D ≡ true
    → elem l (domain_of T t) ≡ true → live T.entries e ≡ true → SafeE e T v → has (entry_rights T.entries e) i ≡ true
    → denies T.entries (layer_of T l) e i ≡ true → denies (after_e T v).entries (layer_of T l) e i ≡ true
unfolding after_e FairE SafeE Grown
event-denied T (call c) D t l e i h n w m b a k o d = denied-kept T c l e i h (λ x. w.0 x l m) a k o d
event-denied T (jump bs v) D t l e i h n w m b a k o d =
    assembly.all-denied kept denied-kept kept_entry link-denied bs T t D l (layer_of T l) e i h n w.1 w.0 m b refl a k o d

-- ---- a list of events
module _ (D : List ℕ) (t : ℕ) where
  pub all_e_stays : (vs : List Event) (T : Tables) → thread_live T.threads t ≡ true → EachE (FairE D t) T vs → Stays T (all_e T vs) t
  unfolding all_e EachE
  all_e_stays [] T a w = stays_self T t a
  all_e_stays (v ∷ vs) T a w =
      let S = event_stays D t T v a w.0 in
      stays_on T (after_e T v) (all_e (after_e T v) vs) t S (all_e_stays vs (after_e T v) S.lives w.1)

  all_e_same : (vs : List Event) (T : Tables) (e : ℕ) → sound T ≡ true → EachE (FairE D t) T vs → live T.entries e ≡ true → EachE (SafeE e) T vs
      → Same T.entries (all_e T vs).entries e
  unfolding all_e EachE
  all_e_same [] T e h w a k = (a, refl)
  all_e_same (v ∷ vs) T e h w a k =
      let p = event-same T v e h a k.0 in
      let q = all_e_same vs (after_e T v) e (event-sound D t T v h w.0) w.1 p.0 k.1 in
      (q.0, q.1 ∙ p.1)

  all_e_denied : (vs : List Event) (T : Tables) (l : ℕ) (L : Layer) (e i : ℕ) → sound T ≡ true → thread_live T.threads t ≡ true → EachE (FairE D t) T vs
      → elem l D ≡ true → elem l (domain_of T t) ≡ true → layer_of T l ≡ L
      → live T.entries e ≡ true → EachE (SafeE e) T vs → has (entry_rights T.entries e) i ≡ true
      → denies T.entries L e i ≡ true → denies (all_e T vs).entries L e i ≡ true
  unfolding all_e EachE Grown
  all_e_denied [] T l L e i h n w m b q a k o d = d
  all_e_denied (v ∷ vs) T l L e i h n w m b q a k o d =
      let S = event_stays D t T v n w.0 in
      let p = event-same T v e h a k.0 in
      let d1 : denies (after_e T v).entries L e i ≡ true = rw q at (event-denied T v D t l e i h n w.0 m b a k.0 o (rw q d)) in
      all_e_denied vs (after_e T v) l L e i (event-sound D t T v h w.0) S.lives w.1 m (S.grown l b) (S.layers l b ∙ q) p.0 k.1
      (rights-same T.entries (after_e T v).entries e e i p.1 ∙ o) d1

-- ---- demand 3's parts
pub entries_e : (T : Tables) (t : ℕ) (vs : List Event) → sound T ≡ true → thread_live T.threads t ≡ true → EachE (FairE (domain_of T t) t) T vs
    → (e i : ℕ) → live T.entries e ≡ true → EachE (SafeE e) T vs → holds T (domain_of T t) e i ≡ false → holds (all_e T vs) (domain_of (all_e T vs) t) e i ≡ false
unfolding Grown
entries_e T t vs h n w e i a k x =
    let T' = all_e T vs in
    let D = domain_of T t in
    let p = all_e_stays D t vs T n w in
    split (has (entry_rights T.entries e) i)
    (λ o.
    let y = find_lack T D e i x o in
    let l = y.0 in
    let d = all_e_denied D t vs T l (layer_of T l) e i h n w y.1 y.1 refl a k o y.2 in
    lacked T' (domain_of T' t) e i l (p.grown l y.1) (rw (p.layers l y.1) d))
    (λ o. not_held T' (domain_of T' t) e i (rights-same T.entries T'.entries e e i (all_e_same D t vs T e h w a k).1 ∙ o))

pub link-ends : (T : Tables) (u s d t : ℕ) → ends T (link u s d) t ≡ false
unfolding ends would_end
link-ends T u s d t = and-false (is_done (reply T (link u s d)))

-- a new link, made on tables T1 to which t's layers came from T, by a thread of that domain or one grown from it; then calls; then events, from tables T3 to which
-- t's layers came too and which have the entries that the calls left
module _ (T T1 T3 : Tables) (t : ℕ) (h1 : sound T1 ≡ true) (from : Stays T T1 t)
    (u s d n i : ℕ) (r : reply T1 (link u s d) ≡ Done n) (g : Grown (domain_of T t) (domain_of T1 u))
    (calls : List Call) (wc : Within (domain_of T t) (after T1 (link u s d)) calls) (lc : Lives (after T1 (link u s d)) calls t) (kc : Kept (after T1 (link u s d)) calls n)
    (h3 : sound T3 ≡ true) (on : Stays T T3 t) (as-left : T3.entries ≡ (after_all (after T1 (link u s d)) calls).entries)
    (vs : List Event) (w : EachE (FairE (domain_of T t) t) T3 vs) (k : EachE (SafeE n) T3 vs) (x : holds T1 (domain_of T t) s i ≡ false) where
  abbrev D : List ℕ
  D = domain_of T t

  abbrev T2 : Tables
  T2 = after T1 (link u s d)

  abbrev T4 : Tables
  T4 = all_e T3 vs

  pub link_e : holds T4 D n i ≡ false
  unfolding Grown
  link_e =
      let h2 = kept T1 (link u s d) h1 in
      let new = link-new T1 u s d n r in
      let p2 = stays T1 (link u s d) t from.lives (link-ends T1 u s d t) in
      let p4 = all_e_stays D t vs T3 on.lives w in
      let s2 = all_same calls T2 n h2 new.0 kc in
      let a3 : live T3.entries n ≡ true = rw as-left s2.0 in
      let k3 : kind T3.entries n ≡ kind T1.entries s = rw as-left (s2.1 ∙ new.1) in
      let k4 = (all_e_same D t vs T3 n h3 w a3 k).1 in
      split (has (entry_rights T1.entries s) i)
      (λ o.
      let y = find_lack T1 D s i x o in
      let l = y.0 in
      let L = layer_of T1 l in
      let b1 = from.grown l y.1 in
      let b2 = p2.grown l b1 in
      let b3 = on.grown l y.1 in
      let q3 : layer_of T3 l ≡ L = on.layers l y.1 ∙ sym (from.layers l y.1) in
      let d2 = link-denied T1 u s d n l i h1 r (g l y.1) o y.2 in
      let o2 = rights-same T1.entries T2.entries s n i new.1 ∙ o in
      let d3 : denies T3.entries L n i ≡ true = rw as-left (assembly.all-denied kept denied-kept kept_entry link-denied calls T2 t D l L n i h2 p2.lives lc wc y.1 b2 (p2.layers l b1) new.0 kc o2 d2) in
      let d4 = all_e_denied D t vs T3 l L n i h3 on.lives w y.1 b3 q3 a3 k (rights-same T1.entries T3.entries s n i k3 ∙ o) d3 in
      lacked T4 D n i l y.1 (rw (p4.layers l b3, q3) d4))
      (λ o. not_held T4 D n i (rights-same T1.entries T4.entries s n i (k4 ∙ k3) ∙ o))

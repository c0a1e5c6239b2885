-- A list of calls, replays among them, as events on the six tables. Assumes nothing.
use mathlib.Core.Path.{◌≡◌, refl, sym, ap, subst, ◌∙◌}
use mathlib.Core.Bool.{true}
use mathlib.Core.List.{List, [], ◌∷◌, ◌++◌}
use Prim.Native.Nat.{ℕ}
use Rattle.tables.specs.Tables.{Tables, counter}
use Rattle.sound.specs.Sound.{sound}
use Rattle.theorems.specs.Calls.{Call, after, after_all}
use Rattle.theorems.specs.Claim as base
use Rattle.named.specs.Named.{Named, named_sound, NamedOutcome}
use Rattle.named.proofs.Made.{core-sound}
use Rattle.tree_log.specs.Tree.{tree_of, with_tree}
use Rattle.tree_log.specs.Replay.{replay_named}
use Rattle.tree_log.specs.Logged.{Log, plain, logged, replay, outcome_logged, after_logged}
use Rattle.tree_log.specs.History.{Moment, moment, Step, last, Allowed, up_to}
use Rattle.tree_log.proofs.Unbroken.{replay-unbroken}
use Rattle.tree_log.proofs.Kept.{kept-logged, replay-left}
use Rattle.log_theorems.specs.Claim.{Item, call, counted, call_at, after_item, all_items, EachItem, Counts, Fair, Within, Spares, Kept, Outlives, Lives}
use Rattle.log_theorems.proofs.Events.{Event, call as one, jump, jumped, after_e, all_e, FairE, SafeE, EachE, all_join, each-join}
use Rattle.log_theorems.proofs.Follows.{base_of, follows_plain, follows_logged}
use Rattle.log_theorems.proofs.Histories.{each-up_to, steps_of, steps_core, steps_within, steps_lives, steps_spare}

-- ---- calls as events
calls : List Call → List Event
calls [] = []
calls (b ∷ bs) = one b ∷ calls bs

calls-all : (bs : List Call) (T : Tables) → all_e T (calls bs) ≡ after_all T bs
unfolding calls all_e after_e after_all
calls-all [] T = refl
calls-all (b ∷ bs) T = calls-all bs (after T b)

calls-fair : (D : List ℕ) (t : ℕ) (bs : List Call) (T : Tables) → base.Within D T bs → base.Lives T bs t → EachE (FairE D t) T (calls bs)
unfolding calls EachE FairE after_e base.Within base.Lives
calls-fair D t [] T w l = tt
calls-fair D t (b ∷ bs) T w l = ((w.0, l.0), calls-fair D t bs (after T b) w.1 l.1)

calls_safe : (e : ℕ) (bs : List Call) (T : Tables) → base.Kept T bs e → EachE (SafeE e) T (calls bs)
unfolding calls EachE SafeE after_e base.Kept
calls_safe e [] T k = tt
calls_safe e (b ∷ bs) T k = (k.0, calls_safe e bs (after T b) k.1)

-- ---- an item
-- when the last whole field of a cut log was written
abbrev pub stop : Named → Log → List Step → ℕ → Moment
stop N L hs k = last (moment N L) (up_to k (moment N L) hs)

events_of : Named → Item → List Event
events_of N (call (plain c u)) = calls (base_of N (plain c u))
events_of N (call (logged t c L)) = calls (base_of N (logged t c L))
events_of N (call (replay bs)) = jump [] (counter (after_logged N (replay bs)).core.system) ∷ []
events_of N (counted L hs k) = jump (steps_of (moment N L) (up_to k (moment N L) hs)) (counter (stop N L hs k).tables.core.system) ∷ []

pub counted-left : (D : List ℕ) (t : ℕ) (N : Named) (L : Log) (hs : List Step) (k : ℕ) → named_sound N ≡ true → Counts D t N L hs k
    → after_item N (counted L hs k) ≡ with_tree N (tree_of (stop N L hs k).tables)
unfolding call_at outcome_logged
counted-left D t N L hs k h w = ap (λ (o : NamedOutcome). o.left) (replay-unbroken N L hs k h w.empty w.unbroken)

module _ (N : Named) (h : named_sound N ≡ true) (D : List ℕ) (t : ℕ) where
  plain-left : (bs : List ℕ) → (after_logged N (replay bs)).core.entries ≡ N.core.entries
      → (after_logged N (replay bs)).core ≡ jumped N.core N.core.entries (counter (after_logged N (replay bs)).core.system)
  unfolding outcome_logged
  plain-left bs q = ap (λ (M : Named). M.core) (replay-left N bs h) ∙ ap (λ (es : List ℕ). jumped N.core es (counter (replay_named N bs).left.core.system)) q

  item-core : (a : Item) → Fair D t N a → (after_item N a).core ≡ all_e N.core (events_of N a)
  unfolding call_at events_of Fair all_e after_e after_all
  item-core (call (plain c u)) w = (follows_plain N c u).same ∙ sym (calls-all (base_of N (plain c u)) N.core)
  item-core (call (logged u c L)) w = (follows_logged N u c L).same ∙ sym (calls-all (base_of N (logged u c L)) N.core)
  item-core (call (replay bs)) w = plain-left bs w
  item-core (counted L hs k) w =
      ap (λ (M : Named). M.core) (counted-left D t N L hs k h w)
      ∙ ap (λ (T : Tables). jumped N.core T.entries (counter (stop N L hs k).tables.core.system))
      (steps_core (up_to k (moment N L) hs) (moment N L) (each-up_to Allowed k hs (moment N L) w.unbroken))

  item-sound : (a : Item) → Fair D t N a → sound (all_e N.core (events_of N a)) ≡ true
  item-sound a w = subst (λ (T : Tables). sound T ≡ true) (item-core a w) (core-sound (after_item N a) (kept-logged N (call_at N a) h))

  item-fair : (a : Item) → Fair D t N a → Outlives t N a → EachE (FairE D t) N.core (events_of N a)
  unfolding events_of Fair Outlives call_at EachE FairE all_e base.Within base.Lives
  item-fair (call (plain c u)) w l = let F = follows_plain N c u in calls-fair D t (base_of N (plain c u)) N.core (F.whose D w) (F.lives t l)
  item-fair (call (logged u c L)) w l = let F = follows_logged N u c L in calls-fair D t (base_of N (logged u c L)) N.core (F.whose D w) (F.lives t l)
  item-fair (call (replay bs)) w l = ((tt, tt, item-sound (call (replay bs)) w), tt)
  item-fair (counted L hs k) w l =
      let M = moment N L in
      let ss = up_to k M hs in
      let b = each-up_to Allowed k hs M w.unbroken in
      ((steps_within D ss M b w.writers, steps_lives t ss M b w.lived, item-sound (counted L hs k) w), tt)

  item_safe : (a : Item) (e : ℕ) → Fair D t N a → Spares e N a → EachE (SafeE e) N.core (events_of N a)
  unfolding events_of Fair Spares EachE SafeE base.Kept
  item_safe (call (plain c u)) e w k = calls_safe e (base_of N (plain c u)) N.core ((follows_plain N c u).kept e k)
  item_safe (call (logged u c L)) e w k = calls_safe e (base_of N (logged u c L)) N.core ((follows_logged N u c L).kept e k)
  item_safe (call (replay bs)) e w k = (tt, tt)
  item_safe (counted L hs n) e w k = (steps_spare e (up_to n (moment N L) hs) (moment N L) (each-up_to Allowed n hs (moment N L) w.unbroken) k, tt)

-- ---- a list of items
pub events : Named → List Item → List Event
events N [] = []
events N (a ∷ cs) = events_of N a ++ events (after_item N a) cs

module _ (D : List ℕ) (t : ℕ) where
  pub all-core : (cs : List Item) (N : Named) → named_sound N ≡ true → Within D t N cs → (all_items N cs).core ≡ all_e N.core (events N cs)
  unfolding all_items events all_e EachItem
  all-core [] N h w = refl
  all-core (a ∷ cs) N h w =
      all-core cs (after_item N a) (kept-logged N (call_at N a) h) w.1
      ∙ ap (λ (T : Tables). all_e T (events (after_item N a) cs)) (item-core N h D t a w.0)
      ∙ sym (all_join (events_of N a) N.core (events (after_item N a) cs))

  pub all_fair : (cs : List Item) (N : Named) → named_sound N ≡ true → Within D t N cs → Lives N cs t → EachE (FairE D t) N.core (events N cs)
  unfolding events EachE EachItem
  all_fair [] N h w l = tt
  all_fair (a ∷ cs) N h w l =
      each-join (FairE D t) (events_of N a) N.core (events (after_item N a) cs) (item-fair N h D t a w.0 l.0)
      (subst (λ (T : Tables). EachE (FairE D t) T (events (after_item N a) cs)) (item-core N h D t a w.0) (all_fair cs (after_item N a) (kept-logged N (call_at N a) h) w.1 l.1))

  pub all_safe : (e : ℕ) (cs : List Item) (N : Named) → named_sound N ≡ true → Within D t N cs → Kept N cs e → EachE (SafeE e) N.core (events N cs)
  unfolding events EachE EachItem
  all_safe e [] N h w k = tt
  all_safe e (a ∷ cs) N h w k =
      each-join (SafeE e) (events_of N a) N.core (events (after_item N a) cs) (item_safe N h D t a e w.0 k.0)
      (subst (λ (T : Tables). EachE (SafeE e) T (events (after_item N a) cs)) (item-core N h D t a w.0) (all_safe e cs (after_item N a) (kept-logged N (call_at N a) h) w.1 k.1))

pub items_kept : (cs : List Item) (N : Named) → named_sound N ≡ true → named_sound (all_items N cs) ≡ true
unfolding all_items
items_kept [] N h = h
items_kept (a ∷ cs) N h = items_kept cs (after_item N a) (kept-logged N (call_at N a) h)

-- ---- a list split at an item
pub items_append : (before : List Item) (N : Named) (a : Item) (later : List Item) → all_items N (before ++ a ∷ later) ≡ all_items (after_item (all_items N before) a) later
unfolding all_items
items_append [] N a later = refl
items_append (b ∷ before) N a later = items_append before (after_item N b) a later

pub item_split : (P : Named → Item → Type 0) (before : List Item) (N : Named) (a : Item) (later : List Item) → EachItem P N (before ++ a ∷ later)
    → EachItem P N before × P (all_items N before) a × EachItem P (after_item (all_items N before) a) later
unfolding all_items EachItem
item_split P [] N a later w = (tt, w.0, w.1)
item_split P (b ∷ before) N a later w = let p = item_split P before (after_item N b) a later w.1 in ((w.0, p.0), p.1, p.2)

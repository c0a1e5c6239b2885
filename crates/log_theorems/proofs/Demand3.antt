-- Demand 3 holds with replays among the calls. Assumes nothing.
use mathlib.Core.Path.{◌≡◌, refl, sym, ap, subst, ◌∙◌}
use mathlib.Core.Bool.{true, false}
use mathlib.Core.List.{List, [], ◌∷◌, ◌++◌}
use Prim.Native.Nat.{ℕ}
use Rattle.access.specs.declared.errno.Reply.TheVariants.{Done}
use Rattle.tables.specs.Tables.{Tables, live, thread_live}
use Rattle.sound.specs.Sound.{sound}
use Rattle.theorems.specs.Calls.{Call, after, after_all}
use Rattle.theorems.specs.Claim.{domain_of, holds, Grown}
use Rattle.theorems.specs.Claim as base
use Rattle.theorems.proofs.Kept as settled
use Rattle.theorems.proofs.Stays.{Stays, stays, all_stays, stays_on}
use Rattle.theorems.proofs.Ports.{ports_stay}
use Rattle.theorems.proofs.Reach.{threads_stay}
use Rattle.named.specs.Named.{Named, named_sound}
use Rattle.named.proofs.Made.{core-sound}
use Rattle.tree_log.specs.Changes.{Change, link}
use Rattle.tree_log.specs.Tree.{tree_of, with_tree}
use Rattle.tree_log.specs.Logged.{Log, enters, logged, outcome_logged, after_logged, reply_logged}
use Rattle.tree_log.specs.History.{Moment, moment, Step, ours, next, last, Allowed, Each, up_to}
use Rattle.tree_log.proofs.Kept.{kept-logged}
use Rattle.log_theorems.specs.Claim.{Item, call, counted, call_at, after_item, all_items, Wrote, ends_step, frees_step, Fair, Within, Kept, Outlives, Lives, Demand3}
use Rattle.log_theorems.proofs.Events.{FairE, SafeE, EachE, all_e, jump_stays, all_e_stays, link-ends, entries_e, link_e}
use Rattle.log_theorems.proofs.Histories.{each-up_to, each_split, last_split, steps_of, steps_core, steps_within, steps_lives, steps_spare, steps_kept}
use Rattle.log_theorems.proofs.Items.{stop, counted-left, events, all-core, all_fair, all_safe, items_kept, items_append, item_split}
use Rattle.log_theorems.proofs.Links.{made-link}

after-step : (M : Moment) (t : ℕ) (c : Change) → (next M (ours t c)).tables.core ≡ (after_logged M.tables (logged t c M.log)).core
unfolding next outcome_logged
after-step M t c = refl

wrote_by : (D : List ℕ) (M : Moment) (t : ℕ) (c : Change) → Wrote D M (ours t c) → enters M.tables M.log t c ≡ true → Grown D (domain_of M.tables.core t)
unfolding Wrote
wrote_by D M t c w = w

module _ (N : Named) (t : ℕ) (h : named_sound N ≡ true) (v : thread_live N.core.threads t ≡ true) where
  abbrev D : List ℕ
  D = domain_of N.core t

  -- what t keeps
  stays_all : (cs : List Item) → Within D t N cs → Lives N cs t → Stays N.core (all_items N cs).core t
  stays_all cs w l =
      subst (λ (T : Tables). Stays N.core T t) (sym (all-core D t cs N h w)) (all_e_stays D t (events N cs) N.core v (all_fair D t cs N h w l))

  entries-part : (cs : List Item) → Within D t N cs → Lives N cs t → (e i : ℕ) → live N.core.entries e ≡ true → Kept N cs e
      → holds N.core D e i ≡ false → holds (all_items N cs).core (domain_of (all_items N cs).core t) e i ≡ false
  entries-part cs w l e i a k x =
      subst (λ (T : Tables). holds T (domain_of T t) e i ≡ false) (sym (all-core D t cs N h w))
      (entries_e N.core t (events N cs) (core-sound N h) v (all_fair D t cs N h w l) e i a (all_safe D t e cs N h w k) x)

  -- a link of the list
  links-part : (before later : List Item) (u s d : ℕ) (name : List ℕ) (L : Log) (n i : ℕ) → Within D t N (before ++ call (logged u (link s d name) L) ∷ later)
      → Lives N (before ++ call (logged u (link s d name) L) ∷ later) t
      → reply_logged (all_items N before) (logged u (link s d name) L) ≡ Done n → Kept (after_logged (all_items N before) (logged u (link s d name) L)) later n
      → holds (all_items N before).core D s i ≡ false → holds (all_items N (before ++ call (logged u (link s d name) L) ∷ later)).core D n i ≡ false
  unfolding call_at Fair base.Within base.Lives base.Kept after_all
  links-part before later u s d name L n i w l r k x =
      let M = all_items N before in
      let a = call (logged u (link s d name) L) in
      let p = item_split (Fair D t) before N a later w in
      let o = item_split (Outlives t) before N a later l in
      let m = made-link M u s d name L n r in
      let T1 = M.core in
      let T2 = after T1 (Call.link u s d) in
      let hM = items_kept before N h in
      let h1 = core-sound M hM in
      let hA = kept-logged M (logged u (link s d name) L) hM in
      let B = after_item M a in
      let from = stays_all before p.0 o.0 in
      let e : (all_items N (before ++ a ∷ later)).core ≡ all_e T2 (events B later) =
      ap (λ (Z : Named). Z.core) (items_append before N a later) ∙ all-core D t later B hA p.2 ∙ ap (λ (T : Tables). all_e T (events B later)) m.left in
      subst (λ (T : Tables). holds T D n i ≡ false) (sym e)
      (link_e N.core T1 T2 t h1 from u s d n i m.answered (p.1 m.changes) [] tt tt tt
      (settled.kept T1 (Call.link u s d) h1) (stays_on N.core T1 T2 t from (stays T1 (Call.link u s d) t from.lives (link-ends T1 u s d t))) refl
      (events B later) (subst (λ (T : Tables). EachE (FairE D t) T (events B later)) m.left (all_fair D t later B hA p.2 o.2))
      (subst (λ (T : Tables). EachE (SafeE n) T (events B later)) m.left (all_safe D t n later B hA p.2 k)) x)

  -- a link inside a replay that counts: made on the tables M1 of the history
  replayed-part : (before later : List Item) (L : Log) (hs : List Step) (k : ℕ) (first rest : List Step) (u s d : ℕ) (name : List ℕ) (n i : ℕ)
      → Within D t N (before ++ counted L hs k ∷ later) → Lives N (before ++ counted L hs k ∷ later) t
      → up_to k (moment (all_items N before) L) hs ≡ first ++ ours u (link s d name) ∷ rest
      → let M = last (moment (all_items N before) L) first in
      reply_logged M.tables (logged u (link s d name) M.log) ≡ Done n
      → Each (λ M h. frees_step M h n ≡ false) (next M (ours u (link s d name))) rest → Kept (after_item (all_items N before) (counted L hs k)) later n
      → holds M.tables.core D s i ≡ false → holds (all_items N (before ++ counted L hs k ∷ later)).core D n i ≡ false
  unfolding Fair
  replayed-part before later L hs k first rest u s d name n i w l q r ks kl x =
      let N0 = all_items N before in
      let a = counted L hs k in
      let p = item_split (Fair D t) before N a later w in
      let o = item_split (Outlives t) before N a later l in
      let h0 = items_kept before N h in
      let C = p.1 in
      let M0 = moment N0 L in
      let M1 = last M0 first in
      let step = ours u (link s d name) in
      let M2 = next M1 step in
      let at : (P : Moment → Step → Type 0) → Each P M0 (up_to k M0 hs) → Each P M0 first × P M1 step × Each P M2 rest =
      λ P g. each_split P first M0 step rest (subst (λ (ss : List Step). Each P M0 ss) q g) in
      let ws = at Allowed (each-up_to Allowed k hs M0 C.unbroken) in
      let gs = at (Wrote D) C.writers in
      let ls = at (λ M h. ends_step M h t ≡ false) C.lived in
      let m = made-link M1.tables u s d name M1.log n r in
      let T1 = M1.tables.core in
      let T2 = after T1 (Call.link u s d) in
      let m2 : M2.tables.core ≡ T2 = after-step M1 u (link s d name) ∙ m.left in
      let h1 = core-sound M1.tables (steps_kept first M0 ws.0 h0) in
      let from0 = stays_all before p.0 o.0 in
      let from1 : Stays N0.core T1 t = subst (λ (T : Tables). Stays N0.core T t) (sym (steps_core first M0 ws.0))
      (all_stays (steps_of M0 first) N0.core t from0.lives (steps_lives t first M0 ws.0 ls.0)) in
      let from = stays_on N.core N0.core T1 t from0 from1 in
      let B = after_item N0 a in
      let hB = kept-logged N0 (call_at N0 a) h0 in
      let T3 = (with_tree N0 (tree_of (stop N0 L hs k).tables)).core in
      let e3 : B.core ≡ T3 = ap (λ (Z : Named). Z.core) (counted-left D t N0 L hs k h0 C) in
      let more = steps_of M2 rest in
      let l1 : stop N0 L hs k ≡ last M2 rest = ap (last M0) q ∙ last_split first M0 step rest in
      let l2 : (last M2 rest).tables.core ≡ after_all T2 more = steps_core rest M2 ws.2 ∙ ap (λ (T : Tables). after_all T more) m2 in
      let as-left : T3.entries ≡ (after_all T2 more).entries = ap (λ (Z : Moment). Z.tables.core.entries) l1 ∙ ap (λ (T : Tables). T.entries) l2 in
      let e : (all_items N (before ++ a ∷ later)).core ≡ all_e T3 (events B later) =
      ap (λ (Z : Named). Z.core) (items_append before N a later) ∙ all-core D t later B hB p.2 ∙ ap (λ (T : Tables). all_e T (events B later)) e3 in
      subst (λ (T : Tables). holds T D n i ≡ false) (sym e)
      (link_e N.core T1 T3 t h1 from u s d n i m.answered (wrote_by D M1 u (link s d name) gs.1 m.inside) more
      (subst (λ (T : Tables). base.Within D T more) m2 (steps_within D rest M2 ws.2 gs.2))
      (subst (λ (T : Tables). base.Lives T more t) m2 (steps_lives t rest M2 ws.2 ls.2))
      (subst (λ (T : Tables). base.Kept T more n) m2 (steps_spare n rest M2 ws.2 ks))
      (subst (λ (T : Tables). sound T ≡ true) e3 (core-sound B hB)) (stays_on N.core N0.core T3 t from0 (jump_stays N0.core t _ _ from0.lives)) as-left
      (events B later) (subst (λ (T : Tables). EachE (FairE D t) T (events B later)) e3 (all_fair D t later B hB p.2 o.2))
      (subst (λ (T : Tables). EachE (SafeE n) T (events B later)) e3 (all_safe D t n later B hB p.2 kl)) x)

pub demand3 : Demand3
unfolding Demand3
demand3 N t cs h v l w = record {
  entries = entries-part N t h v cs w l;
  links = λ before later u s d name L n i e r k x.
      subst (λ (Z : List Item). holds (all_items N Z).core (domain_of N.core t) n i ≡ false) (sym e)
      (links-part N t h v before later u s d name L n i (subst (Within (domain_of N.core t) t N) e w) (subst (λ (Z : List Item). Lives N Z t) e l) r k x);
  replayed-links_lem = λ before later L hs k first rest u s d name n i e q r ks kl x.
      subst (λ (Z : List Item). holds (all_items N Z).core (domain_of N.core t) n i ≡ false) (sym e)
      (replayed-part N t h v before later L hs k first rest u s d name n i (subst (Within (domain_of N.core t) t N) e w) (subst (λ (Z : List Item). Lives N Z t) e l) q r ks kl x);
  ports = λ port i x. ports_stay N.core (all_items N cs).core t (stays_all N t h v cs w l) port i x;
  threads = λ s u a k q x. threads_stay N.core (all_items N cs).core t (stays_all N t h v cs w l) s u q x;
}

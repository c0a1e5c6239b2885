-- An unbroken history as calls of document 01, and a history split at a step. Assumes nothing.
use mathlib.Core.Path.{◌≡◌, refl, sym, ap, subst, ◌∙◌}
use mathlib.Core.Bool.{Bool, true, false}
use mathlib.Core.List.{List, [], ◌∷◌, ◌++◌}
use Prim.Native.Nat.{ℕ}
use Rattle.tables.specs.Tables.{Tables}
use Rattle.theorems.specs.Calls.{Call, after_all}
use Rattle.theorems.specs.Claim as base
use Rattle.named.specs.Named.{named_sound}
use Rattle.named.proofs.Lists.{after-join, within-join, kept-join, lives-join}
use Rattle.tree_log.specs.Logged.{logged, outcome_logged}
use Rattle.tree_log.specs.History.{Moment, Step, ours, other, fresh, next, last, Allowed, Each, Unbroken, wrote_within, keep_if, up_to}
use Rattle.tree_log.proofs.Kept.{kept-logged}
use Rattle.log_theorems.specs.Claim.{Wrote, ends_step, frees_step}
use Rattle.log_theorems.proofs.Follows.{step_base, follows_step}

-- ---- the steps up to the last whole field are the first of the history
keep_each : (P : Moment → Step → Type 0) (b : Bool) (M : Moment) (h : Step) (hs : List Step) → P M h → Each P (next M h) hs → Each P M (keep_if b h hs)
unfolding Each keep_if
keep_each P true M h hs p w = (p, w)
keep_each P false M h [] p w = tt
keep_each P false M h (g ∷ hs) p w = (p, w)

pub each-up_to : (P : Moment → Step → Type 0) (k : ℕ) (hs : List Step) (M : Moment) → Each P M hs → Each P M (up_to k M hs)
unfolding up_to Each
each-up_to P k [] M w = tt
each-up_to P k (h ∷ hs) M w = keep_each P (wrote_within k M h) M h (up_to k (next M h) hs) w.0 (each-up_to P k hs (next M h) w.1)

-- ---- a history split at a step
pub each_split : (P : Moment → Step → Type 0) (first : List Step) (M : Moment) (h : Step) (rest : List Step) → Each P M (first ++ h ∷ rest)
    → Each P M first × P (last M first) h × Each P (next (last M first) h) rest
unfolding last Each
each_split P [] M h rest w = (tt, w.0, w.1)
each_split P (f ∷ first) M h rest w = let q = each_split P first (next M f) h rest w.1 in ((w.0, q.0), q.1, q.2)

pub last_split : (first : List Step) (M : Moment) (h : Step) (rest : List Step) → last M (first ++ h ∷ rest) ≡ last (next (last M first) h) rest
unfolding last
last_split [] M h rest = refl
last_split (f ∷ first) M h rest = last_split first (next M f) h rest

-- ---- its calls
pub steps_of : Moment → List Step → List Call
steps_of M [] = []
steps_of M (h ∷ hs) = step_base M h ++ steps_of (next M h) hs

pub steps_core : (hs : List Step) (M : Moment) → Unbroken M hs → (last M hs).tables.core ≡ after_all M.tables.core (steps_of M hs)
unfolding last steps_of after_all Each
steps_core [] M w = refl
steps_core (h ∷ hs) M w =
    steps_core hs (next M h) w.1 ∙ ap (λ (T : Tables). after_all T (steps_of (next M h) hs)) (follows_step M h w.0).same
    ∙ sym (after-join (step_base M h) M.tables.core (steps_of (next M h) hs))

pub steps_within : (D : List ℕ) (hs : List Step) (M : Moment) → Unbroken M hs → Each (Wrote D) M hs → base.Within D M.tables.core (steps_of M hs)
unfolding steps_of base.Within Each
steps_within D [] M w g = tt
steps_within D (h ∷ hs) M w g =
    let F = follows_step M h w.0 in
    within-join D (step_base M h) M.tables.core (steps_of (next M h) hs) (F.whose D g.0)
    (subst (λ (T : Tables). base.Within D T (steps_of (next M h) hs)) F.same (steps_within D hs (next M h) w.1 g.1))

pub steps_lives : (t : ℕ) (hs : List Step) (M : Moment) → Unbroken M hs → Each (λ M h. ends_step M h t ≡ false) M hs → base.Lives M.tables.core (steps_of M hs) t
unfolding steps_of base.Lives Each
steps_lives t [] M w g = tt
steps_lives t (h ∷ hs) M w g =
    let F = follows_step M h w.0 in
    lives-join t (step_base M h) M.tables.core (steps_of (next M h) hs) (F.lives t g.0)
    (subst (λ (T : Tables). base.Lives T (steps_of (next M h) hs) t) F.same (steps_lives t hs (next M h) w.1 g.1))

pub steps_spare : (e : ℕ) (hs : List Step) (M : Moment) → Unbroken M hs → Each (λ M h. frees_step M h e ≡ false) M hs → base.Kept M.tables.core (steps_of M hs) e
unfolding steps_of base.Kept Each
steps_spare e [] M w k = tt
steps_spare e (h ∷ hs) M w k =
    let F = follows_step M h w.0 in
    kept-join e (step_base M h) M.tables.core (steps_of (next M h) hs) (F.kept e k.0)
    (subst (λ (T : Tables). base.Kept T (steps_of (next M h) hs) e) F.same (steps_spare e hs (next M h) w.1 k.1))

-- ---- it keeps sound tables sound
step_kept : (M : Moment) (h : Step) → Allowed M h → named_sound M.tables ≡ true → named_sound (next M h).tables ≡ true
unfolding next outcome_logged Allowed
step_kept M (ours t c) w h = kept-logged M.tables (logged t c M.log) h
step_kept M (other c) w h = kept-logged M.tables c h
step_kept M (fresh level) w h = rw w h

pub steps_kept : (hs : List Step) (M : Moment) → Unbroken M hs → named_sound M.tables ≡ true → named_sound (last M hs).tables ≡ true
unfolding last Each
steps_kept [] M w h = h
steps_kept (s ∷ hs) M w h = steps_kept hs (next M s) w.1 (step_kept M s w.0 h)

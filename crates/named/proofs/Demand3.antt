-- Demand 3 holds of the calls with names: it follows from document 01's by the translation. Assumes nothing.
use mathlib.Core.Path.{◌≡◌, refl, sym, ap, ◌∙◌}
use mathlib.Core.Bool.{true, false}
use mathlib.Core.List.{List, [], ◌∷◌, ◌++◌, append_assoc}
use Prim.Native.Nat.{ℕ}
use Rattle.access.specs.declared.errno.Reply.TheVariants.{Done}
use Rattle.tables.specs.Tables.{Tables, thread_live}
use Rattle.theorems.specs.Calls.{Call, after, after_all, is_done}
use Rattle.theorems.specs.Claim.{domain_of, holds}
use Rattle.theorems.specs.Claim as settled
use Rattle.theorems.proofs.Demand3 as proved
use Rattle.named.specs.Named.{Named, named_sound}
use Rattle.named.specs.Calls.{NamedCall, link, after_named, reply_named, all_named}
use Rattle.named.specs.Claim.{Within, Kept, Lives, Demand3}
use Rattle.named.proofs.Made.{core-sound}
use Rattle.named.proofs.Translate.{translate, follows, link-reply, link-turn}
use Rattle.named.proofs.Lists.{after-join, within-join, kept-join, lives-join}

-- a list of calls, each translated on the tables that it meets
translate_all : Named → List NamedCall → List Call
translate_all N [] = []
translate_all N (c ∷ cs) = translate N c ++ translate_all (after_named N c) cs

all_same : (cs : List NamedCall) (N : Named) → (all_named N cs).core ≡ after_all N.core (translate_all N cs)
unfolding all_named translate_all after_all
all_same [] N = refl
all_same (c ∷ cs) N =
    all_same cs (after_named N c)
    ∙ ap (λ (T : Tables). after_all T (translate_all (after_named N c) cs)) (follows N c).same
    ∙ sym (after-join (translate N c) N.core (translate_all (after_named N c) cs))

all-within : (D : List ℕ) (cs : List NamedCall) (N : Named) → Within D N cs → settled.Within D N.core (translate_all N cs)
unfolding Within translate_all settled.Within
all-within D [] N w = tt
all-within D (c ∷ cs) N w =
    within-join D (translate N c) N.core (translate_all (after_named N c) cs) ((follows N c).whose D w.0) (rw (follows N c).same at (all-within D cs (after_named N c) w.1))

all-kept : (e : ℕ) (cs : List NamedCall) (N : Named) → Kept N cs e → settled.Kept N.core (translate_all N cs) e
unfolding Kept translate_all settled.Kept
all-kept e [] N k = tt
all-kept e (c ∷ cs) N k =
    kept-join e (translate N c) N.core (translate_all (after_named N c) cs) ((follows N c).kept e k.0) (rw (follows N c).same at (all-kept e cs (after_named N c) k.1))

all-lives : (t : ℕ) (cs : List NamedCall) (N : Named) → Lives N cs t → settled.Lives N.core (translate_all N cs) t
unfolding Lives translate_all settled.Lives
all-lives t [] N k = tt
all-lives t (c ∷ cs) N k =
    lives-join t (translate N c) N.core (translate_all (after_named N c) cs) ((follows N c).lives t k.0) (rw (follows N c).same at (all-lives t cs (after_named N c) k.1))

-- a list split at a link that was made
all_split : (before : List NamedCall) (N : Named) (u s d : ℕ) (name : List ℕ) (later : List NamedCall) → is_done (reply_named (all_named N before) (link u s d name)) ≡ true
    → translate_all N (before ++ link u s d name ∷ later) ≡ translate_all N before ++ Call.link u s d ∷ translate_all (after_named (all_named N before) (link u s d name)) later
unfolding all_named translate_all
all_split [] N u s d name later r = ap (λ (bs : List Call). bs ++ translate_all (after_named N (link u s d name)) later) (link-turn N u s d name r)
all_split (c ∷ before) N u s d name later r =
    ap (λ (bs : List Call). translate N c ++ bs) (all_split before (after_named N c) u s d name later r)
    ∙ sym (append_assoc (translate N c) (translate_all (after_named N c) before) _)

link-after : (M : Named) (u s d : ℕ) (name : List ℕ) → is_done (reply_named M (link u s d name)) ≡ true → (after_named M (link u s d name)).core ≡ after M.core (Call.link u s d)
unfolding after_all
link-after M u s d name r = (follows M (link u s d name)).same ∙ ap (after_all M.core) (link-turn M u s d name r)

module _ (N : Named) (t : ℕ) (h : named_sound N ≡ true) (v : thread_live N.core.threads t ≡ true) where
  not_wider : (cs : List NamedCall) → Lives N cs t → Within (domain_of N.core t) N cs → settled.NotWider N.core t (translate_all N cs)
  unfolding settled.Demand3
  not_wider cs l w = proved.demand3 N.core t (translate_all N cs) (core-sound N h) v (all-lives t cs N l) (all-within (domain_of N.core t) cs N w)

  links-part : (before later : List NamedCall) (u s d : ℕ) (name : List ℕ) (n i : ℕ) → Lives N (before ++ link u s d name ∷ later) t
      → Within (domain_of N.core t) N (before ++ link u s d name ∷ later)
      → reply_named (all_named N before) (link u s d name) ≡ Done n → Kept (after_named (all_named N before) (link u s d name)) later n
      → holds (all_named N before).core (domain_of N.core t) s i ≡ false → holds (all_named N (before ++ link u s d name ∷ later)).core (domain_of N.core t) n i ≡ false
  links-part before later u s d name n i l w r k x =
      let M = all_named N before in
      let c = link u s d name in
      let cs = before ++ c ∷ later in
      let first = translate_all N before in
      let rest = translate_all (after_named M c) later in
      let made : is_done (reply_named M c) ≡ true = ap is_done r in
      let met : M.core ≡ after_all N.core first = all_same before N in
      let left : (after_named M c).core ≡ after (after_all N.core first) (Call.link u s d) = link-after M u s d name made ∙ ap (λ (T : Tables). after T (Call.link u s d)) met in
      rw (all_same cs N)
      ((not_wider cs l w).links first rest u s d n i (all_split before N u s d name later made) (rw met at (link-reply M u s d name n r))
      (rw left at (all-kept n later (after_named M c) k)) (rw met at x))

pub demand3 : Demand3
unfolding Demand3
demand3 N t cs h v l w = record {
  entries = λ e i a k x. rw (all_same cs N) ((not_wider N t h v cs l w).entries e i a (all-kept e cs N k) x);
  links = λ before later u s d name n i e r k x. rw e (links-part N t h v before later u s d name n i (rw e at l) (rw e at w) r k x);
  ports = λ port i x. rw (all_same cs N) ((not_wider N t h v cs l w).ports port i x);
  threads = λ s u a k d x. (not_wider N t h v cs l w).threads s u a (all-lives u cs N k) (rw (all_same cs N) at d) (rw (all_same cs N) at x);
}

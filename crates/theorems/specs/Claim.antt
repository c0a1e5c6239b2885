-- Demand 3: a sandbox cannot widen itself.
use Rattle.std.specs.Prelude.{◌≡◌, Bool, true, false, not, ◌&&◌, List, [], ◌∷◌, ◌++◌, ℕ}
use Rattle.laws.specs.Tests.{any, elem}
use Rattle.access.specs.Rights.{has}
use Rattle.access.specs.declared.errno.Reply.TheVariants.{Done}
use Rattle.tables.specs.Tables.{Tables, live, thread_live, port_rule}
use Rattle.tables.specs.Layers.{layer_at}
use Rattle.judge.specs.Rules.{rights_on}
use Rattle.judge.specs.Judge.{denied}
use Rattle.judge.specs.Domain.{domain}
use Rattle.fs.specs.Move.{entry_rights}
use Rattle.sound.specs.Sound.{sound}
use Rattle.task.specs.declared.Scope.{Scope}
use Rattle.task.specs.Task.{reaches}
use Rattle.theorems.specs.Calls.{Call, link, after, reply, after_all, caller, frees, ends}

-- the domain of a thread
abbrev pub domain_of : Tables → ℕ → List ℕ
domain_of T t = domain T.layers T.threads t

-- "The rights an entry holds are those granted among all 16 for a directory, among the file set otherwise"; "The domain grants a right if no layer denies it"
unfoldable pub holds : Tables → List ℕ → ℕ → ℕ → Bool
holds T D e i = has (entry_rights T.entries e) i && not (any (λ l. has (denied T.entries (layer_at T.layers T.pool l) e) i) D)

-- "A domain denies a right at a port if some layer of it handles the right and has no rule for that port with it; else it grants the right"
unfoldable pub port_grants : Tables → List ℕ → ℕ → ℕ → Bool
port_grants T D port i =
    not (any (λ l. let L = layer_at T.layers T.pool l in has L.net i && not (has (rights_on L.rules port_rule port) i)) D)

-- "that it can reach": thread u, from thread t
unfoldable pub may_reach : Tables → Scope → ℕ → ℕ → Bool
may_reach T s t u = reaches T.layers s (domain_of T t) (domain_of T u)

-- "A domain is grown from another if all layers of that one are in it"
unfoldable pub Grown : List ℕ → List ℕ → Type 0
Grown D E = (l : ℕ) → elem l D ≡ true → elem l E ≡ true

-- "A call changes the tree if after it some entry's parent, kind or object number differs, or whether it is live": these are the cells of `entries`
unfoldable pub ChangesTree : Tables → Call → Type 0
ChangesTree T c = (after T c).entries ≡ T.entries → ⊥

-- each call that changes the tree comes from a thread whose domain at that moment is D or grown from it
unfoldable pub Within : List ℕ → Tables → List Call → Type 0
Within D T [] = Unit {0}
Within D T (c ∷ cs) = (ChangesTree T c → Grown D (domain_of T (caller c))) × Within D (after T c) cs

-- none of the calls frees e: live at the start, it "lived all through"
unfoldable pub Kept : Tables → List Call → ℕ → Type 0
Kept T [] e = Unit {0}
Kept T (c ∷ cs) e = (frees T c e ≡ false) × Kept (after T c) cs e

-- document 02, W13, "must live throughout": none of the calls ends t; a number that is used again is another thread
unfoldable pub Lives : Tables → List Call → ℕ → Type 0
Lives T [] t = Unit {0}
Lives T (c ∷ cs) t = (ends T c t ≡ false) × Lives (after T c) cs t

pub record NotWider (T : Tables) (t : ℕ) (cs : List Call) : Type 0 where
  -- an entry that lived all through holds no right that it did not hold
  pub entries : (e i : ℕ) → live T.entries e ≡ true → Kept T cs e
      → holds T (domain_of T t) e i ≡ false → holds (after_all T cs) (domain_of (after_all T cs) t) e i ≡ false
  -- "a new link": n, which a link in the list took from s, not freed since, holds under the first domain no right that s did not hold "when linked"
  pub links : (before later : List Call) (u s d n i : ℕ) → cs ≡ before ++ link u s d ∷ later
      → reply (after_all T before) (link u s d) ≡ Done n → Kept (after (after_all T before) (link u s d)) later n
      → holds (after_all T before) (domain_of T t) s i ≡ false → holds (after_all T cs) (domain_of T t) n i ≡ false
  -- no port is granted a right that it was not granted
  pub ports : (port i : ℕ) → port_grants T (domain_of T t) port i ≡ false → port_grants (after_all T cs) (domain_of (after_all T cs) t) port i ≡ false
  -- document 02, W10, "those threads that live throughout with unchanged domains and that it can reach never become more": u is reached only if it was, for each scope
  pub threads : (s : Scope) (u : ℕ) → thread_live T.threads u ≡ true → Lives T cs u → domain_of (after_all T cs) u ≡ domain_of T u
      → may_reach (after_all T cs) s t u ≡ true → may_reach T s t u ≡ true

-- any sound tables, any live thread, any calls with any arguments that do not end it, whichever threads make them
unfoldable pub Demand3 : Type 0
Demand3 = (T : Tables) (t : ℕ) (cs : List Call) → sound T ≡ true → thread_live T.threads t ≡ true → Lives T cs t → Within (domain_of T t) T cs → NotWider T t cs

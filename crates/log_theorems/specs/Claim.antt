-- Demand 3 after document 02, W11: "only unbroken logs written by threads of the first domain or ones grown from it, and replayed where they started, count as
-- their changes, each whole field as the call that wrote it".
use Rattle.std.specs.Prelude.{◌≡◌, Bool, true, false, ◌&&◌, List, [], ◌∷◌, ◌++◌, ℕ, take}
use Rattle.access.specs.declared.errno.Reply.TheVariants.{Done}
use Rattle.tables.specs.Tables.{live, thread_live}
use Rattle.task.specs.declared.Scope.{Scope}
use Rattle.theorems.specs.Calls.{is_done}
use Rattle.theorems.specs.Claim.{domain_of, holds, port_grants, may_reach, Grown}
use Rattle.named.specs.Named.{Named, named_sound}
use Rattle.named.specs.Calls.{caller_named, would_free_named, frees_named, ends_named}
use Rattle.tree_log.specs.Changes.{link, call_of}
use Rattle.tree_log.specs.Logged.{Log, written, enters, LogCall, plain, logged, replay, after_logged, reply_logged}
use Rattle.tree_log.specs.History.{Moment, moment, Step, ours, other, fresh, next, last, Each, Unbroken, up_to}

-- ---- the calls of the list
pub data Item : Type 0 where
  -- a call; a replay among these does not count
  call : LogCall → Item
  -- a replay that counts, with the history of its log: the log when it was empty, the steps since, and how many of its bytes are left. "replayed where they
  -- started": the history starts from the very tables that the replay meets, every cell of them
  counted : Log → List Step → ℕ → Item

unfoldable pub call_at : Named → Item → LogCall
call_at N (call c) = c
call_at N (counted L hs k) = replay (take k (written (last (moment N L) hs).log))

abbrev pub after_item : Named → Item → Named
after_item N a = after_logged N (call_at N a)

unfoldable pub all_items : Named → List Item → Named
all_items N [] = N
all_items N (a ∷ as') = all_items (after_item N a) as'

-- each of them, on the tables that it meets
unfoldable pub EachItem : (Named → Item → Type 0) → Named → List Item → Type 0
EachItem P N [] = Unit {0}
EachItem P N (a ∷ as') = P N a × EachItem P (after_item N a) as'

-- ---- who changes the tree
-- "A call changes the tree if after it some entry's parent, kind or object number differs, or whether it is live"
unfoldable pub ChangesTree : Named → LogCall → Type 0
ChangesTree N c = (after_logged N c).core.entries ≡ N.core.entries → ⊥

-- "written by threads of the first domain or ones grown from it": whoever wrote a field, one of names alone too
unfoldable pub Wrote : List ℕ → Moment → Step → Type 0
Wrote D M (ours t c) = enters M.tables M.log t c ≡ true → Grown D (domain_of M.tables.core t)
Wrote D M (other c) = Unit {0}
Wrote D M (fresh level) = Unit {0}

-- the thread that a call ends
unfoldable pub ends_logged : Named → LogCall → ℕ → Bool
ends_logged N (plain c q) t = ends_named N c t
ends_logged N (logged u c L) t = false
ends_logged N (replay bs) t = false

unfoldable pub ends_step : Moment → Step → ℕ → Bool
ends_step M (ours u c) t = false
ends_step M (other c) t = ends_logged M.tables c t
ends_step M (fresh level) t = false

-- a log counts, for the domain D and the named thread t
pub record Counts (D : List ℕ) (t : ℕ) (N : Named) (L : Log) (hs : List Step) (k : ℕ) : Type 0 where
  -- "it was empty at the tables it started from"
  pub empty : L.used ≡ 0
  pub unbroken : Unbroken (moment N L) hs
  pub writers : Each (Wrote D) (moment N L) (up_to k (moment N L) hs)
  -- W13, "only if the named thread also lived from the log's starting tables until its last field was written": it never ended in between
  pub lived : Each (λ M h. ends_step M h t ≡ false) (moment N L) (up_to k (moment N L) hs)

-- each call that changes the tree comes from a thread whose domain at that moment is D or grown from it; a replay counts or leaves the tree as it is
unfoldable pub Fair : List ℕ → ℕ → Named → Item → Type 0
Fair D t N (call (plain c q)) = ChangesTree N (plain c q) → Grown D (domain_of N.core (caller_named c))
Fair D t N (call (logged u c L)) = ChangesTree N (logged u c L) → Grown D (domain_of N.core u)
Fair D t N (call (replay bs)) = (after_logged N (replay bs)).core.entries ≡ N.core.entries
Fair D t N (counted L hs k) = Counts D t N L hs k

abbrev pub Within : List ℕ → ℕ → Named → List Item → Type 0
Within D t N cs = EachItem (Fair D t) N cs

-- ---- what lives
-- the entries that a call frees: "by a remove of it or a rename that replaced it". A replay that does not count frees none, though it may free and fill a row again
unfoldable pub frees_logged : Named → LogCall → ℕ → Bool
frees_logged N (plain c q) e = frees_named N c e
frees_logged N (logged t c L) e = is_done (reply_logged N (logged t c L)) && would_free_named N (call_of t c) e
frees_logged N (replay bs) e = false

unfoldable pub frees_step : Moment → Step → ℕ → Bool
frees_step M (ours t c) e = frees_logged M.tables (logged t c M.log) e
frees_step M (other c) e = false
frees_step M (fresh level) e = false

-- "each whole field as the call that wrote it"
unfoldable pub Spares : ℕ → Named → Item → Type 0
Spares e N (call c) = frees_logged N c e ≡ false
Spares e N (counted L hs k) = Each (λ M h. frees_step M h e ≡ false) (moment N L) (up_to k (moment N L) hs)

-- e, live at the start, "lived all through"
abbrev pub Kept : Named → List Item → ℕ → Type 0
Kept N cs e = EachItem (Spares e) N cs

-- W13, "must live throughout": no call ends t
unfoldable pub Outlives : ℕ → Named → Item → Type 0
Outlives t N a = ends_logged N (call_at N a) t ≡ false

abbrev pub Lives : Named → List Item → ℕ → Type 0
Lives N cs t = EachItem (Outlives t) N cs

-- ---- the claim
pub record NotWider (N : Named) (t : ℕ) (cs : List Item) : Type 0 where
  -- an entry that lived all through holds no right that it did not hold
  pub entries : (e i : ℕ) → live N.core.entries e ≡ true → Kept N cs e
      → holds N.core (domain_of N.core t) e i ≡ false → holds (all_items N cs).core (domain_of (all_items N cs).core t) e i ≡ false
  -- "a new link" that a call in the list made
  pub links : (before later : List Item) (u s d : ℕ) (name : List ℕ) (L : Log) (n i : ℕ) → cs ≡ before ++ call (logged u (link s d name) L) ∷ later
      → reply_logged (all_items N before) (logged u (link s d name) L) ≡ Done n → Kept (after_logged (all_items N before) (logged u (link s d name) L)) later n
      → holds (all_items N before).core (domain_of N.core t) s i ≡ false → holds (all_items N cs).core (domain_of N.core t) n i ≡ false
  -- one that a replay in the list made: "each whole field as the call that wrote it", and "when linked" is on the tables that this call got
  pub replayed-links_lem : (before later : List Item) (L : Log) (hs : List Step) (k : ℕ) (first rest : List Step) (u s d : ℕ) (name : List ℕ) (n i : ℕ)
      → cs ≡ before ++ counted L hs k ∷ later
      → up_to k (moment (all_items N before) L) hs ≡ first ++ ours u (link s d name) ∷ rest
      → let M = last (moment (all_items N before) L) first in
      reply_logged M.tables (logged u (link s d name) M.log) ≡ Done n
      → Each (λ M h. frees_step M h n ≡ false) (next M (ours u (link s d name))) rest → Kept (after_item (all_items N before) (counted L hs k)) later n
      → holds M.tables.core (domain_of N.core t) s i ≡ false → holds (all_items N cs).core (domain_of N.core t) n i ≡ false
  -- no port is granted a right that it was not granted
  pub ports : (port i : ℕ) → port_grants N.core (domain_of N.core t) port i ≡ false
      → port_grants (all_items N cs).core (domain_of (all_items N cs).core t) port i ≡ false
  -- W10, "those threads that live throughout with unchanged domains and that it can reach never become more": u is reached only if it was, for each scope
  pub threads : (s : Scope) (u : ℕ) → thread_live N.core.threads u ≡ true → Lives N cs u → domain_of (all_items N cs).core u ≡ domain_of N.core u
      → may_reach (all_items N cs).core s t u ≡ true → may_reach N.core s t u ≡ true

-- any sound tables, any live thread, any calls with any arguments that do not end it, whichever threads make them, replays among them
unfoldable pub Demand3 : Type 0
Demand3 = (N : Named) (t : ℕ) (cs : List Item) → named_sound N ≡ true → thread_live N.core.threads t ≡ true → Lives N cs t
    → Within (domain_of N.core t) t N cs → NotWider N t cs

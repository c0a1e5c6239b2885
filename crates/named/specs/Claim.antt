-- Demand 3 on tables with names, in document 01's words: "Demand 3 doesn't read names".
use Rattle.std.specs.Prelude.{◌≡◌, true, false, List, [], ◌∷◌, ◌++◌, ℕ}
use Rattle.access.specs.declared.errno.Reply.TheVariants.{Done}
use Rattle.tables.specs.Tables.{live, thread_live}
use Rattle.task.specs.declared.Scope.{Scope}
use Rattle.theorems.specs.Claim.{domain_of, holds, port_grants, may_reach, Grown}
use Rattle.named.specs.Named.{Named, named_sound}
use Rattle.named.specs.Calls.{NamedCall, link, after_named, reply_named, all_named, caller_named, frees_named, ends_named}

-- "A call changes the tree if after it some entry's parent, kind or object number differs, or whether it is live": a change of names alone is none
unfoldable pub ChangesTree : Named → NamedCall → Type 0
ChangesTree N c = (after_named N c).core.entries ≡ N.core.entries → ⊥

-- each call that changes the tree comes from a thread whose domain at that moment is D or grown from it
unfoldable pub Within : List ℕ → Named → List NamedCall → Type 0
Within D N [] = Unit {0}
Within D N (c ∷ cs) = (ChangesTree N c → Grown D (domain_of N.core (caller_named c))) × Within D (after_named N c) cs

-- none of the calls frees e: live at the start, it "lived all through"
unfoldable pub Kept : Named → List NamedCall → ℕ → Type 0
Kept N [] e = Unit {0}
Kept N (c ∷ cs) e = (frees_named N c e ≡ false) × Kept (after_named N c) cs e

-- W13, "must live throughout": none of the calls ends t; a number that is used again is another thread
unfoldable pub Lives : Named → List NamedCall → ℕ → Type 0
Lives N [] t = Unit {0}
Lives N (c ∷ cs) t = (ends_named N c t ≡ false) × Lives (after_named N c) cs t

pub record NotWider (N : Named) (t : ℕ) (cs : List NamedCall) : Type 0 where
  -- an entry that lived all through holds no right that it did not hold
  pub entries : (e i : ℕ) → live N.core.entries e ≡ true → Kept N cs e
      → holds N.core (domain_of N.core t) e i ≡ false → holds (all_named N cs).core (domain_of (all_named N cs).core t) e i ≡ false
  -- "a new link": n, which a link in the list took from s, not freed since, holds under the first domain no right that s did not hold "when linked"
  pub links : (before later : List NamedCall) (u s d : ℕ) (name : List ℕ) (n i : ℕ) → cs ≡ before ++ link u s d name ∷ later
      → reply_named (all_named N before) (link u s d name) ≡ Done n → Kept (after_named (all_named N before) (link u s d name)) later n
      → holds (all_named N before).core (domain_of N.core t) s i ≡ false → holds (all_named N cs).core (domain_of N.core t) n i ≡ false
  -- no port is granted a right that it was not granted
  pub ports : (port i : ℕ) → port_grants N.core (domain_of N.core t) port i ≡ false
      → port_grants (all_named N cs).core (domain_of (all_named N cs).core t) port i ≡ false
  -- W10, "those threads that live throughout with unchanged domains and that it can reach never become more": u is reached only if it was, for each scope
  pub threads : (s : Scope) (u : ℕ) → thread_live N.core.threads u ≡ true → Lives N cs u → domain_of (all_named N cs).core u ≡ domain_of N.core u
      → may_reach (all_named N cs).core s t u ≡ true → may_reach N.core s t u ≡ true

-- any sound tables, any live thread, any calls with any arguments that do not end it, whichever threads make them
unfoldable pub Demand3 : Type 0
Demand3 = (N : Named) (t : ℕ) (cs : List NamedCall) → named_sound N ≡ true → thread_live N.core.threads t ≡ true → Lives N cs t → Within (domain_of N.core t) N cs → NotWider N t cs

-- Document 02, W8, "All callers pass it on": which layer a refusal names, on tables with names.
use Rattle.std.specs.Prelude.{◌≡◌, Bool, true, false, not, List, [], ◌∷◌, ◌++◌, ℕ}
use Rattle.laws.specs.Refusals.{Check, ◌⇒◌, first}
use Rattle.access.specs.Errno.{EIO, EACCES, EXDEV}
use Rattle.access.specs.declared.errno.Errno.{Errno}
use Rattle.access.specs.declared.errno.Reply.TheVariants.{Refused, Denied}
use Rattle.access.specs.declared.rights.Rights.{Rights}
use Rattle.tables.specs.Outcome.{error_of}
use Rattle.tree.specs.Create.{remove_checks}
use Rattle.tree.specs.Exchange.{exchange_checks}
use Rattle.theorems.specs.Calls.{Call, reply}
use Rattle.theorems.specs.Named.{refusals_of, ByVerdict}
use Rattle.names.specs.Paths.{path_checks, found}
use Rattle.policy.specs.Find.{part_of}
use Rattle.policy.specs.Find as files
use Rattle.queue.specs.Queue.{queue_sound}
use Rattle.named.specs.Named.{Named, named_sound}
use Rattle.named.specs.Tree.{create_named_checks, link_named_checks, rename_named_checks}
use Rattle.named.specs.Batch.{batch_checks}
use Rattle.policy_write.specs.File.{write_checks}
use Rattle.named.specs.Policy.{applied, found_checks}
use Rattle.named.specs.Calls.{NamedCall, lifted, create, remove, link, rename, exchange, lookup, turn, batch, apply, write, reply_named, on_core}

-- what is EIO before any other refusal: tables that are not sound; at a turn and in a batch they are an answer, and a queue that is not sound is EIO
unfoldable pub faulty : Named → NamedCall → Bool
faulty N (lifted c q) = not (named_sound N)
faulty N (create t d k n) = not (named_sound N)
faulty N (remove t e) = not (named_sound N)
faulty N (link t s d n) = not (named_sound N)
faulty N (rename t s d n) = not (named_sound N)
faulty N (exchange t s d x) = not (named_sound N)
faulty N (lookup p) = not (named_sound N)
faulty N (turn Q) = not (queue_sound Q)
faulty N (batch rs ns xs) = false
faulty N (apply stock site name) = not (named_sound N)
faulty N (write r name out) = not (named_sound N)

-- the refusals of a call on sound tables, in their order; a lookup's components come after its first checks, an application's calls after the files and the name
unfoldable pub refusals_named : Named → NamedCall → List Check
refusals_named N (lifted c q) = refusals_of N.core c
refusals_named N (create t d k n) = create_named_checks N t d k n
refusals_named N (remove t e) = remove_checks N.core t e
refusals_named N (link t s d n) = link_named_checks N t s d n
refusals_named N (rename t s d n) = rename_named_checks N t s d n
refusals_named N (exchange t s d x) = exchange_checks N.core t s d x
refusals_named N (lookup p) = path_checks p ++ (true ⇒ error_of (found N.core.entries N.names p) ∷ [])
refusals_named N (turn Q) = []
refusals_named N (batch rs ns xs) = batch_checks rs xs
refusals_named N (apply stock site name) = found_checks stock site name ++ (true ⇒ error_of (applied N (part_of stock site (files.found stock site name))).reply ∷ [])
refusals_named N (write r name out) = write_checks N.core N.names r name out

-- document 01's call on the six tables gave this very reply, and names the layer as `ByVerdict` says
pub record PassedOn (N : Named) (c : NamedCall) (e : Errno) (l : ℕ) (s : Rights) : Type 0 where
  pub call : Call
  pub only : on_core N c ≡ call ∷ []
  pub same : reply N.core call ≡ Denied e l s
  pub verdict : ByVerdict N.core call e l s

-- on any tables, sound or not
pub record LayerNamed : Type 0 where
  -- the error number is that of the first refusal
  pub number : (N : Named) (c : NamedCall) → error_of (reply_named N c) ≡ first (faulty N c ⇒ EIO ∷ refusals_named N c)
  -- a layer is named as the call on the six tables names it
  pub denied : (N : Named) (c : NamedCall) (e : Errno) (l : ℕ) (s : Rights) → reply_named N c ≡ Denied e l s → PassedOn N c e l s
  -- every other refusal names none
  pub others : (N : Named) (c : NamedCall) (e : Errno) → reply_named N c ≡ Refused e → (e.0 ≡ EACCES → ⊥) × (e.0 ≡ EXDEV → ⊥)

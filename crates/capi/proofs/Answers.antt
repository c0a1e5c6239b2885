-- How an exported call comes to its number, for any call. Assumes nothing.
use mathlib.Core.Path.{◌≡◌, refl, ap, ap₂, ◌∙◌}
use mathlib.Core.Bool.{cond, not}
use mathlib.Core.List.{List, ◌∷◌}
use Prim.Native.Nat.{ℕ, ◌*◌, min}
use lib.Dec.{eqb}
use lib.ListN.{length}
use Rattle.laws.specs.Refusals.{◌⇒◌, first}
use Rattle.laws.proofs.Bools.{split}
use Rattle.access.specs.Errno.{EIO}
use Rattle.access.specs.declared.errno.Reply.{Reply}
use Rattle.tables.specs.Tables.{Tables, rule_width}
use Rattle.tables.specs.Layers.{layer_first}
use Rattle.tables.specs.Outcome.{answer, error_of}
use Rattle.sound.specs.Sound.{sound}
use Rattle.sound.specs.Call.{call}
use Rattle.domain.specs.Layer.{layer_checks, layer_read, layer_code}
use Rattle.codes.specs.Codes.{code_of, number, reported, reported_access}
use Rattle.names.specs.Names.{names_sound}
use Rattle.queue.specs.declared.Served.{Served}
use Rattle.queue.specs.Queue.{Queue, Posted, posted, Turned, turned, served_reply}
use Rattle.named.specs.Named.{Named, NamedOutcome, named_outcome, lift, lift_count}
use Rattle.capi.specs.Codes.{Answers, Tells, TellsAccess, Posts, span_from}

pub answers : (N : Named) (o : NamedOutcome) {a : Reply} {r : ℕ} → named_outcome a N ≡ o → r ≡ number a → Answers r N o
answers N o h k = (k ∙ ap (λ (x : NamedOutcome). number x.reply) h, ap (λ (x : NamedOutcome). x.left) h)

pub tells : (N : Named) (o : NamedOutcome) (cells : List ℕ) {cells' : List ℕ} {a : Reply} {r : ℕ} → named_outcome a N ≡ o → r ≡ number a → cells' ≡ reported cells a → Tells r N cells cells' o
tells N o cells h k w = (answers N o h k, w ∙ ap (λ (x : NamedOutcome). reported cells x.reply) h)

pub tells-access : (N : Named) (o : NamedOutcome) (cells : List ℕ) {n m : ℕ} {cells' : List ℕ} {a : Reply} {r : ℕ} → named_outcome a N ≡ o → r ≡ number a → n ≡ m → cells' ≡ reported_access cells a n
    → TellsAccess r N cells cells' o m
tells-access N o cells h k c w = (answers N o h k, w ∙ ap₂ (λ (x : NamedOutcome) (y : ℕ). reported_access cells x.reply y) h c)

-- ---- the queue
pub posts : (Q : Queue) (p : Posted) {a : Reply} {r : ℕ} → posted a Q ≡ p → r ≡ number a → Posts r Q p
posts Q p h k = (k ∙ ap (λ (x : Posted). number x.reply) h, ap (λ (x : Posted). x.left) h)

pub turns : (N : Named) (o : NamedOutcome) (Q : Queue) (p : Turned) {s : Served} {a : Reply} {r : ℕ} → turned s Q ≡ p → named_outcome (served_reply s) N ≡ o → a ≡ served_reply s → r ≡ number a
    → Answers r N o × (Q ≡ p.left)
turns N o Q p h u i k = (answers N o u (k ∙ ap number i), ap (λ (x : Turned). x.left) h)

-- a layer's rules: the code that comes beside the part
layer-number : (T : Tables) (l : ℕ) → code_of (layer_code T l) ≡ number (layer_read T l).reply
unfolding layer_code layer_read call answer number code_of
layer-number T l = split (eqb (first (not (sound T) ⇒ EIO ∷ layer_checks T l)) 0) (λ q. rw q refl) (λ q. rw q refl)

module _ (N : Named) (l : ℕ) where
  pub lifted-number : code_of (error_of (lift N (layer_read N.core l)).reply) ≡ number (lift N (layer_read N.core l)).reply
  unfolding lift layer_code number code_of
  lifted-number = split (names_sound N.core.entries N.names) (λ q. rw q (layer-number N.core l)) (λ q. rw q refl)

  -- where the part begins
  pub lifted_span : {from code : ℕ} → from ≡ cond (eqb code 0) (min (rule_width * layer_first N.core.layers l) (length N.core.pool)) 0
      → code ≡ error_of (lift N (layer_read N.core l)).reply → from ≡ lift_count N (span_from N.core l)
  unfolding lift lift_count layer_code span_from
  lifted_span h k = h ∙ rw k (split (names_sound N.core.entries N.names) (λ q. rw q refl) (λ q. rw q refl))

-- How code comes to the outcome of a call on tables with names. Assumes nothing.
use mathlib.Core.Path.{◌≡◌, refl, sym, ap, ◌∙◌}
use mathlib.Core.Bool.{Bool, true, false, not}
use mathlib.Core.List.{List, [], ◌∷◌, ◌++◌, append_assoc}
use Prim.Native.Nat.{ℕ, ◌*◌}
use lib.Dec.{eqb}
use lib.ListN.{length, replicate}
use borrow.Author.Tests.{eq-eqb, ne_eqb, not-true, not-false}
use Rattle.laws.specs.Refusals.{Check, ◌⇒◌, first}
use Rattle.laws.proofs.Bools.{split, clash}
use Rattle.laws.proofs.Joined.{join-past}
use Rattle.access.specs.Errno.{EIO}
use Rattle.access.specs.Limits.{max_entries}
use Rattle.access.specs.Reply.{is_refused, reply_to}
use Rattle.access.specs.declared.errno.Reply.{Reply}
use Rattle.access.specs.declared.errno.Reply.TheVariants.{Done, Refused}
use Rattle.tables.specs.Tables.{Tables}
use Rattle.tables.specs.Outcome.{Outcome, outcome, answer, named, naming}
use Rattle.tables.specs.Fresh.{fresh_tables, fresh_checks, freshened}
use Rattle.tables.proofs.Blames.{named-passed, name_stop, name_go}
use Rattle.sound.specs.Sound.{sound}
use Rattle.names.specs.Names.{name_width, names_sound}
use Rattle.names.specs.Paths.{path_checks, found, refuse}
use Rattle.named.proofs.Orders.{Early}
use Rattle.named.specs.Named.{Named, with_names, named_sound, NamedOutcome, named_outcome, named_refused, named_answer, named_call, judged_by, lift, lift_count, lift_part, no_names, fresh_named, fresh_named_checks, freshened_named}
use Rattle.path_lookup.specs.Lookup.{looked_up}

-- ---- a call with a verdict, by its reply
module _ (a b : ℕ → ℕ) (D : List ℕ) (N : Named) (cs : List Check) {r : Reply} (k : r ≡ named a b D (reply_to (first cs))) where
  pub told-refused : (done : NamedOutcome) {q : Bool} → q ≡ is_refused r → q ≡ true → named_outcome r N ≡ judged_by (naming a b D) (named_answer N cs done)
  unfolding named_answer named reply_to is_refused
  told-refused done h v = split (eqb (first cs) 0)
      (λ z. let n : r ≡ Done 0 = rw z at k in clash (is_refused r) (sym h ∙ v) (ap is_refused n))
      (λ z. let n : r ≡ named a b D (Refused (record { 0 = first cs })) = rw z at k in rw z (ap (λ (x : Reply). named_outcome x N) n))

  pub told-done : (n : ℕ) (M : Named) {q : Bool} → q ≡ is_refused r → q ≡ false → named_outcome (Done n) M ≡ judged_by (naming a b D) (named_answer N cs (named_outcome (Done n) M))
  unfolding named_answer named
  told-done n M h v = rw (named-passed a b D N.core cs k h v) refl

-- ---- how code comes to the reply: the target's checks A, the name's B, then document 01's own, whose number is that of the rest R
module _ (a b : ℕ → ℕ) (D : List ℕ) (A B R : List Check) (ea : Early A) (eb : Early B) {e : ℕ} (p : e ≡ first A) where
  pub target_stops : (e ≡ 0 → ⊥) → Refused (record { 0 = e }) ≡ named a b D (reply_to (first ((A ++ B) ++ R)))
  target_stops n = rw (append_assoc A B R) (name_stop a b D A (B ++ R) ea.0 p n)

  module _ (z : e ≡ 0) {f : ℕ} (q : f ≡ first B) where
    pub name_stops : (f ≡ 0 → ⊥) → Refused (record { 0 = f }) ≡ named a b D (reply_to (first ((A ++ B) ++ R)))
    name_stops n = rw (append_assoc A B R) (name_go a b D A (B ++ R) ea.1 p z (name_stop a b D B R eb.0 q n))

    pub rest_decides : (base : List Check) → (first (A ++ B) ≡ 0 → first ((A ++ B) ++ R) ≡ first base) → f ≡ 0 → {r : Reply} → r ≡ named a b D (reply_to (first base))
        → r ≡ named a b D (reply_to (first ((A ++ B) ++ R)))
    rest_decides base agrees v k = k ∙ ap (λ (x : ℕ). named a b D (reply_to x)) (sym (agrees (join-past A B ea.1 (sym p ∙ z) ∙ sym q ∙ v)))

-- ---- soundness first
module _ (N : Named) {q : Bool} (s : q ≡ named_sound N) where
  module _ (cs : List Check) (done : NamedOutcome) where
    pub named-unsound : not q ≡ true → named_refused EIO N ≡ named_call N cs done
    unfolding named_call named_answer first
    named-unsound z = rw (← s, not-true q z) refl

    pub named_passes : {o : NamedOutcome} → not q ≡ false → o ≡ named_answer N cs done → o ≡ named_call N cs done
    unfolding named_call named_answer first
    named_passes z k = rw (← s, not-false q z) k

    -- with a verdict
    module _ (a b : ℕ → ℕ) (D : List ℕ) where
      pub judged-unsound : not q ≡ true → named_refused EIO N ≡ judged_by (naming a b D) (named_call N cs done)
      unfolding named
      judged-unsound z = ap (judged_by (naming a b D)) (named-unsound z)

      pub judged_passes : {o : NamedOutcome} → not q ≡ false → o ≡ judged_by (naming a b D) (named_answer N cs done) → o ≡ judged_by (naming a b D) (named_call N cs done)
      judged_passes z k = k ∙ ap (judged_by (naming a b D)) (named_passes z refl)

-- ---- a call that neither reads nor writes names
module _ (N : Named) (o : Outcome) {q : Bool} (s : q ≡ names_sound N.core.entries N.names) where
  pub lift-unsound : not q ≡ true → named_refused EIO N ≡ lift N o
  unfolding lift
  lift-unsound z = rw (← s, not-true q z) refl

  pub lift-done : {r : Reply} {U : Tables} → not q ≡ false → outcome r U ≡ o → named_outcome r (with_names U N.names) ≡ lift N o
  unfolding lift
  lift-done z k = rw (← s, not-false q z) (ap (λ (o : Outcome). named_outcome o.reply (with_names o.left N.names)) k)

-- what a lifted call says beside its reply
module _ (N : Named) {q : Bool} (s : q ≡ names_sound N.core.entries N.names) where
  -- how many entries' rules were read
  pub count-unsound : (n : ℕ) → not q ≡ true → 0 ≡ lift_count N n
  unfolding lift_count
  count-unsound n z = rw (← s, not-true q z) refl

  pub count-done : (n : ℕ) {m : ℕ} → not q ≡ false → m ≡ n → m ≡ lift_count N n
  unfolding lift_count
  count-done n z k = rw (← s, not-false q z) k

  -- a layer's rules
  pub part-unsound : (l : List ℕ) → not q ≡ true → [] ≡ lift_part N l
  unfolding lift_part
  part-unsound l z = rw (← s, not-true q z) refl

  pub part-done : (l : List ℕ) {m : List ℕ} → not q ≡ false → m ≡ l → m ≡ lift_part N l
  unfolding lift_part
  part-done l z k = rw (← s, not-false q z) k

-- ---- both tests of soundness
module _ (N : Named) {a : Bool} (p : a ≡ sound N.core) where
  pub core_fails : not a ≡ true → false ≡ named_sound N
  unfolding named_sound
  core_fails z = rw (← p, not-true a z) refl

  pub names_decide_lem : {b : Bool} → not a ≡ false → b ≡ names_sound N.core.entries N.names → b ≡ named_sound N
  unfolding named_sound
  names_decide_lem z k = rw (← p, not-false a z) k

-- ---- fresh tables: the names' length is tested, the six tables are made fresh, then the names are cleared
module _ (N : Named) (level : ℕ) where
  pub fresh-unlike : (length N.names ≡ name_width * max_entries → ⊥) → named_refused EIO N ≡ freshened_named N level
  unfolding freshened_named fresh_named_checks named_answer first
  fresh-unlike n = rw (ne_eqb (length N.names) (name_width * max_entries) n) refl

  module _ (w : length N.names ≡ name_width * max_entries) {r : Reply} {U : Tables} (k : outcome r U ≡ freshened N.core level) {q : Bool} (p : q ≡ is_refused r) where
    same_number : first (fresh_named_checks N level) ≡ first (fresh_checks N.core level)
    unfolding fresh_named_checks first
    same_number = rw (eq-eqb (length N.names) (name_width * max_entries) w) refl

    pub fresh-refused : q ≡ true → named_outcome r (with_names U N.names) ≡ freshened_named N level
    unfolding freshened_named freshened named_answer answer is_refused
    fresh-refused v = rw same_number (split (eqb (first (fresh_checks N.core level)) 0)
        (λ z. clash (is_refused r) (sym p ∙ v) (ap (λ (o : Outcome). is_refused o.reply) (rw z at k)))
        (λ z. let i : outcome r U ≡ _ = rw z at k in rw z (ap (λ (o : Outcome). named_outcome o.reply (with_names o.left N.names)) i)))

    pub fresh-done : q ≡ false → {ns : List ℕ} → ns ≡ replicate (length N.names) 0 → named_outcome r (with_names U ns) ≡ freshened_named N level
    unfolding freshened_named freshened fresh_named no_names named_answer answer is_refused
    fresh-done v {ns} c = rw same_number (split (eqb (first (fresh_checks N.core level)) 0)
        (λ z.
        let i : outcome r U ≡ outcome (Done 0) (fresh_tables level) = rw z at k in
        rw z (ap (λ (l : List ℕ). named_outcome r (with_names U l)) (c ∙ ap (λ (j : ℕ). replicate j 0) w)
        ∙ ap (λ (o : Outcome). named_outcome o.reply (with_names o.left (replicate (name_width * max_entries) 0))) i))
        (λ z. clash (is_refused r) (ap (λ (o : Outcome). is_refused o.reply) (rw z at k)) (sym p ∙ v)))

-- ---- a lookup
pub looked_up_lem : (N : Named) (p : List ℕ) {q : Bool} → q ≡ named_sound N → not q ≡ false → {r : Reply} → r ≡ looked_up N.core.entries N.names p
    → named_outcome r N ≡ named_call N (path_checks p) (named_outcome (found N.core.entries N.names p) N)
unfolding looked_up named_answer
looked_up_lem N p s z k = named_passes N s _ _ z (split (eqb (first (path_checks p)) 0)
    (λ e. let i : _ ≡ found N.core.entries N.names p = rw e at k in rw e (ap (λ (x : Reply). named_outcome x N) i))
    (λ e. let i : _ ≡ refuse (first (path_checks p)) = rw e at k in rw e (ap (λ (x : Reply). named_outcome x N) i)))

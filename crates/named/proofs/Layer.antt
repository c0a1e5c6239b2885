-- Which layer a refusal names, on tables with names; and that on sound tables none is EIO. Assumes nothing.
use mathlib.Core.Path.{◌≡◌, refl, sym, ap, subst, ◌∙◌}
use mathlib.Core.Bool.{Bool, true, false, not, ◌&&◌}
use mathlib.Core.List.{List, [], ◌∷◌, ◌++◌}
use mathlib.Core.Logic.{◌⊎◌, inl, inr}
use Prim.Native.Nat.{ℕ, ◌*◌}
use native.Mathlib.Omega.{arith}
use lib.Dec.{eqb, ltb}
use lib.ListN.{length}
use Rattle.laws.specs.Tests.{all_below}
use Rattle.laws.specs.Refusals.{Check, ◌⇒◌, first}
use Rattle.laws.proofs.Bools.{split, either}
use Rattle.laws.proofs.Refusals.{join_stop, join_go}
use Rattle.access.specs.Errno.{ENOENT, EIO, E2BIG, EACCES, EXDEV, ENOTDIR, EINVAL, ENAMETOOLONG, EBADMSG}
use Rattle.access.specs.declared.errno.Errno.{Errno}
use Rattle.access.specs.declared.errno.Reply.{Reply}
use Rattle.access.specs.declared.errno.Reply.TheVariants.{Done, Refused, Denied}
use Rattle.access.specs.declared.rights.Rights.{Rights}
use Rattle.tables.specs.Tables.{Tables, is_dir}
use Rattle.tables.specs.Outcome.{Outcome, error_of}
use Rattle.sound.specs.Sound.{sound}
use Rattle.tree.specs.declared.Replaced.{Replaced}
use Rattle.tree.specs.declared.Replaced.TheVariants.{None, Entry}
use Rattle.theorems.specs.Calls.{Call, outcome_of, reply}
use Rattle.theorems.specs.Named.{verdict_on, Youngest, here, older, ByVerdict}
use Rattle.theorems.proofs.Named as settled
use Rattle.names.specs.Names.{max_name, names_sound}
use Rattle.names.specs.Paths.{components, closing, refuse, arrived, step_to, walk, path_checks, found}
use Rattle.queue.specs.Queue.{Queue, Turned, slots, served_reply}
use Rattle.queue.proofs.Sound.{turn-cases}
use Rattle.named.specs.Named.{Named, named_sound, NamedOutcome, named_call}
use Rattle.named.specs.Tree.{create_named_checks, create_named, remove_named, link_named_checks, link_named, rename_named_checks, rename_named, exchange_named}
use Rattle.named.specs.Queue.{answer_of, turn_named}
use Rattle.named.specs.Batch.{request_width, asked_cell, known_sort, batch_answer_width, answers_to, request_count, batch_checks, Batched, batched, batch_of, batch_named}
use Rattle.policy_write.specs.File.{write_form, write_rules, write_room, write_checks}
use Rattle.named.specs.Write.{write_named}
use Rattle.named.specs.Policy.{lookup_named, on_named, found_checks, apply_named}
use Rattle.named.specs.Calls.{leaves_tree, NamedCall, lifted, create, remove, link, rename, exchange, lookup, turn, batch, apply, write, outcome_named, reply_named, on_core}
use Rattle.named.specs.Layer.{faulty, refusals_named, PassedOn, LayerNamed}
use Rattle.named.proofs.Made.{lift_unnamed, lift-goes, omits, omits_first, named-cases, NoLayer, way_number, way_told}
use Rattle.named.proofs.Listed.{create_way, remove_way, link_way, rename_way, exchange_way}
use Rattle.named.proofs.Leaves.{OnRulesets, creates, closes, adds_path, adds_port}
use Rattle.named.proofs.Applied.{found-cases, by_calls}
use Rattle.named.proofs.Translate.{OfTree, Seen, is-lifted, of_tree, is-lookup, is-turn, is-batch, is-apply, is-write, seen, lifted-is, lifted-outcome}

-- ---- a batch is refused with EINVAL, or it is done
einval-only : (rs xs : List ℕ) → (first (batch_checks rs xs) ≡ 0) ⊎ (first (batch_checks rs xs) ≡ EINVAL)
unfolding batch_checks first
einval-only rs xs = split (not (eqb (length rs) (request_width * request_count rs))) (λ a. inr (rw a refl))
    (λ a. split (not (all_below (λ i. known_sort (asked_cell rs i 0)) (request_count rs))) (λ b. inr (rw (a, b) refl))
    (λ b. split (ltb (length xs) (batch_answer_width * request_count rs)) (λ c. inr (rw (a, b, c) refl)) (λ c. inl (rw (a, b, c) refl))))

batch-cases : (N : Named) (rs ns xs : List ℕ) (P : Batched → Type 0)
    → (first (batch_checks rs xs) ≡ 0 → P (batched (Done 0) (answers_to N rs ns xs (request_count rs))))
    → (first (batch_checks rs xs) ≡ EINVAL → P (batched (Refused (record { 0 = EINVAL })) xs)) → P (batch_of N rs ns xs)
unfolding batch_of
batch-cases N rs ns xs P d r = either (einval-only rs xs) (λ z. rw z (d z)) (λ z. rw z (r z))

-- ---- the replies of a lookup
module _ (P : Reply → Type 0) (d : (e : ℕ) → P (Done e)) (o : P (refuse ENOTDIR)) (l : P (refuse ENAMETOOLONG)) (u : P (refuse ENOENT)) (es ns : List ℕ) (close : Bool) where
  step_replies : (x : Replaced) (f : ℕ → Reply) → ((y : ℕ) → P (f y)) → P (elim x [ None ↦ refuse ENOENT | Entry y ↦ f y ])
  step_replies None f g = u
  step_replies (Entry y) f g = g y

  walk_replies : (cs : List (List ℕ)) (e : ℕ) → P (walk es ns close cs e)
  unfolding walk arrived
  walk_replies [] e = split (close && not (is_dir es e)) (λ q. rw q o) (λ q. rw q (d e))
  walk_replies (c ∷ cs) e = split (not (is_dir es e))
      (λ q. rw q o)
      (λ q. rw q (split (ltb max_name (length c))
      (λ z. rw z l)
      (λ z. rw z (step_replies (step_to es ns e c) (λ y. walk es ns close cs y) (λ y. walk_replies cs y)))))

pub found_replies : (P : Reply → Type 0) → ((e : ℕ) → P (Done e)) → P (refuse ENOTDIR) → P (refuse ENAMETOOLONG) → P (refuse ENOENT) → (es ns p : List ℕ) → P (found es ns p)
unfolding found
found_replies P d o l u es ns p = walk_replies P d o l u es ns (closing p) (components p) 0

-- ---- the reply is that of document 01's call, a refusal that names no layer, or a success
data Told (N : Named) (c : NamedCall) : Type 0 where
  passes : (b : Call) → on_core N c ≡ b ∷ [] → reply_named N c ≡ reply N.core b → Told N c
  no_layer : NoLayer (reply_named N c) → Told N c
  succeeds : (n : ℕ) → reply_named N c ≡ Done n → Told N c

no_layer_of : (e : ℕ) → (e ≡ EACCES → ⊥) → (e ≡ EXDEV → ⊥) → NoLayer (refuse e)
no_layer_of e a x = record { error = record { 0 = e }; is-refused = refl; not_acces = a; not_xdev = x }

abbrev reply_of : NamedOutcome → Reply
reply_of o = o.reply

-- a reply of a call that asks for no verdict
abbrev Looked : Reply → Type 0
Looked r = ((n : ℕ) × (r ≡ Done n)) ⊎ NoLayer r

looked : (N : Named) (p : List ℕ) → Looked (lookup_named N p).reply
unfolding path_checks omits
looked N p = named-cases N (path_checks p) _ (λ o. Looked o.reply)
    (λ h. inr (no_layer_of EIO (λ z. omega arith) (λ z. omega arith)))
    (λ h z. inr (no_layer_of (first (path_checks p)) (omits_first EACCES (path_checks p) refl (λ z. omega arith)) (omits_first EXDEV (path_checks p) refl (λ z. omega arith))))
    (λ h z. found_replies Looked (λ e. inl (e, refl))
    (inr (no_layer_of ENOTDIR (λ z. omega arith) (λ z. omega arith))) (inr (no_layer_of ENAMETOOLONG (λ z. omega arith) (λ z. omega arith))) (inr (no_layer_of ENOENT (λ z. omega arith) (λ z. omega arith)))
    N.core.entries N.names p)

-- ---- the replies of an application
youngest-none : {f : ℕ → ℕ} {D : List ℕ} {l s : ℕ} → ((k : ℕ) → f k ≡ 0) → Youngest f D l s → ⊥
youngest-none z (here n) = n (z _)
youngest-none z (older q y) = youngest-none z y

never_denied : {c : Call} → OnRulesets c → (T : Tables) (e : Errno) (l : ℕ) (s : Rights) → ByVerdict T c e l s → ⊥
unfolding verdict_on
never_denied (creates bs flags) T e l s j = either j.named (λ y. youngest-none (λ k. refl) y.1) (λ y. youngest-none (λ k. refl) y.1)
never_denied (closes r) T e l s j = either j.named (λ y. youngest-none (λ k. refl) y.1) (λ y. youngest-none (λ k. refl) y.1)
never_denied (adds_path r x rights flags) T e l s j = either j.named (λ y. youngest-none (λ k. refl) y.1) (λ y. youngest-none (λ k. refl) y.1)
never_denied (adds_port r p rights flags) T e l s j = either j.named (λ y. youngest-none (λ k. refl) y.1) (λ y. youngest-none (λ k. refl) y.1)

core-told : {c : Call} → OnRulesets c → (T : Tables) (r : Reply) → reply T c ≡ r → Looked r
core-told v T (Done n) q = inl (n, refl)
core-told {c} v T (Refused e) q = let o = (settled.layer-named).others T c e q in inr (record { error = e; is-refused = refl; not_acces = o.0; not_xdev = o.1 })
core-told {c} v T (Denied e l s) q = absurd (never_denied v T e l s ((settled.layer-named).denied T c e l s q))

call-told : (N : Named) {c : Call} → OnRulesets c → Looked (on_named N c).reply
call-told N {c} v = split (names_sound N.core.entries N.names)
    (λ h. subst (λ (o : NamedOutcome). Looked o.reply) (lift-goes N (outcome_of N.core c) h) (core-told v N.core (reply N.core c) refl))
    (λ h. subst (λ (o : NamedOutcome). Looked o.reply) (lift_unnamed N (outcome_of N.core c) h) (inr (no_layer_of EIO (λ z. omega arith) (λ z. omega arith))))

found_no_layer : (stock site name : List ℕ) → (first (found_checks stock site name) ≡ 0 → ⊥) → NoLayer (refuse (first (found_checks stock site name)))
unfolding first
found_no_layer = found-cases (λ cs. (first cs ≡ 0 → ⊥) → NoLayer (refuse (first cs)))
    (λ z. absurd (z refl))
    (λ z. no_layer_of E2BIG (λ q. omega arith) (λ q. omega arith))
    (λ z. no_layer_of EBADMSG (λ q. omega arith) (λ q. omega arith))
    (λ z. no_layer_of ENOENT (λ q. omega arith) (λ q. omega arith))

module _ (N : Named) where
  told-lifted : (b : Call) (q : leaves_tree b ≡ true) → Told N (lifted b q)
  unfolding on_core
  told-lifted b q = split (names_sound N.core.entries N.names)
      (λ h. passes b refl (ap reply_of (lifted-outcome N b q h)))
      (λ h. no_layer (subst NoLayer (ap reply_of (lift_unnamed N (outcome_of N.core b) h ∙ sym (lifted-is N b q))) (no_layer_of EIO (λ z. omega arith) (λ z. omega arith))))

  told-tree : (c : NamedCall) (b : Call) → OfTree N c b → Told N c
  told-tree c b O = either (way_told N O.way)
      (λ s. passes b O.comes_to (ap reply_of O.is-named ∙ s ∙ ap (λ (o : Outcome). o.reply) (sym O.is-core)))
      (λ P. no_layer (subst NoLayer (ap reply_of (sym O.is-named)) P))

  served : (Q : Queue) → Looked (reply_named N (turn Q))
  unfolding outcome_named turn_named served_reply
  served Q = turn-cases (answer_of N) Q (λ (p : Turned). Looked (served_reply p.said))
      (λ s l. inl (_, refl)) (λ s l. inl (slots, refl)) (λ s. inr (no_layer_of EIO (λ z. omega arith) (λ z. omega arith)))

  batch-told : (rs ns xs : List ℕ) → Looked (reply_named N (batch rs ns xs))
  unfolding outcome_named batch_named
  batch-told rs ns xs = batch-cases N rs ns xs (λ (p : Batched). Looked p.reply)
      (λ z. inl (0, refl)) (λ z. inr (no_layer_of EINVAL (λ z. omega arith) (λ z. omega arith)))

  apply-told : (stock site name : List ℕ) → Looked (reply_named N (apply stock site name))
  unfolding outcome_named apply_named
  apply-told stock site name = named-cases N (found_checks stock site name) _ (λ o. Looked o.reply)
      (λ h. inr (no_layer_of EIO (λ z. omega arith) (λ z. omega arith)))
      (λ h z. inr (found_no_layer stock site name z))
      (λ h z. (by_calls (λ M. Unit {0}) Looked (λ M c v p. (tt, call-told M v)) (λ M p q. looked M p) (λ n. inl (n, refl)) N _ tt).1)

  write-told : (r : ℕ) (name out : List ℕ) → Looked (reply_named N (write r name out))
  unfolding outcome_named write_named write_checks write_form write_rules write_room omits
  write-told r name out =
      let cs = write_checks N.core N.names r name out in
      named-cases N cs _ (λ o. Looked o.reply)
      (λ h. inr (no_layer_of EIO (λ z. omega arith) (λ z. omega arith)))
      (λ h z. inr (no_layer_of (first cs) (omits_first EACCES cs refl (λ z. omega arith)) (omits_first EXDEV cs refl (λ z. omega arith))))
      (λ h z. inl (_, refl))

  told_seen : {c : NamedCall} → Seen N c → Told N c
  unfolding outcome_named
  told_seen (is-lifted b q) = told-lifted b q
  told_seen {c} (of_tree b O) = told-tree c b O
  told_seen (is-lookup p) = either (looked N p) (λ d. succeeds d.0 d.1) no_layer
  told_seen (is-turn Q) = either (served Q) (λ d. succeeds d.0 d.1) no_layer
  told_seen (is-batch rs ns xs) = either (batch-told rs ns xs) (λ d. succeeds d.0 d.1) no_layer
  told_seen (is-apply stock site name) = either (apply-told stock site name) (λ d. succeeds d.0 d.1) no_layer
  told_seen (is-write r name out) = either (write-told r name out) (λ d. succeeds d.0 d.1) no_layer

-- ---- the number is that of the first refusal
found-past : (stock site name : List ℕ) (ys : List Check) → first (found_checks stock site name) ≡ 0 → first ys ≡ first (found_checks stock site name ++ ys)
unfolding first
found-past = found-cases (λ cs. (ys : List Check) → first cs ≡ 0 → first ys ≡ first (cs ++ ys)) (λ ys z. refl) (λ ys z. omega arith) (λ ys z. omega arith) (λ ys z. omega arith)

module _ (N : Named) where
  abbrev full : NamedCall → ℕ
  full c = first (faulty N c ⇒ EIO ∷ refusals_named N c)

  number-lifted : (b : Call) (q : leaves_tree b ≡ true) → error_of (reply_named N (lifted b q)) ≡ full (lifted b q)
  unfolding first faulty refusals_named named_sound
  number-lifted b q = split (names_sound N.core.entries N.names)
      (λ h. ap (λ (o : NamedOutcome). error_of o.reply) (lifted-outcome N b q h) ∙ (settled.layer-named).number N.core b ∙ (rw (h, and_true (sound N.core)) refl))
      (λ h. ap (λ (o : NamedOutcome). error_of o.reply) (lifted-is N b q ∙ sym (lift_unnamed N (outcome_of N.core b) h)) ∙ (rw (h, and_false (sound N.core)) refl))
    where
      and_true : (a : Bool) → (a && true) ≡ a
      and_true true = refl
      and_true false = refl

      and_false : (a : Bool) → (a && false) ≡ false
      and_false true = refl
      and_false false = refl

  -- of a call with checks of its own, and a number of what it does past them
  number_then : (cs : List Check) (done : NamedOutcome) → ((ys : List Check) → first cs ≡ 0 → first ys ≡ first (cs ++ ys))
      → error_of (named_call N cs done).reply ≡ first (not (named_sound N) ⇒ EIO ∷ cs ++ (true ⇒ error_of done.reply ∷ []))
  unfolding first
  number_then cs done past =
      let last : List Check = true ⇒ error_of done.reply ∷ [] in
      named-cases N cs done (λ o. error_of o.reply ≡ first (not (named_sound N) ⇒ EIO ∷ cs ++ last))
      (λ h. rw h refl)
      (λ h z. rw h (join_stop cs last refl z))
      (λ h z. rw h (past last z))

  number-lookup : (p : List ℕ) → error_of (reply_named N (lookup p)) ≡ full (lookup p)
  unfolding outcome_named faulty refusals_named path_checks
  number-lookup p = number_then (path_checks p) _ (λ ys z. join_go (path_checks p) ys tt refl z refl)

  number-apply : (stock site name : List ℕ) → error_of (reply_named N (apply stock site name)) ≡ full (apply stock site name)
  unfolding outcome_named apply_named faulty refusals_named
  number-apply stock site name = number_then (found_checks stock site name) _ (found-past stock site name)

  number-write : (r : ℕ) (name out : List ℕ) → error_of (reply_named N (write r name out)) ≡ full (write r name out)
  unfolding outcome_named write_named first faulty refusals_named
  number-write r name out =
      named-cases N (write_checks N.core N.names r name out) _ (λ o. error_of o.reply ≡ full (write r name out)) (λ h. rw h refl) (λ h z. rw h refl) (λ h z. rw h (sym z))

  number-turn : (Q : Queue) → error_of (reply_named N (turn Q)) ≡ full (turn Q)
  unfolding outcome_named turn_named served_reply first faulty refusals_named
  number-turn Q =
      let told : Bool → ℕ = λ b. first (not b ⇒ EIO ∷ []) in
      turn-cases (answer_of N) Q (λ (p : Turned). error_of (served_reply p.said) ≡ full (turn Q)) (λ s l. ap told (sym s)) (λ s l. ap told (sym s)) (λ s. ap told (sym s))

  number-batch : (rs ns xs : List ℕ) → error_of (reply_named N (batch rs ns xs)) ≡ full (batch rs ns xs)
  unfolding outcome_named batch_named first faulty refusals_named
  number-batch rs ns xs = batch-cases N rs ns xs (λ (p : Batched). error_of p.reply ≡ first (batch_checks rs xs)) (λ z. sym z) (λ z. sym z)

  number : (c : NamedCall) → error_of (reply_named N c) ≡ full c
  unfolding outcome_named faulty refusals_named create_named create_named_checks create_way remove_named remove_way link_named link_named_checks link_way rename_named rename_named_checks rename_way exchange_named exchange_way
  number (lifted b q) = number-lifted b q
  number (create t d k n) = way_number N (create_way N t d k n)
  number (remove t e) = way_number N (remove_way N t e)
  number (link t s d n) = way_number N (link_way N t s d n)
  number (rename t s d n) = way_number N (rename_way N t s d n)
  number (exchange t s d x) = way_number N (exchange_way N t s d x)
  number (lookup p) = number-lookup p
  number (turn Q) = number-turn Q
  number (batch rs ns xs) = number-batch rs ns xs
  number (apply stock site name) = number-apply stock site name
  number (write r name out) = number-write r name out

pub layer-named : LayerNamed
layer-named = record {
  number = number;
  denied = λ N c e l s h. denied-told N c e l s h (told_seen N (seen N c));
  others = λ N c e h. others-told N c e h (told_seen N (seen N c));
}
  where
    denied-told : (N : Named) (c : NamedCall) (e : Errno) (l : ℕ) (s : Rights) → reply_named N c ≡ Denied e l s → Told N c → PassedOn N c e l s
    denied-told N c e l s h (passes b o r) = record { call = b; only = o; same = sym r ∙ h; verdict = (settled.layer-named).denied N.core b e l s (sym r ∙ h) }
    denied-told N c e l s h (no_layer P) = let q = P.is-refused in absurd (let z : ◌≡◌ {A = ℕ} 0 1 = cc in omega arith)
    denied-told N c e l s h (succeeds n r) = absurd (let z : ◌≡◌ {A = ℕ} 0 1 = cc in omega arith)

    others-told : (N : Named) (c : NamedCall) (e : Errno) → reply_named N c ≡ Refused e → Told N c → (e.0 ≡ EACCES → ⊥) × (e.0 ≡ EXDEV → ⊥)
    others-told N c e h (passes b o r) = (settled.layer-named).others N.core b e (sym r ∙ h)
    others-told N c e h (no_layer P) = let q : P.error ≡ e = cc P.is-refused in (λ z. P.not_acces (ap (λ (i : Errno). i.0) q ∙ z), λ z. P.not_xdev (ap (λ (i : Errno). i.0) q ∙ z))
    others-told N c e h (succeeds n r) = absurd (let z : ◌≡◌ {A = ℕ} 0 1 = cc in omega arith)

-- On sound tables no call answers EIO but a turn of a queue that is not sound. Assumes nothing.
use mathlib.Core.Path.{◌≡◌, refl, sym, ap, subst, ◌∙◌}
use mathlib.Core.Bool.{true, false, not}
use mathlib.Core.List.{List, ◌++◌}
use Prim.Native.Nat.{ℕ}
use native.Mathlib.Omega.{arith}
use borrow.Author.Tests.{ne_eqb, not-true, not-false}
use Rattle.laws.specs.Refusals.{Check, first}
use Rattle.laws.proofs.Bools.{split, clash}
use Rattle.access.specs.Errno.{EIO}
use Rattle.tables.specs.Tables.{Tables}
use Rattle.tables.specs.Outcome.{error_of}
use Rattle.fs.specs.Move.{verdict}
use Rattle.ruleset.specs.Create.{create_form, create_masks, create_checks, close_checks}
use Rattle.rule.specs.Rule.{add_form, path_form, port_form as rule_port_form, add_path_checks, add_port_checks}
use Rattle.domain_restrict.specs.Restrict.{restrict_form, restrict_room, restrict_checks}
use Rattle.domain.specs.Threads.{clone_checks, mark_checks}
use Rattle.domain.specs.Layer.{layer_checks}
use Rattle.domain_end.specs.End.{end_checks}
use Rattle.fs_access.specs.Access.{access_names, access_mask, access_checks}
use Rattle.net.specs.Port.{port_form, port_checks}
use Rattle.task.specs.Task.{task_checks}
use Rattle.tree.specs.Create.{create_shape, create_verdict, create_later, tree_create_checks, remove_shape, remove_verdict, remove_later, remove_checks}
use Rattle.tree.specs.Link.{link_shape, link_verdict, link_later, link_checks}
use Rattle.tree.specs.Rename.{rename_names, rename_shape, rename_verdict, rename_later, rename_checks}
use Rattle.tree.specs.Exchange.{exchange_names, exchange_shape, exchange_verdict, exchange_checks}
use Rattle.theorems.specs.Calls.{Call, create_ruleset, close_ruleset, add_path_rule, add_port_rule, restrict, layer-rules_lem, clone, end-thread_lem, set_no_new_privs, set-admin_lem, access, port, task, outcome_of}
use Rattle.theorems.specs.Named.{refusals_of}
use Rattle.theorems.proofs.Named as settled
use Rattle.names.specs.Names.{name_checks}
use Rattle.names.specs.Paths.{path_checks, found}
use Rattle.policy.specs.Find.{part_of}
use Rattle.policy.specs.Find as files
use Rattle.queue.specs.Queue.{Queue, queue_sound}
use Rattle.named.specs.Named.{Named, named_sound, NamedOutcome}
use Rattle.named.specs.Tree.{create_target, new_name, create_before, create_named_checks, link_target, link_before, link_named_checks, rename_before, rename_named_checks}
use Rattle.policy_write.specs.File.{write_form, write_rules, write_room, write_checks}
use Rattle.named.specs.Batch.{batch_checks}
use Rattle.named.specs.Policy.{lookup_named, on_named, applied, found_checks}
use Rattle.named.specs.Calls.{NamedCall, lifted, create, remove, link, rename, exchange, lookup, turn, batch, apply, write, outcome_named, reply_named}
use Rattle.named.specs.Layer.{faulty, refusals_named}
use Rattle.named.proofs.Made.{core-sound, names-sound, lift-goes, omits, omits_first, named-cases}
use Rattle.named.proofs.Leaves.{OnRulesets, leaving}
use Rattle.named.proofs.Applied.{found-cases, by_calls}
use Rattle.named.proofs.Kept.{kept}
use Rattle.named.proofs.Layer.{found_replies, layer-named}

-- EIO is not among the refusals of a call
settled_omits : (T : Tables) (c : Call) → omits EIO (refusals_of T c) ≡ true
unfolding omits refusals_of create_checks create_form create_masks close_checks add_path_checks add_port_checks add_form path_form rule_port_form restrict_checks restrict_form restrict_room layer_checks clone_checks end_checks mark_checks task_checks
    access_checks access_names access_mask port_checks port_form
    tree_create_checks create_shape create_verdict create_later remove_checks remove_shape remove_verdict remove_later
    link_checks link_shape link_verdict link_later rename_checks rename_names rename_shape rename_verdict rename_later exchange_checks exchange_names exchange_shape exchange_verdict verdict
settled_omits T (create_ruleset bs flags) = refl
settled_omits T (close_ruleset r) = refl
settled_omits T (add_path_rule r e rights flags) = refl
settled_omits T (add_port_rule r p rights flags) = refl
settled_omits T (restrict t r flags) = refl
settled_omits T (layer-rules_lem l) = refl
settled_omits T (clone t) = refl
settled_omits T (end-thread_lem t) = refl
settled_omits T (set_no_new_privs t) = refl
settled_omits T (set-admin_lem t on) = refl
settled_omits T (access t e m) = refl
settled_omits T (port t p m) = refl
settled_omits T (task t u s) = refl
settled_omits T (Call.create t d k) = refl
settled_omits T (Call.remove t e) = refl
settled_omits T (Call.link t s d) = refl
settled_omits T (Call.rename t s d x) = refl
settled_omits T (Call.exchange t s d x) = refl

found_not : (es ns p : List ℕ) → error_of (found es ns p) ≡ EIO → ⊥
found_not = found_replies (λ r. error_of r ≡ EIO → ⊥) (λ e z. omega arith) (λ z. omega arith) (λ z. omega arith) (λ z. omega arith)

-- nor is it of an application on sound tables, since each of its calls meets sound ones
call_not : (N : Named) {c : Call} → OnRulesets c → named_sound N ≡ true → error_of (on_named N c).reply ≡ EIO → ⊥
unfolding first
call_not N {c} v h = subst (λ (o : NamedOutcome). error_of o.reply ≡ EIO → ⊥) (lift-goes N (outcome_of N.core c) (names-sound N h))
    (λ z. omits_first EIO (refusals_of N.core c) (settled_omits N.core c) (λ q. omega arith) (rw (core-sound N h) at (sym ((settled.layer-named).number N.core c) ∙ z)))

lookup_not : (N : Named) (p : List ℕ) → named_sound N ≡ true → error_of (lookup_named N p).reply ≡ EIO → ⊥
unfolding path_checks omits
lookup_not N p h = named-cases N (path_checks p) _ (λ o. error_of o.reply ≡ EIO → ⊥)
    (λ u z. clash (named_sound N) h u)
    (λ s q. omits_first EIO (path_checks p) refl (λ z. omega arith))
    (λ s q. found_not N.core.entries N.names p)

applied_not : (N : Named) (s : List ℕ) → named_sound N ≡ true → error_of (applied N s).reply ≡ EIO → ⊥
unfolding outcome_named
applied_not N s h = (by_calls (λ M. named_sound M ≡ true) (λ r. error_of r ≡ EIO → ⊥) (λ M c v k. (kept M (lifted c (leaving v)) k, call_not M v k)) lookup_not (λ n z. omega arith) N s h).1

found_omits : (stock site name : List ℕ) (ys : List Check) → omits EIO ys ≡ true → omits EIO (found_checks stock site name ++ ys) ≡ true
unfolding omits
found_omits = found-cases (λ cs. (ys : List Check) → omits EIO ys ≡ true → omits EIO (cs ++ ys) ≡ true) (λ ys h. h) (λ ys h. h) (λ ys h. h) (λ ys h. h)

apply_omits : (N : Named) (stock site name : List ℕ) → named_sound N ≡ true → omits EIO (refusals_named N (apply stock site name)) ≡ true
unfolding omits refusals_named
apply_omits N stock site name h = found_omits stock site name _
    (let s = part_of stock site (files.found stock site name) in rw (ne_eqb (error_of (applied N s).reply) EIO (applied_not N s h)) refl)

named_omits : (N : Named) (c : NamedCall) → faulty N c ≡ false → omits EIO (refusals_named N c) ≡ true
unfolding faulty omits refusals_of refusals_named create_named_checks create_before create_target new_name name_checks create_verdict create_later
    link_named_checks link_before link_target link_verdict link_later rename_named_checks rename_before rename_verdict rename_later verdict path_checks batch_checks write_checks write_form write_rules write_room
named_omits N (lifted c q) f = settled_omits N.core c
named_omits N (create t d k n) f = refl
named_omits N (remove t e) f = settled_omits N.core (Call.remove t e)
named_omits N (link t s d n) f = refl
named_omits N (rename t s d n) f = refl
named_omits N (exchange t s d x) f = settled_omits N.core (Call.exchange t s d x)
named_omits N (lookup p) f = rw (ne_eqb (error_of (found N.core.entries N.names p)) EIO (found_not N.core.entries N.names p)) refl
named_omits N (turn Q) f = refl
named_omits N (batch rs ns xs) f = refl
named_omits N (apply stock site name) f = apply_omits N stock site name (not-false _ f)
named_omits N (write r name out) f = refl

-- an EIO is of what is faulty
eio-faulty : (N : Named) (c : NamedCall) → error_of (reply_named N c) ≡ EIO → faulty N c ≡ true
unfolding first
eio-faulty N c z = split (faulty N c) (λ q. q)
    (λ q. absurd (omits_first EIO (refusals_named N c) (named_omits N c q) (λ z. omega arith) (rw q at (sym (layer-named.number N c) ∙ z))))

pub not_unsound : (N : Named) (c : NamedCall) → named_sound N ≡ true → error_of (reply_named N c) ≡ EIO → (Q : Queue) × (c ≡ turn Q) × (queue_sound Q ≡ false)
unfolding faulty
not_unsound N c h z = of_turn c (eio-faulty N c z)
  where
    sound-tables : {A : Type 0} → not (named_sound N) ≡ true → A
    sound-tables q = clash (not (named_sound N)) q (ap not h)

    of_turn : (c : NamedCall) → faulty N c ≡ true → (Q : Queue) × (c ≡ turn Q) × (queue_sound Q ≡ false)
    of_turn (lifted b l) q = sound-tables q
    of_turn (create t d k n) q = sound-tables q
    of_turn (remove t e) q = sound-tables q
    of_turn (link t s d n) q = sound-tables q
    of_turn (rename t s d n) q = sound-tables q
    of_turn (exchange t s d x) q = sound-tables q
    of_turn (lookup p) q = sound-tables q
    of_turn (batch rs ns xs) q = clash false q refl
    of_turn (apply stock site name) q = sound-tables q
    of_turn (write r name out) q = sound-tables q
    of_turn (turn Q) q = (Q, refl, not-true (queue_sound Q) q)

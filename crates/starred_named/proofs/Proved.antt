-- The starred cases of document 01 with names: that all tables met are sound is a theorem, and the rest is computed. Assumes nothing.
use mathlib.Core.Path.{◌≡◌, refl, sym, ap, fun_ext, ◌∙◌}
use mathlib.Core.Bool.{true}
use mathlib.Core.List.{List, [], ◌∷◌, ◌++◌, map}
use Prim.Native.Nat.{ℕ, ◌*◌}
use native.Mathlib.Omega.{arith}
use lib.ListN.{length}
use Rattle.laws.specs.Tests.{any_below, first_from, first_below, elem, any, all_of}
use Rattle.laws.specs.Refusals.{Check, ◌⇒◌, first}
use Rattle.laws.specs.Cells.{copied}
use Rattle.access.specs.Rights.{known_fs, known_net, known_scope}
use Rattle.access.specs.Errno.{EPERM, EEXIST, EINVAL}
use Rattle.access.specs.Kinds.{kind_of}
use Rattle.access.specs.Limits.{max_level, max_entries}
use Rattle.access.specs.declared.errno.Reply.{Reply}
use Rattle.access.specs.declared.errno.Reply.TheVariants.{Done}
use Rattle.tables.specs.Tables.{entry_width, live, is_dir, past_file_set, thread_live}
use Rattle.tables.specs.Layers.{handles_any, ruleset_at, is_open, layer_at, layer_in_use}
use Rattle.tables.specs.Outcome.{Outcome, answer, blame, named, naming}
use Rattle.tables.specs.Fresh.{fresh_tables}
use Rattle.sound_rules.specs.Rules.{masks_known}
use Rattle.sound.proofs.Facts.{facts}
use Rattle.judge.specs.Rules.{is_rule, rule_place, rights_on}
use Rattle.judge.specs.Judge.{grants, granted, handled, denied, missing}
use Rattle.judge.specs.Domain.{chain, domain, layer_lacks, lacks}
use Rattle.judge.specs.Blame.{naming_entry}
use Rattle.ruleset.specs.Attribute.{number, known_size, stray_byte, stray}
use Rattle.ruleset.specs.Create.{free_ruleset, create_form, create_masks, create_checks, opened, create_done}
use Rattle.rule.specs.Rule.{add_form, is_full, sweeping, path_form, add_path_checks, appended, added, add_done}
use Rattle.domain_restrict.specs.Restrict.{unmarked, restrict_form, is_deep, no_room, restrict_room, restrict_checks, free_layer, layer_row, counted, restricted, restrict_done}
use Rattle.domain.specs.Threads.{mark_checks, mark_done}
use Rattle.fs_access.specs.Access.{access_names, access_mask, access_checks}
use Rattle.fs.specs.Needs.{make_of, source_needs, target_needs}
use Rattle.fs.specs.Move.{entry_rights, denied_needs, denied_refer, uncontained, escaping, crossing, layer_denies, layer_crosses, verdict}
use Rattle.fs.specs.Blame.{crossed, naming_move}
use Rattle.tree.specs.declared.Replaced.{Replaced}
use Rattle.tree.specs.Entries.{free_entry, unknown_kind, above, is_above, replacing, same_object, put_entry, put_parent, with_entries}
use Rattle.tree.specs.Moves.{needs_from, needs_to, move_of, link_move, rename_move}
use Rattle.tree.specs.Create.{create_verdict, create_later, tree_created}
use Rattle.tree.specs.Link.{link_verdict, link_later, linked}
use Rattle.tree.specs.Rename.{rename_verdict, rename_later, dropped, moved}
use Rattle.theorems.specs.Calls.{outcome_of}
use Rattle.theorems.proofs.Named.{shape}
use Rattle.names.specs.Names.{same_bytes, bad_bytes, name_checks, row_at, name_of, put_name, drop_name}
use Rattle.named.specs.Named.{Named, with_names, named_sound, NamedOutcome, named_outcome, named_answer, named_call, judged_by, no_names, fresh_named}
use Rattle.named.specs.Tree.{create_target, new_name, create_before, new_names, create_named_checks, create_named, link_target, link_before, link_named_checks, link_named, replaced_by, rename_before, rename_named_checks, renamed_names, rename_named}
use Rattle.named.specs.Calls.{NamedCall, lifted, create, remove, link, rename, exchange, lookup, turn, batch, apply, write, outcome_named, after_named, all_named}
use Rattle.named.proofs.Made.{core-sound, names-sound, lift-goes}
use Rattle.named.proofs.Kept.{kept}
use Rattle.named.proofs.Fresh.{fresh-sound-named, never_unsound}
use Rattle.starred.proofs.Proved.{bare, played as bare-played, same as same-bare}
use Rattle.starred_named.proofs.Scan.{scan, taken_fast, bearer_fast, taken_fast_lem, bearer_fast_lem}
use Rattle.starred_named.specs.Starred.{Case, cases, given, Starred}

-- the checks, with the bearer of the name looked for in one pass
unfoldable pub new_fast : Named → ℕ → List ℕ → List Check
new_fast N d n = name_checks n ++ (taken_fast N.core.entries N.names d n ⇒ EEXIST ∷ [])

unfoldable pub create_fast : Named → ℕ → ℕ → ℕ → List ℕ → List Check
create_fast N t d k n =
    (create_target N.core.entries N.core.threads t d ++ new_fast N d n) ++ ((unknown_kind k ⇒ EINVAL ∷ []) ++ (create_verdict N.core t d k ++ create_later N.core))

unfoldable pub link_fast : Named → ℕ → ℕ → ℕ → List ℕ → List Check
link_fast N t s d n =
    (link_target N.core.entries N.core.threads t s d ++ new_fast N d n) ++ ((is_dir N.core.entries s ⇒ EPERM ∷ []) ++ (link_verdict N.core t s d ++ link_later N.core))

unfoldable pub rename_fast : Named → ℕ → ℕ → ℕ → List ℕ → Replaced → List Check
rename_fast N t s d n x =
    rename_before N.core t s d n ++ ((is_above N.core.entries s d ⇒ EINVAL ∷ []) ++ (rename_verdict N.core t s d x ++ rename_later N.core.entries s x))

-- what a call answers and leaves, with no test of soundness; a call of the tree that stands in no case is as it was
unfoldable pub played : Named → NamedCall → NamedOutcome
played N (lifted c q) = let o = bare-played N.core c in named_outcome o.reply (with_names o.left N.names)
played N (create t d k n) =
    judged_by (naming_entry N.core t d (make_of (kind_of k)))
    (named_answer N (create_fast N t d k n)
    (named_outcome (Done (free_entry N.core.entries)) (with_names (tree_created N.core d k) (new_names N.core.entries N.names n))))
played N (link t s d n) =
    judged_by (naming_move N.core t (link_move N.core.entries s d))
    (named_answer N (link_fast N t s d n)
    (named_outcome (Done (free_entry N.core.entries)) (with_names (with_entries N.core (linked N.core.entries s d)) (new_names N.core.entries N.names n))))
played N (rename t s d n) =
    let x = bearer_fast N.core.entries N.names d n in
    judged_by (naming_move N.core t (rename_move N.core.entries s d x))
    (named_answer N (rename_fast N t s d n x)
    (named_outcome (Done 0) (with_names (with_entries N.core (moved N.core.entries s d x)) (renamed_names N.core.entries N.names s n x))))
played N (remove t e) = outcome_named N (remove t e)
played N (exchange t s d x) = outcome_named N (exchange t s d x)
played N (lookup p) = outcome_named N (lookup p)
played N (turn Q) = outcome_named N (turn Q)
played N (batch rs ns xs) = outcome_named N (batch rs ns xs)
played N (apply stock site name) = outcome_named N (apply stock site name)
played N (write r name out) = outcome_named N (write r name out)

-- ---- sound tables pass the tests
past-named : (a b : ℕ → ℕ) (D : List ℕ) (N : Named) (cs : List Check) (done : NamedOutcome) → named_sound N ≡ true
    → judged_by (naming a b D) (named_call N cs done) ≡ judged_by (naming a b D) (named_answer N cs done)
unfolding named_call named_answer first
past-named a b D N cs done h = rw h refl

long : (N : Named) → named_sound N ≡ true → length N.core.entries ≡ entry_width * max_entries
long N h = (facts N.core (core-sound N h)).lengths.entries

same : (N : Named) (c : NamedCall) → named_sound N ≡ true → outcome_named N c ≡ played N c
unfolding played outcome_named create_named link_named rename_named
    create_fast link_fast rename_fast new_fast create_named_checks link_named_checks rename_named_checks create_before link_before new_name replaced_by
same N (lifted c q) h = sym (lift-goes N (outcome_of N.core c) (names-sound N h)) ∙ ap (λ (o : Outcome). named_outcome o.reply (with_names o.left N.names)) (same-bare N.core c (core-sound N h))
same N (create t d k n) h = rw (← taken_fast_lem N.core.entries N.names d n (long N h)) (past-named _ _ _ N _ _ h)
same N (link t s d n) h = rw (← taken_fast_lem N.core.entries N.names d n (long N h)) (past-named _ _ _ N _ _ h)
same N (rename t s d n) h = rw (← bearer_fast_lem N.core.entries N.names d n (long N h)) (past-named _ _ _ N _ _ h)
same N (remove t e) h = refl
same N (exchange t s d x) h = refl
same N (lookup p) h = refl
same N (turn Q) h = refl
same N (batch rs ns xs) h = refl
same N (apply stock site name) h = refl
same N (write r name out) h = refl

-- a list of calls played
unfoldable pub played_all : Named → List NamedCall → Named
played_all N [] = N
played_all N (c ∷ cs) = played_all (played N c).left cs

pub same-all : (N : Named) (cs : List NamedCall) → named_sound N ≡ true → all_named N cs ≡ played_all N cs
unfolding all_named played_all
same-all N [] h = refl
same-all N (c ∷ cs) h = same-all (after_named N c) cs (kept N c h) ∙ ap (λ o. played_all o.left cs) (same N c h)

-- what a case's last call answers, played
unfoldable played_reply : Case → Reply
played_reply c = (played (played_all (fresh_named max_level) c.calls) c.last).reply

played_given : (c : Case) → given c ≡ played_reply c
unfolding played_reply
played_given c =
    ap (λ o. o.reply) (same (all_named (fresh_named max_level) c.calls) c.last (never_unsound max_level (omega arith) c.calls))
    ∙ ap (λ N. (played N c.last).reply) (same-all (fresh_named max_level) c.calls (fresh-sound-named max_level (omega arith)))

-- the cases as played, computed
played_cases : map played_reply cases ≡ map (λ c. c.answer) cases
unfolding any_below all_of first_from first_below any first copied
    known_fs known_net known_scope kind_of
    live is_dir past_file_set thread_live handles_any ruleset_at is_open layer_at layer_in_use answer fresh_tables masks_known
    is_rule rule_place rights_on grants granted handled denied missing chain domain layer_lacks lacks
    number known_size stray_byte stray free_ruleset create_form create_masks create_checks opened create_done
    add_form is_full sweeping path_form add_path_checks appended added add_done
    unmarked restrict_form is_deep no_room restrict_room restrict_checks free_layer layer_row counted restricted restrict_done mark_checks mark_done
    access_names access_mask access_checks source_needs target_needs
    entry_rights denied_needs denied_refer uncontained escaping crossing crossed layer_denies layer_crosses verdict blame named
    free_entry unknown_kind above replacing same_object put_entry put_parent needs_from needs_to move_of
    create_verdict create_later tree_created link_verdict link_later linked rename_verdict rename_later dropped moved
    elem same_bytes bad_bytes name_checks row_at name_of put_name drop_name scan taken_fast bearer_fast
    named_answer no_names fresh_named create_target link_target new_names rename_before renamed_names new_fast create_fast link_fast rename_fast
    shape bare bare-played played played_all played_reply
played_cases = refl

-- the theorem: every case's last call answers what document 01 says
pub starred : Starred
starred = ap (λ f. map f cases) (fun_ext played_given) ∙ played_cases

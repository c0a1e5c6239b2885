-- The starred cases of document 01: that all tables met are sound is a theorem, and the rest is computed. Assumes nothing.
use mathlib.Core.Path.{◌≡◌, refl, sym, ap, fun_ext, ◌∙◌}
use mathlib.Core.Bool.{true}
use mathlib.Core.List.{List, [], ◌∷◌, map}
use native.Mathlib.Omega.{arith}
use Rattle.laws.specs.Tests.{any_below, first_from, first_below, any, all_of}
use Rattle.laws.specs.Refusals.{Check, first}
use Rattle.laws.specs.Cells.{copied}
use Rattle.access.specs.Rights.{known_fs, known_net, known_scope}
use Rattle.access.specs.Kinds.{kind_of}
use Rattle.access.specs.Limits.{max_level}
use Rattle.access.specs.declared.errno.Reply.{Reply}
use Rattle.tables.specs.Tables.{Tables, live, is_dir, past_file_set, thread_live}
use Rattle.tables.specs.Layers.{handles_any, ruleset_at, is_open, layer_at, layer_in_use}
use Rattle.tables.specs.Outcome.{Outcome, answer, blame, named, naming}
use Rattle.tables.specs.Fresh.{fresh_tables}
use Rattle.sound_rules.specs.Rules.{masks_known}
use Rattle.sound.specs.Sound.{sound}
use Rattle.sound.specs.Call.{call}
use Rattle.sound.proofs.Calls.{call_passes}
use Rattle.sound.proofs.Fresh.{fresh-sound}
use Rattle.judge.specs.Rules.{is_rule, rule_place, rights_on}
use Rattle.judge.specs.Judge.{grants, granted, handled, denied, missing}
use Rattle.judge.specs.Domain.{chain, domain, layer_lacks, lacks}
use Rattle.ruleset.specs.Attribute.{number, known_size, stray_byte, stray}
use Rattle.ruleset.specs.Create.{free_ruleset, create_form, create_masks, create_checks, opened, create_done}
use Rattle.rule.specs.Rule.{add_form, is_full, sweeping, path_form, add_path_checks, appended, added, add_done}
use Rattle.domain_restrict.specs.Restrict.{unmarked, restrict_form, is_deep, no_room, restrict_room, restrict_checks, free_layer, layer_row, counted, restricted, restrict_done}
use Rattle.domain.specs.Threads.{mark_checks, mark_done}
use Rattle.fs_access.specs.Access.{access_names, access_mask, access_checks}
use Rattle.fs.specs.Needs.{source_needs, target_needs}
use Rattle.fs.specs.Move.{entry_rights, denied_needs, denied_refer, uncontained, escaping, crossing, layer_denies, layer_crosses, verdict}
use Rattle.fs.specs.Blame.{crossed}
use Rattle.tree.specs.Entries.{free_entry, unknown_kind, above, replacing, put_entry, put_parent}
use Rattle.tree.specs.Moves.{needs_from, needs_to, move_of}
use Rattle.tree.specs.Create.{create_shape, create_verdict, create_later, tree_create_checks, tree_created}
use Rattle.tree.specs.Link.{link_shape, link_verdict, link_later, link_checks, linked}
use Rattle.tree.specs.Rename.{rename_names, rename_shape, rename_verdict, rename_later, rename_checks, dropped, moved}
use Rattle.theorems.specs.Calls.{Call, outcome_of, after, after_all, caller}
use Rattle.theorems.specs.Claim.{domain_of}
use Rattle.theorems.specs.Named.{refusals_of, verdict_on}
use Rattle.theorems.proofs.Kept.{kept, never_unsound}
use Rattle.theorems.proofs.Named.{Shape, plain, judged, shape}
use Rattle.starred.specs.Starred.{Case, cases, given, Starred}

-- what a call answers and leaves, with no test of soundness
unfoldable pub bare : (T : Tables) (c : Call) → Shape T c → Outcome
bare T c (plain done n d same a x in-asked) = answer T (refusals_of T c) done
bare T c (judged done n d same dead a x in-asked) = naming (verdict_on T c).denied (verdict_on T c).crossed (domain_of T (caller c)) (answer T (refusals_of T c) done)

unfoldable pub played : Tables → Call → Outcome
played T c = bare T c (shape T c)

-- sound tables pass the test
past : (T : Tables) (cs : List Check) (done : Outcome) → sound T ≡ true → call T cs done ≡ answer T cs done
past T cs done h = sym (call_passes T cs done (sym h) refl refl)

pub same : (T : Tables) (c : Call) → sound T ≡ true → outcome_of T c ≡ played T c
unfolding played bare
same T c h = by_shape (shape T c)
  where
    by_shape : (s : Shape T c) → outcome_of T c ≡ bare T c s
    by_shape (plain done n d e a x in-asked) = e ∙ past T (refusals_of T c) done h
    by_shape (judged done n d e dead a x in-asked) = e ∙ ap (λ (o : Outcome). naming (verdict_on T c).denied (verdict_on T c).crossed (domain_of T (caller c)) o) (past T (refusals_of T c) done h)

-- a list of calls played
unfoldable played_all : Tables → List Call → Tables
played_all T [] = T
played_all T (c ∷ cs) = played_all (played T c).left cs

same-all : (T : Tables) (cs : List Call) → sound T ≡ true → after_all T cs ≡ played_all T cs
unfolding after_all played_all
same-all T [] h = refl
same-all T (c ∷ cs) h = same-all (after T c) cs (kept T c h) ∙ ap (λ o. played_all o.left cs) (same T c h)

-- what a case's last call answers, played
unfoldable played_reply : Case → Reply
played_reply c = (played (played_all (fresh_tables max_level) c.calls) c.last).reply

played_given : (c : Case) → given c ≡ played_reply c
unfolding played_reply
played_given c =
    ap (λ o. o.reply) (same (after_all (fresh_tables max_level) c.calls) c.last (never_unsound max_level (omega arith) c.calls))
    ∙ ap (λ T. (played T c.last).reply) (same-all (fresh_tables max_level) c.calls (fresh-sound max_level (omega arith)))

-- the cases as played, computed
played_cases : map played_reply cases ≡ map (λ c. c.answer) cases
unfolding any_below all_of first_from first_below any first copied
    known_fs known_net known_scope kind_of
    live is_dir past_file_set thread_live handles_any ruleset_at is_open layer_at layer_in_use answer fresh_tables masks_known
    is_rule rule_place rights_on grants granted handled denied missing chain domain layer_lacks lacks
    number known_size stray_byte stray free_ruleset create_form create_masks create_checks opened create_done
    add_form is_full sweeping path_form add_path_checks appended added add_done
    unmarked restrict_form is_deep no_room restrict_room restrict_checks free_layer layer_row counted restricted restrict_done mark_checks mark_done
    access_names access_mask access_checks source_needs target_needs
    entry_rights denied_needs denied_refer uncontained escaping crossing crossed layer_denies layer_crosses verdict blame named
    free_entry unknown_kind above replacing put_entry put_parent needs_from needs_to move_of
    create_shape create_verdict create_later tree_create_checks tree_created
    link_shape link_verdict link_later link_checks linked
    rename_names rename_shape rename_verdict rename_later rename_checks dropped moved
    shape bare played played_all played_reply
played_cases = refl

-- the theorem: every case's last call answers what document 01 says
pub starred : Starred
starred = ap (λ f. map f cases) (fun_ext played_given) ∙ played_cases

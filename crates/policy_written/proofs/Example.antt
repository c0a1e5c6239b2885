-- The 64 bytes of ruleset A: the tables are computed, that they are sound is a theorem. Assumes nothing.
use mathlib.Core.Path.{◌≡◌, refl, sym, ap, ◌∙◌, subst}
use mathlib.Core.Bool.{Bool, true, false, not, cond, ◌&&◌, ◌||◌}
use mathlib.Core.List.{List, [], ◌∷◌, ◌++◌, map}
use Prim.Native.Nat.{ℕ, ◌≤◌, ◌<◌}
use native.Mathlib.Omega.{arith}
use lib.Dec.{eqb, leb, ltb}
use lib.ListN.{length, drop}
use borrow.Author.Tests.{le-ltb, lt-ltb}
use Rattle.laws.specs.Tests.{any_below, first_from, first_below, elem, any, all_of}
use Rattle.laws.specs.Refusals.{Check, ◌⇒◌, first}
use Rattle.laws.specs.Cells.{copied}
use Rattle.laws.proofs.Refusals.{first-is, none, hit, miss}
use Rattle.access.specs.Errno.{ENOSPC}
use Rattle.access.specs.Rights.{known_fs, known_net, known_scope}
use Rattle.access.specs.Kinds.{directory, kind_of}
use Rattle.access.specs.Limits.{max_level, max_entries, max_rules}
use Rattle.access.specs.declared.errno.Reply.{Reply}
use Rattle.access.specs.declared.errno.Reply.TheVariants.{Done}
use Rattle.tables.specs.Tables.{level, object, live, is_dir, past_file_set, path_rule, port_rule, thread_live}
use Rattle.tables.specs.Layers.{Layer, handles_any, ruleset_at, is_open}
use Rattle.tables.specs.Outcome.{answer, blame, named}
use Rattle.tables.specs.Fresh.{fresh_tables}
use Rattle.sound_rules.specs.Rules.{masks_known}
use Rattle.sound.proofs.Facts.{Sound, facts}
use Rattle.judge.specs.Rules.{is_rule, rule_place}
use Rattle.judge.specs.Judge.{grants, granted, handled, denied, missing}
use Rattle.judge.specs.Domain.{chain, domain, layer_lacks, lacks}
use Rattle.ruleset.specs.Attribute.{number, known_size, stray_byte, stray}
use Rattle.ruleset.specs.Create.{free_ruleset, create_form, create_masks, create_checks, opened, create_done}
use Rattle.rule.specs.Rule.{add_form, is_full, sweeping, path_form, add_path_checks, appended, added, add_done}
use Rattle.domain.specs.Threads.{mark_checks, mark_done}
use Rattle.tree.specs.Entries.{free_entry, unknown_kind, put_entry}
use Rattle.tree.specs.Create.{create_verdict, create_later, tree_created}
use Rattle.theorems.specs.Calls.{is_done}
use Rattle.names.specs.Names.{same_bytes, bad_bytes, name_checks, row_at, name_of, put_name}
use Rattle.names.specs.Paths.{max_path, path_up, path_of}
use Rattle.policy.specs.Meaning.{Rule, path}
use Rattle.policy_write.specs.Order.{Keyed, earlier, all, lesser, next, onward, rising}
use Rattle.policy_write.specs.Chosen.{chosen, chosen_path}
use Rattle.policy.specs.Fields.{bytes_of}
use Rattle.policy_write.specs.Written.{field_bytes, rule_bytes, rules_bytes, masks_bytes, written}
use Rattle.policy_write.specs.File.{keyed_below, keyed, by_path, on_path, on_port, path_rules, port_rules, file_rules, policy_file, written_over, any_path, write_form, write_rules, write_room, write_checks}
use Rattle.policy_write.specs.Example.{name_of_a, cal, imported, bytes_of_a}
use Rattle.policy_write.proofs.Chosen.{chosen-only}
use Rattle.named.specs.Named.{Named, named_sound, NamedOutcome, named_outcome, named_refused, named_answer, no_names, fresh_named}
use Rattle.named.specs.Tree.{create_target, new_names}
use Rattle.named.proofs.Made.{core-sound, named_stops, named-goes}
use Rattle.named.proofs.Fresh.{fresh-sound-named, never_unsound}
use Rattle.starred_named.specs.Starred.{start, asked}
use Rattle.starred_named.proofs.Scan.{scan, taken_fast}
use Rattle.theorems.proofs.Named.{shape}
use Rattle.starred.proofs.Proved.{bare, played as bare-played}
use Rattle.starred_named.proofs.Proved.{new_fast, create_fast, played, played_all, same-all}
use Rattle.named.specs.Write.{file_of, write_named, written_out}
use Rattle.policy_written.specs.Example.{with_a, WrittenA}

abbrev rules_a : List ℕ
rules_a = 1 ∷ 1 ∷ 4 ∷ 1 ∷ 2 ∷ 8486 ∷ []

abbrev layer_a : Layer
layer_a = record { fs = 8486; net = 0; scope = 0; rules = rules_a }

-- ---- what is read of the tables
record Seen (N : Named) : Type 0 where
  pub level-is : level N.core.system ≡ 6
  pub layer-is : ruleset_at N.core.rulesets 0 ≡ layer_a
  pub is_open_lem : is_open N.core.rulesets 0 ≡ true
  pub dir_1 : is_dir N.core.entries 1 ≡ true
  pub dir_2 : is_dir N.core.entries 2 ≡ true
  pub live_1 : live N.core.entries 1 ≡ true
  pub live_2 : live N.core.entries 2 ≡ true
  pub object_1 : object N.core.entries 1 ≡ 1
  pub object_2 : object N.core.entries 2 ≡ 2
  pub path_1 : path_of N.core.entries N.names 1 ≡ cal
  pub path_2 : path_of N.core.entries N.names 2 ≡ imported

seen_played : Seen (played_all (fresh_named max_level) (start ++ asked 4))
unfolding any_below all_of first_from first_below any first copied
    known_fs known_net known_scope kind_of
    live is_dir past_file_set thread_live handles_any ruleset_at is_open answer fresh_tables masks_known
    is_rule rule_place grants granted handled denied missing chain domain layer_lacks lacks
    number known_size stray_byte stray free_ruleset create_form create_masks create_checks opened create_done
    add_form is_full sweeping path_form add_path_checks appended added add_done mark_checks mark_done blame named
    free_entry unknown_kind put_entry create_verdict create_later tree_created
    elem same_bytes bad_bytes name_checks row_at name_of put_name path_up path_of scan taken_fast
    named_answer no_names fresh_named create_target new_names new_fast create_fast shape bare bare-played played played_all
seen_played = record {
  level-is = refl;
  layer-is = refl;
  is_open_lem = refl;
  dir_1 = refl;
  dir_2 = refl;
  live_1 = refl;
  live_2 = refl;
  object_1 = refl;
  object_2 = refl;
  path_1 = refl;
  path_2 = refl;
}

sound_a : named_sound with_a ≡ true
sound_a = never_unsound max_level (omega arith) (start ++ asked 4)

seen_a : Seen with_a
seen_a = subst Seen (sym (same-all (fresh_named max_level) (start ++ asked 4) (fresh-sound-named max_level (omega arith)))) seen_played

-- ---- the rules of A by their paths
module _ (paths : ℕ → List ℕ) (one : paths 1 ≡ cal) (two : paths 2 ≡ imported) where
  items_a : map (by_path paths) (keyed path_rule rules_a) ≡ record { key = imported; rights = 8486 } ∷ record { key = cal; rights = 4 } ∷ []
  unfolding keyed_below by_path
  items_a = rw (one, two)

  rules_are : file_rules paths rules_a ≡ path 4 cal ∷ path 8486 imported ∷ []
  unfolding keyed_below lesser next onward rising earlier on_path on_port path_rules port_rules file_rules
  rules_are = ap (λ (xs : List (Keyed (List ℕ))). map on_path (rising earlier max_rules all xs) ++ map on_port (port_rules rules_a)) items_a

no_two : (test : ℕ → ℕ → Bool) → test 1 4 ≡ false → test 2 8486 ≡ false → any_path test rules_a ≡ false
unfolding any_path any_below
no_two test a b = rw (a, b)

-- ---- any sound tables that read so
module _ (N : Named) (h : named_sound N ≡ true) (Z : Seen N) where
  abbrev es : List ℕ
  es = N.core.entries

  abbrev ns : List ℕ
  ns = N.names

  abbrev S : Sound N.core
  S = facts N.core (core-sound N h)

  -- a directory's object has one entry
  dir_chosen : (e o : ℕ) → live es e ≡ true → is_dir es e ≡ true → object es e ≡ o → chosen es ns o ≡ e
  dir_chosen e o l d q = chosen-only es o ns e (S.tree.small e l) l q (λ f m p. sym (S.tree.agreed.one_dir e f l m (q ∙ sym p) d))

  chosen_1 : chosen es ns 1 ≡ 1
  chosen_1 = dir_chosen 1 1 Z.live_1 Z.dir_1 Z.object_1

  chosen_2 : chosen es ns 2 ≡ 2
  chosen_2 = dir_chosen 2 2 Z.live_2 Z.dir_2 Z.object_2

  cal-is : chosen_path es ns 1 ≡ cal
  unfolding chosen_path
  cal-is = ap (path_of es ns) chosen_1 ∙ Z.path_1

  import_is : chosen_path es ns 2 ≡ imported
  unfolding chosen_path
  import_is = ap (path_of es ns) chosen_2 ∙ Z.path_2

  file-is : file_of N 0 name_of_a ≡ bytes_of_a
  unfolding policy_file written field_bytes masks_bytes bytes_of rules_bytes rule_bytes
  file-is =
      ap (λ (D : Layer). written name_of_a D (file_rules (chosen_path es ns) D.rules)) Z.layer-is
      ∙ ap (written name_of_a layer_a) (rules_are (chosen_path es ns) cal-is import_is)

  size_is : length (file_of N 0 name_of_a) ≡ 64
  size_is = ap length file-is

  root_is : object es 0 ≡ 0
  root_is = S.tree.root_object

  -- the tests of its rules
  abbrev none_of : (ℕ → ℕ → Bool) → Type 0
  none_of test = any_path test (ruleset_at N.core.rulesets 0).rules ≡ false

  on_a : (test : ℕ → ℕ → Bool) → test 1 4 ≡ false → test 2 8486 ≡ false → none_of test
  on_a test a b = ap (λ (D : Layer). any_path test D.rules) Z.layer-is ∙ no_two test a b

  no_sweep : none_of (λ o rights. eqb o (object es 0) && sweeping 0 rights)
  no_sweep = on_a (λ o rights. eqb o (object es 0) && sweeping 0 rights) (rw root_is) (rw root_is)

  all_there : none_of (λ o rights. leb max_entries (chosen es ns o))
  all_there = on_a (λ o rights. leb max_entries (chosen es ns o)) (rw chosen_1) (rw chosen_2)

  all_short : none_of (λ o rights. ltb max_path (length (chosen_path es ns o)))
  all_short = on_a (λ o rights. ltb max_path (length (chosen_path es ns o))) (rw cal-is) (rw import_is)

  module _ (out : List ℕ) where
    goes : 64 ≤ length out → first (write_checks N.core ns 0 name_of_a out) ≡ 0
    unfolding write_checks write_form write_rules write_room
    goes k =
        sym (first-is (miss (ap (λ (n : ℕ). eqb n 0) Z.level-is) (miss (ap not Z.is_open_lem) (miss refl (miss no_sweep (miss all_there (miss all_short
        (miss (ap (ltb 32768) size_is) (miss (ap (ltb (length out)) size_is ∙ le-ltb (length out) 64 k) none)))))))))

    stops : length out < 64 → first (write_checks N.core ns 0 name_of_a out) ≡ ENOSPC
    unfolding write_checks write_form write_rules write_room
    stops k =
        sym (first-is (miss (ap (λ (n : ℕ). eqb n 0) Z.level-is) (miss (ap not Z.is_open_lem) (miss refl (miss no_sweep (miss all_there (miss all_short
        (miss (ap (ltb 32768) size_is) (hit (ap (ltb (length out)) size_is ∙ lt-ltb (length out) 64 k))))))))))

    writes : 64 ≤ length out → write_named N 0 name_of_a out ≡ named_outcome (Done 64) N
    unfolding write_named
    writes k = sym (named-goes N (write_checks N.core ns 0 name_of_a out) (named_outcome (Done (length (file_of N 0 name_of_a))) N) h (sym (goes k)) refl) ∙ ap (λ (n : ℕ). named_outcome (Done n) N) size_is

    refuses : length out < 64 → write_named N 0 name_of_a out ≡ named_refused ENOSPC N
    unfolding write_named
    refuses k = sym (named_stops N (write_checks N.core ns 0 name_of_a out) (named_outcome (Done (length (file_of N 0 name_of_a))) N) h (sym (stops k)) (λ z. omega arith))

    bytes_out_lem : 64 ≤ length out → written_out N 0 name_of_a out ≡ bytes_of_a ++ drop 64 out
    unfolding written_out written_over
    bytes_out_lem k =
        ap (λ (o : NamedOutcome). cond (is_done o.reply) (file_of N 0 name_of_a ++ drop (length (file_of N 0 name_of_a)) out) out) (writes k)
        ∙ ap (λ (f : List ℕ). f ++ drop (length f) out) file-is

    none_out : length out < 64 → written_out N 0 name_of_a out ≡ out
    unfolding written_out
    none_out k = ap (λ (o : NamedOutcome). cond (is_done o.reply) (written_over (file_of N 0 name_of_a) out) out) (refuses k)

pub written_a : WrittenA
written_a = record {
  written = writes with_a sound_a seen_a;
  bytes = bytes_out_lem with_a sound_a seen_a;
  refused = refuses with_a sound_a seen_a;
  untouched = none_out with_a sound_a seen_a;
}

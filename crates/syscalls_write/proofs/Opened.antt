-- What sound tables and passed checks tell of the rules that are written. Assumes nothing.
use mathlib.Core.Path.{◌≡◌, sym, ◌∙◌}
use mathlib.Core.Bool.{true, ◌||◌}
use mathlib.Core.List.{List}
use Prim.Native.Nat.{ℕ, ◌≤◌, ◌<◌}
use lib.Dec.{eqb, leb, ltb}
use lib.ListN.{length}
use borrow.Author.Tests.{ltb-false, leb-false, not-false}
use Rattle.laws.specs.Refusals.{first}
use Rattle.laws.proofs.Bools.{or_r}
use Rattle.laws.proofs.Refusals.{passed}
use Rattle.access.specs.Limits.{max_entries}
use Rattle.tables.specs.Tables.{counter, path_rule, rule_type, rule_key}
use Rattle.tables.specs.Layers.{ruleset_at}
use Rattle.sound_rules.specs.Rules.{rule_count}
use Rattle.sound_tree.proofs.Facts.{tree-sound}
use Rattle.names.specs.Paths.{max_path}
use Rattle.policy.specs.Files.{max_ruleset_name}
use Rattle.policy_write.specs.Chosen.{chosen, chosen_path}
use Rattle.policy_write.specs.File.{by_path, write_form, write_rules}
use Rattle.policy_write.proofs.Keys.{item, keyed_in, no_path}
use Rattle.policy_picks.specs.Picks.{Picks}
use Rattle.policy_picks.proofs.Picking.{picked-path}
use Rattle.policy_file.specs.Writing.{Chosen}
use Rattle.policy_written.proofs.Sound.{S, one_object, few-rules, keys}
use Rattle.named.specs.Named.{Named, named_sound}
use Rattle.named.proofs.Made.{names-sound}
use Rattle.syscalls_write.specs.Ready.{Ready}

-- sound tables, and the form of the call
pub ready : (N : Named) → named_sound N ≡ true → (r : ℕ) (name : List ℕ) → first (write_form N.core.system N.core.rulesets r name) ≡ 0
    → Ready N.core.entries N.names name (ruleset_at N.core.rulesets r).rules
unfolding write_form
ready N h r name z =
    let p = passed (write_form N.core.system N.core.rulesets r name) z in
    let o = not-false _ p.1.0 in
    let k = keys N h r o in
    record {
      rooted = record { long = (S N h).lengths.entries; next = counter N.core.system; entries = tree-sound _ _ (S N h).tree; names = names-sound N h };
      few = few-rules N h r o;
      objects-apart_lem = λ i j a b s t e. k.apart i j a b (s ∙ sym t) e;
      ports-apart_lem = λ i j a b s t e. k.apart i j a b (s ∙ sym t) e;
      one_object = one_object N h;
      name_short = ltb-false max_ruleset_name (length name) (or_r (eqb (length name) 0) (ltb max_ruleset_name (length name)) p.1.1.0);
    }

-- the rules' own checks
module _ (es rs ns : List ℕ) (r : ℕ) (name rules picks : List ℕ) (own : rules ≡ (ruleset_at rs r).rules) (R : Ready es ns name rules) (P : Picks es ns rules picks) (z : first (write_rules es ns rules) ≡ 0) where
  module _ (i : ℕ) (h : i < rule_count rules) (t : rule_type rules i ≡ path_rule) where
    has : chosen es ns (rule_key rules i) < max_entries
    unfolding write_rules
    has = leb-false max_entries _ (no_path (λ o rights. leb max_entries (chosen es ns o)) rules (passed (write_rules es ns rules) z).1.0 (item rules i) (keyed_in path_rule rules i h t))

    short : length (chosen_path es ns (rule_key rules i)) ≤ max_path
    unfolding write_rules
    short = ltb-false max_path _ (no_path (λ o rights. ltb max_path (length (chosen_path es ns o))) rules (passed (write_rules es ns rules) z).1.1.0 (item rules i) (keyed_in path_rule rules i h t))

  pub is-chosen : Chosen es rs ns r name rules picks
  unfolding by_path
  is-chosen = record {
    own = own;
    rooted = R.rooted;
    picked = record { room = P.room; entry = picked-path es ns rules picks P; some = has };
    few = R.few;
    paths_apart = λ i j a b s t e. R.objects-apart_lem i j a b s t (R.one_object _ _ (has i a s) (has j b t) e);
    ports-apart_lem = R.ports-apart_lem;
    short = short;
    name_short = R.name_short;
  }

-- Fresh tables with names are sound, and so is whatever calls leave of them. Assumes nothing.
use mathlib.Core.Path.{◌≡◌, ◌∙◌}
use mathlib.Core.Bool.{true, false, false≢true}
use mathlib.Core.List.{List}
use Prim.Native.Nat.{ℕ, ◌+◌, ◌-◌, ◌*◌, ◌≤◌}
use native.Mathlib.Omega.{arith}
use lib.Dec.{eqb}
use lib.ListN.{set, replicate, drop, length-replicate, length-take}
use lib.Seq.{get_or-set_other}
use borrow.Author.Tests.{eqb-true, ltb-false}
use Rattle.laws.specs.Cells.{zeros}
use Rattle.laws.specs.Refusals.{first}
use Rattle.laws.proofs.Bools.{split, clash, both}
use Rattle.laws.proofs.Cells.{get_or-zeros, part_at, zeros_of}
use Rattle.laws.proofs.Refusals.{passed}
use Rattle.access.specs.Kinds.{directory}
use Rattle.access.specs.Limits.{max_level, max_entries}
use Rattle.tables.specs.Tables.{entry_width}
use Rattle.tables.specs.Fresh.{fresh_tables, fresh_checks}
use Rattle.kept_tree.proofs.Written.{dead_zero}
use Rattle.sound.proofs.Fresh.{fresh-sound}
use Rattle.theorems.specs.Calls.{is_done}
use Rattle.names.specs.Names.{name_width, row_at, is_named}
use Rattle.names.proofs.Facts.{Names, named_live, named_not_root, names_of}
use Rattle.named.specs.Named.{Named, named_sound, named_answer, no_names, fresh_named, fresh_named_checks, freshened_named}
use Rattle.named.specs.Calls.{NamedCall, all_named}
use Rattle.named.proofs.Kept.{kept-all}

abbrev root : List ℕ
root = set (replicate (entry_width * max_entries) 0) 0 directory

unnamed : (e : ℕ) → is_named root e ≡ false
unnamed e = split (is_named root e)
    (λ h. clash _ (named_live root e h)
    (dead_zero root e (get_or-set_other (replicate (entry_width * max_entries) 0) 0 (entry_width * e + 0) directory 0 (let z = named_not_root root e h in λ q. z (omega arith)) ∙ get_or-zeros (entry_width * max_entries) (entry_width * e + 0))))
    (λ h. h)

row_blank : (e : ℕ) → zeros (row_at no_names e) ≡ true
unfolding row_at no_names
row_blank e =
    let from = name_width * e in
    zeros_of (row_at no_names e) (λ i h.
    let s = length-take (from + name_width - from) (drop from no_names) in
    part_at no_names from (from + name_width) i (omega arith) ∙ get_or-zeros (name_width * max_entries) (from + i))

fresh-names : Names root no_names
unfolding no_names
fresh-names = record {
  long = length-replicate {A = ℕ} (name_width * max_entries) 0;
  good = λ e l a. clash (is_named root e) a (unnamed e);
  vacant = λ e l a. row_blank e;
  unique = λ e f l k a b p q. clash (is_named root e) a (unnamed e);
}

pub fresh-sound-named : (level : ℕ) → level ≤ max_level → named_sound (fresh_named level) ≡ true
unfolding named_sound fresh_named fresh_tables
fresh-sound-named level h = both _ _ (fresh-sound level h) (names_of root no_names fresh-names)

pub never_unsound : (level : ℕ) → level ≤ max_level → (cs : List NamedCall) → named_sound (all_named (fresh_named level) cs) ≡ true
never_unsound level h cs = kept-all (fresh_named level) cs (fresh-sound-named level h)

-- what is left by a making of fresh tables that was not refused
pub freshened-sound : (N : Named) (level : ℕ) → is_done (freshened_named N level).reply ≡ true → named_sound (freshened_named N level).left ≡ true
unfolding freshened_named named_answer fresh_named_checks fresh_checks
freshened-sound N level r = split (eqb (first (fresh_named_checks N level)) 0)
    (λ q.
    let p = passed (fresh_named_checks N level) (eqb-true (first (fresh_named_checks N level)) 0 q) in
    rw q (fresh-sound-named level (ltb-false max_level level p.1.1.0)))
    (λ q. absurd (false≢true (rw q at r)))

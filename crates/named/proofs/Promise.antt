-- What names promise, whatever calls were made. Assumes nothing.
use mathlib.Core.Path.{◌≡◌, refl, sym, ◌∙◌}
use mathlib.Core.Bool.{true, false}
use mathlib.Core.List.{List}
use Prim.Native.Nat.{ℕ}
use lib.ListN.{length}
use borrow.Author.Tests.{eq-eqb, le-ltb}
use Rattle.laws.specs.Refusals.{first}
use Rattle.laws.proofs.Bools.{not_of_true}
use Rattle.laws.proofs.Refusals.{none, miss, first-is}
use Rattle.access.specs.declared.errno.Reply.TheVariants.{Done}
use Rattle.tables.specs.Tables.{parent, object, live}
use Rattle.tables.specs.Outcome.{error_of}
use Rattle.sound.proofs.Facts.{facts}
use Rattle.tree.specs.declared.Replaced.TheVariants.{Entry}
use Rattle.tree.specs.Entries.{replacing, same_object}
use Rattle.tree.specs.Rename.{moved}
use Rattle.theorems.specs.Calls.{is_done}
use Rattle.names.specs.Names.{max_name, name_checks, row_at, name_at}
use Rattle.names.proofs.Facts.{Name, name_facts, names, named_of, named_dead}
use Rattle.names.proofs.Paths.{bearer-is}
use Rattle.named.specs.Named.{Named, named_sound, named_outcome, freshened_named}
use Rattle.named.specs.Tree.{replaced_by, rename_named_checks, renamed_names, rename_named}
use Rattle.named.specs.Calls.{NamedCall, create, link, rename, outcome_named, reply_named, all_named}
use Rattle.named.specs.Layer.{faulty, refusals_named}
use Rattle.named.specs.Promise.{NamesKept, NamesPromised}
use Rattle.named.proofs.Orders.{create-taken_lem, link-taken_lem}
use Rattle.named.proofs.Made.{core-sound, names-sound, way_made, way_goes, made}
use Rattle.named.proofs.Listed.{rename_way}
use Rattle.named.proofs.Kept.{kept-all}
use Rattle.named.proofs.Fresh.{freshened-sound}
use Rattle.named.proofs.Layer.{layer-named}
use Rattle.named.proofs.Lookup.{lookup-path}
use Rattle.named.proofs.Unsound.{not_unsound}

name_passes : (n : List ℕ) → Name n → first (name_checks n) ≡ 0
unfolding name_checks
name_passes n ok = sym (first-is (miss (le-ltb max_name (length n) ok.short) (miss ok.fine none)))

on-sound : (N : Named) → named_sound N ≡ true → NamesKept N
on-sound N h =
    let es = N.core.entries in
    let tree = (facts N.core (core-sound N h)).tree in
    let W = names es N.names (names-sound N h) in
    record {
      is-sound_lem = h;
      never_unsound = λ c. not_unsound N c h;
      fine = λ e l r. name_passes (name_at N.names e) (name_facts (row_at N.names e) (W.good e (tree.small e l) (named_of es e r l)));
      cleared = λ e b l. W.vacant e b (named_dead es e l);
      unique = λ e f a b r s p q. W.unique e f (tree.small e a) (tree.small f b) (named_of es e r a) (named_of es f s b) p q;
      found = λ e l s. lookup-path N e h l s;
    }

-- ---- the own name
module _ (N : Named) (t s : ℕ) (h : named_sound N ≡ true) (l : live N.core.entries s ≡ true) (r : s ≡ 0 → ⊥) where
  abbrev es : List ℕ
  es = N.core.entries

  abbrev d : ℕ
  d = parent N.core.entries s

  abbrev n : List ℕ
  n = name_at N.names s

  itself : replaced_by N d n ≡ Entry s
  unfolding replaced_by
  itself = bearer-is es N.names _ (facts N.core (core-sound N h)).tree (names es N.names (names-sound N h)) s l r

  same_self : same_object es s s ≡ true
  unfolding same_object
  same_self = eq-eqb (object es s) (object es s) refl

  idle : way_made N (rename_way N t s d n) ≡ named_outcome (Done 0) N
  unfolding rename_way moved renamed_names replacing
  idle = rw (itself, same_self) refl

  own_name : is_done (reply_named N (rename t s d n)) ≡ true → outcome_named N (rename t s d n) ≡ named_outcome (Done 0) N
  unfolding outcome_named rename_named rename_named_checks rename_way
  own_name q =
      let W = rename_way N t s d n in
      let m = made N W q in
      sym (way_goes N W m.is-sound_lem m.passed m.none) ∙ idle

-- ---- a taken name
refused-first : (N : Named) (c : NamedCall) {e : ℕ} → faulty N c ≡ false → first (refusals_named N c) ≡ e → error_of (reply_named N c) ≡ e
unfolding first
refused-first N c h q = layer-named.number N c ∙ (rw h q)

pub names_promised : NamesPromised
unfolding refusals_named faulty
names_promised = record {
  kept = λ N cs h. on-sound (all_named N cs) (kept-all N cs h);
  fresh = λ N level cs r. on-sound (all_named (freshened_named N level).left cs) (kept-all (freshened_named N level).left cs (freshened-sound N level r));
  own_name = own_name;
  create-taken_lem = λ N t d k n h z g q. refused-first N (create t d k n) (not_of_true (named_sound N) h) (create-taken_lem N d n g q t k z);
  link-taken_lem = λ N t s d n h z g q. refused-first N (link t s d n) (not_of_true (named_sound N) h) (link-taken_lem N d n g q t s z);
}

-- An entry in which none stands becomes a free row: remove keeps sound tables sound. Assumes nothing.
use mathlib.Core.Path.{◌≡◌, refl, sym, ap, ◌∙◌}
use mathlib.Core.Bool.{true, false}
use mathlib.Core.List.{List}
use mathlib.Core.Logic.{inl}
use Prim.Native.Nat.{ℕ, ◌+◌, ◌*◌, ◌<◌}
use native.Mathlib.Omega.{arith}
use lib.Dec.{eqb}
use lib.ListN.{length}
use borrow.Author.Tests.{eqb-true, eq-eqb, eqb-false, ne_eqb, not-false}
use Rattle.laws.specs.Tests.{any_below}
use Rattle.laws.specs.Cells.{cell}
use Rattle.laws.proofs.Bools.{split, clash, both, not_of_false}
use Rattle.laws.proofs.Tests.{none-at}
use Rattle.laws.proofs.Refusals.{passed}
use Rattle.access.specs.Limits.{max_entries}
use Rattle.access.specs.declared.errno.Reply.TheVariants.{Done}
use Rattle.tables.specs.Tables.{Tables, entry_width, counter, kind, parent, object, live, is_dir}
use Rattle.tables.specs.Outcome.{outcome}
use Rattle.sound_tree.proofs.Facts.{Tree}
use Rattle.sound.specs.Sound.{sound}
use Rattle.sound.proofs.Facts.{Sound, facts}
use Rattle.sound.proofs.Calls.{kept-call}
use Rattle.tree.specs.Entries.{is_child, is_full, put_entry, free_row, with_entries}
use Rattle.tree.specs.Create.{remove_shape, remove_verdict, remove_later, remove_checks, tree_remove}
use Rattle.kept_tree.proofs.Written.{put_other, length_put, kind_put, parent_put, object_put, live_same, dead_zero}
use Rattle.kept_tree.proofs.Edits.{Childless, clear_frame}
use Rattle.kept_tree.proofs.Stays.{Change, kept-change}

pub childless : (es : List ℕ) (next : ℕ) → Tree es next → (e : ℕ) → (0 ≡ e → ⊥) → is_full es e ≡ false → Childless es e
unfolding is_full is_child
childless es next Z e nz h x l p = split (is_dir es e)
    (λ q.
    let none : any_below (is_child es e) max_entries ≡ false = rw q at h in
    let one : is_child es e x ≡ false = none-at (is_child es e) max_entries x none (Z.small x l) in
    split (eqb x 0)
    (λ i. nz (sym Z.root_top ∙ ap (parent es) (sym (eqb-true x 0 i)) ∙ p))
    (λ i. clash (is_child es e x) (both _ _ (not_of_false _ i) (both _ _ l (eq-eqb (parent es x) e p))) one))
    (λ q. clash (is_dir es e) (rw p at (Z.in_dir x l)) q)

module _ (T : Tables) (S : Sound T) (e : ℕ) (there : live T.entries e ≡ true) (nz : 0 ≡ e → ⊥) (none : Childless T.entries e) where
  abbrev es : List ℕ
  es = T.entries

  abbrev new : List ℕ
  new = put_entry es e 0 0 0

  room : entry_width * e + 2 < length es
  room = let w = S.tree.long in let l = S.tree.small e there in omega arith

  at : (x l : ℕ) → (x ≡ e → ⊥) → l < entry_width → cell new entry_width x l ≡ cell es entry_width x l
  at = put_other es e 0 0 0

  new_dead : (x : ℕ) → x ≡ e → live new x ≡ false
  new_dead x q = dead_zero new x (ap (kind new) q ∙ kind_put es e 0 0 0 room)

  change : Change es new (λ x. eqb x e)
  unfolding free_row
  change = record {
    frame = clear_frame es (counter T.system) S.tree es e (λ x. eqb x e) (λ x. refl) (λ x. refl) (λ x. refl) S.tree.in_dir none;
    settled = λ x a g. inl (at x 1 (eqb-false x e g) (omega arith));
    long = length_put es e 0 0 0 ∙ S.tree.long;
    top = at 0 1 nz (omega arith) ∙ S.tree.root_top;
    root = ne_eqb 0 e nz;
    vacant = λ x l. split (eqb x e)
        (λ q. let i = eqb-true x e q in (ap (parent new) i ∙ parent_put es e 0 0 0 room, ap (object new) i ∙ object_put es e 0 0 0 room))
        (λ q.
        let d = eqb-false x e q in
        let z = S.tree.free x (sym (live_same es new x (at x 0 d (omega arith))) ∙ l) in
        (at x 1 d (omega arith) ∙ z.0, at x 2 d (omega arith) ∙ z.1));
  }

  pub kept_clear : sound (with_entries T (free_row T.entries e)) ≡ true
  unfolding free_row
  kept_clear = kept-change T S new (λ x. eqb x e) change
      (λ x a. split (eqb x e)
      (λ q. clash (live new x) a (new_dead x (eqb-true x e q)))
      (λ q. (sym (live_same es new x (at x 0 (eqb-false x e q) (omega arith))) ∙ a, q)))

pub kept_removed : (T : Tables) (t e : ℕ) → sound T ≡ true → sound (tree_remove T t e).left ≡ true
unfolding tree_remove remove_checks remove_shape remove_verdict remove_later
kept_removed T t e h = kept-call T (remove_checks T t e) (outcome (Done 0) (with_entries T (free_row T.entries e))) (λ z.
    let es = T.entries in
    let S = facts T h in
    let p = passed (remove_checks T t e) z in
    let nz : (0 ≡ e → ⊥) = λ q. eqb-false e 0 p.1.1.0 (sym q) in
    kept_clear T S e (not-false (live es e) p.1.0) nz (childless es _ S.tree e nz p.1.1.1.1.0)) h

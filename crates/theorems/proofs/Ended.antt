-- What comes back when threads end. Assumes nothing.
use mathlib.Core.Path.{◌≡◌, refl, sym, ap, ◌∙◌, subst}
use mathlib.Core.Bool.{Bool, true, cond, ◌&&◌}
use Prim.Native.Nat.{ℕ, ◌<◌}
use native.Mathlib.Omega.{arith}
use lib.Dec.{eqb}
use borrow.Author.Tests.{eqb-true, eqb-false}
use Rattle.laws.specs.Tests.{any_below, elem}
use Rattle.laws.specs.Sums.{bit}
use Rattle.laws.specs.Refusals.{first}
use Rattle.laws.proofs.Bools.{split, clash, and_l, and_r, both, agree}
use Rattle.laws.proofs.Tests.{none_of, any_found}
use Rattle.laws.proofs.Sums.{sum_same}
use Rattle.access.specs.Limits.{max_layers, max_threads}
use Rattle.access.specs.declared.errno.Reply.TheVariants.{Done}
use Rattle.tables.specs.Tables.{Tables, thread_live}
use Rattle.tables.specs.Layers.{layer_count, layer_in_use}
use Rattle.tables.specs.Outcome.{Outcome, outcome}
use Rattle.sound.specs.Sound.{sound}
use Rattle.sound.proofs.Facts.{facts, Sound}
use Rattle.sound.proofs.Calls.{call-done, call-refused}
use Rattle.domain_end.specs.End.{end_checks, ended, end_done, end_call}
use Rattle.domain_end.specs.Whole.{Ended}
use Rattle.kept_domains.proofs.Threads.{live_below}
use Rattle.kept_domains.proofs.Restrict.{room-exact}
use Rattle.kept_end.proofs.End.{end_live, ended-sound, ended-lives, ended-domain, ended-layer}
use Rattle.kept_end.proofs.Reached.{in_use_reached, reached_in_use}
use Rattle.kept_end.proofs.Whole.{ended-whole}
use Rattle.kept_end.proofs.Only.{ended-only}
use Rattle.theorems.specs.Calls.{end-thread_lem, outcome_of, after}
use Rattle.theorems.specs.Claim.{domain_of}
use Rattle.theorems.specs.Ended.{reached, live_rules, Unmoved, LayersReturned}

-- ---- in use is what a live thread reaches
module _ (T : Tables) (h : sound T ≡ true) where
  abbrev S : Sound T
  S = facts T h

  reaches : ℕ → ℕ → Bool
  reaches l t = thread_live T.threads t && elem l (domain_of T t)

  used-reached : (l : ℕ) → l < max_layers → layer_in_use T.layers l ≡ true → reached T l ≡ true
  unfolding reached reaches
  used-reached l b q =
      let r = in_use_reached T S l b q in
      sym (any_found (reaches l) max_threads r.0 (live_below T.threads r.0 S.lengths.threads r.1) (both _ _ r.1 r.2))

  reached-used : (l : ℕ) → reached T l ≡ true → layer_in_use T.layers l ≡ true
  unfolding reached reaches
  reached-used l q = split (layer_in_use T.layers l) (λ p. p)
      (λ p. clash (any_below (reaches l) max_threads) q (none_of (reaches l) max_threads (λ t k. split (reaches l t)
      (λ r. clash (layer_in_use T.layers l) (reached_in_use T S l (t, and_l (thread_live T.threads t) (elem l (domain_of T t)) r, and_r (thread_live T.threads t) (elem l (domain_of T t)) r)).1 p)
      (λ r. r))))

  in_use_is : (l : ℕ) → l < max_layers → layer_in_use T.layers l ≡ reached T l
  in_use_is l b = agree (layer_in_use T.layers l) (reached T l) (used-reached l b) (reached-used l)

  -- a record that is free has no rules
  rules_are : (l : ℕ) → l < max_layers → layer_count T.layers l ≡ cond (reached T l) (layer_count T.layers l) 0
  rules_are l b = split (reached T l) (λ q. rw q refl) (λ q. rw q (S.layers.free l b (in_use_is l b ∙ q) 5 (omega arith)))

-- ---- the end, as it is in the list of calls
end_is : (T : Tables) (u : ℕ) → sound T ≡ true → first (end_checks T u) ≡ 0 → after T (end-thread_lem u) ≡ ended T u
unfolding outcome_of end_call end_done
end_is T u h z = ap (λ (o : Outcome). o.left) (sym (call-done T (end_checks T u) (outcome (Done 0) (ended T u)) (sym h) refl refl z))

end_refused : (T : Tables) (u : ℕ) → sound T ≡ true → (first (end_checks T u) ≡ 0 → ⊥) → after T (end-thread_lem u) ≡ T
unfolding outcome_of end_call
end_refused T u h z = ap (λ (o : Outcome). o.left) (sym (call-refused T (end_checks T u) (end_done T u) (sym h) refl refl z))

unmoved : (T : Tables) (u t : ℕ) → sound T ≡ true → thread_live T.threads t ≡ true → (t ≡ u → ⊥) → Unmoved T (after T (end-thread_lem u)) t
unmoved T u t h v d = split (eqb (first (end_checks T u)) 0)
    (λ q.
    let z = eqb-true (first (end_checks T u)) 0 q in
    let w = end_live T u z in
    subst (λ (x : Tables). Unmoved T x t) (sym (end_is T u h z))
    (record { lives = ended-lives T u (facts T h) w t d v; domain = ended-domain T u (facts T h) w t d v; layers = ended-layer T u (facts T h) w t d v }))
    (λ q.
    subst (λ (x : Tables). Unmoved T x t) (sym (end_refused T u h (eqb-false (first (end_checks T u)) 0 q)))
    (record { lives = v; domain = refl; layers = λ l m. refl }))

pub layers_returned : LayersReturned
unfolding live_rules
layers_returned = record {
  in_use = λ T l h b. in_use_is T h l b;
  room = λ T r h.
      rw (
        ← sum_same (λ l. bit (layer_in_use T.layers l)) (λ l. bit (reached T l)) max_layers (λ l b. ap bit (in_use_is T h l b)),
        ← sum_same (layer_count T.layers) (λ l. cond (reached T l) (layer_count T.layers l) 0) max_layers (λ l b. rules_are T h l b),
      )
      (room-exact T r (facts T h));
  whole = λ T u h z. subst (λ (x : Tables). Ended T u x) (sym (end_is T u h z)) (ended-whole T u (facts T h) (end_live T u z));
  only = λ T T' u h z k e.
      ended-only T u T' (ended T u) e (ended-whole T u (facts T h) (end_live T u z)) (facts T' k) (ended-sound T u (facts T h) (end_live T u z)) ∙ sym (end_is T u h z);
  others = unmoved;
}

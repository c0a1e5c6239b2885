-- The marks of the entries that are known to come to entry 0. Assumes nothing.
use mathlib.Core.Path.{◌≡◌, refl, sym, ◌∙◌}
use mathlib.Core.Bool.{Bool, true, false, not}
use mathlib.Core.List.{List}
use mathlib.Core.Logic.{◌⊎◌, inl, inr}
use Prim.Native.Nat.{ℕ, zero, suc, ◌+◌, ◌-◌, ◌*◌, ◌≤◌, ◌<◌}
use native.Mathlib.Numerals.{sub-one}
use lib.Dec.{eqb}
use lib.ListN.{length, get_or, set, replicate, length-set, length-replicate}
use lib.Seq.{get_or-set_same, get_or-set_other}
use borrow.Author.Tests.{eqb-true, eqb-false, ne_eqb}
use native.Mathlib.Omega.{arith}
use Rattle.laws.proofs.Bools.{split, either, agree}
use Rattle.laws.proofs.Cells.{get_or-zeros}
use Rattle.access.specs.Limits.{max_entries}
use Rattle.tables.specs.Tables.{entry_width, parent}
use Rattle.sound_tree.specs.Tree.{reaches}
use Rattle.sound_tree.specs.Fast.{Known}
use Rattle.sound_tree.proofs.Climb.{reaches_root, reaches-none, reaches_up}
use Rattle.sound_tree.proofs.Reach.{reaches-on, reaches_back}

-- no entry is marked at first
pub known-none : (es : List ℕ) → Known es (replicate max_entries 0) 0
known-none es = (
  length-replicate {A = ℕ} max_entries 0,
  (λ e. let z = get_or-zeros max_entries e in omega arith, λ e d. absurd (d (get_or-zeros max_entries e))),
)

module _ (es marks : List ℕ) {n : ℕ} (K : Known es marks n) where
  pub known_same : {next : List ℕ} → next ≡ marks → Known es next n
  known_same h = rw h K

  -- an entry from which nothing climbs
  pub known_past : {next : List ℕ} → next ≡ marks → Known es next (n + 1)
  known_past h = rw h (K.0, (λ e. let l = K.1.0 e in omega arith, K.1.1))

module _ (es : List ℕ) (e : ℕ) where
  -- ---- a climb from e that has come to `at`, with n steps left
  abbrev pub Rest : ℕ → ℕ → Type 0
  Rest n at = (reaches es max_entries e ≡ reaches es n at) × (reaches es max_entries e ≡ reaches es max_entries at)

  module _ (n at : ℕ) (r : Rest n at) where
    pub rest_up : {p : ℕ} → length es ≡ entry_width * max_entries → (at ≡ 0 → ⊥) → (n ≡ 0 → ⊥) → p ≡ parent es at → Rest (n - 1) p
    rest_up w d z q = rw q (
      r.0 ∙ reaches_up es n at d z,
      r.1 ∙ agree (reaches es max_entries at) (reaches es max_entries (parent es at)) (reaches-on es at d) (reaches_back es w at),
    )

    -- at the root, and at the bound
    pub rest_root : at ≡ 0 → true ≡ reaches es max_entries e
    rest_root h = sym (r.1 ∙ reaches_root es max_entries at h)

    pub rest_end : n ≡ 0 → eqb at 0 ≡ reaches es max_entries e
    rest_end z = sym (r.0 ∙ reaches-none es n at z)

-- ---- the marks of a climb from e that has come to `at`
pub record Marking (es : List ℕ) (e own at : ℕ) (marks : List ℕ) : Type 0 where
  pub long : length marks ≡ max_entries
  pub bound : (f : ℕ) → get_or marks f 0 ≤ own
  -- an entry with an older mark comes to entry 0
  pub older : (f : ℕ) → (get_or marks f 0 ≡ 0 → ⊥) → (get_or marks f 0 ≡ own → ⊥) → reaches es max_entries f ≡ true
  -- one with the climb's mark does so exactly if e does
  pub same : (f : ℕ) → get_or marks f 0 ≡ own → reaches es max_entries e ≡ reaches es max_entries f
  -- and stands below another, or below `at`
  pub up : (f : ℕ) → get_or marks f 0 ≡ own → (f ≡ 0 → ⊥) × ((get_or marks (parent es f) 0 ≡ own) ⊎ (parent es f ≡ at))

module _ (es : List ℕ) (e : ℕ) (marks : List ℕ) where
  pub marking_none : Known es marks e → Marking es e (e + 1) e marks
  marking_none K = record {
    long = K.0;
    bound = λ f. let l = K.1.0 f in omega arith;
    older = λ f d o. K.1.1 f d;
    same = λ f o. let l = K.1.0 f in absurd (omega arith);
    up = λ f o. let l = K.1.0 f in absurd (omega arith);
  }

  module _ (at : ℕ) (M : Marking es e (e + 1) at marks) where
    -- a step up
    module _ (l : at < max_entries) (d : at ≡ 0 → ⊥) (h : reaches es max_entries e ≡ reaches es max_entries at) where
      abbrev next : List ℕ
      next = set marks at (e + 1)

      here : get_or next at 0 ≡ e + 1
      here = let w = M.long in get_or-set_same marks at (e + 1) 0 (omega arith)

      else : (f : ℕ) → (f ≡ at → ⊥) → get_or next f 0 ≡ get_or marks f 0
      else f n = get_or-set_other marks at f (e + 1) 0 n

      -- what has the climb's mark keeps it
      keeps : (f : ℕ) → get_or marks f 0 ≡ e + 1 → get_or next f 0 ≡ e + 1
      keeps f o = split (eqb f at) (λ q. rw (eqb-true f at q) here) (λ q. else f (eqb-false f at q) ∙ o)

      pub marking_more : Marking es e (e + 1) (parent es at) next
      marking_more = record {
        long = length-set marks at (e + 1) ∙ M.long;
        bound = λ f. split (eqb f at)
            (λ q. rw (eqb-true f at q) (let z = here in omega arith))
            (λ q. rw (else f (eqb-false f at q)) (M.bound f));
        older = λ f z o. split (eqb f at)
            (λ q. absurd (o (rw (eqb-true f at q) here)))
            (λ q. let k = else f (eqb-false f at q) in M.older f (λ y. z (k ∙ y)) (λ y. o (k ∙ y)));
        same = λ f o. split (eqb f at)
            (λ q. rw (eqb-true f at q) h)
            (λ q. M.same f (sym (else f (eqb-false f at q)) ∙ o));
        up = λ f o. split (eqb f at)
            (λ q. rw (eqb-true f at q) (d, inr refl))
            (λ q.
            let s = M.up f (sym (else f (eqb-false f at q)) ∙ o) in
            (s.0, inl (either s.1 (keeps (parent es f)) (λ z. rw z here))));
      }

    -- entries with the climb's mark that stand below each other never come to entry 0
    cycle : get_or marks at 0 ≡ e + 1 → (n f : ℕ) → get_or marks f 0 ≡ e + 1 → reaches es n f ≡ false
    cycle h zero f o = reaches-none es 0 f refl ∙ ne_eqb f 0 (M.up f o).0
    cycle h (suc n) f o =
        let s = M.up f o in
        reaches_up es (suc n) f s.0 (λ z. omega arith) ∙ rw (sub-one (suc n)) (either s.1 (cycle h n (parent es f)) (λ z. rw z (cycle h n at h)))

    -- a mark on the way decides
    pub marking_met : (n : ℕ) → Rest es e n at → (get_or marks at 0 ≡ 0 → ⊥) → not (eqb (get_or marks at 0) (e + 1)) ≡ reaches es max_entries e
    marking_met n r d = split (eqb (get_or marks at 0) (e + 1))
        (λ q. rw q (sym (r.0 ∙ cycle (eqb-true (get_or marks at 0) (e + 1) q) n at (eqb-true (get_or marks at 0) (e + 1) q))))
        (λ q. rw q (sym (r.1 ∙ M.older at d (eqb-false (get_or marks at 0) (e + 1) q))))

    pub marking_done : {r : Bool} → r ≡ reaches es max_entries e → r ≡ true → Known es marks (e + 1)
    marking_done q h = (
      M.long,
      (
        M.bound,
        λ f d. split (eqb (get_or marks f 0) (e + 1))
            (λ p. sym (M.same f (eqb-true (get_or marks f 0) (e + 1) p)) ∙ sym q ∙ h)
            (λ p. M.older f d (eqb-false (get_or marks f 0) (e + 1) p)),
      ),
    )

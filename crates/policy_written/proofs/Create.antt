-- The create that a written file asks for passes where a ruleset is free. Assumes nothing.
use mathlib.Core.Path.{◌≡◌, refl, sym, ap, ◌∙◌}
use mathlib.Core.Bool.{true, false}
use mathlib.Core.List.{List, [], ◌∷◌, ◌++◌}
use Prim.Native.Nat.{ℕ, zero, suc, ◌+◌, ◌-◌, ◌≤◌, ◌<◌}
use native.Mathlib.Omega.{arith}
use lib.Bits.{bit_and}
use lib.Dec.{eqb, leb, ltb}
use lib.ListN.{length, get_or, get_or-append}
use lib.Seq.{get_or-append-add}
use borrow.Author.Tests.{eqb-true, ne_eqb, lt-ltb, lt-leb, leb-true, leb-false}
use Rattle.laws.specs.Refusals.{first}
use Rattle.laws.proofs.Bools.{split}
use Rattle.laws.proofs.Tests.{none_of, all_of-at}
use Rattle.laws.proofs.Cells.{past}
use Rattle.access.specs.Limits.{max_rulesets}
use Rattle.access.specs.Rights.{within, known_net, known_scope}
use Rattle.tables.specs.Tables.{Tables, level}
use Rattle.tables.specs.Layers.{Layer, handles_any}
use Rattle.sound_rules.specs.Rules.{masks_known}
use Rattle.ruleset.specs.Attribute.{known_size, stray_byte, stray}
use Rattle.ruleset.specs.Create.{create_checks, create_form, create_masks, free_ruleset}
use Rattle.policy.specs.Fields.{bytes_of}
use Rattle.policy_write.specs.Written.{masks_bytes}
use Rattle.policy_write.proofs.Bytes.{length-bytes, MasksFit, length-masks, fs_back, net_back, scope_back}

-- the bytes of 0
zero-bytes : (n i : ℕ) → get_or (bytes_of n 0) i 0 ≡ 0
unfolding bytes_of
zero-bytes zero i = refl
zero-bytes (suc n) zero = refl
zero-bytes (suc n) (suc i) = zero-bytes n i

past-front : (a b : List ℕ) (i : ℕ) → length a ≤ i → get_or (a ++ b) i 0 ≡ get_or b (i - length a) 0
past-front a b i h = let q : length a + (i - length a) ≡ i = omega arith in ap (λ (k : ℕ). get_or (a ++ b) k 0) (sym q) ∙ get_or-append-add a b (i - length a) 0

module _ (L : Layer) where
  -- masks of 0 leave bytes of 0
  scope-zero : L.scope ≡ 0 → (i : ℕ) → 16 ≤ i → get_or (masks_bytes L) i 0 ≡ 0
  unfolding masks_bytes
  scope-zero z i h =
      let a = length-bytes 8 L.fs in
      let b = length-bytes 8 L.net in
      past-front (bytes_of 8 L.fs) _ i (omega arith) ∙ past-front (bytes_of 8 L.net) _ (i - length (bytes_of 8 L.fs)) (omega arith)
      ∙ ap (λ (k : ℕ). get_or (bytes_of 8 k) (i - length (bytes_of 8 L.fs) - length (bytes_of 8 L.net)) 0) z ∙ zero-bytes 8 _

  net-zero : L.net ≡ 0 → L.scope ≡ 0 → (i : ℕ) → 8 ≤ i → get_or (masks_bytes L) i 0 ≡ 0
  unfolding masks_bytes
  net-zero y z i h =
      let a = length-bytes 8 L.fs in
      split (leb 16 i)
      (λ q. scope-zero z i (leb-true 16 i q))
      (λ q.
      let l = leb-false 16 i q in
      past-front (bytes_of 8 L.fs) _ i (omega arith)
      ∙ get_or-append (bytes_of 8 L.net) (bytes_of 8 L.scope) 0 (i - length (bytes_of 8 L.fs)) (let b = length-bytes 8 L.net in omega arith)
      ∙ ap (λ (k : ℕ). get_or (bytes_of 8 k) (i - length (bytes_of 8 L.fs)) 0) y ∙ zero-bytes 8 _)

  no_stray : (known : ℕ) → ((i : ℕ) → known ≤ i → get_or (masks_bytes L) i 0 ≡ 0) → stray (masks_bytes L) known ≡ false
  unfolding stray stray_byte
  no_stray known z =
      none_of (stray_byte (masks_bytes L) known) (length (masks_bytes L))
      (λ i h. split (leb known i) (λ q. rw (q, z i (leb-true known i q))) (λ q. rw q))

  within_none : (a k : ℕ) → k ≡ 0 → within a k ≡ true → a ≡ 0
  within_none a k z e = let q : bit_and 0 a ≡ a = eqb-true (bit_and 0 a) a (rw z at e) in sym q

  net-none : (lv : ℕ) → lv ≤ 3 → masks_known lv L.fs L.net L.scope ≡ true → L.net ≡ 0
  unfolding masks_known known_net
  net-none lv h k = within_none L.net (known_net lv) (rw (lt-leb 4 lv (omega arith))) (all_of-at _ 1 k)

  scope-none : (lv : ℕ) → lv ≤ 5 → masks_known lv L.fs L.net L.scope ≡ true → L.scope ≡ 0
  unfolding masks_known known_scope
  scope-none lv h k = within_none L.scope (known_scope lv) (rw (lt-leb 6 lv (omega arith))) (all_of-at _ 2 k)

  -- masks that a level knows leave no byte past its known size
  pub known-stray : (lv : ℕ) → masks_known lv L.fs L.net L.scope ≡ true → stray (masks_bytes L) (known_size lv) ≡ false
  unfolding known_size
  known-stray lv k =
      split (leb lv 3)
      (λ q. rw q (no_stray 8 (net-zero (net-none lv (leb-true lv 3 q) k) (scope-none lv (let l = leb-true lv 3 q in omega arith) k))))
      (λ q. split (leb lv 5)
      (λ r. rw (q, r) (no_stray 16 (scope-zero (scope-none lv (leb-true lv 5 r) k))))
      (λ r. rw (q, r) (no_stray 24 (λ i h. sym (past (masks_bytes L) i (let l = length-masks L in omega arith))))))

  -- "with a ruleset free": the create of a written file passes
  pub create_passes : MasksFit L → (T : Tables) → (level T.system ≡ 0 → ⊥) → masks_known (level T.system) L.fs L.net L.scope ≡ true → handles_any L.fs L.net L.scope ≡ true
      → free_ruleset T.rulesets < max_rulesets → first (create_checks T (masks_bytes L) 0) ≡ 0
  unfolding create_checks create_form create_masks first
  create_passes fits T h known some free =
      let l = length-masks L in
      let fs = fs_back L fits in
      let net = net_back L fits in
      let scope = scope_back L fits in
      rw (ne_eqb (level T.system) 0 h, l, known-stray (level T.system) known, fs, net, scope, known, some, lt-ltb (free_ruleset T.rulesets) max_rulesets free)

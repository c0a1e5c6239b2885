-- A name is unique in its directory exactly if no entry on the chain of its bucket has it. Assumes nothing.
use mathlib.Core.Path.{◌≡◌, refl, sym, ap, ◌∙◌}
use mathlib.Core.Bool.{true, false, and-false}
use mathlib.Core.List.{List}
use Prim.Native.Nat.{ℕ, ◌+◌, ◌*◌, ◌<◌}
use lib.Dec.{eqb}
use lib.ListN.{length, get_or, set}
use borrow.Author.Tests.{eqb-true, eq-eqb}
use Rattle.laws.specs.Tests.{all_below}
use Rattle.laws.proofs.Bools.{clash, and_l, and_r, both}
use Rattle.access.specs.Limits.{max_entries}
use Rattle.tables.specs.Tables.{parent}
use Rattle.names.specs.Names.{name_width, row_at, is_named, row_sound, unlike}
use Rattle.names.proofs.Bytes.{bytes_equal, bytes_same}
use Rattle.sound_names_rows.proofs.Twins.{twin_unlike, none-unlike, row_own}
use Rattle.sound_names_walk.specs.Fold.{buckets, bucket_of, folded, bucket_at}
use Rattle.sound_names_walk.specs.Walks.{same_name, On, IsWalked}
use Rattle.sound_names_walk.specs.declared.Walked.{Walked}
use Rattle.sound_names_walk.specs.declared.Walked.TheVariants.{Missing, Found}
use Rattle.sound_names_chains.specs.Chains.{ChainedBelow, tested_by, IsAdded}
use Rattle.sound_names_chains.specs.declared.Tested.{Tested}
use Rattle.sound_names_walk.proofs.Walks.{on_some, Clear}
use Rattle.sound_names_chains.proofs.Index.{on-node, index_add}

module _ (es ns : List ℕ) where
  same_of : (e f : ℕ) → parent es e ≡ parent es f → row_at ns e ≡ row_at ns f → same_name es ns (parent es e) (row_at ns e) f ≡ true
  unfolding same_name
  same_of e f p q = both (eqb (parent es f) (parent es e)) _ (eq-eqb (parent es f) (parent es e) (sym p)) (rw q (bytes_same (row_at ns f)))

  same-parent : (e f : ℕ) → same_name es ns (parent es e) (row_at ns e) f ≡ true → parent es e ≡ parent es f
  unfolding same_name
  same-parent e f h = sym (eqb-true (parent es f) (parent es e) (and_l (eqb (parent es f) (parent es e)) _ h))

  same_row_of : (e f : ℕ) → same_name es ns (parent es e) (row_at ns e) f ≡ true → row_at ns e ≡ row_at ns f
  unfolding same_name
  same_row_of e f h = bytes_equal (row_at ns e) (row_at ns f) (and_r (eqb (parent es f) (parent es e)) _ h)

  one_bucket : (e f : ℕ) → parent es e ≡ parent es f → row_at ns e ≡ row_at ns f → bucket_at es ns e ≡ bucket_at es ns f
  unfolding bucket_at
  one_bucket e f p q = rw (p, q) refl

  pub bucket_is : {b w p : ℕ} (e : ℕ) → p ≡ parent es e → w ≡ folded p (row_at ns e) → b ≡ bucket_of w → b ≡ bucket_at es ns e
  unfolding bucket_at
  bucket_is e i j k = k ∙ ap bucket_of j ∙ (rw i refl)

  -- entry e, which has a name; the rows up to it are sound, and the index has those before it
  module _ (w : length ns ≡ name_width * max_entries) {e : ℕ} (small : e < max_entries) (l : is_named es e ≡ true) (rows : all_below (row_sound es ns) (e + 1) ≡ true)
      {heads links : List ℕ} (u : ChainedBelow es ns heads links e) {b : ℕ} (q : b ≡ bucket_at es ns e) (in-heads : b < buckets) where
    none_before : Clear es ns links (parent es e) (row_at ns e) (get_or heads b 0) → unlike es ns e ≡ true
    none_before C = none-unlike es ns w e small l rows (λ f k m p r.
        clash (same_name es ns (parent es e) (row_at ns e) f) (same_of e f p r) (C f (rw (q, one_bucket e f p r) (u.held f k m))))

    some-before : (f : ℕ) → On links (get_or heads b 0) f → same_name es ns (parent es e) (row_at ns e) f ≡ true → unlike es ns e ≡ false
    some-before f r h =
        let s = u.firsts b (on_some r) in
        let t = on-node es ns u s.0 s.1 r in
        twin_unlike es ns w e small l rows f t.0 t.1 (same-parent e f h) (same_row_of e f h)

    added_by : {steps : ℕ} → (steps ≡ 0 → ⊥) → (t : Walked) → IsWalked es ns links (parent es e) (row_at ns e) (get_or heads b 0) t → IsAdded es ns (set heads b e) (set links e (get_or heads b 0)) steps e (tested_by t)
    unfolding IsWalked IsAdded
    added_by some (Missing n) C = (row_own es ns w e small l rows, λ z. ((some, none_before (C z)), index_add es ns u small l q in-heads))
    added_by some (Found f) s = rw (some-before f s.0 s.1) (and-false (row_sound es ns e))

    -- as the code comes to it
    pub added_is : {steps p : ℕ} {r : Tested} (t : Walked) → (steps ≡ 0 → ⊥) → p ≡ parent es e → IsWalked es ns links p (row_at ns e) (get_or heads b 0) t → r ≡ tested_by t → IsAdded es ns (set heads b e) (set links e (get_or heads b 0)) steps e r
    added_is t some i h j = rw j (added_by some t (rw i at h))

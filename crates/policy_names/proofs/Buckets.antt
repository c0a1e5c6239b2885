-- Names of rulesets in buckets: how the walk over a file keeps them. Assumes nothing.
use mathlib.Core.Path.{◌≡◌, refl, sym, ap, ◌∙◌}
use mathlib.Core.Bool.{true, false}
use mathlib.Core.List.{List}
use Prim.Native.Nat.{ℕ, suc, ◌+◌, ◌*◌, ◌%◌, ◌≤◌, ◌<◌}
use native.Mathlib.Omega.{arith}
use native.Mathlib.Numerals.{add-one}
use lib.Dec.{eqb}
use lib.ListN.{length, get_or, drop, set, length-set}
use lib.Seq.{drop-cons, drop-length, get_or-set_same, get_or-set_other}
use borrow.Author.Tests.{eq-eqb}
use Rattle.laws.specs.Cells.{part}
use Rattle.laws.proofs.Bools.{split}
use Rattle.names.specs.Names.{same_bytes}
use Rattle.names.proofs.Bytes.{bytes_equal, bytes_same}
use Rattle.policy.specs.Fields.{ruleset_tag, header, pieces}
use Rattle.policy.specs.Front.{WholeAt}
use Rattle.policy.specs.Files.{opens, first_place, place_of}
use Rattle.policy.proofs.Walks.{opens-same, opens-other, first-start, first-here, first_past}
use Rattle.policy_names.specs.Buckets.{buckets, bucket_from, bucket_of, Indexed}

-- ---- the bucket of a name
module _ (name : List ℕ) (h i : ℕ) where
  pub bucket_more : i < length name → bucket_from ((h * 256 + get_or name i 0) % buckets) (drop (i + 1) name) ≡ bucket_from h (drop i name)
  unfolding bucket_from
  bucket_more l = rw (add-one, drop-cons name i 0 l)

  pub bucket_done : length name ≤ i → i ≤ length name → bucket_from h (drop i name) ≡ h
  unfolding bucket_from
  bucket_done a b = let e : i ≡ length name = omega arith in rw (e, drop-length)

-- ---- the buckets along a file
module _ (f : List ℕ) where
  -- at its start they may have anything in them
  pub indexed-start : (seen : List ℕ) → length seen ≡ buckets → Indexed f seen 0
  indexed-start seen w = record { size = w; later = λ name z. first-start (opens name) f }

  module _ (seen : List ℕ) (at n : ℕ) (u : Indexed f seen at) where
    -- a field that opens no ruleset
    pub indexed-past : (t : ℕ) → WholeAt f at (length f) t n → (t ≡ ruleset_tag → ⊥) → Indexed f seen n
    indexed-past t w d = record {
      size = u.size;
      later = λ name z. u.later name z ∙ first_past (opens name) f at (length f) (omega arith) (omega arith) t n w (opens-other f at (length f) (omega arith) t n w name d);
    }

    module _ (w : WholeAt f at (length f) ruleset_tag n) where
      abbrev own : List ℕ
      own = part f (at + header) n

      -- its own bucket was empty
      pub first-named : get_or seen (bucket_of own) 0 ≡ 0 → true ≡ eqb (place_of f own) at
      first-named z =
          let o : opens own _ ≡ true = opens-same f at (length f) (omega arith) ruleset_tag n w own refl ∙ bytes_same own in
          sym (eq-eqb (place_of f own) at (u.later own z ∙ first-here (opens own) f at (length f) (omega arith) (omega arith) o))

      -- its name goes into its bucket
      pub indexed_more : {b : ℕ} → b ≡ bucket_of own → b < buckets → Indexed f (set seen b 1) n
      indexed_more {b} e l = record {
        size = length-set seen b 1 ∙ u.size;
        later = λ name z.
            let s = u.size in
            let apart : bucket_of name ≡ b → ⊥ = λ q. let k : get_or (set seen b 1) b 0 ≡ 0 = rw q at z in let j = get_or-set_same seen b 1 0 (omega arith) in omega arith in
            let old : get_or seen (bucket_of name) 0 ≡ 0 = sym (get_or-set_other seen b (bucket_of name) 1 0 apart) ∙ z in
            let unlike : same_bytes name own ≡ false = split (same_bytes name own) (λ q. absurd (apart (ap (bucket_from 0) (bytes_equal name own q) ∙ sym e))) (λ q. q) in
            u.later name old ∙ first_past (opens name) f at (length f) (omega arith) (omega arith) ruleset_tag n w (opens-same f at (length f) (omega arith) ruleset_tag n w name refl ∙ unlike);
      }

-- A flag for each fold of a key: a clear one tells that the key is new. For any fold. Assumes nothing.
use mathlib.Core.Path.{◌≡◌, refl, sym, ap, ◌∙◌}
use mathlib.Core.Bool.{true, false}
use mathlib.Core.List.{List}
use Prim.Native.Nat.{ℕ, ◌+◌, ◌*◌, ◌<◌}
use native.Mathlib.Nat.{mod-lt}
use native.Mathlib.Omega.{arith}
use lib.Dec.{eqb}
use lib.ListN.{length}
use borrow.Author.Tests.{eqb-true, eqb-false, eq-eqb}
use Rattle.laws.proofs.Bools.{or_left, or_right, split, clash}
use Rattle.tables.specs.Tables.{rule_type, rule_key}
use Rattle.bitmap.specs.Bitmap.{flag, with_flag}
use Rattle.bitmap.proofs.Flags.{flag-set}
use Rattle.sound_rules.specs.Flags.{flag_of, key_is, Marked}
use Rattle.sound_rules.specs.Rules.{same_key, new_key}
use Rattle.sound_rules.proofs.Facts.{new-key}

-- the type and the key of rule i, read once
pub key-is : (rules : List ℕ) (i j ty key : ℕ) → ty ≡ rule_type rules i → key ≡ rule_key rules i → key_is rules j ty key ≡ same_key rules i j
unfolding same_key
key-is rules i j ty key t k = rw (t, k)

-- a flag is one of 1,024
flag-below : (key : ℕ) → flag_of key < 1024
unfolding flag_of
flag-below key = mod-lt key (omega arith)

pub flag_in : (key b : ℕ) → b ≡ flag_of key → b < 1024
flag_in key b e = let h = flag-below key in omega arith

module _ (rules : List ℕ) (i b : ℕ) (own : b ≡ flag_of (rule_key rules i)) (seen : List ℕ) (m : Marked rules seen i) where
  -- where the flag of rule i is clear, its key is new
  pub clear_new : flag seen b ≡ false → new_key rules i ≡ true
  clear_new z = new-key rules i (λ j l t k. clash (flag seen b) (ap (flag seen) (own ∙ ap flag_of k) ∙ m j l) z)

  -- where it is set, it marks rule i too
  pub marked-same : flag seen b ≡ true → Marked rules seen (i + 1)
  marked-same h j l =
      split (eqb j i)
      (λ q. ap (λ (k : ℕ). flag seen (flag_of (rule_key rules k))) (eqb-true j i q) ∙ ap (flag seen) (sym own) ∙ h)
      (λ q. let d = eqb-false j i q in m j (omega arith))

-- and once it is set
pub marked_more : (rules : List ℕ) (i b : ℕ) → b ≡ flag_of (rule_key rules i) → (seen : List ℕ) → Marked rules seen i → b < 64 * length seen → Marked rules (with_flag seen b) (i + 1)
marked_more rules i b own seen m w =
    marked-same rules i b own (with_flag seen b)
    (λ j l. flag-set seen b w (flag_of (rule_key rules j)) ∙ or_left _ _ (m j l))
    (flag-set seen b w b ∙ or_right (flag seen b) _ (eq-eqb b b refl))

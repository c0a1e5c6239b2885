-- The laws of flags in words of 64, for any place. Assumes nothing.
use mathlib.Core.Path.{◌≡◌, refl, sym, ap, ◌∙◌}
use mathlib.Core.Bool.{Bool, true, false, cond, not, ◌&&◌, ◌||◌, true≢false, false≢true, and-true, and-false, and_assoc, or-false, or_assoc}
use mathlib.Core.List.{List}
use Prim.Native.Nat.{ℕ, zero, suc, ◌+◌, ◌-◌, ◌*◌, ◌/◌, ◌%◌, ◌^◌, ◌≤◌, ◌<◌}
use native.Mathlib.Nat.{add-zero, add-suc, add_assoc, one-mul}
use native.Mathlib.Omega.{arith}
use lib.Dec.{eqb}
use lib.ListN.{length, get_or, replicate}
use lib.Seq.{get_or-set_same, get_or-set_other}
use borrow.Author.Tests.{eqb-true, eq-eqb, eqb-false, not-true}
use Rattle.laws.specs.Tests.{all_below}
use Rattle.laws.proofs.Bools.{and_l, and_r, both, not_of_false, split, clash, agree}
use Rattle.laws.proofs.Tests.{all-at, all_of_lem}
use Rattle.laws.proofs.Cells.{get_or-zeros}
use Rattle.access.specs.Rights.{has, join, meet, only}
use Rattle.access.proofs.Laws.{has_join, has_meet, has-none, ext_has}
use Rattle.bitmap.specs.Bitmap.{flag, with_bits, with_flag, ones, in_range, run_clear, RunTaken}
use Rattle.bitmap.proofs.Masks.{range_at, range_of, range_join, range_one, range_none, has-ones}

-- ---- one word
-- p is bit p % 64 of word p / 64
same_place : (first w s n p : ℕ) → first ≡ 64 * w + s → s + n ≤ 64 → (eqb (p / 64) w && in_range s n (p % 64)) ≡ in_range first n p
same_place first w s n p at fits =
    agree (eqb (p / 64) w && in_range s n (p % 64)) (in_range first n p)
    (λ q.
    let e = eqb-true (p / 64) w (and_l _ _ q) in
    let f = range_at s n (p % 64) (and_r (eqb (p / 64) w) _ q) in
    range_of first n p (omega arith) (omega arith))
    (λ q.
    let f = range_at first n p q in
    both (eqb (p / 64) w) _ (eq-eqb (p / 64) w (omega arith)) (range_of s n (p % 64) (omega arith) (omega arith)))

-- the flags once bits of a word are set
flag_with : (ws : List ℕ) (w m : ℕ) → w < length ws → (p : ℕ) → flag (with_bits ws w m) p ≡ (flag ws p || (eqb (p / 64) w && has m (p % 64)))
unfolding flag
flag_with ws w m there p =
    let v : ℕ = join (get_or ws w 0) m in
    split (eqb (p / 64) w)
    (λ q. rw (q, eqb-true (p / 64) w q, get_or-set_same ws w v 0 there) (has_join (get_or ws w 0) m (p % 64)))
    (λ q. rw (q, get_or-set_other ws w (p / 64) v 0 (eqb-false (p / 64) w q)) (sym (or-false (flag ws p))))

-- a run that lies in word w, and its mask
module _ (ws : List ℕ) (first w s n m : ℕ) (at : first ≡ 64 * w + s) (fits : s + n ≤ 64) (mask : m ≡ ones s n) where
  abbrev word : ℕ
  word = get_or ws w 0

  -- bit i of the mask
  bit : (i : ℕ) → has m i ≡ in_range s n i
  bit i = ap (λ (k : ℕ). has k i) mask ∙ has-ones s n i

  -- the flags once the mask is set
  pub flag_run : w < length ws → (p : ℕ) → flag (with_bits ws w m) p ≡ (flag ws p || in_range first n p)
  flag_run there p = flag_with ws w m there p ∙ rw (bit (p % 64), same_place first w s n p at fits)

  -- place first + k is bit s + k of the word
  place : (k : ℕ) → k < n → flag ws (first + k) ≡ has word (s + k)
  unfolding flag
  place k h =
      let q : (first + k) / 64 ≡ w = omega arith in
      let r : (first + k) % 64 ≡ s + k = omega arith in
      rw (q, r)

  -- the mask meets no bit of the word exactly if the run is clear
  pub run_clear_lem : eqb (meet word m) 0 ≡ run_clear ws first n
  run_clear_lem =
      agree (eqb (meet word m) 0) (run_clear ws first n)
      (λ q. all_of_lem (λ k. not (flag ws (first + k))) n (λ k h.
      let none = ap (λ (x : ℕ). has x (s + k)) (eqb-true (meet word m) 0 q) ∙ has-none (s + k) in
      let own = bit (s + k) ∙ range_of s n (s + k) (omega arith) (omega arith) in
      not_of_false _ (place k h ∙ apart (has word (s + k)) _ own (sym (has_meet word m (s + k)) ∙ none))))
      (λ q. eq-eqb (meet word m) 0 (ext_has (meet word m) 0 (λ i.
      has_meet word m i
      ∙ missing (has word i) (has m i) (λ own.
      let f = range_at s n i (sym (bit i) ∙ own) in
      let e : s + (i - s) ≡ i = omega arith in
      rw e at (sym (place (i - s) (omega arith)) ∙ not-true _ (all-at (λ k. not (flag ws (first + k))) n (i - s) q (omega arith))))
      ∙ sym (has-none i))))
    where
      apart : (a b : Bool) → b ≡ true → (a && b) ≡ false → a ≡ false
      apart true b p e = clash b p e
      apart false b p e = refl

      missing : (a b : Bool) → (b ≡ true → a ≡ false) → (a && b) ≡ false
      missing true true f = f refl
      missing true false f = refl
      missing false b f = refl

  -- the mask set if its bits were clear
  pub word_taken : (r : Bool) (after : List ℕ) → w < length ws → r ≡ eqb (meet word m) 0 → after ≡ cond r (with_bits ws w m) ws → RunTaken ws after first n r
  word_taken r after there a l = record {
    answer = a ∙ run_clear_lem;
    taken = λ q p. ap (λ (xs : List ℕ). flag xs p) (l ∙ rw q) ∙ flag_run there p;
    refused = λ q. l ∙ rw q;
  }

-- ---- runs
-- two runs, one after the other
clear_join : (ws : List ℕ) (first m n : ℕ) → (run_clear ws first m && run_clear ws (first + m) n) ≡ run_clear ws first (m + n)
unfolding all_below
clear_join ws first m zero = rw (add-zero m) (and-true (run_clear ws first m))
clear_join ws first m (suc n) =
    rw (add-suc m n, ← clear_join ws first m n, add_assoc first m n) (sym (and_assoc (run_clear ws first m) (run_clear ws (first + m) n) (not (flag ws (first + (m + n))))))

module _ (ws : List ℕ) (first : ℕ) where
  -- an empty run
  pub none-taken : RunTaken ws ws first 0 true
  unfolding all_below
  none-taken = record {
    answer = refl;
    taken = λ e p. rw (← range_none first p) (sym (or-false (flag ws p)));
    refused = λ e. refl;
  }

  -- the first m places of a run in one word, the other n in the next
  module _ (m n count : ℕ) (whole : m + n ≡ count) where
    -- it is clear if both parts are
    parts : (run_clear ws first m && run_clear ws (first + m) n) ≡ run_clear ws first count
    parts = clear_join ws first m n ∙ ap (run_clear ws first) whole

    -- a flag was set, and nothing changed
    refuse : (after : List ℕ) → after ≡ ws → run_clear ws first count ≡ false → RunTaken ws after first count false
    refuse after l h = record {
      answer = sym h;
      taken = λ e. absurd (false≢true e);
      refused = λ e. l;
    }

    -- a flag of the other n was set
    pub high_refused : run_clear ws (first + m) n ≡ false → RunTaken ws ws first count false
    high_refused h = refuse ws refl (sym parts ∙ rw h (and-false (run_clear ws first m)))

    -- a flag of the first m was set
    pub low_refused : (after : List ℕ) (r : Bool) → r ≡ false → RunTaken ws after first m r → RunTaken ws after first count false
    low_refused after r q A = refuse after (A.refused q) (sym parts ∙ rw (sym A.answer ∙ q))

    -- the first m are taken, then the other n
    pub both_taken : (mid after : List ℕ) (r : Bool) → r ≡ true → RunTaken ws mid first m r → run_clear ws (first + m) n ≡ true
        → ((p : ℕ) → flag after p ≡ (flag mid p || in_range (first + m) n p)) → RunTaken ws after first count true
    both_taken mid after r q A h f = record {
      answer = sym (both (run_clear ws first m) _ (sym A.answer ∙ q) h) ∙ parts;
      taken = λ e p. f p ∙ rw (A.taken q p, or_assoc (flag ws p) (in_range first m p) (in_range (first + m) n p), range_join first m n p, whole);
      refused = λ e. absurd (true≢false e);
    }

-- ---- one flag
-- the flags once flag i is set
pub flag-set : (ws : List ℕ) (i : ℕ) → i < 64 * length ws → (j : ℕ) → flag (with_flag ws i) j ≡ (flag ws j || eqb j i)
flag-set ws i h j =
    flag_run ws i (i / 64) (i % 64) 1 (only (i % 64)) (omega arith) (omega arith) (sym (one-mul (2 ^ (i % 64)))) (omega arith) j
    ∙ ap (λ (b : Bool). flag ws j || b) (sym (range_one i j))

-- words of zeros
pub flag-none : (n p : ℕ) → flag (replicate n 0) p ≡ false
unfolding flag
flag-none n p = rw (get_or-zeros n (p / 64)) (has-none (p % 64))

-- `all`, `any`, `sum` and `count` over a range of numbers are the tests and the sums over the numbers below its end. Assumes nothing.
use mathlib.Core.Path.{◌≡◌, ap, ◌∙◌}
use mathlib.Core.Bool.{Bool, true, false}
use Prim.Native.Nat.{ℕ, zero, suc, ◌+◌}
use native.Mathlib.Omega.{arith}
use lib.ListN.{length}
use denote.Param.Members.{Mut}
use Rattle.std.specs.declared.ops.Range.{Range}
use Rattle.std.specs.Fn.{Called}
use Rattle.std.specs.Iterator.{YieldsThen}
use Rattle.std.specs.Option.{MatchOption}
use Rattle.std.specs.Prelude.{List, Option}
use Rattle.std.proofs.iter.Yields.{nat_range_steps}
use Rattle.std.proofs.lemmas.Iterator.{YieldsList-from_range}
use Rattle.std.proofs.lemmas.Iterator.Search.{all_from_yields_List, any_from_yields_List}
use Rattle.std.specs.List.{FoldsTo, range_with_len, list_all, list_any, sum_by, filter}
use Rattle.std.proofs.lemmas.List.Sums.{sum_by-cons, length-filter}
use Rattle.laws.specs.Tests.{all_below, any_below}
use Rattle.laws.specs.Sums.{sum_below, bit, tally}
use Rattle.laws.proofs.Bools.{split}
use Rattle.laws.proofs.Tests.{all_none, all_more, all_fails, all_done, any-start, any_more, any_found, any-done}
use Rattle.laws.proofs.Sums.{sum_start, sum_more}

module _ (p : ℕ → Bool) where
  -- the numbers below a passed, and the k from a on are left
  all_left : (k a : ℕ) → all_below p a ≡ true → list_all p (range_with_len a k) ≡ all_below p (a + k)
  all_left zero a h = all_done p (a + 0) a (omega arith) (omega arith) h
  all_left (suc k) a h =
      split (p a)
      (λ q. rw q (all_left k (a + 1) (all_more p a h q) ∙ ap (all_below p) (let e : a + 1 + k ≡ a + suc k = omega arith in e)))
      (λ q. rw q (all_fails p (a + suc k) a (omega arith) q))

  any_left : (k a : ℕ) → any_below p a ≡ false → list_any p (range_with_len a k) ≡ any_below p (a + k)
  any_left zero a h = any-done p (a + 0) a (omega arith) (omega arith) h
  any_left (suc k) a h =
      split (p a)
      (λ q. rw q (any_found p (a + suc k) a (omega arith) q))
      (λ q. rw q (any_left k (a + 1) (any_more p a h q) ∙ ap (any_below p) (let e : a + 1 + k ≡ a + suc k = omega arith in e)))

  -- each number below n, and some number below n
  pub all_range : (n : ℕ) → list_all p (range_with_len 0 n) ≡ all_below p n
  all_range n = all_left n 0 (all_none p) ∙ ap (all_below p) (let e : 0 + n ≡ n = omega arith in e)

  pub any_range : (n : ℕ) → list_any p (range_with_len 0 n) ≡ any_below p n
  any_range n = any_left n 0 (any-start p) ∙ ap (any_below p) (let e : 0 + n ≡ n = omega arith in e)

module _ (f : ℕ → ℕ) where
  -- the numbers below a add up to t, and the k from a on are left
  sum_left : (k a t : ℕ) → t ≡ sum_below f a → t + sum_by f (range_with_len a k) ≡ sum_below f (a + k)
  sum_left zero a t h = let e = ap (sum_below f) (let n : a ≡ a + 0 = omega arith in n) in omega arith
  sum_left (suc k) a t h =
      let e = ap (sum_below f) (let n : a + 1 + k ≡ a + suc k = omega arith in n) in
      let r = sum_left k (a + 1) (t + f a) (sum_more f a t h) in
      let u = sum_by-cons f a (range_with_len (a + 1) k) in
      omega arith

  pub sum_range : (n : ℕ) → sum_by f (range_with_len 0 n) ≡ sum_below f n
  sum_range n = let r = sum_left n 0 0 (sum_start f) in let e = ap (sum_below f) (let m : 0 + n ≡ n = omega arith in m) in omega arith

-- how many of them pass
pub tally_range : (p : ℕ → Bool) (n : ℕ) → length (filter p (range_with_len 0 n)) ≡ tally p n
unfolding bit
tally_range p n = length-filter p (range_with_len 0 n) ∙ sum_range (λ i. bit (p i)) n

-- ---- what a call of `all` or of `any` over 0..n answers, by its clause `ran`, where the closure tells p and changes nothing
module _ {F : Type 0} {g : Mut F (ℕ × Unit {0}) Bool} {s u : Range ℕ} {f : F} {r : Bool} (p : ℕ → Bool) (n : ℕ) (over : s ≡ record { start = 0; end = n }) where
  pub all_told : ((xs : List ℕ) × (o : Option ℕ) × (j : F) × YieldsThen nat_range_steps s xs o u × FoldsTo (λ a x b. Called g a (x, tt) true b) f xs j × MatchOption o (r ≡ true) (λ x. (r ≡ false) × ((h : F) × Called g j (x, tt) false h)))
      → ((x : ℕ) (b : Bool) (q : F) → Called g f (x, tt) b q → (q ≡ f) × (b ≡ p x))
      → r ≡ all_below p n
  all_told ran k = all_from_yields_List p u f r ran (YieldsList-from_range 0 n n over (omega arith)) k ∙ all_range p n

  pub any_told : ((xs : List ℕ) × (o : Option ℕ) × (j : F) × YieldsThen nat_range_steps s xs o u × FoldsTo (λ a x b. Called g a (x, tt) false b) f xs j × MatchOption o (r ≡ false) (λ x. (r ≡ true) × ((h : F) × Called g j (x, tt) true h)))
      → ((x : ℕ) (b : Bool) (q : F) → Called g f (x, tt) b q → (q ≡ f) × (b ≡ p x))
      → r ≡ any_below p n
  any_told ran k = any_from_yields_List p u f r ran (YieldsList-from_range 0 n n over (omega arith)) k ∙ any_range p n

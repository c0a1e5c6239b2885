use mathlib.Core.Path.{◌≡◌, sym, ◌∙◌}
use mathlib.Core.Bool.{Bool, true, cond}
use mathlib.Core.List.{List}
use Prim.Native.Nat.{ℕ, ◌≤◌, ◌<◌, ◌*◌, ◌+◌, ◌-◌, ◌/◌, ◌%◌}
use native.Mathlib.Omega.{arith}
use borrow.Author.Tests.{eq-eqb, ne_eqb}
use lib.Dec.{eqb}
use lib.ListN.{length, get_or}
use lib.Seq.{get_or-set_other}
use Rattle.access.specs.Rights.{meet}
use Rattle.bitmap.specs.Bitmap.{with_bits, RunTaken, run_clear, ones}
use Rattle.bitmap.proofs.Flags.{flag_run, run_clear_lem, word_taken, none-taken, high_refused, low_refused, both_taken}
use Rattle.bitmap.proofs.take_run.Goals as goal

module _ (ws : List ℕ) (first count : ℕ) (small : count ≤ 64) (room : 64 - first % 64 < count) (there : first + count ≤ 64 * length ws) where
  high_clear : (m : ℕ) → m ≡ ones 0 (count - (64 - first % 64))
      → eqb (meet (get_or ws (first / 64 + 1) 0) m) 0 ≡ run_clear ws (first + (64 - first % 64)) (count - (64 - first % 64))
  high_clear m e = run_clear_lem ws (first + (64 - first % 64)) (first / 64 + 1) 0 (count - (64 - first % 64)) m (omega arith) (omega arith) e

  -- the places of the first word, taken or refused
  low_taken : (m : ℕ) (r : Bool) (new : List ℕ) → m ≡ ones (first % 64) (64 - first % 64) → r ≡ eqb (meet (get_or ws (first / 64) 0) m) 0
      → new ≡ cond r (with_bits ws (first / 64) m) ws → RunTaken ws new first (64 - first % 64) r
  low_taken m r new e f g = word_taken ws first (first / 64) (first % 64) (64 - first % 64) m (omega arith) (omega arith) e r new (omega arith) f g

  -- the second word is what it was
  next-kept : (m : ℕ) (r : Bool) (new : List ℕ) → new ≡ cond r (with_bits ws (first / 64) m) ws → r ≡ true
      → get_or ws (first / 64 + 1) 0 ≡ get_or new (first / 64 + 1) 0
  next-kept m r new g h =
      let e : new ≡ with_bits ws (first / 64) m = g ∙ rw h in
      rw e (sym (get_or-set_other ws (first / 64) (first / 64 + 1) _ 0 (λ q. omega arith)))

pub returns-then-count-eq0 : goal.returns-then-count-eq0
returns-then-count-eq0 c =
    rw c.if-count-eq0.true (none-taken _ _)

pub returns-then-count-room : goal.returns-then-count-room
returns-then-count-room c =
    let a = c.args in
    word_taken a.words.now a.first (a.first / 64) (a.first % 64) a.count c.mask.result (omega arith) (omega arith) c.mask.ensures
    c.take_bits.result c.take_bits.new.words (omega arith) c.take_bits.ensures.0 c.take_bits.ensures.1

pub returns-then-next-high-ne0 : goal.returns-then-next-high-ne0
returns-then-next-high-ne0 c =
    let a = c.args in
    let room = 64 - a.first % 64 in
    let whole : room + (a.count - room) ≡ a.count = omega arith in
    high_refused a.words.now a.first room (a.count - room) a.count whole (sym (high_clear a.words.now a.first a.count (omega arith) (omega arith) (omega arith) c.mask-high.result c.mask-high.ensures) ∙ ne_eqb _ 0 c.if-next-high-ne0.true)

pub returns-then-not-take_bits : goal.returns-then-not-take_bits
returns-then-not-take_bits c =
    let a = c.args in
    let room = 64 - a.first % 64 in
    let whole : room + (a.count - room) ≡ a.count = omega arith in
    low_refused a.words.now a.first room (a.count - room) a.count whole c.take_bits-2.new.words c.take_bits-2.result (c.if-not-take_bits.true) (low_taken a.words.now a.first a.count (omega arith) (omega arith) (omega arith) c.mask-2.result c.take_bits-2.result c.take_bits-2.new.words c.mask-2.ensures c.take_bits-2.ensures.0 c.take_bits-2.ensures.1)

pub returns : goal.returns
returns c =
    let a = c.args in
    let room = 64 - a.first % 64 in
    let whole : room + (a.count - room) ≡ a.count = omega arith in
    let r = c.if-not-take_bits.false in
    let same = c.take_bits-2.auto.words in
    both_taken a.words.now a.first room (a.count - room) a.count whole c.take_bits-2.new.words _ c.take_bits-2.result r (low_taken a.words.now a.first a.count (omega arith) (omega arith) (omega arith) c.mask-2.result c.take_bits-2.result c.take_bits-2.new.words c.mask-2.ensures c.take_bits-2.ensures.0 c.take_bits-2.ensures.1) (sym (high_clear a.words.now a.first a.count (omega arith) (omega arith) (omega arith) c.mask-high.result c.mask-high.ensures) ∙ eq-eqb _ 0 c.if-next-high-ne0.false)
    (λ p. rw (next-kept a.words.now a.first a.count (omega arith) (omega arith) (omega arith) c.mask-2.result c.take_bits-2.result c.take_bits-2.new.words c.take_bits-2.ensures.1 r) (flag_run c.take_bits-2.new.words (a.first + room) (a.first / 64 + 1) 0 (a.count - room) c.mask-high.result (omega arith) (omega arith) c.mask-high.ensures (omega arith) p))

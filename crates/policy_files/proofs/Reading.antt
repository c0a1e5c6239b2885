-- One field of a file is read, and reading goes on after it. Assumes nothing.
use mathlib.Core.Path.{◌≡◌, refl, sym, ap, ◌∙◌}
use mathlib.Core.Bool.{Bool, true, false, not}
use mathlib.Core.List.{List, [], ◌∷◌}
use Prim.Native.Nat.{ℕ, ◌+◌, ◌-◌, ◌≤◌, ◌<◌}
use native.Mathlib.Omega.{arith}
use lib.Dec.{eqb}
use lib.ListN.{length, get_or}
use borrow.Author.Tests.{eqb-true, eq-eqb, ne_eqb, le-leb, lt-leb, not-true, not-false}
use Rattle.laws.specs.Cells.{part}
use Rattle.laws.proofs.Bools.{split, and_l}
use Rattle.laws.proofs.Cells.{part_length}
use Rattle.policy.specs.Fields.{ruleset_tag, masks_tag, header, Piece, field, stray, size, tag_of, pieces, front}
use Rattle.policy.specs.Front.{WholeAt}
use Rattle.policy.specs.Grammar.{max_depth, and_then, tested, rule}
use Rattle.policy.specs.Files.{max_ruleset_name, masks_size, place_of, is_name, is_masks, allowed, read_from, read_file}
use Rattle.policy.specs.declared.Read.{Read}
use Rattle.policy.specs.declared.Read.TheVariants.{Next, Fault}
use Rattle.policy.proofs.Parts.{part-all, part_none}
use Rattle.policy.proofs.Pieces.{pieces_nil, part_step, part-front}
use Rattle.policy.proofs.Grammar.{rule-stray, fault_next, tested-ends, rule-ends}
use Rattle.policy.proofs.Walks.{front-whole, whole-ends, tag_at}
use Rattle.policy_names.specs.Buckets.{Indexed}
use Rattle.policy_names.proofs.Buckets.{indexed-past}
use Rattle.policy_files.specs.Next.{allowed_at, is_masks_of, IndexedAfter}

-- ---- where a field ends
allowed-ends : (f : List ℕ) (before at : ℕ) (p : Piece) (n : ℕ) → allowed f before at p ≡ Next n → n ≡ at + size p
unfolding allowed
allowed-ends f before at p n e =
    split (eqb before ruleset_tag)
    (λ b. tested-ends (is_masks p) at p n (rw b at e))
    (λ b. split (eqb (tag_of p) ruleset_tag)
    (λ t. tested-ends (is_name f at p) at p n (rw (b, t) at e))
    (λ t. split (eqb before 0)
    (λ z. fault_next at n (rw (b, t, z) at e))
    (λ z. rule-ends max_depth at p n (rw (b, t, z) at e))))

-- ---- a turn of the reader
pub read-start : (f : List ℕ) → read_file f ≡ read_from f 0 0 (pieces (part f 0 (length f)))
unfolding read_file
read-start f = rw (part-all f)

module _ (f : List ℕ) (before at : ℕ) (h : at < length f) where
  abbrev there : Piece
  there = front (pieces (part f at (length f)))

  read_step : read_from f before at (pieces (part f at (length f))) ≡ and_then (allowed f before at there) (read_from f (tag_of there) (at + size there) (pieces (part f (at + size there) (length f))))
  read_step = ap (read_from f before at) (part_step f at (length f) (omega arith) h) ∙ unfold read_from in refl

  pub read-on : (n : ℕ) → allowed_at f before at ≡ Next n →
      (at < n) × (n ≤ length f) × (read_from f before at (pieces (part f at (length f))) ≡ read_from f (get_or f at 0) n (pieces (part f n (length f))))
  read-on n e =
      let q : n ≡ at + size there = allowed-ends f before at there n e in
      let s = part-front f at (length f) (omega arith) h in
      (omega arith, omega arith, read_step ∙ rw (e, ← q, tag_at f at (length f) (omega arith) h) (unfold and_then in refl))

  pub read_fault : (n : ℕ) → allowed_at f before at ≡ Fault n → read_from f before at (pieces (part f at (length f))) ≡ Fault n
  read_fault n e = read_step ∙ rw e (unfold and_then in refl)

-- ---- the end of the file
pub read_short : (f : List ℕ) (before at : ℕ) → before ≡ ruleset_tag → read_from f before at (pieces (part f at at)) ≡ Fault at
unfolding read_from
read_short f before at e = rw (part_none f at, pieces_nil, eq-eqb before ruleset_tag e)

pub read-fine : (f : List ℕ) (before at : ℕ) → (before ≡ ruleset_tag → ⊥) → read_from f before at (pieces (part f at at)) ≡ Next at
unfolding read_from
read-fine f before at e = rw (part_none f at, pieces_nil, ne_eqb before ruleset_tag e)

-- ---- the tests of one field
module _ (f : List ℕ) (before at : ℕ) where
  pub allowed-cut : pieces (part f at (length f)) ≡ stray (part f at (length f)) ∷ [] → allowed_at f before at ≡ Fault at
  unfolding allowed front is_masks is_name tested
  allowed-cut e =
      rw e
      (split (eqb before ruleset_tag) (λ b. rw b) (λ b.
      split (eqb (tag_of (stray (part f at (length f)))) ruleset_tag) (λ t. rw (b, t)) (λ t.
      split (eqb before 0) (λ z. rw (b, t, z)) (λ z. rw (b, t, z) (rule-stray max_depth at (part f at (length f)))))))

  module _ (t n : ℕ) (w : WholeAt f at (length f) t n) where
    abbrev value : List ℕ
    value = part f (at + header) n

    is_there : allowed_at f before at ≡ allowed f before at (field t value)
    is_there = ap (allowed f before at) (front-whole f at (length f) (omega arith) t n w)

    value_ends : at + size (field t value) ≡ n
    unfolding size
    value_ends = let l = part_length f (at + header) n (omega arith) in omega arith

    -- the test of a field that passed it, or failed
    passes : {b : Bool} → b ≡ true → tested b at (field t value) ≡ Next n
    unfolding tested
    passes e = rw e (ap Next value_ends)

    module _ (b : before ≡ ruleset_tag) where
      masks_test : allowed_at f before at ≡ tested (is_masks_of t (n - at - header)) at (field t value)
      unfolding allowed is_masks is_masks_of
      masks_test = let l = part_length f (at + header) n (omega arith) in let e : length value ≡ n - at - header = omega arith in is_there ∙ rw (eq-eqb before ruleset_tag b, e)

      pub masks-fine : {m : Bool} → m ≡ is_masks_of t (n - at - header) → m ≡ true → Next n ≡ allowed_at f before at
      masks-fine k e = sym (masks_test ∙ passes (sym k ∙ e))

      pub masks_bad : {m : Bool} → m ≡ is_masks_of t (n - at - header) → m ≡ false → Fault at ≡ allowed_at f before at
      unfolding tested
      masks_bad k e = sym (masks_test ∙ rw (← k, e))

    module _ (b : before ≡ ruleset_tag → ⊥) where
      name_test : t ≡ ruleset_tag → allowed_at f before at ≡ tested (is_name f at (field ruleset_tag value)) at (field t value)
      unfolding allowed tag_of
      name_test q = is_there ∙ rw (ne_eqb before ruleset_tag b, q)

      pub name_fine : t ≡ ruleset_tag → {m : Bool} → m ≡ is_name f at (field ruleset_tag value) → not m ≡ false → Next n ≡ allowed_at f before at
      name_fine q {m} k e = sym (name_test q ∙ passes (sym k ∙ not-false m e))

      pub name_bad : t ≡ ruleset_tag → {m : Bool} → m ≡ is_name f at (field ruleset_tag value) → not m ≡ true → Fault at ≡ allowed_at f before at
      unfolding tested
      name_bad q {m} k e = sym (name_test q ∙ rw (← k, not-true m e))

      pub none_open : (t ≡ ruleset_tag → ⊥) → before ≡ 0 → Fault at ≡ allowed_at f before at
      unfolding allowed tag_of
      none_open q z = sym (is_there ∙ rw (ne_eqb before ruleset_tag b, ne_eqb t ruleset_tag q, eq-eqb before 0 z))

      pub is-a-rule : (t ≡ ruleset_tag → ⊥) → (before ≡ 0 → ⊥) → rule max_depth at (front (pieces (part f at (length f)))) ≡ allowed_at f before at
      unfolding allowed tag_of
      is-a-rule q z = rw (front-whole f at (length f) (omega arith) t n w, ne_eqb before ruleset_tag b, ne_eqb t ruleset_tag q, ne_eqb before 0 z)

-- ---- a name
module _ (f : List ℕ) (at next : ℕ) (w : WholeAt f at (length f) ruleset_tag next) where
  abbrev own : List ℕ
  own = part f (at + header) next

  own-length : length own ≡ next - at - header
  own-length = let l = part_length f (at + header) next w.inside in omega arith

  pub name_empty : next - at - header < 1 → false ≡ is_name f at (field ruleset_tag own)
  unfolding is_name
  name_empty h = rw (own-length, lt-leb 1 (next - at - header) h)

  module _ (h : 1 ≤ next - at - header) where
    pub name_long : max_ruleset_name < next - at - header → false ≡ is_name f at (field ruleset_tag own)
    unfolding is_name
    name_long k = rw (own-length, le-leb 1 (next - at - header) h, lt-leb (next - at - header) max_ruleset_name k)

    pub name_by : {b : Bool} → next - at - header ≤ max_ruleset_name → b ≡ eqb (place_of f own) at → b ≡ is_name f at (field ruleset_tag own)
    unfolding is_name
    name_by k e = rw (own-length, le-leb 1 (next - at - header) h, le-leb (next - at - header) max_ruleset_name k) e

-- ---- the buckets behind a field that opens no ruleset
pub masks-other : (t n : ℕ) {m : Bool} → m ≡ is_masks_of t n → m ≡ true → t ≡ ruleset_tag → ⊥
unfolding is_masks_of
masks-other t n k e q = let two : t ≡ masks_tag = eqb-true t masks_tag (and_l (eqb t masks_tag) (eqb n masks_size) (sym k ∙ e)) in omega arith

pub rule-after : (f seen : List ℕ) (at t next : ℕ) → Indexed f seen at → WholeAt f at (length f) t next → (t ≡ ruleset_tag → ⊥) →
    (r : Read) → r ≡ rule max_depth at (front (pieces (part f at (length f)))) → IndexedAfter f seen r
rule-after f seen at t next u w d (Next n) e =
    let q : n ≡ next = rule-ends max_depth at _ n (sym e) ∙ sym (whole-ends f at (length f) (omega arith) t next w) in
    rw q (indexed-past f seen at next u t w d)
rule-after f seen at t next u w d (Fault p) e = u.size

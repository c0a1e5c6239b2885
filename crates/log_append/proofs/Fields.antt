-- The field of a change: its bytes written one after another, and the room that it takes. Assumes nothing.
use mathlib.Core.Path.{◌≡◌, refl, sym, ap, ◌∙◌}
use mathlib.Core.Bool.{Bool, true, false, not}
use mathlib.Core.List.{List, [], ◌∷◌, ◌++◌, append_assoc}
use Prim.Native.Nat.{ℕ, suc, ◌+◌, ◌*◌, ◌-◌, ◌/◌, ◌%◌, ◌≤◌, ◌<◌}
use native.Mathlib.Omega.{arith}
use lib.Dec.{leb}
use lib.ListN.{length, take, drop, length-append}
use lib.Seq.{sets, sets-eq}
use borrow.Author.Tests.{leb-true, leb-false, le-leb, lt-leb, not-true, not-false}
use Rattle.laws.proofs.Bools.{split}
use Rattle.access.specs.Errno.{ENOSPC}
use Rattle.access.specs.Reply.{is_refused}
use Rattle.access.specs.declared.errno.Reply.{Reply}
use Rattle.access.specs.declared.errno.Reply.TheVariants.{Refused}
use Rattle.policy.specs.Fields.{bytes_of, header}
use Rattle.policy_write.specs.Written.{field_bytes}
use Rattle.policy_bytes.proofs.Puts.{length-bytes, sets_append}
use Rattle.tree_log.specs.Changes.{Change, create, remove, link, rename, exchange, create_tag, remove_tag, link_tag, rename_tag, exchange_tag, tag_of, value_of, field_of}
use Rattle.tree_log.specs.Logged.{Log, has_room, append}
use Rattle.log_calls.specs.Logs.{log_of, Fits, full_reply}

-- ---- a field whose value is a number, then a name
module _ (l : List ℕ) (at tag n x : ℕ) (name : List ℕ) where
  abbrev value : List ℕ
  value = bytes_of n x ++ name

  value_length : length value ≡ n + length name
  value_length = length-append (bytes_of n x) name ∙ ap (λ (k : ℕ). k + length name) (length-bytes n x)

  put_field : {len : ℕ} {o p q : List ℕ} → len ≡ n + length name → o ≡ sets l at (tag ∷ len % 256 ∷ len / 256 ∷ []) → p ≡ sets o (at + header) (bytes_of n x) → q ≡ sets p (at + header + n) name
      → q ≡ sets l at (field_bytes tag value)
  unfolding field_bytes
  put_field {len} e a b c =
      let w = length-bytes n x in
      let m : len ≡ length value = e ∙ sym value_length in
      let j : at + header + n ≡ at + header + length (bytes_of n x) = omega arith in
      rw (c, b, a, j, ← sets_append, m) (sym (sets_append l at (tag ∷ length value % 256 ∷ length value / 256 ∷ []) value))

  pub field-appended : at + (header + (n + length name)) ≤ length l → {len : ℕ} {o p q : List ℕ} → len ≡ n + length name → o ≡ sets l at (tag ∷ len % 256 ∷ len / 256 ∷ [])
      → p ≡ sets o (at + header) (bytes_of n x) → q ≡ sets p (at + header + n) name → log_of q (at + header + len) ≡ append (log_of l at) (field_bytes tag value)
  unfolding append field_bytes
  field-appended h {len} {o} {p} {q} e a b c =
      let f = field_bytes tag value in
      let w = value_length in
      let u : at + header + len ≡ at + length f = omega arith in
      let v : q ≡ take at l ++ (f ++ drop (at + length f) l) = put_field e a b c ∙ sets-eq f l at (omega arith) ∙ append_assoc (take at l) f (drop (at + length f) l) in
      rw (u, v) refl

-- ---- numbers as bytes
two_bytes : (e : ℕ) → e < 65536 → bytes_of 2 e ≡ e % 256 ∷ e / 256 ∷ []
unfolding bytes_of
two_bytes e h = let a : e / 256 % 256 ≡ e / 256 = omega arith in rw a refl

-- a number of one byte, or of two, below others
one_more : (n k y : ℕ) → k < 256 → bytes_of (suc n) (k + 256 * y) ≡ k ∷ bytes_of n y
unfolding bytes_of
one_more n k y h =
    let a : (k + 256 * y) % 256 ≡ k = omega arith in
    let b : (k + 256 * y) / 256 ≡ y = omega arith in
    rw (a, b) refl

two_more : (n s y : ℕ) → s < 65536 → bytes_of (suc (suc n)) (s + 65536 * y) ≡ s % 256 ∷ s / 256 ∷ bytes_of n y
two_more n s y h =
    let e : s + 65536 * y ≡ s % 256 + 256 * (s / 256 + 256 * y) = omega arith in
    ap (bytes_of (suc (suc n))) e ∙ one_more (suc n) (s % 256) (s / 256 + 256 * y) (omega arith) ∙ ap (λ (l : List ℕ). s % 256 ∷ l) (one_more n (s / 256) y (omega arith))

-- ---- the field of each change
module _ (L : Log) {M : Log} where
  pub create-field : (k d : ℕ) (n : List ℕ) → k < 256 → d < 65536 → M ≡ append L (field_bytes create_tag (bytes_of 3 (k + 256 * d) ++ n)) → M ≡ append L (field_of (create k d n))
  unfolding field_of tag_of value_of
  create-field k d n h i m = rw (one_more 2 k d h, two_bytes d i) at m

  pub remove-field : (e : ℕ) → e < 65536 → M ≡ append L (field_bytes remove_tag (bytes_of 2 e ++ [])) → M ≡ append L (field_of (remove e))
  unfolding field_of tag_of value_of
  remove-field e h m = rw (two_bytes e h) at m

  pub link-field : (s d : ℕ) (n : List ℕ) → s < 65536 → d < 65536 → M ≡ append L (field_bytes link_tag (bytes_of 4 (s + 65536 * d) ++ n)) → M ≡ append L (field_of (link s d n))
  unfolding field_of tag_of value_of
  link-field s d n h i m = rw (two_more 2 s d h, two_bytes d i) at m

  pub rename-field : (s d : ℕ) (n : List ℕ) → s < 65536 → d < 65536 → M ≡ append L (field_bytes rename_tag (bytes_of 4 (s + 65536 * d) ++ n)) → M ≡ append L (field_of (rename s d n))
  unfolding field_of tag_of value_of
  rename-field s d n h i m = rw (two_more 2 s d h, two_bytes d i) at m

  pub exchange-field : (s d x : ℕ) → s < 65536 → d < 65536 → x < 65536 → M ≡ append L (field_bytes exchange_tag (bytes_of 6 (s + 65536 * (d + 65536 * x)) ++ [])) → M ≡ append L (field_of (exchange s d x))
  unfolding field_of tag_of value_of
  exchange-field s d x h i j m = rw (two_more 4 s (d + 65536 * x) h, two_more 2 d x i, two_bytes x j) at m

-- ---- the room that it takes
-- of what is left behind the used part and the fixed bytes
pub room-left : (used fixed more size : ℕ) → used ≤ size → fixed ≤ size - used → leb more (size - used - fixed) ≡ leb (used + (fixed + more)) size
room-left used fixed more size h i = split (leb more (size - used - fixed))
    (λ q. let l = leb-true more (size - used - fixed) q in q ∙ sym (le-leb (used + (fixed + more)) size (omega arith)))
    (λ q. let l = leb-false more (size - used - fixed) q in q ∙ sym (lt-leb (used + (fixed + more)) size (omega arith)))

-- what a call answers that has none
module _ (r : Reply) {q : Bool} (h : q ≡ is_refused r) where
  pub full_refused : q ≡ true → r ≡ full_reply r
  unfolding full_reply
  full_refused z = rw (← h, z) refl

  pub full_done : q ≡ false → Refused (record { 0 = ENOSPC }) ≡ full_reply r
  unfolding full_reply
  full_done z = rw (← h, z) refl

pub field-length : (c : Change) → length (field_of c) ≡ header + length (value_of c)
unfolding field_of field_bytes
field-length c = omega arith

pub fit_room : {L : Log} {c : Change} → Fits L c → L.used + (header + length (value_of c)) ≤ length L.bytes
unfolding has_room
fit_room {L} {c} f = rw (← field-length c) (leb-true (L.used + length (field_of c)) (length L.bytes) f.room)

-- by a test of room
room-is : (L : Log) (c : Change) {k : ℕ} → k ≡ length (field_of c) → {r : Bool} → r ≡ leb (L.used + k) (length L.bytes) → r ≡ has_room L (field_of c)
unfolding has_room
room-is L c e h = rw (← e) h

-- how it ended
abbrev Tested : Bool → Log → Change → Type 0
Tested r L c = (not r ≡ false → has_room L (field_of c) ≡ true) × (not r ≡ true → has_room L (field_of c) ≡ false)

tested : (L : Log) (c : Change) {r : Bool} → r ≡ has_room L (field_of c) → Tested r L c
tested L c {r} h = ((λ v. sym h ∙ not-false r v), (λ v. sym h ∙ not-true r v))

module _ (L : Log) {r : Bool} where
  pub create-room : (k d : ℕ) (n : List ℕ) → r ≡ leb (L.used + (6 + length n)) (length L.bytes) → Tested r L (create k d n)
  unfolding field_of field_bytes value_of
  create-room k d n h = tested L (create k d n) (room-is L (create k d n) (omega arith) h)

  pub remove-room : (e : ℕ) → r ≡ leb (L.used + (5 + 0)) (length L.bytes) → Tested r L (remove e)
  unfolding field_of field_bytes value_of
  remove-room e h = tested L (remove e) (room-is L (remove e) refl h)

  pub link-room : (s d : ℕ) (n : List ℕ) → r ≡ leb (L.used + (7 + length n)) (length L.bytes) → Tested r L (link s d n)
  unfolding field_of field_bytes value_of
  link-room s d n h = tested L (link s d n) (room-is L (link s d n) (omega arith) h)

  pub rename-room : (s d : ℕ) (n : List ℕ) → r ≡ leb (L.used + (7 + length n)) (length L.bytes) → Tested r L (rename s d n)
  unfolding field_of field_bytes value_of
  rename-room s d n h = tested L (rename s d n) (room-is L (rename s d n) (omega arith) h)

  pub exchange-room : (s d x : ℕ) → r ≡ leb (L.used + (9 + 0)) (length L.bytes) → Tested r L (exchange s d x)
  unfolding field_of field_bytes value_of
  exchange-room s d x h = tested L (exchange s d x) (room-is L (exchange s d x) refl h)

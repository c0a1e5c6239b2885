-- Masks that are cut, and three of them written one behind the other. Assumes nothing.
use mathlib.Core.Path.{◌≡◌, refl, sym, ap, ◌∙◌}
use mathlib.Core.List.{List, [], ◌++◌, append-nil}
use Prim.Native.Nat.{ℕ, ◌+◌}
use native.Mathlib.Omega.{arith}
use lib.ListN.{length, length-append, drop_of_length-le}
use lib.Seq.{sets, sets-eq}
use Rattle.access.specs.Limits.{max_level}
use Rattle.access.specs.Rights.{without, known_fs, known_net, known_scope}
use Rattle.ruleset.specs.Attribute.{fs_mask, net_mask, scope_mask}
use Rattle.policy.specs.Fields.{bytes_of}
use Rattle.policy.specs.Meaning.{cut_mask, cut_masks}
use Rattle.policy_bytes.proofs.Puts.{length-bytes, sets_append}

module _ (l : List ℕ) (a b c : ℕ) (size : length l ≡ 24) where
  abbrev three : List ℕ
  three = bytes_of 8 a ++ (bytes_of 8 b ++ bytes_of 8 c)

  three_size : length three ≡ 24
  three_size =
      let x = length-bytes 8 a in
      let y = length-bytes 8 b in
      let z = length-bytes 8 c in
      let p = length-append (bytes_of 8 b) (bytes_of 8 c) in
      let q = length-append (bytes_of 8 a) (bytes_of 8 b ++ bytes_of 8 c) in
      omega arith

  -- bytes written over a list of the same length are those bytes
  whole : sets l 0 three ≡ three
  whole =
      let t = three_size in
      sets-eq three l 0 (omega arith) ∙ ap (λ (m : List ℕ). three ++ m) (drop_of_length-le l {i = 0 + length three} (omega arith)) ∙ append-nil three

  masks-written : sets (sets (sets l 0 (bytes_of 8 a)) 8 (bytes_of 8 b)) 16 (bytes_of 8 c) ≡ three
  masks-written =
      let x : 0 + length (bytes_of 8 a) ≡ 8 = let z = length-bytes 8 a in omega arith in
      let y : 8 + length (bytes_of 8 b) ≡ 16 = let z = length-bytes 8 b in omega arith in
      sym
      (sets_append l 0 (bytes_of 8 a) (bytes_of 8 b ++ bytes_of 8 c)
      ∙ ap (λ (k : ℕ). sets (sets l 0 (bytes_of 8 a)) k (bytes_of 8 b ++ bytes_of 8 c)) x
      ∙ sets_append (sets l 0 (bytes_of 8 a)) 8 (bytes_of 8 b) (bytes_of 8 c)
      ∙ ap (λ (k : ℕ). sets (sets (sets l 0 (bytes_of 8 a)) 8 (bytes_of 8 b)) k (bytes_of 8 c)) y)
      ∙ whole

pub cut-is : (known : ℕ → ℕ) (level : ℕ) {m r x s k : ℕ} → r ≡ without x (without s k) → x ≡ m → s ≡ known max_level → k ≡ known level → r ≡ cut_mask known level m
unfolding cut_mask
cut-is known level {m} {r} {x} {s} {k} e a b c = e ∙ ap (λ (y : ℕ). without y (without s k)) a ∙ ap (λ (y : ℕ). without m (without y k)) b ∙ ap (λ (y : ℕ). without m (without (known max_level) y)) c

module _ (level : ℕ) (v l : List ℕ) (size : length l ≡ 24) {a b c : ℕ} (fs : a ≡ cut_mask known_fs level (fs_mask v)) (net : b ≡ cut_mask known_net level (net_mask v)) (scope : c ≡ cut_mask known_scope level (scope_mask v)) where
  pub masks-cut : {x y z : List ℕ} → x ≡ sets l 0 (bytes_of 8 a) → y ≡ sets x 8 (bytes_of 8 b) → z ≡ sets y 16 (bytes_of 8 c) → z ≡ cut_masks level v
  unfolding cut_masks
  masks-cut p q r =
      r
      ∙ ap (λ (m : List ℕ). sets m 16 (bytes_of 8 c)) (q ∙ ap (λ (m : List ℕ). sets m 8 (bytes_of 8 b)) p)
      ∙ masks-written l a b c size
      ∙ ap (λ (n : ℕ). bytes_of 8 n ++ (bytes_of 8 b ++ bytes_of 8 c)) fs
      ∙ ap (λ (n : ℕ). bytes_of 8 (cut_mask known_fs level (fs_mask v)) ++ (bytes_of 8 n ++ bytes_of 8 c)) net
      ∙ ap (λ (n : ℕ). bytes_of 8 (cut_mask known_fs level (fs_mask v)) ++ (bytes_of 8 (cut_mask known_net level (net_mask v)) ++ bytes_of 8 n)) scope

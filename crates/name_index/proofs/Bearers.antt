-- The bearer of a name is the entry on the chain of its bucket that has its row. Assumes nothing.
use mathlib.Core.Path.{◌≡◌, refl, sym, ap, ◌∙◌}
use mathlib.Core.Bool.{true, false}
use mathlib.Core.List.{List}
use Prim.Native.Nat.{ℕ, ◌+◌, ◌*◌, ◌≤◌, ◌<◌}
use native.Mathlib.Omega.{arith}
use lib.Dec.{eqb}
use lib.ListN.{length, get_or}
use borrow.Author.Tests.{eqb-true, eq-eqb, ltb-true}
use Rattle.laws.proofs.Bools.{split, clash, and_l, and_r, both}
use Rattle.laws.proofs.Cells.{part_length}
use Rattle.access.specs.Limits.{max_entries}
use Rattle.tables.specs.Tables.{parent}
use Rattle.tree.specs.declared.Replaced.{Replaced}
use Rattle.tree.specs.declared.Replaced.TheVariants.{None, Entry}
use Rattle.names.specs.Names.{max_name, name_width, row_at, name_of, name_sound, bears, bearer_from, taken, bearer}
use Rattle.names.proofs.Bytes.{bytes_equal, bytes_same}
use Rattle.names.proofs.Facts.{Names, names, Name, name_facts, named_live, named_not_root, named_of}
use Rattle.names.proofs.Bearer.{Bears, bears_of, taken_by, not_taken}
use Rattle.sound_names_rows.proofs.Form.{row_of_name}
use Rattle.sound_names_walk.specs.Fold.{folded, bucket_of, bucket_at}
use Rattle.sound_names_walk.specs.Walks.{same_name, On, IsWalked}
use Rattle.sound_names_walk.specs.declared.Walked.{Walked}
use Rattle.sound_names_walk.specs.declared.Walked.TheVariants.{Missing, Found}
use Rattle.sound_names_walk.proofs.Walks.{on_some}
use Rattle.sound_names_chains.specs.Chains.{Indexed}
use Rattle.sound_names_chains.proofs.Index.{on-node}
use Rattle.name_index.specs.Row.{own_row}
use Rattle.name_index.proofs.Row.{own-length, own_name, own-sound}

module _ (es ns : List ℕ) (d : ℕ) (n : List ℕ) where
  -- taken exactly if it has a bearer
  pub taken_none : {r : Replaced} → r ≡ bearer es ns d n → r ≡ None → false ≡ taken es ns d n
  unfolding bearer
  taken_none h q = split (taken es ns d n)
      (λ t. let e = rw t at h in let z : ◌≡◌ {A = ℕ} 0 1 = cc in absurd (omega arith))
      (λ t. sym t)

  pub taken-some : {r : Replaced} {y : ℕ} → r ≡ bearer es ns d n → r ≡ Entry y → true ≡ taken es ns d n
  unfolding bearer
  taken-some h q = split (taken es ns d n)
      (λ t. sym t)
      (λ t. let e = rw t at h in let z : ◌≡◌ {A = ℕ} 0 1 = cc in absurd (omega arith))

  none_is : taken es ns d n ≡ false → None ≡ bearer es ns d n
  unfolding bearer
  none_is t = rw t refl

  some_is : taken es ns d n ≡ true → (f : ℕ) → f ≡ bearer_from es ns d n → Entry f ≡ bearer es ns d n
  unfolding bearer
  some_is t f q = rw (t, q) refl

  bearer_in : taken es ns d n ≡ true → bearer_from es ns d n < max_entries
  unfolding taken
  bearer_in t = ltb-true (bearer_from es ns d n) max_entries t

  module _ {heads links : List ℕ} (I : Indexed es ns heads links) where
    Z : Names es ns
    Z = names es ns I.0

    row_long : (x : ℕ) → x < max_entries → length (row_at ns x) ≡ name_width
    unfolding row_at
    row_long x l = let w = Z.long in part_length ns (name_width * x) (name_width * x + name_width) (omega arith) ∙ (omega arith)

    -- whoever bears the name has its row
    bearer_good : (x : ℕ) → x < max_entries → Bears es ns d n x → name_sound (row_at ns x) ≡ true
    bearer_good x l B = Z.good x l (named_of es x B.not_root B.alive)

    bearer_name : (x : ℕ) → x < max_entries → Bears es ns d n x → Name n
    bearer_name x l B = rw B.name at (name_facts (row_at ns x) (bearer_good x l B))

    bearer_row : (x : ℕ) → x < max_entries → Bears es ns d n x → row_at ns x ≡ own_row n
    bearer_row x l B =
        let N = bearer_name x l B in
        row_of_name (row_at ns x) (own_row n) (row_long x l) (own-length n) (bearer_good x l B) (own-sound n N.short N.fine) (B.name ∙ sym (own_name n N.short))

    -- nobody bears the name, as each who would is none
    none-bears : ((x : ℕ) → x < max_entries → Bears es ns d n x → ⊥) → None ≡ bearer es ns d n
    none-bears g = none_is (split (taken es ns d n) (λ t. absurd (g (bearer_from es ns d n) (bearer_in t) (taken_by es ns d n t))) (λ t. t))

    -- one does: it is the only one
    one_bears : (x : ℕ) → x < max_entries → Bears es ns d n x → Entry x ≡ bearer es ns d n
    one_bears x l B = split (taken es ns d n)
        (λ t.
        let y = bearer_from es ns d n in
        let C = taken_by es ns d n t in
        some_is t x (Z.unique x y l (bearer_in t) (named_of es x B.not_root B.alive) (named_of es y C.not_root C.alive) (B.child ∙ sym C.child) (B.name ∙ sym C.name)))
        (λ t. clash (bears es ns d n x) (bears_of es ns d n x B.not_root B.alive B.child B.name) (not_taken es ns d n t x l))

    pub too_long : max_name < length n → None ≡ bearer es ns d n
    too_long h = none-bears (λ x l B. let s = (bearer_name x l B).short in omega arith)

    module _ (short : length n ≤ max_name) {row : List ℕ} (o : row ≡ own_row n) {b : ℕ} (q : b ≡ bucket_of (folded d row)) (t : Walked) (h : IsWalked es ns links d row (get_or heads b 0) t) where
      -- the bearer is on the chain of the name's bucket
      on_chain : (x : ℕ) → x < max_entries → Bears es ns d n x → On links (get_or heads b 0) x
      unfolding bucket_at
      on_chain x l B =
          let i : bucket_at es ns x ≡ b = rw (B.child, bearer_row x l B, ← o) (sym q) in
          rw i at (I.1.held x l (named_of es x B.not_root B.alive))

      same_of : (x : ℕ) → x < max_entries → Bears es ns d n x → same_name es ns d row x ≡ true
      unfolding same_name
      same_of x l B = both (eqb (parent es x) d) _ (eq-eqb (parent es x) d B.child) (rw (bearer_row x l B, o) (bytes_same (own_row n)))

      pub missing-is : {left : ℕ} → t ≡ Missing left → (left ≡ 0 → ⊥) → None ≡ bearer es ns d n
      unfolding IsWalked
      missing-is j z = none-bears (λ x l B. clash (same_name es ns d row x) (same_of x l B) ((rw j at h) z x (on_chain x l B)))

      pub found-is : {x : ℕ} → t ≡ Found x → Entry x ≡ bearer es ns d n
      unfolding IsWalked same_name
      found-is {x} j =
          let f = rw j at h in
          let s = I.1.firsts b (on_some f.0) in
          let m = on-node es ns I.1 s.0 s.1 f.0 in
          let c = and_l (eqb (parent es x) d) _ f.1 in
          let r = bytes_equal row (row_at ns x) (and_r (eqb (parent es x) d) _ f.1) in
          one_bears x m.0 (record {
            not_root = named_not_root es x m.1;
            alive = named_live es x m.1;
            child = eqb-true (parent es x) d c;
            name = ap name_of (sym r ∙ o) ∙ own_name n short;
          })

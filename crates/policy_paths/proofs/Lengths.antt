-- A path, from its end. Assumes nothing.
use mathlib.Core.Path.{◌≡◌, refl, sym, ap, ◌∙◌}
use mathlib.Core.List.{List, [], ◌∷◌, ◌++◌, append_assoc}
use Prim.Native.Nat.{ℕ, zero, suc, ◌+◌, ◌-◌, ◌≤◌, ◌<◌}
use native.Mathlib.Omega.{arith}
use lib.ListN.{length, set, length-append}
use lib.Seq.{sets, length-sets}
use borrow.Author.Tests.{eq-eqb, ne_eqb}
use Rattle.tables.specs.Tables.{parent}
use Rattle.access.specs.Limits.{max_entries}
use Rattle.names.specs.Names.{slash, name_at}
use Rattle.names.specs.Paths.{path_up, path_of}
use Rattle.policy_bytes.proofs.Puts.{sets_before}

append-none : (xs : List ℕ) → xs ++ [] ≡ xs
append-none [] = refl
append-none (x ∷ xs) = ap (λ (l : List ℕ). x ∷ l) (append-none xs)

module _ (es ns : List ℕ) where
  pub up_root : (k e : ℕ) → e ≡ 0 → path_up es ns k e ≡ []
  unfolding path_up
  up_root zero e q = refl
  up_root (suc k) e q = rw (eq-eqb e 0 q) refl

  pub up_out : (e : ℕ) → path_up es ns 0 e ≡ []
  unfolding path_up
  up_out e = refl

  pub up_on : (k j e : ℕ) → k ≡ suc j → (e ≡ 0 → ⊥) → path_up es ns k e ≡ path_up es ns j (parent es e) ++ slash ∷ name_at ns e
  unfolding path_up
  up_on k j e s n = rw (s, ne_eqb e 0 n) refl

  pub up_length : (k j e : ℕ) → k ≡ suc j → (e ≡ 0 → ⊥) → length (path_up es ns k e) ≡ length (path_up es ns j (parent es e)) + (length (name_at ns e) + 1)
  up_length k j e s n = let l = length-append (path_up es ns j (parent es e)) (slash ∷ name_at ns e) in ap length (up_on k j e s n) ∙ (omega arith)

  pub path_root : (e : ℕ) → e ≡ 0 → path_of es ns e ≡ slash ∷ []
  unfolding path_of
  path_root e q = rw (eq-eqb e 0 q) refl

  pub path_up_lem : (e : ℕ) → (e ≡ 0 → ⊥) → path_of es ns e ≡ path_up es ns max_entries e
  unfolding path_of
  path_up_lem e n = rw (ne_eqb e 0 n) refl

-- ---- a path that is written from its end: so far the rest behind x
pub record Put (es ns before : List ℕ) (end e : ℕ) (out : List ℕ) (at x left : ℕ) : Type 0 where
  pub tail : List ℕ
  pub path : path_up es ns max_entries e ≡ path_up es ns left x ++ tail
  pub written : out ≡ sets before at tail
  pub ends : at + length tail ≡ end

module _ (es ns before : List ℕ) (end e : ℕ) where
  pub put_none : Put es ns before end e before end e max_entries
  put_none = record { tail = []; path = sym (append-none (path_up es ns max_entries e)); written = refl; ends = omega arith }

  module _ {out : List ℕ} {at x left : ℕ} (P : Put es ns before end e out at x left) (room : length (path_up es ns max_entries e) ≤ end) where
    pub put_room : length (path_up es ns left x) ≤ at
    put_room =
        let l = ap length P.path ∙ length-append (path_up es ns left x) P.tail in
        let e = P.ends in
        omega arith

    pub put_name_lem : 0 < left → (x ≡ 0 → ⊥) → {name : List ℕ} → name ≡ name_at ns x → length name + 1 ≤ at
    put_name_lem h n p = let r = put_room in let u = up_length es ns left (left - 1) x (omega arith) n in let z = ap length p in omega arith

    pub put_length : length out ≡ length before
    put_length = ap length P.written ∙ length-sets before at P.tail

    -- one name and the slash before it
    pub put_on : 0 < left → (x ≡ 0 → ⊥) → {name mid : List ℕ} {y : ℕ} → name ≡ name_at ns x → mid ≡ sets out (at - length name) name → y ≡ parent es x
        → Put es ns before end e (set mid (at - length name - 1) slash) (at - length name - 1) y (left - 1)
    put_on h n {name} {mid} {y} p q r =
        let j : ℕ = left - 1 in
        let s : left ≡ suc j = omega arith in
        let room-left = put_room in
        let up = up_length es ns left j x s n in
        let size = ap length p in
        let i : ℕ = at - length name in
        let one : mid ≡ sets before i (name ++ P.tail) = q ∙ ap (λ (l : List ℕ). sets l i name) P.written ∙ sets_before before i at name P.tail (omega arith) in
        let two : set mid (i - 1) slash ≡ sets before (i - 1) (slash ∷ (name ++ P.tail)) = ap (λ (l : List ℕ). set l (i - 1) slash) one ∙ sets_before before (i - 1) i (slash ∷ []) (name ++ P.tail) (let k : i - 1 + 1 ≡ i = omega arith in k) in
        let f = length-append name P.tail in
        let g = P.ends in
        record {
          tail = slash ∷ (name ++ P.tail);
          path = P.path ∙ ap (λ (l : List ℕ). l ++ P.tail) (up_on es ns left j x s n) ∙ append_assoc (path_up es ns j (parent es x)) (slash ∷ name_at ns x) P.tail ∙ rw (← p, ← r) refl;
          written = two;
          ends = omega arith;
        }

    -- all is written
    pub put_all : path_up es ns left x ≡ [] → out ≡ sets before (end - length (path_up es ns max_entries e)) (path_up es ns max_entries e)
    put_all z =
        let t : path_up es ns max_entries e ≡ P.tail = P.path ∙ ap (λ (l : List ℕ). l ++ P.tail) z in
        let g = P.ends in
        let a : at ≡ end - length P.tail = omega arith in
        rw t (P.written ∙ ap (λ (k : ℕ). sets before k P.tail) a)

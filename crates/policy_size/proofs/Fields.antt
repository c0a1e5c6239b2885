-- Fields one after another, and how long they are. Assumes nothing.
use mathlib.Core.Path.{◌≡◌, refl, sym, ap, ◌∙◌}
use mathlib.Core.List.{List, [], ◌∷◌, ◌++◌, map, append_assoc, append-nil}
use Prim.Native.Nat.{ℕ, zero, suc, ◌+◌, ◌*◌, ◌≤◌, ◌<◌}
use native.Mathlib.Omega.{arith}
use lib.Dec.{eqb}
use lib.ListN.{length, get_or, take, length-append}
use lib.Seq.{take-suc}
use borrow.Author.Tests.{eqb-true, eqb-false}
use Rattle.laws.proofs.Bools.{split}
use Rattle.tables.specs.Tables.{rule_key, rule_rights}
use Rattle.names.specs.Paths.{path_of}
use Rattle.policy.specs.Fields.{bytes_of, header}
use Rattle.policy.specs.Grammar.{rights_size, port_size}
use Rattle.policy.specs.Meaning.{Rule, path, port}
use Rattle.policy_write.specs.Order.{Keyed}
use Rattle.policy_write.specs.Written.{field_bytes, rule_bytes, rules_bytes}
use Rattle.policy_write.proofs.Bytes.{length-bytes}
use Rattle.policy_order.specs.Insert.{item_as, items_as}
use Rattle.policy_size.specs.Fields.{path_field, port_field, fields_in, path_size, sum_in}

module _ (field : ℕ → List ℕ) (order : List ℕ) where
  pub fields_none : fields_in field order 0 ≡ []
  unfolding fields_in
  fields_none = refl

  pub fields_more : (k : ℕ) → fields_in field order (k + 1) ≡ fields_in field order k ++ field (get_or order k 0)
  unfolding fields_in
  fields_more k = let z : k + 1 ≡ suc k = omega arith in rw z refl

  -- a part of them is no longer than all
  pub fields_part : (k j : ℕ) → j < k → length (fields_in field order j) + length (field (get_or order j 0)) ≤ length (fields_in field order k)
  unfolding fields_in
  fields_part zero j h = absurd (omega arith)
  fields_part (suc k) j h =
      let a = length-append (fields_in field order k) (field (get_or order k 0)) in
      split (eqb j k)
      (λ q. let e = eqb-true j k q in rw e (omega arith))
      (λ q. let n = eqb-false j k q in let r = fields_part k j (omega arith) in omega arith)

  pub sum_lengths : (size : ℕ → ℕ) (k : ℕ) → ((j : ℕ) → j < k → length (field (get_or order j 0)) ≡ size (get_or order j 0)) → length (fields_in field order k) ≡ sum_in size order k
  unfolding fields_in sum_in
  sum_lengths size zero f = refl
  sum_lengths size (suc k) f = let r = sum_lengths size k (λ j h. f j (omega arith)) in let a = length-append (fields_in field order k) (field (get_or order k 0)) in let b = f k (omega arith) in omega arith

pub sum_none : (size : ℕ → ℕ) (order : List ℕ) → 0 ≡ sum_in size order 0
unfolding sum_in
sum_none size order = refl

pub sum_more : (size : ℕ → ℕ) (order : List ℕ) (k : ℕ) → sum_in size order (k + 1) ≡ sum_in size order k + size (get_or order k 0)
unfolding sum_in
sum_more size order k = let z : k + 1 ≡ suc k = omega arith in rw z refl

pub sum_ports : (order : List ℕ) (k : ℕ) → sum_in (λ i. header + port_size) order k ≡ (header + port_size) * k
unfolding sum_in
sum_ports order zero = omega arith
sum_ports order (suc k) = let r = sum_ports order k in omega arith

-- how long the fields are
pub path-length : (es ns rules picks : List ℕ) (i : ℕ) → length (path_field es ns rules picks i) ≡ path_size es ns picks i
unfolding path_field rule_bytes field_bytes
path-length es ns rules picks i = let a = length-append (bytes_of rights_size (rule_rights rules i)) (path_of es ns (get_or picks i 0)) in let b = length-bytes rights_size (rule_rights rules i) in omega arith

pub port-length : (rules : List ℕ) (i : ℕ) → length (port_field rules i) ≡ header + port_size
unfolding port_field rule_bytes field_bytes
port-length rules i = let a = length-append (bytes_of rights_size (rule_rights rules i)) (bytes_of 2 (rule_key rules i)) in let b = length-bytes rights_size (rule_rights rules i) in let c = length-bytes 2 (rule_key rules i) in omega arith

-- ---- the fields of a list of rules
map-join : {A B : Type 0} (f : A → B) (xs ys : List A) → map f (xs ++ ys) ≡ map f xs ++ map f ys
map-join f [] ys = refl
map-join f (x ∷ xs) ys = ap (λ r. f x ∷ r) (map-join f xs ys)

pub bytes-join : (a b : List Rule) → rules_bytes (a ++ b) ≡ rules_bytes a ++ rules_bytes b
unfolding rules_bytes
bytes-join [] b = refl
bytes-join (q ∷ a) b = ap (λ (r : List ℕ). rule_bytes q ++ r) (bytes-join a b) ∙ sym (append_assoc (rule_bytes q) (rules_bytes a) (rules_bytes b))

bytes_one : (q : Rule) → rules_bytes (q ∷ []) ≡ rule_bytes q
unfolding rules_bytes
bytes_one q = append-nil (rule_bytes q)

pub fields_are : {K : Type 0} (f : Keyed ℕ → Keyed K) (g : Keyed K → Rule) (field : ℕ → List ℕ) (rules order : List ℕ) (k : ℕ) → k ≤ length order
    → ((j : ℕ) → j < k → field (get_or order j 0) ≡ rule_bytes (g (item_as f rules (get_or order j 0)))) → rules_bytes (map g (items_as f rules order k)) ≡ fields_in field order k
unfolding fields_in rules_bytes
fields_are f g field rules order zero h same = refl
fields_are f g field rules order (suc k) h same =
    let i = get_or order k 0 in
    let one : items_as f rules order (suc k) ≡ items_as f rules order k ++ item_as f rules i ∷ [] = ap (map (item_as f rules)) (take-suc order k 0 (omega arith)) ∙ map-join (item_as f rules) (take k order) (i ∷ []) in
    ap (λ xs. rules_bytes (map g xs)) one ∙ ap rules_bytes (map-join g (items_as f rules order k) (item_as f rules i ∷ [])) ∙ bytes-join (map g (items_as f rules order k)) (g (item_as f rules i) ∷ [])
    ∙ rw (fields_are f g field rules order k (omega arith) (λ j m. same j (omega arith)), bytes_one (g (item_as f rules i)), same k (omega arith)) refl

-- Parts written one after another are written as a whole. Assumes nothing.
use mathlib.Core.Path.{◌≡◌, refl, sym, ap, ◌∙◌}
use mathlib.Core.List.{List, [], ◌∷◌, ◌++◌}
use Prim.Native.Nat.{ℕ, ◌+◌, ◌/◌, ◌%◌, ◌≤◌, ◌<◌}
use native.Mathlib.Omega.{arith}
use lib.ListN.{length, get_or, length-append}
use lib.Seq.{sets, length-sets}
use Rattle.tables.specs.Tables.{rule_key, rule_rights}
use Rattle.names.specs.Paths.{path_of}
use Rattle.policy.specs.Fields.{bytes_of, header, path_tag, port_tag}
use Rattle.policy.specs.Grammar.{rights_size}
use Rattle.policy_write.specs.Written.{field_bytes, rule_bytes}
use Rattle.policy_write.proofs.Bytes.{length-bytes}
use Rattle.policy_bytes.proofs.Puts.{sets_append}
use Rattle.policy_size.specs.Fields.{path_field, port_field, fields_in}
use Rattle.policy_size.proofs.Fields.{fields_more, fields_part}

pub put_two : (l : List ℕ) (i : ℕ) (vs ws : List ℕ) {o p : List ℕ} {j : ℕ} → o ≡ sets l i vs → p ≡ sets o j ws → j ≡ i + length vs → p ≡ sets l i (vs ++ ws)
put_two l i vs ws {o} {p} {j} a b e = b ∙ ap (λ (x : List ℕ). sets x j ws) a ∙ ap (λ (k : ℕ). sets (sets l i vs) k ws) e ∙ sym (sets_append l i vs ws)

-- a field whose value starts with rights
pub put_rule : (l : List ℕ) (at t rights : ℕ) (v : List ℕ) {len x j : ℕ} {o p : List ℕ} → len ≡ rights_size + length v → x ≡ rights → o ≡ sets l at (t ∷ len % 256 ∷ len / 256 ∷ bytes_of rights_size x)
    → p ≡ sets o j v → j ≡ at + (header + rights_size) → p ≡ sets l at (field_bytes t (bytes_of rights_size rights ++ v))
unfolding field_bytes
put_rule l at t rights v {len} {x} {j} n r a b e =
    let c = length-append (bytes_of rights_size rights) v in
    let d = length-bytes rights_size rights in
    let f = length-bytes rights_size x in
    let m : len ≡ length (bytes_of rights_size rights ++ v) = omega arith in
    put_two l at (t ∷ len % 256 ∷ len / 256 ∷ bytes_of rights_size x) v a b (omega arith)
    ∙ ap (λ (y : ℕ). sets l at (t ∷ len % 256 ∷ len / 256 ∷ (bytes_of rights_size y ++ v))) r
    ∙ ap (λ (y : ℕ). sets l at (t ∷ y % 256 ∷ y / 256 ∷ (bytes_of rights_size rights ++ v))) m

pub put_path_field : (es ns rules picks : List ℕ) (i : ℕ) (l : List ℕ) (at : ℕ) {len x j : ℕ} {o p : List ℕ} → len ≡ rights_size + length (path_of es ns (get_or picks i 0)) → x ≡ rule_rights rules i
    → o ≡ sets l at (path_tag ∷ len % 256 ∷ len / 256 ∷ bytes_of rights_size x) → p ≡ sets o j (path_of es ns (get_or picks i 0)) → j ≡ at + (header + rights_size) → p ≡ sets l at (path_field es ns rules picks i)
unfolding path_field rule_bytes
put_path_field es ns rules picks i l at n r a b e = put_rule l at path_tag (rule_rights rules i) (path_of es ns (get_or picks i 0)) n r a b e

pub put_port_field : (rules : List ℕ) (i : ℕ) (l : List ℕ) (at : ℕ) {x y j : ℕ} {o p : List ℕ} → x ≡ rule_rights rules i → y ≡ rule_key rules i
    → o ≡ sets l at (port_tag ∷ 10 % 256 ∷ 10 / 256 ∷ bytes_of rights_size x) → p ≡ sets o j (bytes_of 2 y) → j ≡ at + (header + rights_size) → p ≡ sets l at (port_field rules i)
unfolding port_field rule_bytes
put_port_field rules i l at {x} {y} {j} {o} r s a b e =
    let n = length-bytes 2 (rule_key rules i) in
    put_rule l at port_tag (rule_rights rules i) (bytes_of 2 (rule_key rules i)) {len = 10} (omega arith) r a (b ∙ ap (λ (z : ℕ). sets o j (bytes_of 2 z)) s) e

-- ---- a turn of the loops
module _ (field : ℕ → List ℕ) (order l : List ℕ) (from j : ℕ) {out : List ℕ} {at : ℕ} (done : out ≡ sets l from (fields_in field order j)) (end : at ≡ from + length (fields_in field order j)) where
  pub turn-length : length out ≡ length l
  turn-length = ap length done ∙ length-sets l from (fields_in field order j)

  pub turn-room : (k : ℕ) → j < k → from + length (fields_in field order k) ≤ length l → at + length (field (get_or order j 0)) ≤ length out
  turn-room k h r = let p = fields_part field order k j h in let n = turn-length in let e = end in omega arith

  pub turn-bytes : {out' : List ℕ} → out' ≡ sets out at (field (get_or order j 0)) → out' ≡ sets l from (fields_in field order (j + 1))
  turn-bytes put = put_two l from (fields_in field order j) (field (get_or order j 0)) done put end ∙ ap (sets l from) (sym (fields_more field order j))

  pub turn_end : {at' : ℕ} → at' ≡ at + length (field (get_or order j 0)) → at' ≡ from + length (fields_in field order (j + 1))
  turn_end e = let a = ap length (fields_more field order j) in let b = length-append (fields_in field order j) (field (get_or order j 0)) in let c = end in omega arith

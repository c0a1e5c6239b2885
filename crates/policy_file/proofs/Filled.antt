-- The fields written one after another are the file; what its length answers. Assumes nothing.
use mathlib.Core.Path.{◌≡◌, refl, sym, ap, ◌∙◌, subst}
use mathlib.Core.List.{List, ◌++◌}
use Prim.Native.Nat.{ℕ, ◌+◌, ◌*◌, ◌≤◌, ◌<◌}
use native.Mathlib.Omega.{arith}
use lib.Dec.{ltb}
use lib.ListN.{length, get_or, drop, length-append}
use lib.Seq.{sets, sets-eq}
use borrow.Author.Tests.{eq-eqb, ne_eqb}
use Rattle.laws.specs.Refusals.{Check, first}
use Rattle.laws.proofs.Refusals.{first-is, none, hit_lt, miss_le}
use Rattle.access.specs.Errno.{E2BIG, ENOSPC}
use Rattle.access.specs.Limits.{max_rules}
use Rattle.access.specs.declared.errno.Reply.{Reply}
use Rattle.access.specs.declared.errno.Reply.TheVariants.{Done, Refused}
use Rattle.tables.specs.Tables.{path_rule, port_rule}
use Rattle.tables.specs.Layers.{ruleset_at, ruleset_fs, ruleset_net, ruleset_scope}
use Rattle.sound_rules.specs.Rules.{rule_count}
use Rattle.names.specs.Paths.{max_path, path_of}
use Rattle.policy.specs.Fields.{bytes_of, header, ruleset_tag, masks_tag}
use Rattle.policy.specs.Files.{masks_size}
use Rattle.policy.specs.Grammar.{port_size}
use Rattle.policy.specs.Find.{max_file}
use Rattle.policy_order.specs.Insert.{Ordered}
use Rattle.policy_write.specs.Order.{earlier}
use Rattle.policy_write.specs.Chosen.{chosen_path}
use Rattle.policy_write.specs.Written.{field_bytes, masks_bytes}
use Rattle.policy_write.specs.File.{by_path, policy_file, written_over, write_room}
use Rattle.policy_write.proofs.Bytes.{length-masks}
use Rattle.policy_size.specs.Fields.{path_field, port_field, fields_in, path_size, sum_in, Short}
use Rattle.policy_size.proofs.Whole.{file_fields, file-length}
use Rattle.policy_fill.proofs.Parts.{put_two}
use Rattle.policy_file.specs.Writing.{write_reply, write_left, Chosen, Laid}

-- ---- the reply and the output
module _ (cs : List Check) (file : List ℕ) {e : ℕ} (q : e ≡ first cs) where
  pub refuses : (e ≡ 0 → ⊥) → Refused (record { 0 = e }) ≡ write_reply cs file
  unfolding write_reply
  refuses n = rw (← q, ne_eqb e 0 n) refl

  pub refuses_left : (out : List ℕ) → (e ≡ 0 → ⊥) → out ≡ write_left cs file out
  unfolding write_left
  refuses_left out n = rw (← q, ne_eqb e 0 n) refl

  pub writes : e ≡ 0 → Done (length file) ≡ write_reply cs file
  unfolding write_reply
  writes z = rw (← q, eq-eqb e 0 z) refl

  pub writes_left : (out : List ℕ) → e ≡ 0 → written_over file out ≡ write_left cs file out
  unfolding write_left
  writes_left out z = rw (← q, eq-eqb e 0 z) refl

-- what the length of the file answers
module _ (file out : List ℕ) where
  pub too_big : max_file < length file → E2BIG ≡ first (write_room (length file) (length out))
  unfolding write_room
  too_big h = first-is (hit_lt h)

  pub no_room : length file ≤ max_file → length out < length file → ENOSPC ≡ first (write_room (length file) (length out))
  unfolding write_room
  no_room h g = first-is (miss_le h (hit_lt g))

  pub has_room : length file ≤ max_file → length file ≤ length out → 0 ≡ first (write_room (length file) (length out))
  unfolding write_room
  has_room h g = first-is (miss_le h (miss_le g none))

-- the masks that the ruleset asks for
pub own-masks : (rs : List ℕ) (r : ℕ) {f n s : ℕ} → f ≡ ruleset_fs rs r → n ≡ ruleset_net rs r → s ≡ ruleset_scope rs r → bytes_of 8 f ++ (bytes_of 8 n ++ bytes_of 8 s) ≡ masks_bytes (ruleset_at rs r)
unfolding masks_bytes ruleset_at
own-masks rs r {f} {n} {s} a b c =
    ap (λ (x : ℕ). bytes_of 8 x ++ (bytes_of 8 n ++ bytes_of 8 s)) a ∙ ap (λ (x : ℕ). bytes_of 8 (ruleset_fs rs r) ++ (bytes_of 8 x ++ bytes_of 8 s)) b
    ∙ ap (λ (x : ℕ). bytes_of 8 (ruleset_fs rs r) ++ (bytes_of 8 (ruleset_net rs r) ++ bytes_of 8 x)) c

pub laid : {es ns rules paths ports : List ℕ} {m k : ℕ} → Ordered earlier (by_path (chosen_path es ns)) path_rule rules paths m (rule_count rules) → Ordered ltb (λ x. x) port_rule rules ports k (rule_count rules)
    → max_rules ≤ length paths → max_rules ≤ length ports → Laid es ns rules paths m ports k
laid a b c d = record { by_path_lem = a; by_port = b; paths_room = c; ports-room_lem = d }

module _ (es rs ns : List ℕ) (r : ℕ) (name rules picks : List ℕ) (C : Chosen es rs ns r name rules picks) (paths : List ℕ) (m : ℕ) (ports : List ℕ) (k : ℕ) (D : Laid es ns rules paths m ports k) where
  pub laid_short : Short es ns picks paths m
  unfolding chosen_path
  laid_short =
      let a = D.by_path_lem.few in
      let b = C.few in
      let c = D.paths_room in
      let d = C.picked.room in
      record {
        few = omega arith;
        room = omega arith;
        known = λ j h. let n = (D.by_path_lem.numbers j h).0 in omega arith;
        short = λ j h. let n = D.by_path_lem.numbers j h in subst (λ (e : ℕ). length (path_of es ns e) ≤ max_path) (sym (C.picked.entry (get_or paths j 0) n.0 n.1)) (C.short (get_or paths j 0) n.0 n.1);
      }

  pub ports-few : k ≤ max_rules
  ports-few = let a = D.by_port.few in let b = C.few in omega arith

  pub ports_fit : k ≤ length ports
  ports_fit = let a = ports-few in let b = D.ports-room_lem in omega arith

  pub is-long : length (policy_file es rs ns r name) ≡ header + length name + (header + masks_size + (sum_in (path_size es ns picks) paths m + (header + port_size) * k))
  is-long = file-length es ns rules picks paths ports m k C.picked D.by_path_lem D.by_port laid_short.room ports_fit rs r name C.own

  abbrev pub Paths : List ℕ
  Paths = fields_in (path_field es ns rules picks) paths m

  abbrev pub Ports : List ℕ
  Ports = fields_in (port_field rules) ports k

  abbrev pub Masks : List ℕ
  Masks = masks_bytes (ruleset_at rs r)

  -- how long its parts are
  pub parts_long : header + length name + (header + masks_size + (length Paths + length Ports)) ≡ length (policy_file es rs ns r name)
  unfolding field_bytes
  parts_long =
      let a = ap length (file_fields es ns rules picks paths ports m k C.picked D.by_path_lem D.by_port laid_short.room ports_fit rs r name C.own) in
      let b = length-append (field_bytes ruleset_tag name) (field_bytes masks_tag Masks ++ (Paths ++ Ports)) in
      let c = length-append (field_bytes masks_tag Masks) (Paths ++ Ports) in
      let d = length-append Paths Ports in
      let e = length-masks (ruleset_at rs r) in
      omega arith

  -- there is room for them
  pub paths_fit : {x y L K J : ℕ} → L ≡ K → K ≡ J → length (policy_file es rs ns r name) ≤ J → x ≡ header + length name → y ≡ x + (header + masks_size) → y + length Paths ≤ L
  paths_fit a b room u v = let n = parts_long in omega arith

  pub last_fit : {x y z L K J I : ℕ} → L ≡ K → K ≡ J → J ≡ I → length (policy_file es rs ns r name) ≤ I → x ≡ header + length name → y ≡ x + (header + masks_size) → z ≡ y + length Paths → z + length Ports ≤ L
  last_fit a b c room u v w = let n = parts_long in omega arith

  -- its parts, written one after another
  pub filled : (out : List ℕ) → length (policy_file es rs ns r name) ≤ length out → {masks o p q s : List ℕ} {a b c : ℕ} → masks ≡ Masks → o ≡ sets out 0 (field_bytes ruleset_tag name) → a ≡ header + length name
      → p ≡ sets o a (field_bytes masks_tag masks) → b ≡ a + (header + masks_size) → q ≡ sets p b Paths → c ≡ b + length Paths → s ≡ sets q c Ports → s ≡ written_over (policy_file es rs ns r name) out
  unfolding field_bytes written_over
  filled out room {masks} {o} {p} {q} {s} {a} {b} {c} own u x v y w z t =
      let n = length-masks (ruleset_at rs r) in
      let A = field_bytes ruleset_tag name in
      let B = field_bytes masks_tag Masks in
      let F = policy_file es rs ns r name in
      let pq = put_two p b Paths Ports w t z in
      let bpq = put_two o a B (Paths ++ Ports) (v ∙ ap (λ (m' : List ℕ). sets o a (field_bytes masks_tag m')) own) pq (omega arith) in
      let all = put_two out 0 A (B ++ (Paths ++ Ports)) u bpq (omega arith) in
      all ∙ ap (sets out 0) (sym (file_fields es ns rules picks paths ports m k C.picked D.by_path_lem D.by_port laid_short.room ports_fit rs r name C.own)) ∙ sets-eq F out 0 (omega arith)
      ∙ ap (λ (i : ℕ). F ++ drop i out) (let z : 0 + length F ≡ length F = omega arith in z)

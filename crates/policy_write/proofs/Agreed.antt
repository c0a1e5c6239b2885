-- Two rulesets give equal bytes under one name exactly if they agree in masks and rights. Assumes nothing.
use mathlib.Core.Path.{◌≡◌, refl, sym, ap, ◌∙◌, subst}
use mathlib.Core.Bool.{true}
use mathlib.Core.List.{List, [], ◌∷◌, ◌++◌, map}
use mathlib.Core.Logic.{◌⊎◌, inl, inr, ◌↔◌}
use Prim.Native.Nat.{ℕ, ◌^◌, ◌≤◌, ◌<◌}
use native.Mathlib.Omega.{arith}
use lib.Dec.{ltb}
use lib.ListN.{length, length-map}
use Rattle.laws.proofs.Bools.{either}
use Rattle.access.specs.Limits.{max_rules, max_port}
use Rattle.tables.specs.Tables.{path_rule, port_rule}
use Rattle.tables.specs.Layers.{Layer}
use Rattle.sound_rules.specs.Rules.{rule_count}
use Rattle.judge.specs.Rules.{rights_on}
use Rattle.names.specs.Paths.{max_path}
use Rattle.policy.specs.Files.{max_ruleset_name}
use Rattle.policy.specs.Meaning.{Rule, path, port}
use Rattle.policy_write.specs.Order.{Keyed, all, earlier, rising}
use Rattle.policy_write.specs.Written.{masks_bytes, written}
use Rattle.policy_write.specs.File.{keyed, by_path, on_path, on_port, path_rules, port_rules, file_rules}
use Rattle.policy_write.specs.Agree.{Agree}
use Rattle.policy_write.proofs.Lists.{In, in_map, of_map, of_append}
use Rattle.policy_write.proofs.Strict.{numbers, bytewise}
use Rattle.policy_write.proofs.Rising.{Distinct, SameItems, rising-same, rising_items}
use Rattle.policy_write.proofs.Keys.{Keys, keyed-few, keyed-apart, items_of_rights, rights_of_items}
use Rattle.policy_write.proofs.Bytes.{MasksFit, Fits, FitAll}
use Rattle.policy_write.proofs.Reading.{same-rules, same-fs, same-net, same-scope}

-- ---- the path rules and the port rules of a file
paths_of : List Rule → List (Keyed (List ℕ))
paths_of [] = []
paths_of (path r p ∷ qs) = record { key = p; rights = r } ∷ paths_of qs
paths_of (port r n ∷ qs) = paths_of qs

ports_of : List Rule → List (Keyed ℕ)
ports_of [] = []
ports_of (path r p ∷ qs) = ports_of qs
ports_of (port r n ∷ qs) = record { key = n; rights = r } ∷ ports_of qs

no_paths : (xs : List (Keyed ℕ)) → paths_of (map on_port xs) ≡ []
unfolding paths_of on_port
no_paths [] = refl
no_paths (x ∷ xs) = no_paths xs

paths_back : (xs : List (Keyed (List ℕ))) (ys : List (Keyed ℕ)) → paths_of (map on_path xs ++ map on_port ys) ≡ xs
unfolding paths_of on_path
paths_back [] ys = no_paths ys
paths_back (x ∷ xs) ys = ap (λ (l : List (Keyed (List ℕ))). x ∷ l) (paths_back xs ys)

all-ports : (xs : List (Keyed ℕ)) → ports_of (map on_port xs) ≡ xs
unfolding ports_of on_port
all-ports [] = refl
all-ports (x ∷ xs) = ap (λ (l : List (Keyed ℕ)). x ∷ l) (all-ports xs)

ports_back : (xs : List (Keyed (List ℕ))) (ys : List (Keyed ℕ)) → ports_of (map on_path xs ++ map on_port ys) ≡ ys
unfolding ports_of on_path
ports_back [] ys = all-ports ys
ports_back (x ∷ xs) ys = ports_back xs ys

fit_all : (qs : List Rule) → ((q : Rule) → In q qs → Fits q) → FitAll qs
unfolding FitAll In
fit_all [] h = tt
fit_all (q ∷ qs) h = (h q (inl refl), fit_all qs (λ p m. h p (inr m)))

same_bytes : (name : List ℕ) (L M : Layer) → Agree L M → (qs : List Rule) → written name L qs ≡ written name M qs
unfolding written masks_bytes
same_bytes name L M A qs = rw (A.fs, A.net, A.scope)

-- ---- objects with paths, no two with the same
module _ (paths : ℕ → List ℕ) (Has : ℕ → Type 0) (inj : (a b : ℕ) → Has a → Has b → paths a ≡ paths b → a ≡ b) where
  -- what sound tables and the refusals of a write give: few rules with distinct keys that grant something, numbers in range, and for each object a path that is
  -- not over-long
  pub record Writable (L : Layer) : Type 0 where
    pub masks : MasksFit L
    pub few : rule_count L.rules ≤ max_rules
    pub keys : Keys L.rules
    pub paths_grant : (x : Keyed ℕ) → In x (keyed path_rule L.rules) → x.rights < 2 ^ 64
    pub ports_grant : (x : Keyed ℕ) → In x (keyed port_rule L.rules) → x.rights < 2 ^ 64
    pub port-fits : (x : Keyed ℕ) → In x (keyed port_rule L.rules) → x.key ≤ max_port
    pub path-fits : (x : Keyed ℕ) → In x (keyed path_rule L.rules) → length (paths x.key) ≤ max_path
    pub has : (x : Keyed ℕ) → In x (keyed path_rule L.rules) → Has x.key

  module _ (L : Layer) (W : Writable L) where
    abbrev objects : List (Keyed ℕ)
    objects = keyed path_rule L.rules

    abbrev by_paths : List (Keyed (List ℕ))
    by_paths = map (by_path paths) objects

    paths_apart : Distinct earlier bytewise by_paths
    unfolding by_path
    paths_apart x y m k e =
        let a = of_map (by_path paths) objects x m in
        let b = of_map (by_path paths) objects y k in
        let q : paths a.0.key ≡ paths b.0.key = sym (ap (λ (w : Keyed (List ℕ)). w.key) a.2) ∙ e ∙ ap (λ (w : Keyed (List ℕ)). w.key) b.2 in
        let o : a.0 ≡ b.0 = keyed-apart path_rule L.rules W.keys a.0 b.0 a.1 b.1 (inj a.0.key b.0.key (W.has a.0 a.1) (W.has b.0 b.1) q) in
        a.2 ∙ ap (by_path paths) o ∙ sym b.2

    -- the file has each of them, and no other
    pub path_items : SameItems earlier bytewise (path_rules paths L.rules) by_paths
    unfolding path_rules
    path_items = rising_items earlier bytewise by_paths max_rules paths_apart (let f = keyed-few path_rule L.rules in let g = W.few in rw length-map (omega arith))

    pub port_items : SameItems ltb numbers (port_rules L.rules) (keyed port_rule L.rules)
    unfolding port_rules
    port_items = rising_items ltb numbers (keyed port_rule L.rules) max_rules (keyed-apart port_rule L.rules W.keys) (let f = keyed-few port_rule L.rules in let g = W.few in omega arith)

    pub rules_fit : FitAll (file_rules paths L.rules)
    unfolding file_rules Fits on_path on_port by_path
    rules_fit =
        fit_all _
        (λ q m. either (of_append (map on_path (path_rules paths L.rules)) (map on_port (port_rules L.rules)) q m)
        (λ a.
        let x = of_map on_path (path_rules paths L.rules) q a in
        let y = of_map (by_path paths) objects x.0 ((path_items x.0).0 x.1) in
        let e : q ≡ on_path (by_path paths y.0) = x.2 ∙ ap on_path y.2 in
        subst Fits (sym e) (W.paths_grant y.0 y.1, W.path-fits y.0 y.1))
        (λ b.
        let x = of_map on_port (port_rules L.rules) q b in
        let k : In x.0 (keyed port_rule L.rules) = (port_items x.0).0 x.1 in
        subst Fits (sym x.2) (W.ports_grant x.0 k, W.port-fits x.0 k)))

  -- ---- two of them
  module _ (L M : Layer) (W : Writable L) (X : Writable M) where
    across : path_rules paths L.rules ≡ path_rules paths M.rules → (x : Keyed ℕ) → In x (keyed path_rule L.rules) → In x (keyed path_rule M.rules)
    unfolding by_path
    across a x m =
        let u : In (by_path paths x) (path_rules paths L.rules) = (path_items L W (by_path paths x)).1 (in_map (by_path paths) (objects L W) x m) in
        let v : In (by_path paths x) (by_paths M X) = (path_items M X (by_path paths x)).0 (subst (λ l. In (by_path paths x) l) a u) in
        let y = of_map (by_path paths) (objects M X) (by_path paths x) v in
        let k : x.key ≡ y.0.key = inj x.key y.0.key (W.has x m) (X.has y.0 y.1) (ap (λ (w : Keyed (List ℕ)). w.key) y.2) in
        let r : x.rights ≡ y.0.rights = ap (λ (w : Keyed (List ℕ)). w.rights) y.2 in
        let e : y.0 ≡ x = λ i. record { key = sym k i; rights = sym r i } in
        subst (λ z. In z (keyed path_rule M.rules)) e y.1

    ports_across : port_rules L.rules ≡ port_rules M.rules → (x : Keyed ℕ) → In x (keyed port_rule L.rules) → In x (keyed port_rule M.rules)
    ports_across b x m = (port_items M X x).0 (subst (λ l. In x l) b ((port_items L W x).1 m))

    to_paths : ((k : ℕ) → rights_on L.rules path_rule k ≡ rights_on M.rules path_rule k) → (x : Keyed (List ℕ)) → In x (by_paths L W) → In x (by_paths M X)
    to_paths h x m =
        let y = of_map (by_path paths) (objects L W) x m in
        subst (λ z. In z (by_paths M X)) (sym y.2) (in_map (by_path paths) (objects M X) y.0 (items_of_rights path_rule L.rules M.rules W.keys X.keys h y.0 y.1))

  module _ (L M : Layer) (W : Writable L) (X : Writable M) (name : List ℕ) (some : 1 ≤ length name) (short : length name ≤ max_ruleset_name) where
    abbrev file : Layer → List ℕ
    file D = written name D (file_rules paths D.rules)

    pub equal_agree : file L ≡ file M → Agree L M
    unfolding file_rules
    equal_agree e =
        let qs = file_rules paths L.rules in
        let ps = file_rules paths M.rules in
        let s : qs ≡ ps = same-rules name L M qs ps some short (rules_fit L W) (rules_fit M X) e in
        let a : path_rules paths L.rules ≡ path_rules paths M.rules = sym (paths_back (path_rules paths L.rules) (port_rules L.rules)) ∙ ap paths_of s ∙ paths_back (path_rules paths M.rules) (port_rules M.rules) in
        let b : port_rules L.rules ≡ port_rules M.rules = sym (ports_back (path_rules paths L.rules) (port_rules L.rules)) ∙ ap ports_of s ∙ ports_back (path_rules paths M.rules) (port_rules M.rules) in
        record {
          fs = same-fs name L M qs ps some short (rules_fit L W) (rules_fit M X) W.masks X.masks e;
          net = same-net name L M qs ps some short (rules_fit L W) (rules_fit M X) W.masks X.masks e;
          scope = same-scope name L M qs ps some short (rules_fit L W) (rules_fit M X) W.masks X.masks e;
          objects = rights_of_items path_rule L.rules M.rules W.keys X.keys (λ x. (across L M W X a x, across M L X W (sym a) x));
          ports = rights_of_items port_rule L.rules M.rules W.keys X.keys (λ x. (ports_across L M W X b x, ports_across M L X W (sym b) x));
        }

    pub agree_equal : Agree L M → file L ≡ file M
    unfolding file_rules path_rules port_rules written
    agree_equal A =
        let objects-same : SameItems earlier bytewise (by_paths L W) (by_paths M X) = λ x. (to_paths L M W X A.objects x, to_paths M L X W (λ k. sym (A.objects k)) x) in
        let ports-same : SameItems ltb numbers (keyed port_rule L.rules) (keyed port_rule M.rules) = λ x. (
          items_of_rights port_rule L.rules M.rules W.keys X.keys A.ports x,
          items_of_rights port_rule M.rules L.rules X.keys W.keys (λ k. sym (A.ports k)) x,
        ) in
        let a : path_rules paths L.rules ≡ path_rules paths M.rules = rising-same earlier bytewise (by_paths L W) (by_paths M X) (paths_apart L W) objects-same max_rules all in
        let b : port_rules L.rules ≡ port_rules M.rules = rising-same ltb numbers (keyed port_rule L.rules) (keyed port_rule M.rules) (keyed-apart port_rule L.rules W.keys) ports-same max_rules all in
        same_bytes name L M A (map on_path (path_rules paths L.rules) ++ map on_port (port_rules L.rules)) ∙ λ i. written name M (map on_path (a i) ++ map on_port (b i))

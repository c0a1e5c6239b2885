-- A ruleset's file, applied to the tables it was written from, gives a ruleset that agrees with it. Assumes nothing.
use mathlib.Core.Path.{◌≡◌, refl, sym, ap, ◌∙◌, subst}
use mathlib.Core.Bool.{Bool, true, false}
use mathlib.Core.List.{List, [], ◌∷◌, ◌++◌, map}
use mathlib.Core.Logic.{◌⊎◌, inl, inr, ◌↔◌}
use Prim.Native.Nat.{ℕ, ◌+◌, ◌≤◌, ◌<◌}
use native.Mathlib.Omega.{arith}
use lib.Dec.{ltb}
use lib.ListN.{length, length-append, length-map}
use Rattle.laws.proofs.Bools.{clash, both, either}
use Rattle.access.specs.Limits.{max_rules, max_rulesets}
use Rattle.access.specs.declared.errno.Reply.{Reply}
use Rattle.access.specs.declared.errno.Reply.TheVariants.{Done, Refused, Denied}
use Rattle.tables.specs.Tables.{object, level, path_rule, port_rule}
use Rattle.tables.specs.Layers.{Layer, ruleset_at, is_open}
use Rattle.ruleset.specs.Create.{free_ruleset}
use Rattle.names.specs.Paths.{found}
use Rattle.policy.specs.Meaning.{Rule}
use Rattle.policy_write.specs.Order.{Keyed, earlier, all, rising}
use Rattle.policy_write.specs.Chosen.{chosen, chosen_path}
use Rattle.policy_write.specs.Written.{written}
use Rattle.policy_write.specs.File.{keyed, by_path, on_path, on_port, path_rules, port_rules, file_rules, policy_file}
use Rattle.policy_write.specs.Agree.{Agree}
use Rattle.policy_write.proofs.Lists.{In, in_map, of_map, of_append, in_left, in_right}
use Rattle.policy_write.proofs.Strict.{Strict, numbers, bytewise}
use Rattle.policy_write.proofs.Rising.{Rises, rises-past, up_lt, rising-rises, rising-few}
use Rattle.policy_write.proofs.Keys.{Keys, keyed-apart, both_few, rights_of_items}
use Rattle.policy_write.proofs.Agreed.{Writable, path_items, port_items, rules_fit}
use Rattle.policy_write.proofs.Chosen.{chosen_live, chosen-object}
use Rattle.named.specs.Named.{Named, named_sound, NamedOutcome}
use Rattle.named.proofs.Made.{core-sound, names-sound}
use Rattle.named.specs.Policy.{applied}
use Rattle.policy_written.proofs.Filled.{Raw, New, Filled, filled_in, filled_of}
use Rattle.policy_written.proofs.Adds.{Fresh, PathFits, PortFits, Fitting, AllFit}
use Rattle.policy_written.proofs.Sound.{Has, one_object, path_leads, L, Goes, writable, allowed, in_file_set, masks_fit, level_knows, has-masks, few-rules, keys, path-rule, port-rule}
use Rattle.policy_written.proofs.Applied.{made, Made, applied-done, applied-has}

-- ---- rules with keys of their own
unfoldable Unlike : List Raw → Type 0
Unlike [] = Unit {0}
Unlike (q ∷ qs) = New qs q.sort q.key × Unlike qs

abbrev Apart : List Raw → List Raw → Type 0
Apart L qs = (p q : Raw) → In p L → In q qs → p.sort ≡ q.sort → p.key ≡ q.key → ⊥

fresh_of : (L qs : List Raw) → Apart L qs → Unlike qs → Fresh L qs
unfolding Fresh Unlike In
fresh_of L [] a u = tt
fresh_of L (q ∷ qs) a u = (
  (λ p m s k. a p q m (inl refl) s k),
  fresh_of (L ++ q ∷ []) qs
      (λ p w m n s k. either (of_append L (q ∷ []) p m)
      (λ i. a p w i (inr n) s k)
      (λ i. either i (λ e. u.0 w n (sym s ∙ ap (λ (x : Raw). x.sort) e) (sym k ∙ ap (λ (x : Raw). x.key) e)) (λ f. f)))
      u.1,
)

unlike-join : (L qs : List Raw) → Apart L qs → Unlike L → Unlike qs → Unlike (L ++ qs)
unfolding Unlike In
unlike-join [] qs a u v = v
unlike-join (p ∷ L) qs a u v = (
  (λ q m s k. either (of_append L qs q m) (λ i. u.0 q i s k) (λ i. a p q (inl refl) i (sym s) (sym k))),
  unlike-join L qs (λ w q m. a w q (inr m)) u.1 v,
)

-- items by rising keys, one rule for each
module _ {K : Type 0} (lt : K → K → Bool) (X : Strict lt) (raw : Keyed K → Raw) where
  unlike-rising : (past : K → Bool) (l : List (Keyed K)) → Rises lt X past l
      → ((x y : Keyed K) → In x l → In y l → (raw x).key ≡ (raw y).key → x.key ≡ y.key) → Unlike (map raw l)
  unfolding Rises Unlike In
  unlike-rising past [] r f = tt
  unlike-rising past (x ∷ l) r f = (
    (λ q m s k.
        let y = of_map raw l q m in
        let e : y.0.key ≡ x.key = f y.0 x (inr y.1) (inl refl) (sym (ap (λ (w : Raw). w.key) y.2) ∙ k) in
        clash (lt x.key y.0.key) (rises-past lt X (lt x.key) l (up_lt lt X x.key) r.1 y.0 y.1) (ap (lt x.key) e ∙ X.irrefl x.key)),
    unlike-rising (lt x.key) l r.1 (λ a b m n. f a b (inr m) (inr n)),
  )

-- the entry of a reply
abbrev entry_in : Reply → ℕ
entry_in (Done e) = e
entry_in (Refused e) = 0
entry_in (Denied e l s) = 0

module _ (N : Named) (h : named_sound N ≡ true) (r : ℕ) (name out : List ℕ) (G : Goes N h r name out) (free : free_ruleset N.core.rulesets < max_rulesets) where
  abbrev es : List ℕ
  es = N.core.entries

  abbrev ns : List ℕ
  ns = N.names

  abbrev W : Writable (chosen_path es ns) (Has N h) (one_object N h) (L N h r)
  W = writable N h r name out G

  abbrev D : Layer
  D = L N h r

  abbrev objects : List (Keyed ℕ)
  objects = keyed path_rule D.rules

  abbrev on_paths : List (Keyed (List ℕ))
  on_paths = path_rules (chosen_path es ns) D.rules

  abbrev on_ports : List (Keyed ℕ)
  on_ports = port_rules D.rules

  -- ---- the rules that are added
  abbrev object_at : List ℕ → ℕ
  object_at p = object es (entry_in (found es ns p))

  abbrev raw_path : Keyed (List ℕ) → Raw
  raw_path x = record { sort = path_rule; key = object_at x.key; rights = x.rights }

  abbrev raw_port : Keyed ℕ → Raw
  raw_port x = record { sort = port_rule; key = x.key; rights = x.rights }

  abbrev raws : List Raw
  raws = map raw_path on_paths ++ map raw_port on_ports

  object_back : (o : ℕ) → Has N h o → object_at (chosen_path es ns o) ≡ o
  object_back o k = ap (λ (a : Reply). object es (entry_in a)) (path_leads N h o k) ∙ chosen-object es o ns k

  -- each path rule is that of an object
  of_object : (x : Keyed (List ℕ)) → In x on_paths → (y : Keyed ℕ) × In y objects × (x ≡ by_path (chosen_path es ns) y)
  of_object x m = of_map (by_path (chosen_path es ns)) objects x ((path_items (chosen_path es ns) (Has N h) (one_object N h) D W x).0 m)

  path_raw : (y : Keyed ℕ) → In y objects → raw_path (by_path (chosen_path es ns) y) ≡ record { sort = path_rule; key = y.key; rights = y.rights }
  unfolding by_path
  path_raw y m = ap (λ (o : ℕ). record { sort = path_rule; key = o; rights = y.rights }) (object_back y.key (G.has y m))

  port_in : (x : Keyed ℕ) → In x on_ports → In x (keyed port_rule D.rules)
  port_in x m = (port_items (chosen_path es ns) (Has N h) (one_object N h) D W x).0 m

  -- ---- they fit
  abbrev Fit : Rule → Raw → Type 0
  Fit c q = Fitting N (names-sound N h) G.working (free_ruleset N.core.rulesets) D.fs D.net D.scope (has-masks N h r G.is_open_lem) c q

  abbrev FitLists : List Rule → List Raw → Type 0
  FitLists cs qs = AllFit N (names-sound N h) G.working (free_ruleset N.core.rulesets) D.fs D.net D.scope (has-masks N h r G.is_open_lem) cs qs

  object-fits : (y : Keyed ℕ) → In y objects → Fit (on_path (by_path (chosen_path es ns) y)) (raw_path (by_path (chosen_path es ns) y))
  unfolding Fitting on_path by_path chosen_path
  object-fits y m =
      let k = G.has y m in
      let P = path-rule N h r G.is_open_lem y m in
      record {
        sort = refl;
        grants = refl;
        some = P.some;
        asked = P.asked;
        entry = chosen es ns y.key;
        is-path = refl;
        short = G.short-path y m;
        alive = chosen_live es y.key ns k;
        of = chosen-object es y.key ns k ∙ sym (object_back y.key k);
        allowed = allowed N h r name out G y m;
        in_set = in_file_set N h r name out G y m;
      }

  path-fits : (x : Keyed (List ℕ)) → In x on_paths → Fit (on_path x) (raw_path x)
  path-fits x m = let y = of_object x m in subst (λ (w : Keyed (List ℕ)). Fit (on_path w) (raw_path w)) (sym y.2) (object-fits y.0 y.1)

  port-fits : (x : Keyed ℕ) → In x on_ports → Fit (on_port x) (raw_port x)
  unfolding Fitting on_port
  port-fits x m = let P = port-rule N h r G.is_open_lem x (port_in x m) in record { sort = refl; grants = refl; some = P.some; asked = P.asked; of = refl; in_range_lem = P.in_range_lem }

  fit_map : {A : Type 0} (f : A → Rule) (g : A → Raw) (xs : List A) → ((x : A) → In x xs → Fit (f x) (g x)) → FitLists (map f xs) (map g xs)
  unfolding AllFit In
  fit_map f g [] k = tt
  fit_map f g (x ∷ xs) k = (k x (inl refl), fit_map f g xs (λ y m. k y (inr m)))

  fit_join : (cs ds : List Rule) (qs ps : List Raw) → FitLists cs qs → FitLists ds ps → FitLists (cs ++ ds) (qs ++ ps)
  unfolding AllFit
  fit_join [] ds [] ps a b = b
  fit_join [] ds (q ∷ qs) ps a b = absurd a
  fit_join (c ∷ cs) ds [] ps a b = absurd a
  fit_join (c ∷ cs) ds (q ∷ qs) ps a b = (a.0, fit_join cs ds qs ps a.1 b)

  all_fit : FitLists (file_rules (chosen_path es ns) D.rules) raws
  unfolding file_rules
  all_fit = fit_join (map on_path on_paths) (map on_port on_ports) (map raw_path on_paths) (map raw_port on_ports) (fit_map on_path raw_path on_paths path-fits) (fit_map on_port raw_port on_ports port-fits)

  -- ---- each has a key of its own
  paths_unlike : Unlike (map raw_path on_paths)
  unfolding path_rules by_path
  paths_unlike =
      unlike-rising earlier bytewise raw_path all on_paths (rising-rises earlier bytewise (map (by_path (chosen_path es ns)) objects) max_rules all)
      (λ x y m n e.
      let a = of_object x m in
      let b = of_object y n in
      let p : object_at x.key ≡ a.0.key = ap (λ (w : Keyed (List ℕ)). object_at w.key) a.2 ∙ object_back a.0.key (G.has a.0 a.1) in
      let q : object_at y.key ≡ b.0.key = ap (λ (w : Keyed (List ℕ)). object_at w.key) b.2 ∙ object_back b.0.key (G.has b.0 b.1) in
      let o : a.0 ≡ b.0 = keyed-apart path_rule D.rules W.keys a.0 b.0 a.1 b.1 (sym p ∙ e ∙ q) in
      ap (λ (w : Keyed (List ℕ)). w.key) (a.2 ∙ ap (by_path (chosen_path es ns)) o ∙ sym b.2))

  ports-unlike : Unlike (map raw_port on_ports)
  unfolding port_rules
  ports-unlike = unlike-rising ltb numbers raw_port all on_ports (rising-rises ltb numbers (keyed port_rule D.rules) max_rules all) (λ x y m n e. e)

  types_apart : Apart (map raw_path on_paths) (map raw_port on_ports)
  types_apart p q m n s k =
      let x = of_map raw_path on_paths p m in
      let y = of_map raw_port on_ports q n in
      let e : path_rule ≡ port_rule = sym (ap (λ (w : Raw). w.sort) x.2) ∙ s ∙ ap (λ (w : Raw). w.sort) y.2 in
      omega arith

  all-fresh : Fresh [] raws
  unfolding In
  all-fresh = fresh_of [] raws (λ p q m. absurd m) (unlike-join (map raw_path on_paths) (map raw_port on_ports) types_apart paths_unlike ports-unlike)

  few : length raws ≤ max_rules
  unfolding path_rules port_rules
  few =
      let a = length-append (map raw_path on_paths) (map raw_port on_ports) in
      let b = length-map on_paths raw_path in
      let c = length-map on_ports raw_port in
      let d = rising-few earlier bytewise (map (by_path (chosen_path es ns)) objects) max_rules in
      let e = length-map objects (by_path (chosen_path es ns)) in
      let f = rising-few ltb numbers (keyed port_rule D.rules) max_rules in
      let g = both_few path_rule port_rule (λ z. omega arith) D.rules in
      let i = few-rules N h r G.is_open_lem in
      omega arith

  -- ---- applied
  abbrev file : List ℕ
  file = policy_file es N.core.rulesets ns r name

  abbrev new : ℕ
  new = free_ruleset N.core.rulesets

  abbrev left : Named
  left = (applied N file).left

  pub trip_done : (applied N file).reply ≡ Done new
  unfolding policy_file
  trip_done =
      applied-done N h G.working D (masks_fit N h r G.is_open_lem) (level_knows N h r G.is_open_lem) (has-masks N h r G.is_open_lem) free
      name (file_rules (chosen_path es ns) D.rules) raws G.some G.short (rules_fit (chosen_path es ns) (Has N h) (one_object N h) D W) all_fit all-fresh few

  has-made : Made N h G.working D (masks_fit N h r G.is_open_lem) (level_knows N h r G.is_open_lem) (has-masks N h r G.is_open_lem) free left raws
  unfolding policy_file
  has-made =
      applied-has N h G.working D (masks_fit N h r G.is_open_lem) (level_knows N h r G.is_open_lem) (has-masks N h r G.is_open_lem) free
      name (file_rules (chosen_path es ns) D.rules) raws G.some G.short (rules_fit (chosen_path es ns) (Has N h) (one_object N h) D W) all_fit all-fresh few

  -- ---- the same items
  abbrev E : Layer
  E = ruleset_at left.core.rulesets new

  abbrev F : Filled left.core.rulesets new raws
  F = has-made.filled

  to_new_path : (y : Keyed ℕ) → In y objects → In y (keyed path_rule E.rules)
  to_new_path y m =
      let x = by_path (chosen_path es ns) y in
      let i : In x on_paths = (path_items (chosen_path es ns) (Has N h) (one_object N h) D W x).1 (in_map (by_path (chosen_path es ns)) objects y m) in
      let k : In (raw_path x) raws = in_left (map raw_path on_paths) (map raw_port on_ports) (raw_path x) (in_map raw_path on_paths x i) in
      filled_in left.core.rulesets new raws F (record { sort = path_rule; key = y.key; rights = y.rights }) (subst (λ (q : Raw). In q raws) (path_raw y m) k)

  of_new_path : (y : Keyed ℕ) → In y (keyed path_rule E.rules) → In y objects
  of_new_path y m =
      let q : Raw = record { sort = path_rule; key = y.key; rights = y.rights } in
      either (of_append (map raw_path on_paths) (map raw_port on_ports) q (filled_of left.core.rulesets new raws F path_rule y m))
      (λ a.
      let x = of_map raw_path on_paths q a in
      let b = of_object x.0 x.1 in
      let e : q ≡ record { sort = path_rule; key = b.0.key; rights = b.0.rights } = x.2 ∙ ap raw_path b.2 ∙ path_raw b.0 b.1 in
      let w : b.0 ≡ y = sym (ap (λ (z : Raw). record { key = z.key; rights = z.rights }) e) in
      subst (λ (z : Keyed ℕ). In z objects) w b.1)
      (λ a.
      let x = of_map raw_port on_ports q a in
      let e : path_rule ≡ port_rule = ap (λ (z : Raw). z.sort) x.2 in
      absurd (omega arith))

  to_new_port : (y : Keyed ℕ) → In y (keyed port_rule D.rules) → In y (keyed port_rule E.rules)
  to_new_port y m =
      let i : In y on_ports = (port_items (chosen_path es ns) (Has N h) (one_object N h) D W y).1 m in
      filled_in left.core.rulesets new raws F (raw_port y) (in_right (map raw_path on_paths) (map raw_port on_ports) (raw_port y) (in_map raw_port on_ports y i))

  of_new_port : (y : Keyed ℕ) → In y (keyed port_rule E.rules) → In y (keyed port_rule D.rules)
  of_new_port y m =
      let q : Raw = raw_port y in
      either (of_append (map raw_path on_paths) (map raw_port on_ports) q (filled_of left.core.rulesets new raws F port_rule y m))
      (λ a.
      let x = of_map raw_path on_paths q a in
      let e : port_rule ≡ path_rule = ap (λ (z : Raw). z.sort) x.2 in
      absurd (omega arith))
      (λ a.
      let x = of_map raw_port on_ports q a in
      let w : x.0 ≡ y = sym (ap (λ (z : Raw). record { key = z.key; rights = z.rights }) x.2) in
      subst (λ (z : Keyed ℕ). In z (keyed port_rule D.rules)) w (port_in x.0 x.1))

  -- ---- so the same masks, and the same rights for each object and port
  new_open : is_open left.core.rulesets new ≡ true
  unfolding is_open
  new_open = rw (has-made.fs-is, has-made.net-is, has-made.scope-is) (has-masks N h r G.is_open_lem)

  new-sound : named_sound left ≡ true
  unfolding named_sound
  new-sound = both _ _ has-made.still (rw (has-made.same_entries, has-made.same_names) (names-sound N h))

  pub trip_agree : Agree D E
  unfolding ruleset_at
  trip_agree =
      let K = keys N h r G.is_open_lem in
      let J = keys left new-sound new new_open in
      record {
        fs = sym has-made.fs-is;
        net = sym has-made.net-is;
        scope = sym has-made.scope-is;
        objects = rights_of_items path_rule D.rules E.rules K J (λ y. (to_new_path y, of_new_path y));
        ports = rights_of_items port_rule D.rules E.rules K J (λ y. (to_new_port y, of_new_port y));
      }

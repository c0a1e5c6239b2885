-- The rules of a ruleset as keys with their rights. Assumes nothing.
use mathlib.Core.Path.{◌≡◌, refl, sym, ap, ◌∙◌, subst}
use mathlib.Core.Bool.{Bool, true, false, ◌&&◌}
use mathlib.Core.List.{List, [], ◌∷◌}
use mathlib.Core.Logic.{◌⊎◌, inl, inr, ◌↔◌}
use Prim.Native.Nat.{ℕ, zero, suc, ◌+◌, ◌*◌, ◌/◌, ◌≤◌, ◌<◌}
use native.Mathlib.Omega.{arith}
use lib.Dec.{eqb, leb, ltb}
use lib.ListN.{length}
use borrow.Author.Tests.{eqb-true, eqb-false, eq-eqb, ne_eqb, leb-true, leb-false, ltb-true, ltb-false}
use Rattle.laws.proofs.Bools.{split, clash, and_l, and_r, both, either}
use Rattle.laws.proofs.Tests.{none-at, first_passes, first_least}
use Rattle.laws.proofs.Cells.{past}
use Rattle.tables.specs.Tables.{rule_width, path_rule, rule_type, rule_key, rule_rights}
use Rattle.sound_rules.specs.Rules.{rule_count}
use Rattle.judge.specs.Rules.{is_rule, rule_place, rights_on}
use Rattle.policy_write.specs.Order.{Keyed}
use Rattle.policy_write.specs.File.{keyed_below, keyed, any_path}
use Rattle.policy_write.proofs.Lists.{In}

-- rules with distinct keys that grant something
pub record Keys (rules : List ℕ) : Type 0 where
  pub apart : (i j : ℕ) → i < rule_count rules → j < rule_count rules → rule_type rules i ≡ rule_type rules j → rule_key rules i ≡ rule_key rules j → i ≡ j
  pub grants : (i : ℕ) → i < rule_count rules → rule_rights rules i ≡ 0 → ⊥

-- rule i
abbrev pub item : List ℕ → ℕ → Keyed ℕ
item rules i = record { key = rule_key rules i; rights = rule_rights rules i }

module _ (ty : ℕ) (rules : List ℕ) where
  in_below : (n i : ℕ) → i < n → rule_type rules i ≡ ty → In (item rules i) (keyed_below ty rules n)
  unfolding keyed_below In
  in_below zero i h t = absurd (omega arith)
  in_below (suc n) i h t =
      split (leb n i)
      (λ q. let l = leb-true n i q in let e : i ≡ n = omega arith in rw (e, eq-eqb (rule_type rules n) ty (sym (ap (rule_type rules) e) ∙ t)) (inl refl))
      (λ q.
      let m = in_below n i (leb-false n i q) t in
      split (eqb (rule_type rules n) ty) (λ p. rw p (inr m)) (λ p. rw p m))

  pub keyed_in : (i : ℕ) → i < rule_count rules → rule_type rules i ≡ ty → In (item rules i) (keyed ty rules)
  keyed_in i h t = in_below (rule_count rules) i h t

  -- a rule of the type, by its number
  abbrev pub RuleOf : ℕ → Keyed ℕ → Type 0
  RuleOf n x = (i : ℕ) × (i < n) × (rule_type rules i ≡ ty) × (x ≡ item rules i)

  more : (n : ℕ) (x : Keyed ℕ) → RuleOf n x → RuleOf (suc n) x
  more n x r = let h = r.1 in (r.0, omega arith, r.2, r.3)

  pub of_below : (n : ℕ) (x : Keyed ℕ) → In x (keyed_below ty rules n) → RuleOf n x
  unfolding keyed_below In
  of_below zero x m = absurd m
  of_below (suc n) x m =
      split (eqb (rule_type rules n) ty)
      (λ p.
      let k : (x ≡ item rules n) ⊎ In x (keyed_below ty rules n) = rw p at m in
      either k (λ e. (n, omega arith, eqb-true (rule_type rules n) ty p, e)) (λ r. more n x (of_below n x r)))
      (λ p. let k : In x (keyed_below ty rules n) = rw p at m in more n x (of_below n x k))

  pub keyed_of : (x : Keyed ℕ) → In x (keyed ty rules) → RuleOf (rule_count rules) x
  keyed_of x m = of_below (rule_count rules) x m

  length-below : (n : ℕ) → length (keyed_below ty rules n) ≤ n
  unfolding keyed_below
  length-below zero = omega arith
  length-below (suc n) = let h = length-below n in split (eqb (rule_type rules n) ty) (λ p. rw p (omega arith)) (λ p. rw p (omega arith))

  pub keyed-few : length (keyed ty rules) ≤ rule_count rules
  keyed-few = length-below (rule_count rules)

  -- ---- the rights of a key
  is-rule : (k i : ℕ) → rule_type rules i ≡ ty → rule_key rules i ≡ k → is_rule rules ty k i ≡ true
  unfolding is_rule
  is-rule k i t e = both _ _ (eq-eqb (rule_key rules i) k e) (eq-eqb (rule_type rules i) ty t)

  rule_type_lem : (k i : ℕ) → is_rule rules ty k i ≡ true → rule_type rules i ≡ ty
  unfolding is_rule
  rule_type_lem k i h = eqb-true (rule_type rules i) ty (and_r (eqb (rule_key rules i) k) _ h)

  rule-key : (k i : ℕ) → is_rule rules ty k i ≡ true → rule_key rules i ≡ k
  unfolding is_rule
  rule-key k i h = eqb-true (rule_key rules i) k (and_l _ (eqb (rule_type rules i) ty) h)

  -- a key with rights has a rule
  pub rights-rule : (k : ℕ) → (rights_on rules ty k ≡ 0 → ⊥) → In (record { key = k; rights = rights_on rules ty k }) (keyed ty rules)
  unfolding rights_on rule_place
  rights-rule k some =
      let p : ℕ = rule_place rules ty k in
      split (ltb p (rule_count rules))
      (λ q.
      let l : p < rule_count rules = ltb-true p (rule_count rules) q in
      let h = first_passes (is_rule rules ty k) (rule_count rules) l in
      subst (λ (x : Keyed ℕ). In x (keyed ty rules)) (ap (λ (n : ℕ). record { key = n; rights = rule_rights rules p }) (rule-key k p h)) (keyed_in p l (rule_type_lem k p h)))
      (λ q. let g : rule_count rules ≤ p = ltb-false p (rule_count rules) q in absurd (some (sym (past rules (rule_width * p + 2) (omega arith)))))

  module _ (K : Keys rules) where
    -- no key has two rules
    pub keyed-apart : (x y : Keyed ℕ) → In x (keyed ty rules) → In y (keyed ty rules) → x.key ≡ y.key → x ≡ y
    keyed-apart x y m k e =
        let a = keyed_of x m in
        let b = keyed_of y k in
        let q : rule_key rules a.0 ≡ rule_key rules b.0 = sym (ap (λ (w : Keyed ℕ). w.key) a.3) ∙ e ∙ ap (λ (w : Keyed ℕ). w.key) b.3 in
        let s : a.0 ≡ b.0 = K.apart a.0 b.0 a.1 b.1 (a.2 ∙ sym b.2) q in
        a.3 ∙ ap (item rules) s ∙ sym b.3

    pub keyed-grants : (x : Keyed ℕ) → In x (keyed ty rules) → x.rights ≡ 0 → ⊥
    keyed-grants x m z = let a = keyed_of x m in K.grants a.0 a.1 (sym (ap (λ (w : Keyed ℕ). w.rights) a.3) ∙ z)

    -- a rule's key has its rights
    pub rule-rights : (x : Keyed ℕ) → In x (keyed ty rules) → rights_on rules ty x.key ≡ x.rights
    unfolding rights_on rule_place
    rule-rights x m =
        let a = keyed_of x m in
        let i = a.0 in
        let k : ℕ = rule_key rules i in
        let e : x.key ≡ k = ap (λ (w : Keyed ℕ). w.key) a.3 in
        let p : ℕ = rule_place rules ty k in
        let l = a.1 in
        let le : p ≤ i = split (ltb i p) (λ q. clash (is_rule rules ty k i) (is-rule k i a.2 refl) (first_least (is_rule rules ty k) (rule_count rules) i (ltb-true i p q))) (λ q. ltb-false i p q) in
        let h = first_passes (is_rule rules ty k) (rule_count rules) (omega arith) in
        let s : p ≡ i = K.apart p i (omega arith) l (rule_type_lem k p h ∙ sym a.2) (rule-key k p h) in
        ap (λ (n : ℕ). rule_rights rules (rule_place rules ty n)) e ∙ ap (rule_rights rules) s ∙ sym (ap (λ (w : Keyed ℕ). w.rights) a.3)

-- what it tells that no path rule passes a test
pub no_path : (test : ℕ → ℕ → Bool) (rules : List ℕ) → any_path test rules ≡ false → (x : Keyed ℕ) → In x (keyed path_rule rules) → test x.key x.rights ≡ false
unfolding any_path
no_path test rules h x m =
    let a = keyed_of path_rule rules x m in
    let i = a.0 in
    let n = none-at (λ j. eqb (rule_type rules j) path_rule && test (rule_key rules j) (rule_rights rules j)) (rule_count rules) i h a.1 in
    ap (λ (w : Keyed ℕ). test w.key w.rights) a.3 ∙ (rw (eq-eqb (rule_type rules i) path_rule a.2) at n)

-- a rule is of one type
module _ (ty ty' : ℕ) (other : ty ≡ ty' → ⊥) (rules : List ℕ) where
  both_below : (n : ℕ) → length (keyed_below ty rules n) + length (keyed_below ty' rules n) ≤ n
  unfolding keyed_below
  both_below zero = omega arith
  both_below (suc n) =
      let h = both_below n in
      split (eqb (rule_type rules n) ty)
      (λ p. split (eqb (rule_type rules n) ty')
      (λ q. absurd (other (sym (eqb-true (rule_type rules n) ty p) ∙ eqb-true (rule_type rules n) ty' q)))
      (λ q. rw (p, q) (omega arith)))
      (λ p. split (eqb (rule_type rules n) ty') (λ q. rw (p, q) (omega arith)) (λ q. rw (p, q) (omega arith)))

  pub both_few : length (keyed ty rules) + length (keyed ty' rules) ≤ rule_count rules
  both_few = both_below (rule_count rules)

-- the same rights for each key, exactly if the same items
module _ (ty : ℕ) (rules rules' : List ℕ) (K : Keys rules) (K' : Keys rules') where
  pub items_of_rights : ((k : ℕ) → rights_on rules ty k ≡ rights_on rules' ty k) → (x : Keyed ℕ) → In x (keyed ty rules) → In x (keyed ty rules')
  items_of_rights h x m =
      let e : rights_on rules' ty x.key ≡ x.rights = sym (h x.key) ∙ rule-rights ty rules K x m in
      subst (λ (n : ℕ). In (record { key = x.key; rights = n }) (keyed ty rules')) e (rights-rule ty rules' x.key (λ z. keyed-grants ty rules K x m (sym e ∙ z)))

  pub rights_of_items : ((x : Keyed ℕ) → In x (keyed ty rules) ↔ In x (keyed ty rules')) → (k : ℕ) → rights_on rules ty k ≡ rights_on rules' ty k
  rights_of_items same k =
      split (eqb (rights_on rules ty k) 0)
      (λ q. split (eqb (rights_on rules' ty k) 0)
      (λ r. eqb-true _ _ q ∙ sym (eqb-true _ _ r))
      (λ r.
      let x : Keyed ℕ = record { key = k; rights = rights_on rules' ty k } in
      rule-rights ty rules K x ((same x).1 (rights-rule ty rules' k (eqb-false (rights_on rules' ty k) 0 r)))))
      (λ q.
      let x : Keyed ℕ = record { key = k; rights = rights_on rules ty k } in
      sym (rule-rights ty rules' K' x ((same x).0 (rights-rule ty rules k (eqb-false (rights_on rules ty k) 0 q)))))

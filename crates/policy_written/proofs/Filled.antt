-- Rules with distinct keys, added one after the other: they stand in the ruleset's row in this order, and no others. Assumes nothing.
use mathlib.Core.Path.{◌≡◌, refl, sym, ap, ◌∙◌, subst}
use mathlib.Core.Bool.{Bool, true, false, cond, ◌&&◌}
use mathlib.Core.List.{List, [], ◌∷◌, ◌++◌}
use mathlib.Core.Logic.{inl, inr}
use Prim.Native.Nat.{ℕ, zero, suc, ◌+◌, ◌-◌, ◌*◌, ◌/◌, ◌≤◌, ◌<◌}
use native.Mathlib.Omega.{arith}
use lib.Dec.{eqb, leb, ltb}
use lib.ListN.{length, get_or, length-append, get_or-append}
use lib.Seq.{get_or-append_seam}
use borrow.Author.Tests.{eqb-true, eqb-false, eq-eqb, ltb-true, ltb-false, lt-ltb, le-leb, lt-leb, leb-true, leb-false}
use Rattle.laws.specs.Cells.{cell, put_cell}
use Rattle.laws.proofs.Bools.{split, and_l, and_r, either}
use Rattle.laws.proofs.Cells.{cell_put, cell_put_beside, length-put_cell, past, part_length}
use Rattle.laws.proofs.Tests.{first_passes, first_bound}
use Rattle.access.specs.Limits.{max_rules, max_rulesets}
use Rattle.tables.specs.Tables.{ruleset_width, rule_width, rule_type, rule_key, rule_rights}
use Rattle.tables.specs.Layers.{ruleset_count, ruleset_at}
use Rattle.sound_rules.specs.Rules.{rule_count}
use Rattle.judge.specs.Rules.{is_rule, rule_place}
use Rattle.rule.specs.Rule.{place_in, rule_cell, appended, joined, added}
use Rattle.kept_rulesets.proofs.Rows.{rules-count, rule-cell}
use Rattle.policy_write.specs.Order.{Keyed}
use Rattle.policy_write.specs.File.{keyed}
use Rattle.policy_write.proofs.Lists.{In}
use Rattle.policy_write.proofs.Keys.{item, keyed_in, keyed_of}

-- a rule's three cells
pub record Raw : Type 0 where
  pub sort : ℕ
  pub key : ℕ
  pub rights : ℕ

abbrev none : Raw
none = record { sort = 0; key = 0; rights = 0 }

abbrev pub nth : List Raw → ℕ → Raw
nth L i = get_or L i none

nth_in : (L : List Raw) (i : ℕ) → i < length L → In (nth L i) L
unfolding In
nth_in [] i h = absurd (omega arith)
nth_in (q ∷ L) zero h = inl refl
nth_in (q ∷ L) (suc i) h = inr (nth_in L i (omega arith))

in_nth : (L : List Raw) (q : Raw) → In q L → (i : ℕ) × (i < length L) × (nth L i ≡ q)
unfolding In
in_nth [] q m = absurd m
in_nth (p ∷ L) q m = either m (λ e. (0, omega arith, sym e)) (λ k. let r = in_nth L q k in let h = r.1 in (suc r.0, omega arith, r.2))

-- the row's rules are exactly these
pub record Filled (rs : List ℕ) (r : ℕ) (L : List Raw) : Type 0 where
  pub long : length rs ≡ ruleset_width * max_rulesets
  pub small : r < max_rulesets
  pub few : length L ≤ max_rules
  pub count : ruleset_count rs r ≡ length L
  pub sorts : (i : ℕ) → i < length L → cell rs ruleset_width r (rule_cell i 0) ≡ (nth L i).sort
  pub keys : (i : ℕ) → i < length L → cell rs ruleset_width r (rule_cell i 1) ≡ (nth L i).key
  pub grants : (i : ℕ) → i < length L → cell rs ruleset_width r (rule_cell i 2) ≡ (nth L i).rights

-- no rule of the list has the key
abbrev pub New : List Raw → ℕ → ℕ → Type 0
New L ty key = (q : Raw) → In q L → q.sort ≡ ty → q.key ≡ key → ⊥

module _ (rs : List ℕ) (r : ℕ) (L : List Raw) (F : Filled rs r L) where
  few-rules : ruleset_count rs r ≤ max_rules
  few-rules = let c = F.count in let f = F.few in omega arith

  abbrev rules : List ℕ
  rules = (ruleset_at rs r).rules

  counted : rule_count rules ≡ length L
  counted = rules-count rs r F.long F.small few-rules ∙ F.count

  at : (i k : ℕ) → i < length L → k < rule_width → cell rules rule_width i k ≡ cell rs ruleset_width r (rule_cell i k)
  at i k h m = rule-cell rs r F.long F.small few-rules i k (let c = F.count in omega arith) m

  -- a rule that passes the test is for the key
  is_for : (ty key i : ℕ) → i < length L → is_rule rules ty key i ≡ true → ((nth L i).sort ≡ ty) × ((nth L i).key ≡ key)
  unfolding is_rule
  is_for ty key i h e = (
    sym (at i 0 h (omega arith) ∙ F.sorts i h) ∙ eqb-true (rule_type rules i) ty (and_r (eqb (rule_key rules i) key) _ e),
    sym (at i 1 h (omega arith) ∙ F.keys i h) ∙ eqb-true (rule_key rules i) key (and_l _ (eqb (rule_type rules i) ty) e),
  )

  -- a new key is found nowhere
  pub new-place : (ty key : ℕ) → New L ty key → place_in rs r ty key ≡ length L
  unfolding rule_place
  new-place ty key new =
      let b = first_bound (is_rule rules ty key) (rule_count rules) in
      let c = counted in
      split (ltb (place_in rs r ty key) (length L))
      (λ q.
      let l = ltb-true (place_in rs r ty key) (length L) q in
      let f = is_for ty key (place_in rs r ty key) l (first_passes (is_rule rules ty key) (rule_count rules) (omega arith)) in
      absurd (new (nth L (place_in rs r ty key)) (nth_in L (place_in rs r ty key) l) f.0 f.1))
      (λ q. let g = ltb-false (place_in rs r ty key) (length L) q in omega arith)

  -- ---- its rules as keys with their rights
  pub filled_in : (q : Raw) → In q L → In (record { key = q.key; rights = q.rights }) (keyed q.sort rules)
  filled_in q m =
      let a = in_nth L q m in
      let i = a.0 in
      let c = counted in
      let l = a.1 in
      let s : rule_type rules i ≡ q.sort = at i 0 l (omega arith) ∙ F.sorts i l ∙ ap (λ (w : Raw). w.sort) a.2 in
      let k : rule_key rules i ≡ q.key = at i 1 l (omega arith) ∙ F.keys i l ∙ ap (λ (w : Raw). w.key) a.2 in
      let g : rule_rights rules i ≡ q.rights = at i 2 l (omega arith) ∙ F.grants i l ∙ ap (λ (w : Raw). w.rights) a.2 in
      let e : item rules i ≡ record { key = q.key; rights = q.rights } = λ j. record { key = k j; rights = g j } in
      subst (λ (x : Keyed ℕ). In x (keyed q.sort rules)) e (keyed_in q.sort rules i (omega arith) s)

  pub filled_of : (ty : ℕ) (x : Keyed ℕ) → In x (keyed ty rules) → In (record { sort = ty; key = x.key; rights = x.rights }) L
  filled_of ty x m =
      let a = keyed_of ty rules x m in
      let i = a.0 in
      let c = counted in
      let b = a.1 in
      let l : i < length L = omega arith in
      let s : (nth L i).sort ≡ ty = sym (at i 0 l (omega arith) ∙ F.sorts i l) ∙ a.2 in
      let k : (nth L i).key ≡ x.key = sym (at i 1 l (omega arith) ∙ F.keys i l) ∙ sym (ap (λ (w : Keyed ℕ). w.key) a.3) in
      let g : (nth L i).rights ≡ x.rights = sym (at i 2 l (omega arith) ∙ F.grants i l) ∙ sym (ap (λ (w : Keyed ℕ). w.rights) a.3) in
      let e : nth L i ≡ record { sort = ty; key = x.key; rights = x.rights } = λ j. record { sort = s j; key = k j; rights = g j } in
      subst (λ (q : Raw). In q L) e (nth_in L i l)

  -- a rule with a new key is appended
  module _ (q : Raw) (new : New L q.sort q.key) (room : length L < max_rules) where
    abbrev n : ℕ
    n = length L

    abbrev a : List ℕ
    a = put_cell rs ruleset_width r (rule_cell n 0) q.sort

    abbrev b : List ℕ
    b = put_cell a ruleset_width r (rule_cell n 1) q.key

    abbrev c : List ℕ
    c = put_cell b ruleset_width r (rule_cell n 2) q.rights

    abbrev d : List ℕ
    d = put_cell c ruleset_width r 3 (n + 1)

    is-appended : added rs r q.sort q.key q.rights ≡ d
    unfolding added appended
    is-appended =
        let e : place_in rs r q.sort q.key ≡ n = new-place q.sort q.key new in
        let k : ruleset_count rs r ≡ n = F.count in
        rw (e, k, le-leb n n (omega arith), lt-ltb n max_rules room)

    la : length a ≡ length rs
    la = length-put_cell rs ruleset_width r (rule_cell n 0) q.sort

    lb : length b ≡ length rs
    lb = length-put_cell a ruleset_width r (rule_cell n 1) q.key ∙ la

    lc : length c ≡ length rs
    lc = length-put_cell b ruleset_width r (rule_cell n 2) q.rights ∙ lb

    past_d : (k : ℕ) → (k ≡ 3 → ⊥) → cell d ruleset_width r k ≡ cell c ruleset_width r k
    past_d = cell_put_beside c ruleset_width r 3 (n + 1)

    past-c : (k : ℕ) → (k ≡ rule_cell n 2 → ⊥) → cell c ruleset_width r k ≡ cell b ruleset_width r k
    past-c = cell_put_beside b ruleset_width r (rule_cell n 2) q.rights

    past-b : (k : ℕ) → (k ≡ rule_cell n 1 → ⊥) → cell b ruleset_width r k ≡ cell a ruleset_width r k
    past-b = cell_put_beside a ruleset_width r (rule_cell n 1) q.key

    past-a : (k : ℕ) → (k ≡ rule_cell n 0 → ⊥) → cell a ruleset_width r k ≡ cell rs ruleset_width r k
    past-a = cell_put_beside rs ruleset_width r (rule_cell n 0) q.sort

    -- an earlier rule's cells stay
    kept : (i k : ℕ) → i < n → k < rule_width → cell d ruleset_width r (rule_cell i k) ≡ cell rs ruleset_width r (rule_cell i k)
    kept i k h m = past_d (rule_cell i k) (omega arith) ∙ past-c (rule_cell i k) (omega arith) ∙ past-b (rule_cell i k) (omega arith) ∙ past-a (rule_cell i k) (omega arith)

    last_sort : cell d ruleset_width r (rule_cell n 0) ≡ q.sort
    last_sort = let l = F.long in let s = F.small in past_d (rule_cell n 0) (omega arith) ∙ past-c (rule_cell n 0) (omega arith) ∙ past-b (rule_cell n 0) (omega arith) ∙ cell_put rs ruleset_width r (rule_cell n 0) q.sort (omega arith)

    last-key : cell d ruleset_width r (rule_cell n 1) ≡ q.key
    last-key = let l = F.long in let s = F.small in let x = la in past_d (rule_cell n 1) (omega arith) ∙ past-c (rule_cell n 1) (omega arith) ∙ cell_put a ruleset_width r (rule_cell n 1) q.key (omega arith)

    last-rights : cell d ruleset_width r (rule_cell n 2) ≡ q.rights
    last-rights = let l = F.long in let s = F.small in let x = lb in past_d (rule_cell n 2) (omega arith) ∙ cell_put b ruleset_width r (rule_cell n 2) q.rights (omega arith)

    more : length (L ++ q ∷ []) ≡ n + 1
    more = length-append L (q ∷ [])

    -- the items of the longer list
    early : (i : ℕ) → i < n → nth (L ++ q ∷ []) i ≡ nth L i
    early i h = get_or-append L (q ∷ []) none i h

    final : nth (L ++ q ∷ []) n ≡ q
    final = get_or-append_seam L q [] none

    each : (k : ℕ) (get : Raw → ℕ) → k < rule_width → ((i : ℕ) → i < n → cell rs ruleset_width r (rule_cell i k) ≡ get (nth L i)) → cell d ruleset_width r (rule_cell n k) ≡ get q →
        (i : ℕ) → i < length (L ++ q ∷ []) → cell d ruleset_width r (rule_cell i k) ≡ get (nth (L ++ q ∷ []) i)
    each k get m old new i h =
        let x = more in
        split (ltb i n)
        (λ u. let l = ltb-true i n u in kept i k l m ∙ old i l ∙ ap get (sym (early i l)))
        (λ u. let g = ltb-false i n u in let e : i ≡ n = omega arith in rw e (new ∙ ap get (sym final)))

    pub filled-added : Filled (added rs r q.sort q.key q.rights) r (L ++ q ∷ [])
    filled-added =
        let x = more in
        let l = F.long in
        let s = F.small in
        let y = lc in
        rw is-appended
        (record {
          long = length-put_cell c ruleset_width r 3 (n + 1) ∙ lc ∙ F.long;
          small = F.small;
          few = omega arith;
          count = cell_put c ruleset_width r 3 (n + 1) (omega arith) ∙ sym more;
          sorts = each 0 (λ w. w.sort) (omega arith) F.sorts last_sort;
          keys = each 1 (λ w. w.key) (omega arith) F.keys last-key;
          grants = each 2 (λ w. w.rights) (omega arith) F.grants last-rights;
        })

    -- the masks stay
    pub head_kept : (k : ℕ) → k < 3 → cell (added rs r q.sort q.key q.rights) ruleset_width r k ≡ cell rs ruleset_width r k
    head_kept k h = rw is-appended (past_d k (omega arith) ∙ past-c k (omega arith) ∙ past-b k (omega arith) ∙ past-a k (omega arith))

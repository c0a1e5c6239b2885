-- The entry that is chosen for an object: it is one of the object's, and no other's path goes before its. Assumes nothing.
use mathlib.Core.Path.{◌≡◌, refl, sym, ap, ◌∙◌}
use mathlib.Core.Bool.{Bool, true, false, ◌&&◌, ◌||◌}
use mathlib.Core.List.{List}
use Prim.Native.Nat.{ℕ, zero, suc, ◌≤◌, ◌<◌}
use native.Mathlib.Omega.{arith}
use lib.Dec.{eqb, leb}
use borrow.Author.Tests.{eqb-true, eq-eqb, leb-true, leb-false, le-leb, lt-leb}
use Rattle.laws.proofs.Bools.{split, clash, and_l, and_r, both, or_l, or_r, or_right}
use Rattle.access.specs.Limits.{max_entries}
use Rattle.tables.specs.Tables.{object, live}
use Rattle.names.specs.Paths.{path_of}
use Rattle.policy_write.specs.Order.{earlier}
use Rattle.policy_write.specs.Chosen.{is_entry_of, goes_first, chosen_below, chosen, chosen_path}
use Rattle.policy_write.proofs.Strict.{bytewise}
use Rattle.policy_write.proofs.Rising.{not_less, asym}

module _ (es : List ℕ) (o : ℕ) where
  pub entry-live : (e : ℕ) → is_entry_of es o e ≡ true → live es e ≡ true
  unfolding is_entry_of
  entry-live e h = and_l (live es e) _ h

  pub entry-object : (e : ℕ) → is_entry_of es o e ≡ true → object es e ≡ o
  unfolding is_entry_of
  entry-object e h = eqb-true (object es e) o (and_r (live es e) _ h)

  pub entry_of : (e : ℕ) → live es e ≡ true → object es e ≡ o → is_entry_of es o e ≡ true
  unfolding is_entry_of
  entry_of e l q = both (live es e) _ l (eq-eqb (object es e) o q)

  module _ (ns : List ℕ) where
    -- what is chosen among the entries below n
    record ChosenOf (n c : ℕ) : Type 0 where
      pub small : c < n
      pub entry : is_entry_of es o c ≡ true
      pub first-path : (e : ℕ) → e < n → is_entry_of es o e ≡ true → earlier (path_of es ns e) (path_of es ns c) ≡ false

    -- none, or one of them
    abbrev Choice : ℕ → ℕ → Type 0
    Choice n c = (c < max_entries → ChosenOf n c) × (max_entries ≤ c → (e : ℕ) → e < n → is_entry_of es o e ≡ false)

    -- entry n is passed over
    passed : (n c : ℕ) → n < max_entries → Choice n c → (is_entry_of es o n && goes_first es ns n c) ≡ false → Choice (suc n) c
    unfolding goes_first
    passed n c l C q = (
      (λ h.
          let D = C.0 h in
          let s = D.small in
          record {
            small = omega arith;
            entry = D.entry;
            first-path = λ e k m.
                split (leb n e)
                (λ p. let g = leb-true n e p in let x : e ≡ n = omega arith in
                let y : is_entry_of es o n ≡ true = sym (ap (is_entry_of es o) x) ∙ m in
                let z : (leb max_entries c || earlier (path_of es ns n) (path_of es ns c)) ≡ false = rw y at q in
                rw x (or_r (leb max_entries c) _ z))
                (λ p. D.first-path e (leb-false n e p) m);
          }),
      (λ h e k.
          split (leb n e)
          (λ p. let g = leb-true n e p in let x : e ≡ n = omega arith in
          split (is_entry_of es o e)
          (λ m.
          let y : is_entry_of es o n ≡ true = sym (ap (is_entry_of es o) x) ∙ m in
          let z : (leb max_entries c || earlier (path_of es ns n) (path_of es ns c)) ≡ false = rw y at q in
          clash (leb max_entries c) (le-leb max_entries c h) (or_l (leb max_entries c) _ z))
          (λ m. m))
          (λ p. C.1 h e (leb-false n e p))),
    )

    -- entry n is the first
    taken : (n c : ℕ) → n < max_entries → Choice n c → is_entry_of es o n ≡ true → goes_first es ns n c ≡ true → Choice (suc n) n
    unfolding goes_first
    taken n c l C m q = (
      (λ h. record {
        small = omega arith;
        entry = m;
        first-path = λ e k i.
            split (leb n e)
            (λ p. let g = leb-true n e p in let x : e ≡ n = omega arith in rw x (bytewise.irrefl (path_of es ns n)))
            (λ p.
            let g = leb-false n e p in
            split (leb max_entries c)
            (λ none. clash (is_entry_of es o e) i (C.1 (leb-true max_entries c none) e g))
            (λ some.
            let less : earlier (path_of es ns n) (path_of es ns c) ≡ true = rw some at q in
            not_less earlier bytewise (path_of es ns e) (path_of es ns c) (path_of es ns n) ((C.0 (leb-false max_entries c some)).first-path e g i)
            (asym earlier bytewise (path_of es ns n) (path_of es ns c) less)));
      }),
      (λ h e k. absurd (omega arith)),
    )

    choice : (n : ℕ) → n ≤ max_entries → Choice n (chosen_below es ns o n)
    unfolding chosen_below
    choice zero l = ((λ h. absurd (omega arith)), λ h e k. absurd (omega arith))
    choice (suc n) l =
        let c = chosen_below es ns o n in
        let C = choice n (omega arith) in
        split (is_entry_of es o n && goes_first es ns n c)
        (λ q. rw q (taken n c (omega arith) C (and_l (is_entry_of es o n) _ q) (and_r (is_entry_of es o n) _ q)))
        (λ q. rw q (passed n c (omega arith) C q))

    -- the chosen entry is live and of the object; no path of the object goes before its
    pub chosen_live : chosen es ns o < max_entries → live es (chosen es ns o) ≡ true
    unfolding chosen
    chosen_live h = entry-live (chosen_below es ns o max_entries) ((choice max_entries (omega arith)).0 h).entry

    pub chosen-object : chosen es ns o < max_entries → object es (chosen es ns o) ≡ o
    unfolding chosen
    chosen-object h = entry-object (chosen_below es ns o max_entries) ((choice max_entries (omega arith)).0 h).entry

    pub chosen-first : (e : ℕ) → e < max_entries → live es e ≡ true → object es e ≡ o → earlier (path_of es ns e) (chosen_path es ns o) ≡ false
    unfolding chosen chosen_path
    chosen-first e l a q =
        let C = choice max_entries (omega arith) in
        let m = entry_of e a q in
        split (leb max_entries (chosen_below es ns o max_entries))
        (λ none. clash (is_entry_of es o e) m (C.1 (leb-true max_entries _ none) e l))
        (λ some. (C.0 (leb-false max_entries _ some)).first-path e l m)

    -- an object with an entry has a chosen one
    pub chosen-some : (e : ℕ) → e < max_entries → live es e ≡ true → object es e ≡ o → chosen es ns o < max_entries
    unfolding chosen
    chosen-some e l a q =
        split (leb max_entries (chosen_below es ns o max_entries))
        (λ none. clash (is_entry_of es o e) (entry_of e a q) ((choice max_entries (omega arith)).1 (leb-true max_entries _ none) e l))
        (λ some. leb-false max_entries _ some)

    -- an object's only entry is the chosen one
    pub chosen-only : (e : ℕ) → e < max_entries → live es e ≡ true → object es e ≡ o → ((f : ℕ) → live es f ≡ true → object es f ≡ o → f ≡ e) → chosen es ns o ≡ e
    chosen-only e l a q only = let h = chosen-some e l a q in only (chosen es ns o) (chosen_live h) (chosen-object h)

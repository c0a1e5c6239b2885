-- The reply of a call whose verdict names a layer, for any call. Assumes nothing.
use mathlib.Core.Path.{◌≡◌, refl, sym, ap, ◌∙◌}
use mathlib.Core.Bool.{Bool, true, false, cond}
use mathlib.Core.List.{List, [], ◌∷◌, ◌++◌}
use Prim.Native.Nat.{ℕ}
use lib.Dec.{eqb}
use borrow.Author.Tests.{ne_eqb, eqb-true}
use Rattle.laws.specs.Refusals.{Check, ◌⇒◌, first}
use Rattle.laws.proofs.Refusals.{Refusing, join_stop, join_go}
use Rattle.laws.proofs.Bools.{split, clash}
use Rattle.access.specs.Errno.{EACCES, EXDEV}
use Rattle.access.specs.Reply.{is_refused, reply_to}
use Rattle.access.specs.declared.errno.Reply.{Reply}
use Rattle.access.specs.declared.errno.Reply.TheVariants.{Done, Refused, Denied}
use Rattle.tables.specs.Tables.{Tables}
use Rattle.tables.specs.Outcome.{Outcome, outcome, error_of, answer, blame, named, naming}

-- a number that no verdict has
abbrev Plain-number : ℕ → Type 0
Plain-number e = (eqb e EACCES ≡ false) × (eqb e EXDEV ≡ false)

-- no test of the list answers with a verdict's number
abbrev pub Plain : List Check → Type 0
Plain [] = Unit {0}
Plain ((b ⇒ e) ∷ cs) = cond (eqb e EACCES) ⊥ (cond (eqb e EXDEV) ⊥ (Plain cs))

plain_head : (b : Bool) (e : ℕ) (cs : List Check) → Plain ((b ⇒ e) ∷ cs) → Plain-number e
plain_head b e cs p = split (eqb e EACCES) (λ q. absurd (rw q at p)) (λ q. (q, split (eqb e EXDEV) (λ r. absurd (rw (q, r) at p)) (λ r. r)))

plain_tail : (b : Bool) (e : ℕ) (cs : List Check) → Plain ((b ⇒ e) ∷ cs) → Plain cs
plain_tail b e cs p = let h = plain_head b e cs p in rw (h.0, h.1) at p

plain-first : (cs : List Check) → Plain cs → Plain-number (first cs)
unfolding first
plain-first [] p = (refl, refl)
plain-first ((true ⇒ e) ∷ cs) p = plain_head true e cs p
plain-first ((false ⇒ e) ∷ cs) p = plain-first cs (plain_tail false e cs p)

some-reply : (e : ℕ) → (e ≡ 0 → ⊥) → reply_to e ≡ Refused (record { 0 = e })
unfolding reply_to
some-reply e n = rw (ne_eqb e 0 n) refl

blame-refused : (e : ℕ) (f : ℕ → ℕ) (D : List ℕ) → is_refused (blame e f D) ≡ true
unfolding blame is_refused
blame-refused e f [] = refl
blame-refused e f (l ∷ D) = split (eqb (f l) 0) (λ q. rw q (blame-refused e f D)) (λ q. rw q refl)

module _ (a b : ℕ → ℕ) (D : List ℕ) where
  plain-named : (e : ℕ) → Plain-number e → reply_to e ≡ named a b D (reply_to e)
  unfolding named reply_to
  plain-named e p = split (eqb e 0) (λ q. rw q refl) (λ q. rw (q, p.0, p.1) refl)

  -- ---- how code comes to the reply, part by part
  pub name_last : {e : ℕ} {r : Reply} (cs : List Check) → Plain cs → e ≡ first cs → r ≡ reply_to e → r ≡ named a b D (reply_to (first cs))
  name_last cs p k h = h ∙ rw k (plain-named (first cs) (plain-first cs p))

  pub name_stop : {e : ℕ} (xs ys : List Check) → Plain xs → e ≡ first xs → (e ≡ 0 → ⊥) → Refused (record { 0 = e }) ≡ named a b D (reply_to (first (xs ++ ys)))
  name_stop {e} xs ys p k n =
      sym (some-reply e n) ∙ plain-named e (rw k (plain-first xs p)) ∙ ap (λ (x : ℕ). named a b D (reply_to x)) (join_stop xs ys k n)

  pub name_go : {e : ℕ} {r : Reply} (xs ys : List Check) → Refusing xs → e ≡ first xs → e ≡ 0 → r ≡ named a b D (reply_to (first ys)) → r ≡ named a b D (reply_to (first (xs ++ ys)))
  name_go xs ys f k z h = h ∙ ap (λ (e : ℕ). named a b D (reply_to e)) (join_go xs ys f k z refl)

  -- ---- the whole call, by its reply
  module _ (T : Tables) (cs : List Check) {r : Reply} (k : r ≡ named a b D (reply_to (first cs))) where
    -- only a refusal is refused
    refused-is : is_refused (named a b D (reply_to (first cs))) ≡ cond (eqb (first cs) 0) false true
    unfolding named reply_to is_refused
    refused-is = split (eqb (first cs) 0) (λ q. rw q refl)
        (λ q. rw q (split (eqb (first cs) EACCES) (λ v. rw v (blame-refused EACCES a D))
        (λ v. rw v (split (eqb (first cs) EXDEV) (λ w. rw w (blame-refused EXDEV b D)) (λ w. rw w refl)))))

    -- a request, which changes nothing
    pub named-asked : outcome r T ≡ naming a b D (answer T cs (outcome (Done 0) T))
    unfolding answer reply_to
    named-asked = split (eqb (first cs) 0)
        (λ q. let n : r ≡ named a b D (Done 0) = rw q at k in rw q (ap (λ (x : Reply). outcome x T) n))
        (λ q. let n : r ≡ named a b D (Refused (record { 0 = first cs })) = rw q at k in rw q (ap (λ (x : Reply). outcome x T) n))

    pub named-refused : (done : Outcome) {q : Bool} → q ≡ is_refused r → q ≡ true → outcome r T ≡ naming a b D (answer T cs done)
    unfolding answer reply_to
    named-refused done h v = split (eqb (first cs) 0)
        (λ q. clash (is_refused r) (sym h ∙ v) (ap is_refused k ∙ refused-is ∙ rw q refl))
        (λ q. let n : r ≡ named a b D (Refused (record { 0 = first cs })) = rw q at k in rw q (ap (λ (x : Reply). outcome x T) n))

    -- nothing refused
    pub named-passed : {q : Bool} → q ≡ is_refused r → q ≡ false → first cs ≡ 0
    named-passed h v = split (eqb (first cs) 0) (λ q. eqb-true (first cs) 0 q) (λ q. clash (is_refused r) (ap is_refused k ∙ refused-is ∙ rw q refl) (sym h ∙ v))

    pub named-done : (n : ℕ) (U : Tables) {q : Bool} → q ≡ is_refused r → q ≡ false → outcome (Done n) U ≡ naming a b D (answer T cs (outcome (Done n) U))
    unfolding answer named
    named-done n U h v = rw (named-passed h v) refl

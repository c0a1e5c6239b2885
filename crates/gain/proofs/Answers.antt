-- From containment to the verdict, the answer and the layer that it names, once for link, rename and exchange. Assumes nothing.
use mathlib.Core.Path.{◌≡◌, refl, sym, ap, ap₂, subst, ◌∙◌}
use mathlib.Core.Bool.{Bool, true, false, cond, not, ◌||◌}
use mathlib.Core.List.{List, [], ◌∷◌, ◌++◌}
use Prim.Native.Nat.{ℕ}
use native.Mathlib.Omega.{arith}
use lib.Dec.{eqb}
use borrow.Author.Tests.{eqb-true, eq-eqb, eqb-false, ne_eqb, not-false}
use Rattle.laws.specs.Refusals.{Check, ◌⇒◌, first}
use Rattle.laws.specs.Tests.{any, elem}
use Rattle.laws.proofs.Bools.{split, either, or_left, or_right}
use Rattle.laws.proofs.Refusals.{Refusing, join_stop}
use Rattle.laws.proofs.Joined.{join-past}
use Rattle.laws.proofs.Tests.{any_none}
use Rattle.access.specs.Errno.{EIO, EXDEV}
use Rattle.access.specs.declared.errno.Errno.{Errno}
use Rattle.access.specs.declared.errno.Reply.{Reply}
use Rattle.access.specs.declared.errno.Reply.TheVariants.{Done, Refused, Denied}
use Rattle.access.specs.declared.rights.Rights.{Rights}
use Rattle.tables.specs.Layers.{Layer}
use Rattle.tables.specs.Outcome.{error_of}
use Rattle.fs.specs.Move.{escaping, layer_crosses, verdict}
use Rattle.fs.specs.Blame.{crossed, crossed_move}
use Rattle.fs.proofs.Crossed.{crosses_any}
use Rattle.theorems.specs.Calls.{Call, caller}
use Rattle.theorems.specs.Named.{verdict_on, Youngest, here, older, ByVerdict}
use Rattle.named.specs.Named.{Named, named_sound}
use Rattle.named.specs.Calls.{reply_named, on_core}
use Rattle.named.specs.Layer.{faulty, refusals_named, PassedOn}
use Rattle.named.proofs.Made.{omits, omits_first}
use Rattle.named.proofs.Layer.{layer-named}
use Rattle.gain.specs.Claim.{Crossing, layers, layer_of, gain_in, some_gains, refer_in, held_in, Judged, Granted, Names, Exact}

-- ---- sets that agree on the layers of a domain
some_same : (f g : ℕ → ℕ) (D : List ℕ) → ((l : ℕ) → elem l D ≡ true → f l ≡ g l) → any (λ l. not (eqb (f l) 0)) D ≡ any (λ l. not (eqb (g l) 0)) D
unfolding any elem
some_same f g [] h = refl
some_same f g (k ∷ D) h = ap₂ ◌||◌
    (ap (λ (n : ℕ). not (eqb n 0)) (h k (or_left (eqb k k) (elem k D) (eq-eqb k k refl))))
    (some_same f g D (λ l m. h l (or_right (eqb l k) (elem l D) m)))

youngest-same : {f g : ℕ → ℕ} {D : List ℕ} {l s : ℕ} → ((k : ℕ) → elem k D ≡ true → f k ≡ g k) → Youngest f D l s → Youngest g D l s
unfolding elem
youngest-same {f} {g} h (here {l} {D} n) =
    let q = h l (or_left (eqb l l) (elem l D) (eq-eqb l l refl)) in
    subst (λ (s : ℕ). Youngest g (l ∷ D) l s) (sym q) (here (λ z. n (q ∙ z)))
youngest-same h (older {k} {l} {s} {D} z y) =
    older (sym (h k (or_left (eqb k k) (elem k D) (eq-eqb k k refl))) ∙ z) (youngest-same (λ j m. h j (or_right (eqb j k) (elem j D) m)) y)

-- the youngest layer's set is its own, and not empty
youngest-set : {f : ℕ → ℕ} {D : List ℕ} {l s : ℕ} → Youngest f D l s → (s ≡ f l) × (s ≡ 0 → ⊥)
youngest-set (here n) = (refl, n)
youngest-set (older z y) = youngest-set y

-- ---- lists of refusals
-- a list that comes to EXDEV or to none, and what follows it
over : (b : Bool) (xs ys : List Check) → Refusing xs → first xs ≡ cond b EXDEV 0 → first (xs ++ ys) ≡ cond b EXDEV (first ys)
over true xs ys r e = sym (join_stop xs ys (sym e) (λ z. omega arith))
over false xs ys r e = join-past xs ys r e

-- a number that comes from the rest of a list
from_rest : (n : ℕ) (xs ys : List Check) → omits n xs ≡ true → (n ≡ 0 → ⊥) → first (xs ++ ys) ≡ n → first xs ≡ 0
from_rest n xs ys o z e = split (eqb (first xs) 0)
    (λ q. eqb-true (first xs) 0 q)
    (λ q. absurd (omits_first n xs o z (join_stop xs ys refl (eqb-false (first xs) 0 q) ∙ e)))

-- ---- what is asked of a call
pub record Parts (N : Named) (c : Crossing) : Type 0 where
  -- its refusals are the three lists, after that of unsound tables; none of those around the verdict is EXDEV
  pub unsound-first : faulty N c.call ≡ not (named_sound N)
  pub refusals : refusals_named N c.call ≡ c.earlier ++ (c.verdict ++ c.later)
  pub refusing : Refusing c.earlier
  pub earlier_omits : omits EXDEV c.earlier ≡ true
  pub later_omits : omits EXDEV c.later ≡ true
  -- the verdict is that on its move, in document 01's call too
  pub is-verdict : c.verdict ≡ verdict N.core.entries N.core.layers N.core.pool (layers N c) c.move
  pub comes_to : Call
  pub only : on_core N c.call ≡ comes_to ∷ []
  pub whose : caller comes_to ≡ c.thread
  pub crosses : (verdict_on N.core comes_to).crossed ≡ crossed_move N.core c.move
  -- containment, in each layer
  pub sharp : Judged N c → (L : Layer) → escaping N.core.entries L c.move ≡ c.gain L

module _ (N : Named) (c : Crossing) (P : Parts N c) where
  -- what a layer holds against the move
  held-is : Judged N c → (l : ℕ) → crossed_move N.core c.move l ≡ held_in N c l
  unfolding crossed
  held-is j l = rw (ne_eqb c.move.source c.move.target j.apart, P.sharp j (layer_of N c l)) refl

  granted-is : Granted N c → (l : ℕ) → elem l (layers N c) ≡ true → held_in N c l ≡ gain_in N c l
  granted-is g l m =
      let q : eqb (refer_in N c l) 0 ≡ true = not-false (eqb (refer_in N c l) 0) (any_none (λ k. not (eqb (refer_in N c k) 0)) (layers N c) g.refer l m) in
      rw q refl

  some_is : Judged N c → Granted N c → any (layer_crosses N.core.entries N.core.layers N.core.pool c.move) (layers N c) ≡ some_gains N c
  some_is j g = sym (crosses_any N.core c.move (layers N c))
      ∙ some_same (crossed_move N.core c.move) (gain_in N c) (layers N c) (λ l m. held-is j l ∙ granted-is g l m)

  -- ---- the verdict and the answer
  judged : Judged N c → Granted N c → first c.verdict ≡ cond (some_gains N c) EXDEV 0
  unfolding verdict first
  judged j g = rw (P.is-verdict, g.needs, some_is j g) refl

  verdict_refuses : Refusing c.verdict
  unfolding verdict
  verdict_refuses = rw P.is-verdict tt

  number : error_of (reply_named N c.call) ≡ first (not (named_sound N) ⇒ EIO ∷ (c.earlier ++ (c.verdict ++ c.later)))
  number = layer-named.number N c.call ∙ rw (P.unsound-first, P.refusals) refl

  answered : Judged N c → Granted N c → error_of (reply_named N c.call) ≡ cond (some_gains N c) EXDEV (first c.later)
  unfolding first
  answered j g =
      (rw j.is-sound_lem at number) ∙ join-past c.earlier (c.verdict ++ c.later) P.refusing j.passed
      ∙ over (some_gains N c) c.verdict c.later verdict_refuses (judged j g)

  only_then : Judged N c → Granted N c → some_gains N c ≡ false → error_of (reply_named N c.call) ≡ EXDEV → ⊥
  only_then j g n e = omits_first EXDEV c.later P.later_omits (λ z. omega arith) (sym (rw n at (answered j g)) ∙ e)

  -- ---- the layer
  told : {e : Errno} {l : ℕ} {r : Rights} → PassedOn N c.call e l r → e.0 ≡ EXDEV → Youngest (crossed_move N.core c.move) (layers N c) l r.0
  told {e} {l} {r} p z =
      let o = p.only in
      let i = P.only in
      let q : p.call ≡ P.comes_to = cc in
      let v : ByVerdict N.core P.comes_to e l r = rw q at p.verdict in
      either v.named (λ a. let b = a.0 in absurd (omega arith))
      (λ a. rw (P.whose, P.crosses) at a.1)

  why : (e : Errno) (l : ℕ) (r : Rights) → reply_named N c.call ≡ Denied e l r → e.0 ≡ EXDEV → Judged N c × Youngest (held_in N c) (layers N c) l r.0
  unfolding first crossed
  why e l r h z =
      let y = told (layer-named.denied N c.call e l r h) z in
      let k : first (not (named_sound N) ⇒ EIO ∷ (c.earlier ++ (c.verdict ++ c.later))) ≡ EXDEV = sym number ∙ ap error_of h ∙ z in
      let s : named_sound N ≡ true = split (named_sound N) (λ q. q) (λ q. absurd (let w : EIO ≡ EXDEV = rw q at k in omega arith)) in
      let j : Judged N c = record {
        is-sound_lem = s;
        passed = from_rest EXDEV c.earlier (c.verdict ++ c.later) P.earlier_omits (λ w. omega arith) (rw s at k);
        apart = λ w. (youngest-set y).1 ((youngest-set y).0 ∙ rw (eq-eqb c.move.source c.move.target w) refl);
      } in
      (j, youngest-same (λ i m. held-is j i) y)

  names_by : Judged N c → Granted N c → (r : Reply) → reply_named N c.call ≡ r → error_of r ≡ EXDEV → Names N c r
  names_by j g (Done n) h z = absurd (omega arith)
  names_by j g (Refused e) h z = absurd ((layer-named.others N c.call e h).1 z)
  names_by j g (Denied e l r) h z =
      let y = youngest-same (λ i m. granted-is g i m) (why e l r h z).1 in
      let s = (youngest-set y).0 in
      record {
        layer = l;
        youngest = rw s at y;
        is = ap₂ (λ (a b : ℕ). Denied (record { 0 = a }) l (record { 0 = b })) z s;
      }

  pub exact : Exact N c
  exact = record {
    contained = P.sharp;
    judged = judged;
    answered = answered;
    only_then = only_then;
    names = λ j g s. names_by j g (reply_named N c.call) refl (answered j g ∙ rw s refl);
    why = why;
  }

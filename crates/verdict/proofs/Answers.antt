-- What a denial says of the domain: the number of access, port and move follows from it, and the layer that their replies name. Assumes nothing.
use mathlib.Core.Path.{◌≡◌, refl, sym, ap, ◌∙◌}
use mathlib.Core.Bool.{Bool, true, false, cond, not, ◌||◌, or-false, or_assoc, false≢true}
use mathlib.Core.List.{List, [], ◌∷◌, ◌++◌}
use Prim.Native.Nat.{ℕ, zero, suc}
use native.Mathlib.Omega.{arith}
use lib.Dec.{eqb}
use borrow.Author.Tests.{ne_eqb, not-false}
use Rattle.laws.specs.Tests.{any}
use Rattle.laws.specs.Refusals.{Check, ◌⇒◌, first}
use Rattle.laws.proofs.Bools.{split, or_l, or_r}
use Rattle.laws.proofs.Refusals.{join_stop}
use Rattle.access.specs.Errno.{EACCES, EXDEV}
use Rattle.access.specs.Reply.{reply_to}
use Rattle.access.specs.declared.errno.Reply.{Reply}
use Rattle.access.specs.declared.rights.Rights.{Rights}
use Rattle.tables.specs.Tables.{Tables, tables}
use Rattle.tables.specs.Outcome.{blame, named}
use Rattle.judge.specs.Domain.{domain, layer_lacks, lacks, layer_port_lacks, port_lacks}
use Rattle.judge.specs.Blame.{none, denied_at, entry_reply, denied_port, port_reply}
use Rattle.fs.specs.declared.verdict.Move.{Move}
use Rattle.fs.specs.Move.{layer_denies, verdict}
use Rattle.fs.specs.Blame.{denied_move, crossed_move, move_reply}
use Rattle.fs.proofs.Crossed.{crosses_any}
use Rattle.verdict.specs.declared.Denial.{Denial}
use Rattle.verdict.specs.declared.Denial.TheVariants.{None, Crossed}
use Rattle.verdict.specs.declared.Question.{Question}
use Rattle.verdict.specs.declared.Question.TheVariants.{Entry, Port, Move as Moved}
use Rattle.verdict.specs.Denial.{denied_by, crossed_by, kept_at, kept_set, crossed_at, denial, thread_denial, refusal_of, reply_of}

-- a set is not empty
abbrev some : (ℕ → ℕ) → ℕ → Bool
some a l = not (eqb (a l) 0)

module _ (a b : ℕ → ℕ) where
  crossed-refused : (k set : ℕ) → refusal_of (crossed_at k set) ≡ cond (not (eqb k 0)) EXDEV 0
  unfolding crossed_at refusal_of
  crossed-refused zero set = refl
  crossed-refused (suc l) set = rw (ne_eqb (suc l) 0 (λ e. omega arith)) refl

  -- a crossing was met before, or is met now
  kept_met : (k l s : ℕ) → not (eqb (kept_at k (suc l) s) 0) ≡ (not (eqb k 0) || not (eqb s 0))
  kept_met k l s = split (eqb k 0)
      (λ q. rw q (split (eqb s 0) (λ r. rw r refl) (λ r. rw (r, ne_eqb (suc l) 0 (λ e. omega arith)) refl)))
      (λ q. rw (q, q) refl)

  refused-any : (k set : ℕ) (D : List ℕ) → refusal_of (denial a b k set D) ≡ first (any (some a) D ⇒ EACCES ∷ (not (eqb k 0) || any (some b) D) ⇒ EXDEV ∷ [])
  unfolding denial any refusal_of first
  refused-any k set [] = crossed-refused k set ∙ ap (λ (x : Bool). cond x EXDEV 0) (sym (or-false (not (eqb k 0))))
  refused-any k set (l ∷ D) = split (eqb (a l) 0)
      (λ q.
      rw q
      (refused-any (kept_at k (suc l) (b l)) (kept_set k set (b l)) D
      ∙ ap (λ (x : Bool). cond (any (some a) D) EACCES (cond (x || any (some b) D) EXDEV 0)) (kept_met k l (b l))
      ∙ ap (λ (x : Bool). cond (any (some a) D) EACCES (cond x EXDEV 0)) (or_assoc (not (eqb k 0)) (some b l) (any (some b) D))))
      (λ q. rw q refl)

  -- ---- the reply, for the two numbers and for none
  denied-reply : (k set : ℕ) (D : List ℕ) → any (some a) D ≡ true → reply_of (denial a b k set D) ≡ blame EACCES a D
  unfolding denial any reply_of blame
  denied-reply k set [] h = absurd (false≢true h)
  denied-reply k set (l ∷ D) h = split (eqb (a l) 0)
      (λ q. rw q (denied-reply (kept_at k (suc l) (b l)) (kept_set k set (b l)) D (rw q at h)))
      (λ q. rw q refl)

  -- a crossing that was met stays
  kept-crossed : (l set : ℕ) (D : List ℕ) → any (some a) D ≡ false → denial a b (suc l) set D ≡ Crossed l (record { 0 = set })
  unfolding denial any crossed_at
  kept-crossed l set [] h = refl
  kept-crossed l set (j ∷ D) h =
      let q = or_l (some a j) (any (some a) D) h in
      rw (not-false (eqb (a j) 0) q, ne_eqb (suc l) 0 (λ e. omega arith)) (kept-crossed l set D (or_r (some a j) (any (some a) D) h))

  crossed-reply : (set : ℕ) (D : List ℕ) → any (some a) D ≡ false → any (some b) D ≡ true → reply_of (denial a b 0 set D) ≡ blame EXDEV b D
  unfolding denial any reply_of blame
  crossed-reply set [] h v = absurd (false≢true v)
  crossed-reply set (l ∷ D) h v =
      let r = or_r (some a l) (any (some a) D) h in
      rw (not-false (eqb (a l) 0) (or_l (some a l) (any (some a) D) h))
      (split (eqb (b l) 0)
      (λ q. rw q (crossed-reply (b l) D r (rw q at v)))
      (λ q. rw (q, kept-crossed l (b l) D r) refl))

  none-reply : (set : ℕ) (D : List ℕ) → any (some a) D ≡ false → any (some b) D ≡ false → denial a b 0 set D ≡ None
  unfolding denial any crossed_at
  none-reply set [] h v = refl
  none-reply set (l ∷ D) h v =
      rw (not-false (eqb (a l) 0) (or_l (some a l) (any (some a) D) h), not-false (eqb (b l) 0) (or_l (some b l) (any (some b) D) v))
      (none-reply (b l) D (or_r (some a l) (any (some a) D) h) (or_r (some b l) (any (some b) D) v))

  denial-reply : (D : List ℕ) → reply_of (denial a b 0 0 D) ≡ named a b D (reply_to (refusal_of (denial a b 0 0 D)))
  unfolding named reply_to first refusal_of reply_of
  denial-reply D = split (any (some a) D)
      (λ h. let e : refusal_of (denial a b 0 0 D) ≡ EACCES = refused-any 0 0 D ∙ rw h refl in denied-reply 0 0 D h ∙ ap (λ (x : ℕ). named a b D (reply_to x)) (sym e))
      (λ h. split (any (some b) D)
      (λ v. let e : refusal_of (denial a b 0 0 D) ≡ EXDEV = refused-any 0 0 D ∙ rw (h, v) refl in crossed-reply 0 D h v ∙ ap (λ (x : ℕ). named a b D (reply_to x)) (sym e))
      (λ v. rw (none-reply 0 D h v) refl))

  any_none : (D : List ℕ) → any (some (λ l. 0)) D ≡ false
  unfolding any
  any_none [] = refl
  any_none (l ∷ D) = any_none D

  -- ---- a verdict vs, with nothing after it or with zs
  module _ (D : List ℕ) (vs : List Check) (is : refusal_of (denial a b 0 0 D) ≡ first vs) {d : Denial} (k : d ≡ denial a b 0 0 D) {r : Reply} (q : r ≡ reply_of d) where
    verdict-last : r ≡ named a b D (reply_to (first vs))
    verdict-last = q ∙ ap reply_of k ∙ denial-reply D ∙ ap (λ (e : ℕ). named a b D (reply_to e)) is

    verdict_stop : (zs : List Check) {x : ℕ} → x ≡ first vs → (x ≡ 0 → ⊥) → r ≡ named a b D (reply_to (first (vs ++ zs)))
    verdict_stop zs h n = verdict-last ∙ ap (λ (e : ℕ). named a b D (reply_to e)) (sym h ∙ join_stop vs zs h n)

-- ---- the questions of the calls, which read four of the tables
module _ (es ls ps ts : List ℕ) (t : ℕ) where
  abbrev T : Tables
  T = tables [] es [] ls ps ts

  abbrev dom : List ℕ
  dom = domain T.layers T.threads t

  -- what the domain answers to a question
  abbrev Told : Question → Denial → Type 0
  Told q d = d ≡ thread_denial T.entries T.layers T.pool T.threads t q

  module _ (e : ℕ) (m : Rights) {d : Denial} (k : Told (Entry e m) d) where
    abbrev lacking : List Check
    lacking = lacks T.entries T.layers T.pool dom e m.0 ⇒ EACCES ∷ []

    entry_first : refusal_of (denial (denied_at T e m.0) none 0 0 dom) ≡ first lacking
    unfolding lacks layer_lacks first
    entry_first = refused-any (denied_at T e m.0) none 0 0 dom ∙ rw (any_none (denied_at T e m.0) none dom) refl

    pub entry-is : {x : ℕ} → x ≡ refusal_of d → x ≡ first lacking
    unfolding thread_denial denied_by crossed_by
    entry-is h = h ∙ ap refusal_of k ∙ entry_first

    module _ {r : Reply} (q : r ≡ reply_of d) where
      pub entry-last : r ≡ entry_reply T t e m.0 lacking
      unfolding thread_denial denied_by crossed_by
      entry-last = verdict-last (denied_at T e m.0) none dom lacking entry_first k q

      pub entry_stop : (zs : List Check) {x : ℕ} → x ≡ refusal_of d → (x ≡ 0 → ⊥) → r ≡ entry_reply T t e m.0 (lacking ++ zs)
      unfolding thread_denial denied_by crossed_by
      entry_stop zs h n = verdict_stop (denied_at T e m.0) none dom lacking entry_first k q zs (entry-is h) n

  module _ (p : ℕ) (m : Rights) {d : Denial} (k : Told (Port p m) d) where
    abbrev lacking_port : List Check
    lacking_port = port_lacks T.layers T.pool dom p m.0 ⇒ EACCES ∷ []

    port-first : refusal_of (denial (denied_port T p m.0) none 0 0 dom) ≡ first lacking_port
    unfolding port_lacks layer_port_lacks first
    port-first = refused-any (denied_port T p m.0) none 0 0 dom ∙ rw (any_none (denied_port T p m.0) none dom) refl

    pub port-last : {r : Reply} → r ≡ reply_of d → r ≡ port_reply T t p m.0 lacking_port
    unfolding thread_denial denied_by crossed_by
    port-last q = verdict-last (denied_port T p m.0) none dom lacking_port port-first k q

  module _ (m : Move) {d : Denial} (k : Told (Moved m) d) where
    abbrev against : List Check
    against = verdict T.entries T.layers T.pool dom m

    move-first : refusal_of (denial (denied_move T m) (crossed_move T m) 0 0 dom) ≡ first against
    unfolding verdict layer_denies first
    move-first = refused-any (denied_move T m) (crossed_move T m) 0 0 dom ∙ rw (crosses_any T m dom) refl

    pub move-is : {x : ℕ} → x ≡ refusal_of d → x ≡ first against
    unfolding thread_denial denied_by crossed_by
    move-is h = h ∙ ap refusal_of k ∙ move-first

    module _ {r : Reply} (q : r ≡ reply_of d) where
      pub move-last : r ≡ move_reply T t m against
      unfolding thread_denial denied_by crossed_by
      move-last = verdict-last (denied_move T m) (crossed_move T m) dom against move-first k q

      pub move_stop : (zs : List Check) {x : ℕ} → x ≡ refusal_of d → (x ≡ 0 → ⊥) → r ≡ move_reply T t m (against ++ zs)
      unfolding thread_denial denied_by crossed_by
      move_stop zs h n = verdict_stop (denied_move T m) (crossed_move T m) dom against move-first k q zs (move-is h) n

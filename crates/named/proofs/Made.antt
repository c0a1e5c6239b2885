-- A call of the tree with names beside document 01's call that it comes to, and what its outcome is, case by case. Assumes nothing.
use mathlib.Core.Path.{◌≡◌, refl, sym, ap, subst, ◌∙◌}
use mathlib.Core.Bool.{Bool, true, false, not, cond, ◌&&◌, false≢true}
use mathlib.Core.List.{List, [], ◌∷◌, ◌++◌}
use mathlib.Core.Logic.{◌⊎◌, inl, inr}
use Prim.Native.Nat.{ℕ, zero, suc}
use native.Mathlib.Omega.{arith}
use lib.Dec.{eqb}
use borrow.Author.Tests.{ne_eqb, eqb-true, eqb-false}
use Rattle.laws.specs.Refusals.{Check, ◌⇒◌, first}
use Rattle.laws.proofs.Bools.{split, clash, and_l, and_r}
use Rattle.laws.proofs.Refusals.{Refusing, join_stop}
use Rattle.laws.proofs.Joined.{join-past}
use Rattle.access.specs.Errno.{EIO, EACCES, EXDEV}
use Rattle.access.specs.declared.errno.Errno.{Errno}
use Rattle.access.specs.declared.errno.Reply.{Reply}
use Rattle.access.specs.declared.errno.Reply.TheVariants.{Done, Refused}
use Rattle.tables.specs.Tables.{Tables}
use Rattle.tables.specs.Outcome.{Outcome, outcome, error_of, answer, named, naming}
use Rattle.sound.specs.Sound.{sound}
use Rattle.sound.specs.Call.{call}
use Rattle.theorems.specs.Calls.{is_done}
use Rattle.theorems.specs.Claim.{domain_of}
use Rattle.theorems.proofs.Naming.{done-named, error-named}
use Rattle.names.specs.Names.{names_sound}
use Rattle.named.specs.Named.{Named, with_names, named_sound, NamedOutcome, named_outcome, named_refused, named_answer, named_call, judged_by, lift}

-- ---- the two parts of soundness
pub core-sound : (N : Named) → named_sound N ≡ true → sound N.core ≡ true
unfolding named_sound
core-sound N h = and_l (sound N.core) _ h

pub names-sound : (N : Named) → named_sound N ≡ true → names_sound N.core.entries N.names ≡ true
unfolding named_sound
names-sound N h = and_r (sound N.core) _ h

-- ---- a lifted call
pub lift_unnamed : (N : Named) (o : Outcome) → names_sound N.core.entries N.names ≡ false → named_refused EIO N ≡ lift N o
unfolding lift
lift_unnamed N o h = rw h refl

pub lift-goes : (N : Named) (o : Outcome) → names_sound N.core.entries N.names ≡ true → named_outcome o.reply (with_names o.left N.names) ≡ lift N o
unfolding lift
lift-goes N o h = rw h refl

-- ---- no test of a list answers n
unfoldable pub omits : ℕ → List Check → Bool
omits n [] = true
omits n ((b ⇒ e) ∷ cs) = cond (eqb e n) false (omits n cs)

pub omits_first : (n : ℕ) (cs : List Check) → omits n cs ≡ true → (n ≡ 0 → ⊥) → first cs ≡ n → ⊥
unfolding omits first
omits_first n [] h z q = z (sym q)
omits_first n ((true ⇒ e) ∷ cs) h z q = split (eqb e n) (λ k. absurd (false≢true (rw k at h))) (λ k. eqb-false e n k q)
omits_first n ((false ⇒ e) ∷ cs) h z q = split (eqb e n) (λ k. absurd (false≢true (rw k at h))) (λ k. omits_first n cs (rw k at h) z q)

-- checks that a verdict follows: each refuses, with another number than a verdict
unfoldable pub early : List Check → Bool
early cs = omits 0 cs && (omits EACCES cs && omits EXDEV cs)

pub early_none : early [] ≡ true
unfolding early omits
early_none = refl

early_omits : (cs : List Check) → early cs ≡ true → (omits 0 cs ≡ true) × (omits EACCES cs ≡ true) × (omits EXDEV cs ≡ true)
unfolding early
early_omits cs h =
    let r = and_r (omits 0 cs) (omits EACCES cs && omits EXDEV cs) h in
    (and_l (omits 0 cs) (omits EACCES cs && omits EXDEV cs) h, and_l (omits EACCES cs) (omits EXDEV cs) r, and_r (omits EACCES cs) (omits EXDEV cs) r)

refusing : (cs : List Check) → omits 0 cs ≡ true → Refusing cs
unfolding omits
refusing [] h = tt
refusing ((b ⇒ zero) ∷ cs) h = absurd (false≢true h)
refusing ((b ⇒ suc e) ∷ cs) h = refusing cs (rw (ne_eqb (suc e) 0 (λ z. omega arith)) at h)

-- ---- a call with checks of its own
module _ (N : Named) (cs : List Check) (done : NamedOutcome) where
  pub named-unsound : named_sound N ≡ false → named_refused EIO N ≡ named_call N cs done
  unfolding named_call named_answer first
  named-unsound h = rw h refl

  pub named_stops : {e : ℕ} → named_sound N ≡ true → e ≡ first cs → (e ≡ 0 → ⊥) → named_refused e N ≡ named_call N cs done
  unfolding named_call named_answer first
  named_stops {e} h k n = rw (h, ← k) (simp (ne_eqb e 0 n))

  pub named-goes : {e : ℕ} → named_sound N ≡ true → e ≡ first cs → e ≡ 0 → done ≡ named_call N cs done
  unfolding named_call named_answer first
  named-goes h k z = rw (h, ← k, z) refl

  pub named-cases : (P : NamedOutcome → Type 0) → (named_sound N ≡ false → P (named_refused EIO N)) → (named_sound N ≡ true → (first cs ≡ 0 → ⊥) → P (named_refused (first cs) N))
      → (named_sound N ≡ true → first cs ≡ 0 → P done) → P (named_call N cs done)
  named-cases P u r d = split (named_sound N)
      (λ h. split (eqb (first cs) 0)
      (λ q. let z = eqb-true (first cs) 0 q in subst P (named-goes h refl z) (d h z))
      (λ q. let z = eqb-false (first cs) 0 q in subst P (named_stops h refl z) (r h z)))
      (λ h. subst P (named-unsound h) (u h))

-- a refusal that names no layer
pub record NoLayer (r : Reply) : Type 0 where
  pub error : Errno
  pub is-refused : r ≡ Refused error
  pub not_acces : error.0 ≡ EACCES → ⊥
  pub not_xdev : error.0 ≡ EXDEV → ⊥

-- ---- a call with names, and the call that it comes to
pub record Way (N : Named) : Type 0 where
  -- the sets by which a refusal names a layer, and the thread whose domain is judged
  pub denied : ℕ → ℕ
  pub crossed : ℕ → ℕ
  pub thread : ℕ
  -- the checks put first, those that follow, and those of the call that it comes to
  pub before : List Check
  pub rest : List Check
  pub checks : List Check
  -- what it answers and leaves
  pub number : ℕ
  pub left : Tables
  pub names : List ℕ
  pub is_early : early before ≡ true
  -- past those put first the two lists come to the same number
  pub agrees : first before ≡ 0 → first rest ≡ first checks

module _ (N : Named) (W : Way N) where
  -- which layer a reply names
  abbrev pub way_reply : Reply → Reply
  way_reply r = named W.denied W.crossed (domain_of N.core W.thread) r

  abbrev pub way_naming : Outcome → Outcome
  way_naming o = naming W.denied W.crossed (domain_of N.core W.thread) o

  abbrev pub way_done : Outcome
  way_done = outcome (Done W.number) W.left

  abbrev pub way_made : NamedOutcome
  way_made = named_outcome (Done W.number) (with_names W.left W.names)

  abbrev pub way_named : NamedOutcome
  way_named = judged_by way_naming (named_call N (W.before ++ W.rest) way_made)

  abbrev pub way_core : Outcome
  way_core = way_naming (call N.core W.checks way_done)

  -- ---- the named outcome, case by case
  full_stops : (first W.before ≡ 0 → ⊥) → first (W.before ++ W.rest) ≡ first W.before
  full_stops z = sym (join_stop W.before W.rest refl z)

  full_goes : first W.before ≡ 0 → first (W.before ++ W.rest) ≡ first W.checks
  full_goes z = join-past W.before W.rest (refusing W.before (early_omits W.before W.is_early).0) z ∙ W.agrees z

  pub way_unsound : named_sound N ≡ false → named_refused EIO N ≡ way_named
  unfolding named
  way_unsound h = ap (judged_by way_naming) (named-unsound N (W.before ++ W.rest) way_made h)

  -- a number that no verdict has names no layer
  no_layer_named : (e : ℕ) → (e ≡ EACCES → ⊥) → (e ≡ EXDEV → ⊥) → way_reply (Refused (record { 0 = e })) ≡ Refused (record { 0 = e })
  unfolding named
  no_layer_named e a x = rw (ne_eqb e EACCES a, ne_eqb e EXDEV x) refl

  not_acces : (first W.before ≡ EACCES) → ⊥
  not_acces = omits_first EACCES W.before (early_omits W.before W.is_early).1 (λ z. omega arith)

  not_xdev : (first W.before ≡ EXDEV) → ⊥
  not_xdev = omits_first EXDEV W.before (early_omits W.before W.is_early).2 (λ z. omega arith)

  pub way_stops : named_sound N ≡ true → (first W.before ≡ 0 → ⊥) → named_refused (first W.before) N ≡ way_named
  way_stops h z =
      ap (λ (r : Reply). named_outcome r N) (sym (no_layer_named (first W.before) not_acces not_xdev))
      ∙ ap (judged_by way_naming) (named_stops N (W.before ++ W.rest) way_made h (sym (full_stops z)) z)

  pub way_refuses : named_sound N ≡ true → first W.before ≡ 0 → (first W.checks ≡ 0 → ⊥)
      → named_outcome (way_reply (Refused (record { 0 = first W.checks }))) N ≡ way_named
  way_refuses h b z = ap (judged_by way_naming) (named_stops N (W.before ++ W.rest) way_made h (sym (full_goes b)) z)

  pub way_goes : named_sound N ≡ true → first W.before ≡ 0 → first W.checks ≡ 0 → way_made ≡ way_named
  unfolding named
  way_goes h b z = ap (judged_by way_naming) (named-goes N (W.before ++ W.rest) way_made h (sym (full_goes b)) z)

  pub way_cases : (P : NamedOutcome → Type 0)
      → (named_sound N ≡ false → P (named_refused EIO N))
      → (named_sound N ≡ true → (first W.before ≡ 0 → ⊥) → P (named_refused (first W.before) N))
      → (named_sound N ≡ true → first W.before ≡ 0 → (first W.checks ≡ 0 → ⊥) → P (named_outcome (way_reply (Refused (record { 0 = first W.checks }))) N))
      → (named_sound N ≡ true → first W.before ≡ 0 → first W.checks ≡ 0 → P way_made)
      → P way_named
  way_cases P u s r d = split (named_sound N)
      (λ h. split (eqb (first W.before) 0)
      (λ b. let z = eqb-true (first W.before) 0 b in
      split (eqb (first W.checks) 0)
      (λ c. let y = eqb-true (first W.checks) 0 c in subst P (way_goes h z y) (d h z y))
      (λ c. let y = eqb-false (first W.checks) 0 c in subst P (way_refuses h z y) (r h z y)))
      (λ b. let z = eqb-false (first W.before) 0 b in subst P (way_stops h z) (s h z)))
      (λ h. subst P (way_unsound h) (u h))

  -- ---- the call that it comes to
  pub core_refuses : sound N.core ≡ true → (first W.checks ≡ 0 → ⊥) → outcome (way_reply (Refused (record { 0 = first W.checks }))) N.core ≡ way_core
  unfolding call answer first
  core_refuses h z = rw h (simp (ne_eqb (first W.checks) 0 z) refl)

  pub core-goes : sound N.core ≡ true → first W.checks ≡ 0 → way_done ≡ way_core
  unfolding call answer first named
  core-goes h z = rw (h, z) refl

  -- ---- what an outcome tells
  -- done: both calls did what they do
  pub record Made : Type 0 where
    pub is-sound_lem : named_sound N ≡ true
    pub passed : first W.before ≡ 0
    pub none : first W.checks ≡ 0

  pub made : is_done way_named.reply ≡ true → Made
  made = way_cases (λ o. is_done o.reply ≡ true → Made)
      (λ h r. absurd (false≢true r))
      (λ h b r. absurd (false≢true r))
      (λ h b z r. absurd (false≢true (sym (done-named W.denied W.crossed (domain_of N.core W.thread) (Refused (record { 0 = first W.checks }))) ∙ r)))
      (λ h b z r. record { is-sound_lem = h; passed = b; none = z })

  pub refused-left : is_done way_named.reply ≡ false → way_named.left ≡ N
  refused-left = way_cases (λ o. is_done o.reply ≡ false → o.left ≡ N) (λ h r. refl) (λ h b r. refl) (λ h b z r. refl) (λ h b z r. clash true refl r)

  -- the number is that of the first refusal
  pub way_number : error_of way_named.reply ≡ first (not (named_sound N) ⇒ EIO ∷ W.before ++ W.rest)
  unfolding first
  way_number = way_cases (λ o. error_of o.reply ≡ first (not (named_sound N) ⇒ EIO ∷ W.before ++ W.rest))
      (λ h. rw h refl)
      (λ h b. rw h (sym (full_stops b)))
      (λ h b z. rw h (error-named W.denied W.crossed (domain_of N.core W.thread) (Refused (record { 0 = first W.checks })) ∙ sym (full_goes b)))
      (λ h b z. rw h (sym (full_goes b ∙ z)))

  -- the reply is that of the call that it comes to, or a refusal that names no layer
  pub way_told : (way_named.reply ≡ way_core.reply) ⊎ NoLayer way_named.reply
  way_told = way_cases (λ o. (o.reply ≡ way_core.reply) ⊎ NoLayer o.reply)
      (λ h. inr (record { error = record { 0 = EIO }; is-refused = refl; not_acces = λ z. omega arith; not_xdev = λ z. omega arith }))
      (λ h b. inr (record { error = record { 0 = first W.before }; is-refused = refl; not_acces = not_acces; not_xdev = not_xdev }))
      (λ h b z. inl (ap (λ (o : Outcome). o.reply) (core_refuses (core-sound N h) z)))
      (λ h b z. inl (ap (λ (o : Outcome). o.reply) (core-goes (core-sound N h) z)))

-- The answers of a batch are its calls' replies. Assumes nothing.
use mathlib.Core.Path.{◌≡◌, refl, sym, ap, ◌∙◌}
use mathlib.Core.Bool.{Bool, true, false, cond, not, ◌&&◌}
use mathlib.Core.List.{List, [], ◌∷◌, ◌++◌, append_assoc}
use Prim.Native.Nat.{ℕ}
use lib.Dec.{eqb}
use borrow.Author.Tests.{eqb-true, eqb-false, ne_eqb}
use Rattle.laws.specs.Refusals.{Check, ◌⇒◌, first}
use Rattle.laws.proofs.Refusals.{join_stop}
use Rattle.laws.proofs.Bools.{split}
use Rattle.access.specs.Errno.{EIO, EPERM, EINVAL}
use Rattle.access.specs.Reply.{reply_to}
use Rattle.access.specs.declared.errno.Reply.{Reply}
use Rattle.access.specs.declared.errno.Reply.TheVariants.{Done, Refused}
use Rattle.tables.specs.Tables.{is_dir}
use Rattle.tables.specs.Outcome.{outcome, answer, named, naming}
use Rattle.sound.specs.Sound.{sound}
use Rattle.sound.specs.Call.{call}
use Rattle.fs_access.specs.Access.{access_checks, access_call}
use Rattle.net.specs.Port.{port_checks, port_call}
use Rattle.tree.specs.Entries.{is_above}
use Rattle.tree.specs.Link.{link_verdict, link_later}
use Rattle.tree.specs.Rename.{rename_verdict, rename_later}
use Rattle.tree.specs.Exchange.{exchange_checks}
use Rattle.theorems.specs.Calls.{outcome_of}
use Rattle.names.specs.Names.{names_sound}
use Rattle.named.specs.Named.{Named, named_sound, NamedOutcome, named_outcome, named_answer, named_call, judged_by, lift}
use Rattle.named.specs.Tree.{link_before, link_named_checks, link_named, replaced_by, rename_before, rename_named_checks, rename_named, exchange_named}
use Rattle.named.specs.Batch.{on_sound, link_asked, rename_asked, access_reply, port_answer, link_reply, rename_reply, exchange_reply, reply_asked, request_reply, access_sort, port_sort, link_sort, rename_sort}
use Rattle.named.specs.Calls.{outcome_named}
use Rattle.named.specs.Answers.{BatchAnswers}

with_true : (a : Bool) → (a && true) ≡ a
with_true true = refl
with_true false = refl

with_false : (a : Bool) → (a && false) ≡ false
with_false true = refl
with_false false = refl

-- ---- a reply that names a layer by the sets a and b
module _ (a b : ℕ → ℕ) (D : List ℕ) (N : Named) where
  abbrev told : List Check → Reply
  told cs = named a b D (reply_to (first (on_sound N cs)))

  pub told-unsound : (cs : List Check) → named_sound N ≡ false → told cs ≡ Refused (record { 0 = EIO })
  unfolding on_sound named reply_to first
  told-unsound cs h = rw h refl

  told_none : (cs : List Check) → first (on_sound N cs) ≡ 0 → told cs ≡ Done 0
  unfolding named reply_to
  told_none cs z = rw z refl

  -- of a call whose list of refusals goes on
  told_part : (xs ys : List Check) (done : NamedOutcome) → (first (on_sound N xs) ≡ 0 → ⊥) → told xs ≡ (judged_by (naming a b D) (named_call N (xs ++ ys) done)).reply
  unfolding on_sound named_call named_answer reply_to
  told_part xs ys done n =
      let e = first (on_sound N xs) in
      let q : e ≡ first (on_sound N (xs ++ ys)) = join_stop (on_sound N xs) ys refl n in
      rw (← q, ne_eqb e 0 n) refl

  -- of a call that answers 0
  told-whole : (cs : List Check) (M : Named) → told cs ≡ (judged_by (naming a b D) (named_call N cs (named_outcome (Done 0) M))).reply
  unfolding on_sound named_call named_answer reply_to
  told-whole cs M = split (eqb (first (on_sound N cs)) 0) (λ q. rw q refl) (λ q. rw q refl)

  -- of a request, which does not read names
  told-core : (cs : List Check) → named_sound N ≡ sound N.core → told cs ≡ (naming a b D (call N.core cs (outcome (Done 0) N.core))).reply
  unfolding on_sound call answer reply_to
  told-core cs h = rw h (split (eqb (first (not (sound N.core) ⇒ EIO ∷ cs)) 0) (λ q. rw q refl) (λ q. rw q refl))

  told-lifted : (cs : List Check) → told cs ≡ (lift N (naming a b D (call N.core cs (outcome (Done 0) N.core)))).reply
  unfolding lift named_sound
  told-lifted cs = split (names_sound N.core.entries N.names)
      (λ h. rw h (told-core cs (rw h (with_true (sound N.core)))))
      (λ h. rw h (told-unsound cs (rw h (with_false (sound N.core)))))

pub link_parts : (N : Named) (t s d : ℕ) (n : List ℕ) → link_named_checks N t s d n ≡ link_asked N t s d n ++ link_later N.core
unfolding link_named_checks link_asked
link_parts N t s d n =
    let bs = link_before N t s d n in
    let es : List Check = is_dir N.core.entries s ⇒ EPERM ∷ [] in
    let vs = link_verdict N.core t s d in
    ap (λ (cs : List Check). bs ++ cs) (sym (append_assoc es vs (link_later N.core))) ∙ sym (append_assoc bs (es ++ vs) (link_later N.core))

pub rename_parts : (N : Named) (t s d : ℕ) (n : List ℕ) → rename_named_checks N t s d n ≡ rename_asked N t s d n ++ rename_later N.core.entries s (replaced_by N d n)
unfolding rename_named_checks rename_asked
rename_parts N t s d n =
    let x = replaced_by N d n in
    let bs = rename_before N.core t s d n in
    let es : List Check = is_above N.core.entries s d ⇒ EINVAL ∷ [] in
    let vs = rename_verdict N.core t s d x in
    let ls = rename_later N.core.entries s x in
    ap (λ (cs : List Check). bs ++ cs) (sym (append_assoc es vs ls)) ∙ sym (append_assoc bs (es ++ vs) ls)

-- "(EIO on unsound ones)"
pub sort_unsound : (N : Named) (sort t a b c : ℕ) (n : List ℕ) → named_sound N ≡ false → reply_asked N sort t a b c n ≡ Refused (record { 0 = EIO })
unfolding reply_asked access_reply port_answer link_reply rename_reply exchange_reply
sort_unsound N sort t a b c n h =
    split (eqb sort access_sort) (λ q. rw q (told-unsound _ _ _ N (access_checks N.core t a b) h))
    (λ q. rw q (split (eqb sort port_sort) (λ q. rw q (told-unsound _ _ _ N (port_checks N.core t a b) h))
    (λ q. rw q (split (eqb sort link_sort) (λ q. rw q (told-unsound _ _ _ N (link_asked N t a b n) h))
    (λ q. rw q (split (eqb sort rename_sort) (λ q. rw q (told-unsound _ _ _ N (rename_asked N t a b n) h))
    (λ q. rw q (told-unsound _ _ _ N (exchange_checks N.core t a b c) h))))))))

pub batch-answers : BatchAnswers
unfolding request_reply access_reply port_answer link_reply rename_reply exchange_reply outcome_named outcome_of access_call port_call link_named rename_named exchange_named
batch-answers =
    record {
      access = λ N t e m. told-lifted _ _ _ N (access_checks N.core t e m);
      port = λ N t p m. told-lifted _ _ _ N (port_checks N.core t p m);
      exchange = λ N t s d x. told-whole _ _ _ N (exchange_checks N.core t s d x) _;
      link_parts = link_parts;
      link-refused_lem = λ N t s d n z. rw (link_parts N t s d n) (told_part _ _ _ N (link_asked N t s d n) (link_later N.core) _ z);
      link_else = λ N t s d n z. told_none _ _ _ N (link_asked N t s d n) z;
      rename_parts = rename_parts;
      rename-refused_lem = λ N t s d n z. rw (rename_parts N t s d n) (told_part _ _ _ N (rename_asked N t s d n) (rename_later N.core.entries s (replaced_by N d n)) _ z);
      rename_else = λ N t s d n z. told_none _ _ _ N (rename_asked N t s d n) z;
      unsound = λ N rs ns i h. sort_unsound N _ _ _ _ _ _ h;
    }

-- "and then closes what it opened, so no cell differs": an application that is refused leaves the tables as they were. Assumes nothing.
use mathlib.Core.Path.{◌≡◌, refl, sym, ap, ◌∙◌, subst}
use mathlib.Core.Bool.{true, false, false≢true}
use mathlib.Core.List.{List, [], ◌∷◌}
use Prim.Native.Nat.{ℕ, ◌<◌}
use Rattle.laws.proofs.Bools.{split}
use Rattle.access.specs.Limits.{max_rulesets}
use Rattle.access.specs.Reply.{is_refused}
use Rattle.access.specs.declared.errno.Reply.{Reply}
use Rattle.access.specs.declared.errno.Reply.TheVariants.{Done, Refused, Denied}
use Rattle.tables.specs.Tables.{Tables}
use Rattle.tables.specs.Layers.{is_open}
use Rattle.tables.specs.Outcome.{Outcome}
use Rattle.sound.proofs.Facts.{Sound, facts}
use Rattle.ruleset.specs.Create.{free_ruleset, create_checks, create_done, created}
use Rattle.theorems.specs.Calls.{Call, create_ruleset, close_ruleset, add_path_rule, add_port_rule, outcome_of, after}
use Rattle.names.specs.Names.{names_sound}
use Rattle.named.specs.Named.{Named, with_names, NamedOutcome, named_outcome}
use Rattle.named.specs.Policy.{lookup_named, on_named, add_at, add_rule, or_close, add_rules, then_add, applied, found_checks, apply_named}
use Rattle.named.specs.Calls.{apply, outcome_named, after_named, reply_named}
use Rattle.named.proofs.Made.{lift_unnamed, lift-goes, named-cases}
use Rattle.named.proofs.Kept.{kept}
use Rattle.policy.specs.Meaning.{Rule, path, port}
use Rattle.policy_apply.specs.Promise.{Applying}
use Rattle.policy_apply.proofs.Rows.{by_call, Since, since-path, since-port, closed_back, opens-free, since-create}

-- tables with names that differ from N in the row of an open ruleset at most
module _ (N : Named) (named : names_sound N.core.entries N.names ≡ true) (r : ℕ) where
  record Along (X : Named) : Type 0 where
    pub since : Since N.core r X.core
    pub same : X.names ≡ N.names

  -- a call that leaves names and tree alone
  module _ (X : Named) (A : Along X) (c : Call) where
    call-left : (on_named X c).left ≡ with_names (after X.core c) X.names
    call-left =
        let es : X.core.entries ≡ N.core.entries = ap (λ (T : Tables). T.entries) A.since.rest in
        let h : names_sound X.core.entries X.names ≡ true = rw (es, A.same) named in
        ap (λ (o : NamedOutcome). o.left) (sym (lift-goes X (outcome_of X.core c) h))

    along_call : Since N.core r (after X.core c) → Along (on_named X c).left
    along_call S = subst Along (sym call-left) (record { since = S; same = A.same })

  along_at : (X : Named) (rights : ℕ) (a : Reply) → Along X → Along (add_at X r rights a).left
  unfolding add_at outcome_of
  along_at X rights (Done e) A = along_call X A (add_path_rule r e rights 0) (since-path N.core r X.core e rights A.since)
  along_at X rights (Refused e) A = A
  along_at X rights (Denied e l s) A = A

  along_rule : (X : Named) (q : Rule) → Along X → Along (add_rule r X q).left
  unfolding add_rule outcome_of
  along_rule X (path rights p) A = along_at X rights (lookup_named X p).reply A
  along_rule X (port rights n) A = along_call X A (add_port_rule r n rights 0) (since-port N.core r X.core n rights A.since)

  module _ (S : Sound N.core) (small : r < max_rulesets) (free : is_open N.core.rulesets r ≡ false) where
    close_undoes : (X : Named) → Along X → (on_named X (close_ruleset r)).left ≡ N
    unfolding outcome_of
    close_undoes X A =
        call-left X A (close_ruleset r)
        ∙ ap (λ (T : Tables). with_names T X.names) (closed_back N.core r S small free X.core A.since)
        ∙ ap (with_names N.core) A.same

    or_undone : (a : Reply) (X : Named) (rest : Named → NamedOutcome) → Along X → (is_refused (rest X).reply ≡ true → (rest X).left ≡ N) → is_refused (or_close r a X rest).reply ≡ true → (or_close r a X rest).left ≡ N
    unfolding or_close
    or_undone (Done n) X rest A f h = f h
    or_undone (Refused e) X rest A f h = close_undoes X A
    or_undone (Denied e l s) X rest A f h = close_undoes X A

    rules-undone : (qs : List Rule) (X : Named) → Along X → is_refused (add_rules r qs X).reply ≡ true → (add_rules r qs X).left ≡ N
    unfolding add_rules is_refused
    rules-undone [] X A h = absurd (false≢true h)
    rules-undone (q ∷ qs) X A h =
        let B = along_rule X q A in
        or_undone (add_rule r X q).reply (add_rule r X q).left (add_rules r qs) B (rules-undone qs (add_rule r X q).left B) h

module _ (N : Named) (rules : List Rule) (bs : List ℕ) where
  -- what follows the create
  abbrev Undone : NamedOutcome → Type 0
  Undone o = is_refused (then_add rules o.reply o.left).reply ≡ true → (then_add rules o.reply o.left).left ≡ N

  abbrev Made : Outcome → Type 0
  Made p = Undone (named_outcome p.reply (with_names p.left N.names))

  after-create : names_sound N.core.entries N.names ≡ true → Made (created N.core bs 0)
  unfolding created create_done then_add
  after-create named =
      let T = N.core in
      by_call T (create_checks T bs 0) (create_done T bs) Made (λ n h. refl)
      (λ sound z.
      let f = opens-free T bs sound z in
      rules-undone N named (free_ruleset T.rulesets) (facts T sound) f.0 f.1 rules (with_names (create_done T bs).left N.names) (record { since = since-create T bs sound z; same = refl }))

  then_undone : Undone (on_named N (create_ruleset bs 0))
  then_undone =
      let o = outcome_of N.core (create_ruleset bs 0) in
      split (names_sound N.core.entries N.names)
      (λ named. subst Undone (lift-goes N o named) (unfold outcome_of in after-create named))
      (λ not_named. subst Undone (lift_unnamed N o not_named) (unfold then_add in λ h. refl))

applied-undone : (N : Named) (s : List ℕ) → is_refused (applied N s).reply ≡ true → (applied N s).left ≡ N
unfolding applied
applied-undone N s = then_undone N _ _

refused-undone : (N : Named) (stock site name : List ℕ) → is_refused (reply_named N (apply stock site name)) ≡ true → after_named N (apply stock site name) ≡ N
unfolding outcome_named apply_named
refused-undone N stock site name = named-cases N (found_checks stock site name) _ (λ o. is_refused o.reply ≡ true → o.left ≡ N) (λ h r. refl) (λ h z r. refl) (λ h z. applied-undone N _)

pub applying : Applying
applying = record { undone = refused-undone; kept = λ N stock site name. kept N (apply stock site name) }

-- What the checks before a verdict tell, and how code comes to the reply. Assumes nothing.
use mathlib.Core.Path.{◌≡◌, refl, ap, ◌∙◌}
use mathlib.Core.Bool.{Bool, true, false}
use mathlib.Core.List.{List, [], ◌∷◌, ◌++◌, append_assoc}
use Prim.Native.Nat.{ℕ}
use borrow.Author.Tests.{not-false}
use Rattle.laws.specs.Refusals.{Check, ◌⇒◌, first}
use Rattle.laws.proofs.Refusals.{passed, first-is, none, hit_by, miss_by}
use Rattle.laws.proofs.Joined.{join-left, join-right, join-past}
use Rattle.access.specs.Reply.{reply_to}
use Rattle.access.specs.declared.errno.Reply.{Reply}
use Rattle.access.specs.declared.errno.Reply.TheVariants.{Refused}
use Rattle.access.specs.declared.kinds.MaybeKind.{MaybeKind}
use Rattle.tables.specs.Tables.{Tables, live}
use Rattle.tables.specs.Outcome.{named}
use Rattle.tables.proofs.Blames.{name_stop, name_go}
use Rattle.sound_tree.specs.Fast.{ParentsLive}
use Rattle.fs.specs.declared.needs.Step.{Step}
use Rattle.fs.specs.declared.verdict.Move.{Move}
use Rattle.tree.specs.Moves.{move_of}
use Rattle.tree.specs.Exchange.{exchange_names}
use Rattle.named.specs.Tree.{link_target}
use Rattle.named.proofs.Orders.{Early}
use Rattle.named.proofs.Replies.{rest_decides}

-- ---- the directories of a move are live
pub directories : (es : List ℕ) (step : Step) (s d : ℕ) (k2 : MaybeKind) (other back : ℕ) {m : Move} → m ≡ move_of step es s d k2 other back → ParentsLive es
    → (live es s ≡ true) × (live es d ≡ true) → (live es m.source ≡ true) × (live es m.target ≡ true)
unfolding move_of
directories es step s d k2 other back q p l = (rw q (p s l.0).1, rw q l.1)

pub linked-live : (es ts : List ℕ) (t s d : ℕ) → first (link_target es ts t s d) ≡ 0 → (live es s ≡ true) × (live es d ≡ true)
unfolding link_target
linked-live es ts t s d z = let p = passed _ z in (not-false (live es s) p.1.0, not-false (live es d) p.1.1.0)

pub exchanged_live : (T : Tables) (t s d x : ℕ) → first (exchange_names T t s d x) ≡ 0 → (live T.entries s ≡ true) × (live T.entries d ≡ true)
unfolding exchange_names
exchanged_live T t s d x z = let p = passed _ z in (not-false (live T.entries s) p.1.0, not-false (live T.entries d) p.1.1.0)

-- ---- the target's checks A and the name's B did not apply, and one more test follows them
module _ (a b : ℕ → ℕ) (D : List ℕ) (A B : List Check) (ea : Early A) (eb : Early B) {e f : ℕ} (p : e ≡ first A) (z : e ≡ 0) (q : f ≡ first B) (v : f ≡ 0) (R : List Check) where
  past_name : first (A ++ B) ≡ 0 → first ((A ++ B) ++ R) ≡ first R
  past_name h =
      ap first (append_assoc A B R) ∙ join-past A (B ++ R) ea.1 (join-left A B h) ∙ join-past B R eb.1 (join-right A B ea.1 h)

  rest-told : {r : Reply} → r ≡ named a b D (reply_to (first R)) → r ≡ named a b D (reply_to (first ((A ++ B) ++ R)))
  rest-told k = rest_decides a b D A B R ea eb p z q R past_name v k

module _ (a b : ℕ → ℕ) (D : List ℕ) (A B : List Check) (ea : Early A) (eb : Early B) {e f : ℕ} (p : e ≡ first A) (z : e ≡ 0) (q : f ≡ first B) (v : f ≡ 0)
    {x t : Bool} (n : ℕ) (rest : List Check) (h : x ≡ t) (early : Early ((t ⇒ n) ∷ [])) where
  pub test_stops : x ≡ true → (n ≡ 0 → ⊥) → Refused (record { 0 = n }) ≡ named a b D (reply_to (first ((A ++ B) ++ ((t ⇒ n) ∷ rest))))
  test_stops k u = rest-told a b D A B ea eb p z q v ((t ⇒ n) ∷ rest) (name_stop a b D ((t ⇒ n) ∷ []) rest early.0 (first-is (hit_by h k)) u)

  pub test_passes : x ≡ false → {r : Reply} → r ≡ named a b D (reply_to (first rest)) → r ≡ named a b D (reply_to (first ((A ++ B) ++ ((t ⇒ n) ∷ rest))))
  test_passes k g = rest-told a b D A B ea eb p z q v ((t ⇒ n) ∷ rest) (name_go a b D ((t ⇒ n) ∷ []) rest early.1 (first-is (miss_by h k none)) refl g)

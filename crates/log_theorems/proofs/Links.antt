-- A link that is made with a log: it is document 01's link, it changes the tree and goes into the log. Assumes nothing.
use mathlib.Core.Path.{◌≡◌, refl, sym, ap, ◌∙◌}
use mathlib.Core.Bool.{Bool, true, false, not, ◌&&◌}
use mathlib.Core.List.{List}
use Prim.Native.Nat.{ℕ}
use Rattle.laws.proofs.Bools.{split, clash, both}
use Rattle.access.specs.declared.errno.Reply.TheVariants.{Done}
use Rattle.tables.specs.Tables.{Tables}
use Rattle.theorems.specs.Calls.{Call, after, reply, after_all, is_done}
use Rattle.theorems.specs.Claim as base
use Rattle.theorems.proofs.Links.{link_changes}
use Rattle.named.specs.Named.{Named, NamedOutcome}
use Rattle.named.specs.Calls.{NamedCall, reply_named, outcome_named}
use Rattle.named.proofs.Translate.{follows, link-turn, link-reply}
use Rattle.tree_log.specs.Changes.{link, call_of, field_of}
use Rattle.tree_log.specs.Tree.{Tree}
use Rattle.tree_log.specs.Logged.{Log, has_room, alters, enters, logged_outcome, logged, outcome_logged, after_logged, reply_logged}
use Rattle.tree_log.proofs.Entering.{still-same}
use Rattle.log_theorems.specs.Claim.{ChangesTree}

pub record MadeLink (N : Named) (u s d : ℕ) (name : List ℕ) (L : Log) (n : ℕ) : Type 0 where
  pub answered : reply N.core (Call.link u s d) ≡ Done n
  pub left : (after_logged N (logged u (link s d name) L)).core ≡ after N.core (Call.link u s d)
  pub changes : ChangesTree N (logged u (link s d name) L)
  pub inside : enters N L u (link s d name) ≡ true

module _ (N : Named) (u s d : ℕ) (name : List ℕ) (L : Log) (n : ℕ) (r : reply_logged N (logged u (link s d name) L) ≡ Done n) where
  abbrev c : NamedCall
  c = call_of u (link s d name)

  abbrev full : Bool
  full = alters N c && not (has_room L (field_of (link s d name)))

  not_full : full ≡ false
  unfolding outcome_logged logged_outcome
  not_full = split full
      (λ q. clash (is_done (logged_outcome N L u (link s d name)).reply) (ap is_done r) (rw q refl))
      (λ q. q)

  as_named : outcome_logged N (logged u (link s d name) L) ≡ outcome_named N (NamedCall.link u s d name)
  unfolding outcome_logged logged_outcome call_of
  as_named = rw not_full refl

  named-reply : reply_named N (NamedCall.link u s d name) ≡ Done n
  named-reply = ap (λ (o : NamedOutcome). o.reply) (sym as_named) ∙ r

  base_reply : reply N.core (Call.link u s d) ≡ Done n
  base_reply = link-reply N u s d name n named-reply

  base_left : (after_logged N (logged u (link s d name) L)).core ≡ after N.core (Call.link u s d)
  unfolding after_all
  base_left =
      ap (λ (o : NamedOutcome). o.left.core) as_named ∙ (follows N (NamedCall.link u s d name)).same ∙ ap (after_all N.core) (link-turn N u s d name (ap is_done named-reply))

  tree_changes : ChangesTree N (logged u (link s d name) L)
  unfolding ChangesTree base.ChangesTree
  tree_changes q = link_changes N.core u s d n base_reply (ap (λ (T : Tables). T.entries) (sym base_left) ∙ q)

  does_alter : alters N c ≡ true
  unfolding ChangesTree call_of
  does_alter = split (alters N c) (λ q. q)
      (λ q. absurd (tree_changes (ap (λ (o : NamedOutcome). o.left.core.entries) as_named ∙ ap (λ (S : Tree). S.entries) (still-same N u (link s d name) q))))

  does_enter : enters N L u (link s d name) ≡ true
  unfolding enters
  does_enter = both _ _ does_alter (has_room_lem does_alter not_full)
    where
      has_room_lem : {a b : Bool} → a ≡ true → (a && not b) ≡ false → b ≡ true
      has_room_lem {a} {b} p q = split b (λ z. z) (λ z. clash (a && not b) (rw (p, z) refl) q)

  pub made-link : MadeLink N u s d name L n
  made-link = record { answered = base_reply; left = base_left; changes = tree_changes; inside = does_enter }

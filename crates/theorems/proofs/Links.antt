-- A link that is made: a free entry becomes live, of the source's kind, and so the tree changes. Assumes nothing.
use mathlib.Core.Path.{◌≡◌, refl, sym, ap, ◌∙◌}
use mathlib.Core.Bool.{true, false}
use mathlib.Core.List.{List}
use Prim.Native.Nat.{ℕ, ◌+◌, ◌*◌, ◌<◌}
use native.Mathlib.Omega.{arith}
use lib.ListN.{length}
use borrow.Author.Tests.{ltb-true, not-false}
use Rattle.laws.specs.Tests.{any}
use Rattle.laws.specs.Refusals.{Check, first}
use Rattle.laws.proofs.Bools.{clash}
use Rattle.laws.proofs.Refusals.{passed}
use Rattle.access.specs.Limits.{max_entries}
use Rattle.access.specs.declared.errno.Reply.TheVariants.{Done}
use Rattle.tables.specs.Tables.{Tables, entry_width, kind, object, live, is_dir}
use Rattle.tables.specs.Outcome.{Outcome, outcome}
use Rattle.fs.specs.Move.{layer_crosses, verdict}
use Rattle.sound.specs.Sound.{sound}
use Rattle.sound.specs.Call.{call}
use Rattle.sound.proofs.Facts.{facts}
use Rattle.sound.proofs.Calls.{call-done}
use Rattle.tree.specs.Entries.{free_entry, with_entries}
use Rattle.tree.specs.Moves.{link_move}
use Rattle.tree.specs.Link.{link_shape, link_verdict, link_later, link_checks, linked, tree_link}
use Rattle.kept_tree.proofs.Written.{kind_put}
use Rattle.kept_tree.proofs.Fill.{free-entry}
use Rattle.theorems.proofs.Naming.{call-cases, named-done}
use Rattle.theorems.specs.Calls.{link, outcome_of, after, reply}
use Rattle.theorems.specs.Claim.{domain_of, ChangesTree}

-- a call that answers Done: the tables are sound, no check refused, and it did what it does
record Made (T : Tables) (cs : List Check) (done : Outcome) : Type 0 where
  is-sound_lem : sound T ≡ true
  none : first cs ≡ 0
  is-done : call T cs done ≡ done

made : (T : Tables) (cs : List Check) (done : Outcome) (n : ℕ) → (call T cs done).reply ≡ Done n → Made T cs done
made T cs done n = call-cases T cs done (λ o. o.reply ≡ Done n → Made T cs done)
    (λ h k. absurd (let z : ◌≡◌ {A = ℕ} 0 1 = cc in omega arith))
    (λ h m k. absurd (let z : ◌≡◌ {A = ℕ} 0 1 = cc in omega arith))
    (λ h m k. record { is-sound_lem = h; none = m; is-done = sym (call-done T cs done (sym h) refl refl m) })

abbrev link_done : Tables → ℕ → ℕ → Outcome
link_done T s d = outcome (Done (free_entry T.entries)) (with_entries T (linked T.entries s d))

module _ (T : Tables) (u s d n : ℕ) (yes : reply T (link u s d) ≡ Done n) where
  -- the layer that it might name apart
  told : (call T (link_checks T u s d) (link_done T s d)).reply ≡ Done n
  unfolding outcome_of tree_link
  told = named-done _ _ _ (call T (link_checks T u s d) (link_done T s d)).reply n yes

  link-made : Made T (link_checks T u s d) (link_done T s d)
  link-made = made T (link_checks T u s d) (link_done T s d) n told

  pub number : n ≡ free_entry T.entries
  number = let e : Done (free_entry T.entries) ≡ Done n = sym (ap (λ (o : Outcome). o.reply) link-made.is-done) ∙ told in cc

  pub after-link : (after T (link u s d)).entries ≡ linked T.entries s d
  unfolding outcome_of tree_link
  after-link = ap (λ (o : Outcome). o.left.entries) link-made.is-done

  pub record Checked : Type 0 where
    pub source : live T.entries s ≡ true
    pub target : is_dir T.entries d ≡ true
    pub within : any (layer_crosses T.entries T.layers T.pool (link_move T.entries s d)) (domain_of T u) ≡ false
    pub free : free_entry T.entries < max_entries
    pub room : entry_width * free_entry T.entries + 2 < length T.entries

  pub checked : Checked
  unfolding link_checks link_shape link_verdict link_later verdict
  checked =
      let p = passed (link_checks T u s d) link-made.none in
      let k : free_entry T.entries < max_entries = ltb-true (free_entry T.entries) max_entries (not-false _ p.1.1.1.1.1.1.1.1.0) in
      record {
        source = not-false _ p.1.0;
        target = not-false _ p.1.1.1.1.0;
        within = p.1.1.1.1.1.1.1.0;
        free = k;
        room = (let w = (facts T link-made.is-sound_lem).tree.long in omega arith);
      }

  new-kind : kind (after T (link u s d)).entries n ≡ kind T.entries s
  unfolding linked
  new-kind = rw (after-link, number) (kind_put T.entries (free_entry T.entries) (kind T.entries s) d (object T.entries s) checked.room)

  new-live : live (after T (link u s d)).entries n ≡ true
  unfolding live
  new-live = rw new-kind checked.source

  pub link-new : (live (after T (link u s d)).entries n ≡ true) × (kind (after T (link u s d)).entries n ≡ kind T.entries s)
  link-new = (new-live, new-kind)

  pub link_changes : ChangesTree T (link u s d)
  unfolding ChangesTree
  link_changes e = clash (live T.entries n) (rw e at new-live) (rw number (free-entry T.entries checked.free))

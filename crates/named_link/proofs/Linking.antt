-- What the passed tests of a link tell, and what they leave. Assumes nothing.
use mathlib.Core.Path.{◌≡◌}
use mathlib.Core.Bool.{Bool, false}
use mathlib.Core.List.{List}
use Prim.Native.Nat.{ℕ, ◌≤◌}
use lib.ListN.{length}
use Rattle.access.specs.Reply.{is_refused}
use Rattle.access.specs.declared.errno.Reply.{Reply}
use Rattle.access.specs.declared.errno.Reply.TheVariants.{Done}
use Rattle.tables.specs.Tables.{Tables}
use Rattle.tables.proofs.Blames.{named-passed}
use Rattle.fs.specs.Blame.{move_reply, naming_move}
use Rattle.tree.specs.Entries.{free_entry, with_entries}
use Rattle.tree.specs.Moves.{link_move}
use Rattle.tree.specs.Link.{linked}
use Rattle.names.specs.Names.{max_name, put_name}
use Rattle.named.specs.Named.{Named, with_names, named_outcome, named_answer, judged_by}
use Rattle.named.specs.Tree.{link_named_checks, new_names}
use Rattle.named.proofs.Orders.{link_fits}
use Rattle.named.proofs.Replies.{told-done}

module _ (N : Named) (t s d : ℕ) (n : List ℕ) where
  abbrev T : Tables
  T = N.core

  abbrev es : List ℕ
  es = N.core.entries

  module _ {r : Reply} (q : r ≡ move_reply T t (link_move es s d) (link_named_checks N t s d n)) {b : Bool} (h : b ≡ is_refused r) (z : b ≡ false) where
    pub link_fit : length n ≤ max_name
    link_fit = link_fits N t s d n (named-passed _ _ _ T (link_named_checks N t s d n) q h z)

    pub link-done : (es' ns' : List ℕ) {e : ℕ} → e ≡ free_entry es → es' ≡ linked es s d → ns' ≡ put_name N.names e n
        → named_outcome (Done e) (with_names (with_entries T es') ns') ≡ judged_by (naming_move T t (link_move es s d))
        (named_answer N (link_named_checks N t s d n) (named_outcome (Done (free_entry es)) (with_names (with_entries T (linked es s d)) (new_names es N.names n))))
    unfolding new_names
    link-done es' ns' f g v = rw (v, f, g) (told-done _ _ _ N (link_named_checks N t s d n) q _ _ h z)

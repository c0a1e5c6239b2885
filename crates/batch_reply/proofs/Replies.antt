-- How code comes to the reply to a request on sound tables, sort by sort. Assumes nothing.
use mathlib.Core.Path.{◌≡◌}
use mathlib.Core.Bool.{true}
use mathlib.Core.List.{List}
use Prim.Native.Nat.{ℕ}
use borrow.Author.Tests.{eq-eqb, ne_eqb}
use Rattle.laws.specs.Refusals.{first}
use Rattle.access.specs.declared.errno.Reply.{Reply}
use Rattle.judge.specs.Blame.{entry_reply, port_reply}
use Rattle.fs.specs.Blame.{move_reply}
use Rattle.fs_access.specs.Access.{access_checks}
use Rattle.net.specs.Port.{port_checks}
use Rattle.tree.specs.Moves.{link_move, rename_move, exchange_move}
use Rattle.tree.specs.Exchange.{exchange_checks}
use Rattle.named.specs.Named.{Named, named_sound}
use Rattle.named.specs.Tree.{replaced_by}
use Rattle.named.specs.Batch.{on_sound, link_asked, rename_asked, access_reply, port_answer, link_reply, rename_reply, exchange_reply, access_sort, port_sort, link_sort, rename_sort, reply_asked}

module _ (N : Named) (h : named_sound N ≡ true) (sort t a b c : ℕ) (n : List ℕ) {r : Reply} where
  pub is-access : sort ≡ access_sort → r ≡ entry_reply N.core t a b (access_checks N.core t a b) → r ≡ reply_asked N sort t a b c n
  unfolding reply_asked access_reply on_sound first
  is-access q k = rw (eq-eqb sort access_sort q, h) k

  module _ (not-access : sort ≡ access_sort → ⊥) where
    pub is-port : sort ≡ port_sort → r ≡ port_reply N.core t a b (port_checks N.core t a b) → r ≡ reply_asked N sort t a b c n
    unfolding reply_asked port_answer on_sound first
    is-port q k = rw (ne_eqb sort access_sort not-access, eq-eqb sort port_sort q, h) k

    module _ (not-port : sort ≡ port_sort → ⊥) where
      pub is-link : sort ≡ link_sort → r ≡ move_reply N.core t (link_move N.core.entries a b) (link_asked N t a b n) → r ≡ reply_asked N sort t a b c n
      unfolding reply_asked link_reply on_sound first
      is-link q k = rw (ne_eqb sort access_sort not-access, ne_eqb sort port_sort not-port, eq-eqb sort link_sort q, h) k

      module _ (not-link : sort ≡ link_sort → ⊥) where
        pub is-rename : sort ≡ rename_sort → r ≡ move_reply N.core t (rename_move N.core.entries a b (replaced_by N b n)) (rename_asked N t a b n) → r ≡ reply_asked N sort t a b c n
        unfolding reply_asked rename_reply on_sound first
        is-rename q k = rw (ne_eqb sort access_sort not-access, ne_eqb sort port_sort not-port, ne_eqb sort link_sort not-link, eq-eqb sort rename_sort q, h) k

        pub is-exchange : (sort ≡ rename_sort → ⊥) → r ≡ move_reply N.core t (exchange_move N.core.entries a b c) (exchange_checks N.core t a b c) → r ≡ reply_asked N sort t a b c n
        unfolding reply_asked exchange_reply on_sound first
        is-exchange q k = rw (ne_eqb sort access_sort not-access, ne_eqb sort port_sort not-port, ne_eqb sort link_sort not-link, ne_eqb sort rename_sort q, h) k

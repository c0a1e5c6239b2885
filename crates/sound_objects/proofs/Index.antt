-- How the index grows by an entry. Assumes nothing.
use mathlib.Core.Path.{◌≡◌, refl, sym, ap, ◌∙◌}
use mathlib.Core.Bool.{true, false}
use mathlib.Core.List.{List}
use Prim.Native.Nat.{ℕ, ◌+◌, ◌-◌, ◌*◌, ◌≤◌, ◌<◌}
use native.Mathlib.Nat.{not-suc-le-zero, le_refl, mod-lt}
use native.Mathlib.Omega.{arith}
use lib.Dec.{eqb, ltb}
use lib.ListN.{length, get_or, set, replicate, length-set, length-replicate}
use lib.Seq.{get_or-set_same, get_or-set_other}
use borrow.Author.Tests.{eqb-true, eqb-false, ltb-true, ltb-false}
use Rattle.laws.proofs.Bools.{split, clash}
use Rattle.laws.proofs.Cells.{get_or-zeros}
use Rattle.access.specs.Limits.{max_entries}
use Rattle.tables.specs.Tables.{kind, object, live}
use Rattle.sound_objects.specs.Rows.{Ends}
use Rattle.sound_objects.specs.Objects.{buckets, branches, bucket_of, key_of, Found, here, Missed, Nodes, Trees, Stands, IndexedBelow, Indexed}
use Rattle.sound_objects.proofs.Rows.{free-kind}
use Rattle.sound_objects.proofs.Trees.{Kept, kept_same, kept_set, found_some, found_one, found-kept, missed-some, missed-empty, missed-cell, missed-filled}

bucket_below : (o : ℕ) → bucket_of o < buckets
unfolding bucket_of
bucket_below o = mod-lt o (omega arith)

-- what the code answers is below it
pub bucket_in : {r : ℕ} (o : ℕ) → r ≡ bucket_of o → r < buckets
bucket_in o h = let k = bucket_below o in omega arith

pub zeros-length : (n : ℕ) {cells : List ℕ} → cells ≡ replicate n 0 → length cells ≡ n
zeros-length n h = ap length h ∙ length-replicate {A = ℕ} n 0

-- the entry that a filled cell holds
held-entry : (e : ℕ) → e + 1 - 1 ≡ e
held-entry e = omega arith

module _ (es : List ℕ) where
  -- more entries, and the cells as they are
  nodes_more : (cells : List ℕ) {n m : ℕ} → n ≤ m → Nodes es cells n → Nodes es cells m
  nodes_more cells l N p d = let s = N p d in ((let k = s.0 in omega arith), s.1)

  pub trees_more : {links : List ℕ} {n m : ℕ} → n ≤ m → Trees es links n → Trees es links m
  trees_more {links} l T = record { size = T.size; nodes = nodes_more links l T.nodes; rises = T.rises }

  -- a cell holds live entry e
  nodes-set : (cells : List ℕ) (p e : ℕ) → p < length cells → live es e ≡ true → Nodes es cells e → Nodes es (set cells p (e + 1)) (e + 1)
  nodes-set cells p e w l N q = split (eqb q p)
      (λ y. rw (eqb-true q p y, get_or-set_same cells p (e + 1) 0 w) (λ d. (le_refl (e + 1), rw (held-entry e) l)))
      (λ y. rw (get_or-set_other cells p q (e + 1) 0 (eqb-false q p y)) (nodes_more cells (omega arith) N q))

  trees-set : (links : List ℕ) (p e : ℕ) → e < max_entries → p < branches * e → live es e ≡ true → Trees es links e → Trees es (set links p (e + 1)) (e + 1)
  trees-set links p e k w l T = record {
    size = length-set links p (e + 1) ∙ T.size;
    nodes = nodes-set links p e (let z = T.size in omega arith) l T.nodes;
    rises = λ q. split (eqb q p)
        (λ y. rw (eqb-true q p y, get_or-set_same links p (e + 1) 0 (let z = T.size in omega arith)) (λ d. omega arith))
        (λ y. rw (get_or-set_other links p q (e + 1) 0 (eqb-false q p y)) (T.rises q));
  }

  -- the index starts as zeros
  nodes-none : (n : ℕ) (cells : List ℕ) → cells ≡ replicate n 0 → Nodes es cells 0
  nodes-none n cells h p d = absurd (d (ap (λ (l : List ℕ). get_or l p 0) h ∙ get_or-zeros n p))

  pub index_none : (heads links : List ℕ) → heads ≡ replicate buckets 0 → links ≡ replicate (branches * max_entries) 0 → IndexedBelow es heads links 0
  index_none heads links h m = record {
    size = zeros-length buckets h;
    roots = nodes-none buckets heads h;
    trees = record {
      size = zeros-length (branches * max_entries) m;
      nodes = nodes-none (branches * max_entries) links m;
      rises = λ p d. absurd (d (ap (λ (l : List ℕ). get_or l p 0) m ∙ get_or-zeros (branches * max_entries) p));
    };
    held = λ e o k l q. absurd (not-suc-le-zero k);
  }

  -- what a node stands for, it stands for once empty cells are filled
  stands_kept : {heads next links more : List ℕ} {o k : ℕ} → Kept heads next → Kept links more → Stands es heads links o k → Stands es next more o k
  stands_kept {links = links} {more = more} {o = o} H L s = record { node = s.node; found = rw (H (bucket_of o) (found_some s.found)) (found-kept links more L s.found); alike = s.alike }

  -- the node of an object has the kind of its entries
  pub stands_alike : {heads links : List ℕ} {o k to : ℕ} → Stands es heads links o k → Found es links o (get_or heads (bucket_of o) 0) (key_of o) to → k ≡ kind es (to - 1)
  stands_alike s r = sym s.alike ∙ ap (λ (n : ℕ). kind es (n - 1)) (found_one r s.found)

  -- ---- entry e goes into the index of those below it
  module _ {heads links : List ℕ} {e : ℕ} (u : IndexedBelow es heads links e) where
    -- where cells are filled so that a node stands for it
    index_more : {next more : List ℕ} → length next ≡ buckets → Nodes es next (e + 1) → Trees es more (e + 1) → Kept heads next → Kept links more
        → (live es e ≡ true → Stands es next more (object es e) (kind es e)) → IndexedBelow es next more (e + 1)
    index_more w N T H L s = record {
      size = w;
      roots = N;
      trees = T;
      held = λ f o k l q. split (eqb f e)
          (λ y. let z = eqb-true f e y in rw (← q, z) (s (rw (← z) l)))
          (λ y. let d = eqb-false f e y in stands_kept H L (u.held f o (omega arith) l q));
    }

    index_as_is : (live es e ≡ true → Stands es heads links (object es e) (kind es e)) → IndexedBelow es heads links (e + 1)
    index_as_is = index_more u.size (nodes_more heads (omega arith) u.roots) (trees_more (omega arith) u.trees) (kept_same heads) (kept_same links)

    pub index_free : live es e ≡ false → IndexedBelow es heads links (e + 1)
    index_free l = index_as_is (λ k. clash (live es e) k l)

    -- a node of its object and kind is there already
    pub index_same : {to : ℕ} → Found es links (object es e) (get_or heads (bucket_of (object es e)) 0) (key_of (object es e)) to → kind es (to - 1) ≡ kind es e → IndexedBelow es heads links (e + 1)
    index_same {to} s q = index_as_is (λ l. record { node = to; found = s; alike = q })

    module _ (k : e < max_entries) (l : live es e ≡ true) where
      -- it is the root of its bucket
      pub index_root : get_or heads (bucket_of (object es e)) 0 ≡ 0 → IndexedBelow es (set heads (bucket_of (object es e)) (e + 1)) links (e + 1)
      index_root z =
          let b : ℕ = bucket_of (object es e) in
          let w : b < length heads = (let h = bucket_below (object es e) in let i = u.size in omega arith) in
          index_more (length-set heads b (e + 1) ∙ u.size) (nodes-set heads b e w l u.roots) (trees_more (omega arith) u.trees) (kept_set heads b (e + 1) z) (kept_same links)
          (λ v. record {
            node = e + 1;
            found = rw (get_or-set_same heads b (e + 1) 0 w) (here {at = e + 1} (omega arith) (rw (held-entry e) refl));
            alike = rw (held-entry e) refl;
          })

      -- it is a child in the cell p
      pub index_child : {p : ℕ} → Missed es links (object es e) (get_or heads (bucket_of (object es e)) 0) (key_of (object es e)) p → IndexedBelow es heads (set links p (e + 1)) (e + 1)
      index_child {p} m =
          let c : p < branches * e = missed-cell es links u.trees.nodes m (u.roots (bucket_of (object es e)) (missed-some m)).0 in
          let w : p < length links = (let i = u.trees.size in omega arith) in
          let L : Kept links (set links p (e + 1)) = kept_set links p (e + 1) (missed-empty m) in
          index_more u.size (nodes_more heads (omega arith) u.roots) (trees-set links p e k c l u.trees) (kept_same heads) L
          (λ v. record {
            node = e + 1;
            found = missed-filled links (set links p (e + 1)) L m (get_or-set_same links p (e + 1) 0 w) (omega arith) (rw (held-entry e) refl);
            alike = rw (held-entry e) refl;
          })

  -- the rows from `end` on add nothing
  pub index_done : {heads links : List ℕ} {end e : ℕ} → Ends es end → e ≤ end → end ≤ e → IndexedBelow es heads links e → Indexed es heads links
  index_done {heads} {links} {end} {e} E a b u =
      let w : e ≤ max_entries = (let k = E.1.0 in omega arith) in
      record {
        size = u.size;
        roots = nodes_more heads w u.roots;
        trees = trees_more w u.trees;
        held = λ f o k l q. split (ltb f e)
            (λ y. u.held f o (ltb-true f e y) l q)
            (λ y. let g = ltb-false f e y in clash (live es f) l (free-kind es E f (omega arith)));
      }

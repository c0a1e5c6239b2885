-- How the index grows by an entry. Assumes nothing.
use mathlib.Core.Path.{◌≡◌, sym, ap, ◌∙◌}
use mathlib.Core.Bool.{true, false}
use mathlib.Core.List.{List}
use Prim.Native.Nat.{ℕ, ◌+◌, ◌≤◌, ◌<◌}
use native.Mathlib.Nat.{not-suc-le-zero}
use native.Mathlib.Omega.{arith}
use lib.Dec.{eqb}
use lib.ListN.{length, get_or, set, replicate, length-set, length-replicate}
use lib.Seq.{get_or-set_same, get_or-set_other}
use borrow.Author.Tests.{eqb-true, eqb-false}
use Rattle.laws.proofs.Bools.{split, clash}
use Rattle.laws.proofs.Cells.{get_or-zeros}
use Rattle.access.specs.Limits.{max_entries}
use Rattle.names.specs.Names.{is_named}
use Rattle.names.proofs.Facts.{named_not_root}
use Rattle.sound_names_walk.specs.Fold.{buckets, bucket_at}
use Rattle.sound_names_walk.specs.Walks.{On, here, next, Nodes}
use Rattle.sound_names_chains.specs.Chains.{ChainedBelow}
use Rattle.sound_names_walk.proofs.Walks.{on_some}

pub zeros-length : (n : ℕ) {cells : List ℕ} → cells ≡ replicate n 0 → length cells ≡ n
zeros-length n h = ap length h ∙ length-replicate {A = ℕ} n 0

-- it starts as zeros
nodes-none : (es : List ℕ) (n : ℕ) {cells : List ℕ} → cells ≡ replicate n 0 → Nodes es cells 0
nodes-none es n h p d = absurd (d (ap (λ (l : List ℕ). get_or l p 0) h ∙ get_or-zeros n p))

pub index_none : (es ns : List ℕ) {heads links : List ℕ} → heads ≡ replicate buckets 0 → links ≡ replicate max_entries 0 → ChainedBelow es ns heads links 0
index_none es ns h m = record {
  size = zeros-length buckets h;
  long = zeros-length max_entries m;
  firsts = nodes-none es buckets h;
  nexts = nodes-none es max_entries m;
  held = λ f k l. absurd (not-suc-le-zero k);
}

pub nodes_more : (es cells : List ℕ) {n m : ℕ} → n ≤ m → Nodes es cells n → Nodes es cells m
nodes_more es cells l N p d = let s = N p d in ((let k = s.0 in omega arith), s.1)

-- a cell is set to v, which is empty or an entry below n that has a name
nodes-set : (es cells : List ℕ) (p v n : ℕ) → p < length cells → ((v ≡ 0 → ⊥) → (v < n) × (is_named es v ≡ true)) → Nodes es cells n → Nodes es (set cells p v) n
nodes-set es cells p v n w g N q = split (eqb q p)
    (λ y. rw (eqb-true q p y, get_or-set_same cells p v 0 w) g)
    (λ y. rw (get_or-set_other cells p q v 0 (eqb-false q p y)) (N q))

module _ (es ns : List ℕ) {heads links : List ℕ} {e : ℕ} (u : ChainedBelow es ns heads links e) where
  -- what is on a chain is an entry that has a name
  pub on-node : {at f : ℕ} → at < e → is_named es at ≡ true → On links at f → (f < e) × (is_named es f ≡ true)
  on-node k m (here d) = (k, m)
  on-node {at} k m (next d i r) = let s = rw i at (u.nexts at (λ z. on_some r (sym i ∙ z))) in on-node s.0 s.1 r

  -- an entry without a name
  pub index_free : is_named es e ≡ false → ChainedBelow es ns heads links (e + 1)
  index_free z = record {
    size = u.size;
    long = u.long;
    firsts = nodes_more es heads (omega arith) u.firsts;
    nexts = nodes_more es links (omega arith) u.nexts;
    held = λ f k l. split (eqb f e)
        (λ q. clash (is_named es e) (rw (eqb-true f e q) at l) z)
        (λ q. let d = eqb-false f e q in u.held f (omega arith) l);
  }

  -- the chain of the entries below e, once e's own cell is set
  on-kept : (v : ℕ) {at f : ℕ} → at < e → On links at f → On (set links e v) at f
  on-kept v k (here d) = here d
  on-kept v {at} k (next {c = c} d q r) =
      next d (get_or-set_other links e at v 0 (λ y. omega arith) ∙ q) (on-kept v (rw q at (u.nexts at (λ z. on_some r (sym q ∙ z))).0) r)

  module _ (small : e < max_entries) (l : is_named es e ≡ true) {b : ℕ} (q : b ≡ bucket_at es ns e) (w : b < buckets) where
    abbrev head : ℕ
    head = get_or heads b 0

    filled : b < length heads
    filled = let k = u.size in omega arith

    own : e < length links
    own = let k = u.long in omega arith

    -- an entry before it, from the head of its chain
    kept : (f : ℕ) → On links (get_or heads (bucket_at es ns f) 0) f → On (set links e head) (get_or (set heads b e) (bucket_at es ns f) 0) f
    kept f r = split (eqb (bucket_at es ns f) b)
        (λ y.
        let i = eqb-true (bucket_at es ns f) b y in
        rw (i, get_or-set_same heads b e 0 filled)
        (next (named_not_root es e l) (get_or-set_same links e head 0 own) (on-kept head (u.firsts b (on_some (rw i at r))).0 (rw i at r))))
        (λ y. rw (get_or-set_other heads b (bucket_at es ns f) e 0 (eqb-false (bucket_at es ns f) b y)) (on-kept head (u.firsts (bucket_at es ns f) (on_some r)).0 r))

    pub index_add : ChainedBelow es ns (set heads b e) (set links e head) (e + 1)
    index_add = record {
      size = length-set heads b e ∙ u.size;
      long = length-set links e head ∙ u.long;
      firsts = nodes-set es heads b e (e + 1) filled (λ d. (omega arith, l)) (nodes_more es heads (omega arith) u.firsts);
      nexts = nodes-set es links e head (e + 1) own (nodes_more es heads (omega arith) u.firsts b) (nodes_more es links (omega arith) u.nexts);
      held = λ f k m. split (eqb f e)
          (λ y. rw (eqb-true f e y, ← q, get_or-set_same heads b e 0 filled) (here (named_not_root es e l)))
          (λ y. let d = eqb-false f e y in kept f (u.held f (omega arith) m));
    }

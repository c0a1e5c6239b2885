-- The lookup of an entry's path is the entry. Assumes nothing.
use mathlib.Core.Path.{◌≡◌, refl, sym, ap, ◌∙◌}
use mathlib.Core.Bool.{Bool, true, false, true≢false}
use mathlib.Core.List.{List, [], ◌∷◌, ◌++◌, append_assoc}
use Prim.Native.Nat.{ℕ, zero, suc, pred, ◌≤◌}
use native.Mathlib.Omega.{arith}
use lib.Dec.{eqb, ltb}
use lib.ListN.{length, get_or, length-append}
use borrow.Author.Tests.{eqb-true, eqb-false, eq-eqb, ne_eqb, le-ltb}
use Rattle.laws.specs.Tests.{elem}
use Rattle.laws.specs.Refusals.{first}
use Rattle.laws.proofs.Bools.{split, clash, or_l, or_r, nor, not_of_true}
use Rattle.laws.proofs.Refusals.{none, miss, first-is}
use Rattle.access.specs.Kinds.{directory}
use Rattle.access.specs.Limits.{max_entries}
use Rattle.access.specs.Errno.{ENOENT}
use Rattle.access.specs.declared.errno.Reply.{Reply}
use Rattle.access.specs.declared.errno.Reply.TheVariants.{Done}
use Rattle.tables.specs.Tables.{kind, parent, live, is_dir}
use Rattle.sound_tree.specs.Tree.{reaches}
use Rattle.sound_tree.proofs.Facts.{Tree}
use Rattle.tree.specs.declared.Replaced.{Replaced}
use Rattle.tree.specs.declared.Replaced.TheVariants.{None, Entry}
use Rattle.names.specs.Names.{max_name, slash, dot, same_bytes, bad_bytes, row_at, name_at, bearer}
use Rattle.names.specs.Paths.{max_path, joined, parted, components, closing, refuse, arrived, step_to, walk, path_checks, found, path_up, path_of}
use Rattle.names.proofs.Facts.{Names, Name, name_facts, named_of}
use Rattle.names.proofs.Bearer.{bears_of, not_taken, bearer-cases}

-- ---- a name: neither empty nor with a slash or a zero in it
pub record Plain (n : List ℕ) : Type 0 where
  pub some : same_bytes n [] ≡ false
  pub no_slash : elem slash n ≡ false
  pub no_zero : elem 0 n ≡ false
  pub no_dot : same_bytes n (dot ∷ []) ≡ false
  pub no_dots : same_bytes n (dot ∷ dot ∷ []) ≡ false

pub plain : (n : List ℕ) → bad_bytes n ≡ false → Plain n
unfolding bad_bytes
plain n h =
    let h1 = or_r (same_bytes n []) _ h in
    let h2 = or_r (elem slash n) _ h1 in
    let h3 = or_r (elem 0 n) _ h2 in
    record {
      some = or_l (same_bytes n []) _ h;
      no_slash = or_l (elem slash n) _ h1;
      no_zero = or_l (elem 0 n) _ h2;
      no_dot = or_l (same_bytes n (dot ∷ [])) _ h3;
      no_dots = or_r (same_bytes n (dot ∷ [])) _ h3;
    }

-- ---- components
-- a byte that is no slash
other : (b : ℕ) (bs : List ℕ) → elem slash (b ∷ bs) ≡ false → eqb b slash ≡ false
unfolding elem
other b bs h = ne_eqb b slash (λ e. eqb-false slash b (or_l (eqb slash b) (elem slash bs) h) (sym e))

rest : (b : ℕ) (bs : List ℕ) → elem slash (b ∷ bs) ≡ false → elem slash bs ≡ false
unfolding elem
rest b bs h = or_r (eqb slash b) (elem slash bs) h

byte_before : (b : ℕ) (bs : List ℕ) → eqb b slash ≡ false → components (b ∷ bs) ≡ joined b (parted bs) (components bs)
unfolding components
byte_before b bs h = rw h refl

parted_not : (b : ℕ) (bs : List ℕ) → eqb b slash ≡ false → parted (b ∷ bs) ≡ false
unfolding parted
parted_not b bs h = h

one_component : (b : ℕ) (bs : List ℕ) → elem slash (b ∷ bs) ≡ false → components (b ∷ bs) ≡ (b ∷ bs) ∷ []
unfolding components joined parted
one_component b [] h = rw (other b [] h) refl
one_component b (c ∷ cs) h =
    byte_before b (c ∷ cs) (other b (c ∷ cs) h)
    ∙ ap (λ (p : Bool). joined b p (components (c ∷ cs))) (parted_not c cs (other c cs (rest b (c ∷ cs) h)))
    ∙ ap (joined b false) (one_component c cs (rest b (c ∷ cs) h))

parted-join : (xs ys : List ℕ) → parted (xs ++ slash ∷ ys) ≡ parted xs
unfolding parted
parted-join [] ys = refl
parted-join (x ∷ xs) ys = refl

-- where the rest goes on without a slash, it has a component
joined-join : (b : ℕ) (p : Bool) (cs ds : List (List ℕ)) → (p ≡ false → cs ≡ [] → ⊥) → joined b p (cs ++ ds) ≡ joined b p cs ++ ds
unfolding joined
joined-join b true cs ds h = refl
joined-join b false [] ds h = absurd (h refl refl)
joined-join b false (c ∷ cs) ds h = refl

joined-some : (b : ℕ) (p : Bool) (cs : List (List ℕ)) → joined b p cs ≡ [] → ⊥
unfolding joined
joined-some b true cs e = let z : ◌≡◌ {A = ℕ} 0 1 = cc in omega arith
joined-some b false [] e = let z : ◌≡◌ {A = ℕ} 0 1 = cc in omega arith
joined-some b false (c ∷ cs) e = let z : ◌≡◌ {A = ℕ} 0 1 = cc in omega arith

goes_on : (xs : List ℕ) → parted xs ≡ false → components xs ≡ [] → ⊥
unfolding parted components
goes_on [] h e = true≢false h
goes_on (x ∷ xs) h e = joined-some x (parted xs) (components xs) (rw h at e)

pub components-join : (xs ys : List ℕ) → components (xs ++ slash ∷ ys) ≡ components xs ++ components ys
unfolding components
components-join [] ys = refl
components-join (x ∷ xs) ys = split (eqb x slash)
    (λ q. rw q (components-join xs ys))
    (λ q. rw (q, parted-join xs ys) (ap (joined x (parted xs)) (components-join xs ys) ∙ joined-join x (parted xs) (components xs) (components ys) (goes_on xs)))

pub components_more : (xs n : List ℕ) → Plain n → components (xs ++ slash ∷ n) ≡ components xs ++ n ∷ []
unfolding same_bytes
components_more xs [] P = absurd (true≢false P.some)
components_more xs (b ∷ bs) P = components-join xs (b ∷ bs) ∙ ap (λ (cs : List (List ℕ)). components xs ++ cs) (one_component b bs P.no_slash)

-- ---- no closing slash
closing-join : (xs : List ℕ) (y : ℕ) (ys : List ℕ) → closing (xs ++ y ∷ ys) ≡ closing (y ∷ ys)
unfolding closing
closing-join [] y ys = refl
closing-join (x ∷ []) y ys = refl
closing-join (x ∷ z ∷ xs) y ys = closing-join (z ∷ xs) y ys

closing_not : (b : ℕ) (bs : List ℕ) → elem slash (b ∷ bs) ≡ false → closing (b ∷ bs) ≡ false
unfolding closing
closing_not b [] h = other b [] h
closing_not b (c ∷ cs) h = closing_not c cs (rest b (c ∷ cs) h)

closing_more : (xs n : List ℕ) → Plain n → closing (xs ++ slash ∷ n) ≡ false
unfolding same_bytes closing
closing_more xs [] P = absurd (true≢false P.some)
closing_more xs (b ∷ bs) P = closing-join xs slash (b ∷ bs) ∙ closing_not b bs P.no_slash

-- ---- no zero byte
zero-join : (xs ys : List ℕ) → elem 0 xs ≡ false → elem 0 ys ≡ false → elem 0 (xs ++ ys) ≡ false
unfolding elem
zero-join [] ys p q = q
zero-join (x ∷ xs) ys p q = nor (eqb 0 x) (elem 0 (xs ++ ys)) (or_l (eqb 0 x) (elem 0 xs) p) (zero-join xs ys (or_r (eqb 0 x) (elem 0 xs) p) q)

-- ---- a walk in two parts
module _ (es ns : List ℕ) where
  -- what follows a step
  abbrev after : Bool → List (List ℕ) → Replaced → Reply
  after close cs r = elim r [ None ↦ refuse ENOENT | Entry x ↦ walk es ns close cs x ]

  never : {A : Type 0} (e d : ℕ) → refuse e ≡ Done d → A
  never e d q = absurd (let z : ◌≡◌ {A = ℕ} 0 1 = cc in omega arith)

  step-on : (cs ds : List (List ℕ)) (d : ℕ) → ((x : ℕ) → walk es ns false cs x ≡ Done d → walk es ns false (cs ++ ds) x ≡ walk es ns false ds d)
      → (r : Replaced) → after false cs r ≡ Done d → after false (cs ++ ds) r ≡ walk es ns false ds d
  step-on cs ds d f None k = never ENOENT d k
  step-on cs ds d f (Entry x) k = f x k

  walk-join : (cs ds : List (List ℕ)) (e d : ℕ) → walk es ns false cs e ≡ Done d → walk es ns false (cs ++ ds) e ≡ walk es ns false ds d
  unfolding walk arrived
  walk-join [] ds e d q = ap (walk es ns false ds) (let k : Done e ≡ Done d = q in cc)
  walk-join (c ∷ cs) ds e d q = split (is_dir es e)
      (λ i. split (ltb max_name (length c))
      (λ l. never _ d (rw (i, l) at q))
      (λ l. rw (i, l) (step-on cs ds d (λ x. walk-join cs ds x d) (step_to es ns e c) (rw (i, l) at q))))
      (λ i. never _ d (rw i at q))

  -- one step further
  walk_one : (c : List ℕ) (d x : ℕ) → is_dir es d ≡ true → length c ≤ max_name → step_to es ns d c ≡ Entry x → walk es ns false (c ∷ []) d ≡ Done x
  unfolding walk arrived
  walk_one c d x i l q = rw (i, le-ltb max_name (length c) l, q) refl

-- ---- on sound tables
live_dir : (es : List ℕ) (x : ℕ) → is_dir es x ≡ true → live es x ≡ true
unfolding is_dir live
live_dir es x h = rw (eqb-true (kind es x) directory h)

module _ (es ns : List ℕ) (next : ℕ) (Z : Tree es next) (W : Names es ns) where
  name_of : (e : ℕ) → live es e ≡ true → (e ≡ 0 → ⊥) → Name (name_at ns e)
  name_of e l z = name_facts (row_at ns e) (W.good e (Z.small e l) (named_of es e z l))

  -- the name leads from the directory to the entry
  pub bearer-is : (e : ℕ) → live es e ≡ true → (e ≡ 0 → ⊥) → bearer es ns (parent es e) (name_at ns e) ≡ Entry e
  bearer-is e l z = bearer-cases es ns (parent es e) (name_at ns e)
      (λ b t. clash _ (bears_of es ns (parent es e) (name_at ns e) e z l refl refl) (not_taken es ns (parent es e) (name_at ns e) t e (Z.small e l)))
      (λ y b B. b ∙ ap Entry (W.unique y e (Z.small y B.alive) (Z.small e l) (named_of es y B.not_root B.alive) (named_of es e z l) B.child B.name))

  steps : (e : ℕ) → live es e ≡ true → (e ≡ 0 → ⊥) → step_to es ns (parent es e) (name_at ns e) ≡ Entry e
  unfolding step_to
  steps e l z = let P = plain (name_at ns e) (name_of e l z).fine in rw (P.no_dot, P.no_dots) (bearer-is e l z)

  climbs : (k e : ℕ) → live es e ≡ true → reaches es k e ≡ true → walk es ns false (components (path_up es ns k e)) 0 ≡ Done e
  unfolding path_up reaches walk arrived components
  climbs zero e l r = ap Done (sym (eqb-true e 0 r))
  climbs (suc k) e l r = split (eqb e 0)
      (λ q. rw q (ap Done (sym (eqb-true e 0 q))))
      (λ q.
      let z = eqb-false e 0 q in
      let p = parent es e in
      let n = name_at ns e in
      let up = path_up es ns k p in
      let N = name_of e l z in
      rw (q, components_more up n (plain n N.fine))
      (walk-join es ns (components up) (n ∷ []) 0 p (climbs k p (live_dir es p (Z.in_dir e l)) (rw q at r))
      ∙ walk_one es ns n p e (Z.in_dir e l) N.short (steps e l z)))

  -- ---- the path itself
  up_some : (k e : ℕ) → eqb e 0 ≡ false → path_up es ns (suc k) e ≡ path_up es ns k (parent es e) ++ slash ∷ name_at ns e
  unfolding path_up
  up_some k e q = rw q refl

  up_slash : (k e : ℕ) (ys : List ℕ) → get_or (path_up es ns k e ++ slash ∷ ys) 0 0 ≡ slash
  unfolding path_up
  up_slash zero e ys = refl
  up_slash (suc k) e ys = split (eqb e 0)
      (λ q. rw q refl)
      (λ q. rw (q, append_assoc (path_up es ns k (parent es e)) (slash ∷ name_at ns e) (slash ∷ ys)) (up_slash k (parent es e) (name_at ns e ++ slash ∷ ys)))

  up_nonzero : (k e : ℕ) → live es e ≡ true → elem 0 (path_up es ns k e) ≡ false
  unfolding path_up elem
  up_nonzero zero e l = refl
  up_nonzero (suc k) e l = split (eqb e 0)
      (λ q. rw q refl)
      (λ q. let P = plain (name_at ns e) (name_of e l (eqb-false e 0 q)).fine in
      rw q (zero-join (path_up es ns k (parent es e)) (slash ∷ name_at ns e) (up_nonzero k (parent es e) (live_dir es (parent es e) (Z.in_dir e l)))
      (nor (eqb 0 slash) (elem 0 (name_at ns e)) (ne_eqb 0 slash (omega arith)) P.no_zero)))

  -- an entry's path passes the first checks, unless it is over-long
  checks_pass : (p : List ℕ) → (length p ≡ 0 → ⊥) → length p ≤ max_path → get_or p 0 0 ≡ slash → elem 0 p ≡ false → first (path_checks p) ≡ 0
  unfolding path_checks
  checks_pass p a b c d =
      sym (first-is (miss (ne_eqb (length p) 0 a) (miss (le-ltb max_path (length p) b) (miss (nor _ _ (not_of_true _ (eq-eqb (get_or p 0 0) slash c)) d) none))))

  some-length : (xs : List ℕ) (y : ℕ) (ys : List ℕ) → length (xs ++ y ∷ ys) ≡ 0 → ⊥
  some-length xs y ys h = let e = length-append xs (y ∷ ys) in omega arith

  at_root : (e : ℕ) → e ≡ 0 → walk es ns (closing (slash ∷ [])) (components (slash ∷ [])) 0 ≡ Done e
  unfolding walk closing components arrived is_dir
  at_root e q = rw Z.root_dir (ap Done (sym q))

  module _ (e : ℕ) (l : live es e ≡ true) where
    pub path-fine : length (path_of es ns e) ≤ max_path → first (path_checks (path_of es ns e)) ≡ 0
    unfolding path_of elem
    path-fine h = split (eqb e 0)
        (λ q. rw q (checks_pass (slash ∷ []) (omega arith) (omega arith) refl refl))
        (λ q.
        let up = path_up es ns (pred max_entries) (parent es e) in
        let s : path_up es ns max_entries e ≡ up ++ slash ∷ name_at ns e = up_some (pred max_entries) e q in
        rw q (checks_pass (path_up es ns max_entries e) (rw s (some-length up slash (name_at ns e))) (rw q at h) (rw s (up_slash (pred max_entries) (parent es e) (name_at ns e)))
        (up_nonzero max_entries e l)))

    pub path-found : found es ns (path_of es ns e) ≡ Done e
    unfolding path_of found
    path-found = split (eqb e 0)
        (λ q. rw q (at_root e (eqb-true e 0 q)))
        (λ q.
        let z = eqb-false e 0 q in
        let up = path_up es ns (pred max_entries) (parent es e) in
        let n = name_at ns e in
        let s : path_up es ns max_entries e ≡ up ++ slash ∷ n = up_some (pred max_entries) e q in
        let c : closing (path_up es ns max_entries e) ≡ false = rw s (closing_more up n (plain n (name_of e l z).fine)) in
        rw (q, c) (climbs max_entries e l (Z.tops e l)))

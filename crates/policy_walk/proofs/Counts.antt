-- The walk finds the counted rules, in order. Assumes nothing.
use mathlib.Core.Path.{◌≡◌, refl, sym, ap, ◌∙◌}
use mathlib.Core.Bool.{true, false}
use mathlib.Core.List.{List, [], ◌∷◌, ◌++◌, append_assoc, append-nil}
use Prim.Native.Nat.{ℕ, zero, suc, ◌+◌, ◌≤◌}
use native.Mathlib.Omega.{arith}
use lib.Dec.{eqb, leb}
use lib.ListN.{length, get_or, drop}
use Rattle.laws.proofs.Bools.{split}
use Rattle.policy.specs.Fields.{group_tag, Piece, field, stray, size, pieces, front}
use Rattle.policy.specs.Grammar.{max_depth}
use Rattle.policy.specs.Meaning.{Rule, collect, counted_in, counted, rules_of}
use Rattle.policy.proofs.Pieces.{pieces_nil}
use Rattle.policy_walk.specs.Flat.{flat_step, flatten}
use Rattle.policy_walk.proofs.Flat.{flatten_nil, flatten-step}
use Rattle.policy_walk.proofs.Fronts.{Front, front-pieces, front_length, drop_past, GoodAll, by_fronts}

-- a whole field; if it is a group it has a level, and its fields are good, where d groups stand inside one another at most
unfoldable pub Good : ℕ → Piece → Type 0
Good zero (stray s) = ⊥
Good zero (field t v) = eqb t group_tag ≡ false
Good (suc d) (stray s) = ⊥
Good (suc d) (field t v) = eqb t group_tag ≡ true → (1 ≤ length v) × GoodAll (Good d) (pieces (drop 1 v))

pub no_stray : (d : ℕ) (s : List ℕ) → Good d (stray s) → ⊥
unfolding Good
no_stray zero s g = g
no_stray (suc d) s g = g

module _ (level : ℕ) where
  flatten_front : {xs : List ℕ} {t : ℕ} {v : List ℕ} (F : Front xs t v) → flatten level xs ≡ flat_step (flatten level) level F.rest (field t v)
  unfolding size
  flatten_front {xs} {t} {v} F =
      let l = front_length F in
      let f : front (pieces xs) ≡ field t v = ap front (front-pieces F) ∙ unfold front in refl in
      let z : length v + 3 + 0 ≡ length v + 3 = omega arith in
      let d : drop (length v + 3) xs ≡ F.rest = rw z at (drop_past F 0) in
      flatten-step level xs (omega arith) ∙ rw (f, d)

  -- what the walk finds of one field, with what follows it
  abbrev One : ℕ → Type 0
  One d = (p : Piece) (ws : List ℕ) → Good d p → flat_step (flatten level) level ws p ≡ counted d level p ++ flatten level ws

  -- and of fields
  abbrev Many : ℕ → List ℕ → Type 0
  Many d xs = (ys : List ℕ) → flatten level (xs ++ ys) ≡ collect (counted d level) (pieces xs) ++ flatten level ys

  many_nil : (d : ℕ) → Many d []
  unfolding collect
  many_nil d ys = rw pieces_nil

  -- more bytes behind
  longer : {xs : List ℕ} {t : ℕ} {v : List ℕ} (F : Front xs t v) (ys : List ℕ) → Front (xs ++ ys) t v
  longer {xs} {t} {v} F ys = record {
    low = F.low;
    high = F.high;
    rest = F.rest ++ ys;
    len = F.len;
    is = ap (λ (l : List ℕ). l ++ ys) F.is ∙ ap (λ (l : List ℕ). t ∷ F.low ∷ F.high ∷ l) (append_assoc v F.rest ys);
  }

  many_more : (d : ℕ) → One d → (xs : List ℕ) (t : ℕ) (v : List ℕ) (F : Front xs t v) → Good d (field t v) → GoodAll (Good d) (pieces F.rest) → Many d F.rest → Many d xs
  unfolding collect longer
  many_more d one xs t v F g gs rest ys =
      flatten_front (longer F ys)
      ∙ one (field t v) (F.rest ++ ys) g
      ∙ ap (λ (l : List Rule). counted d level (field t v) ++ l) (rest ys)
      ∙ sym (append_assoc (counted d level (field t v)) (collect (counted d level) (pieces F.rest)) (flatten level ys))
      ∙ sym (ap (λ (ps : List Piece). collect (counted d level) ps ++ flatten level ys) (front-pieces F))

  all_of_lem : (d : ℕ) → One d → (xs : List ℕ) → GoodAll (Good d) (pieces xs) → Many d xs
  all_of_lem d one xs g = by_fronts (Good d) (no_stray d) (Many d) (many_nil d) (many_more d one) xs g

  one_zero : One zero
  unfolding Good flat_step counted counted_in
  one_zero (stray s) ws g = absurd g
  one_zero (field t v) ws g = rw g

  one_suc : (d : ℕ) → ((xs : List ℕ) → GoodAll (Good d) (pieces xs) → Many d xs) → One (suc d)
  unfolding Good flat_step counted counted_in
  one_suc d many (stray s) ws g = absurd g
  one_suc d many (field t v) ws g =
      split (eqb t group_tag)
      (λ q. split (leb (get_or v 0 0) level)
      (λ r. rw (q, r) (many (drop 1 v) (g q).1 ws))
      (λ r. rw (q, r)))
      (λ q. rw q)

  many : (d : ℕ) (xs : List ℕ) → GoodAll (Good d) (pieces xs) → Many d xs
  many zero xs g = all_of_lem zero one_zero xs g
  many (suc d) xs g = all_of_lem (suc d) (one_suc d (many d)) xs g

  -- the walk finds the counted rules of a part, in order
  pub walk-rules : (s : List ℕ) → GoodAll (Good max_depth) (pieces s) → flatten level s ≡ rules_of level s
  unfolding rules_of
  walk-rules s g = ap (flatten level) (sym (append-nil s)) ∙ many max_depth s g [] ∙ rw (flatten_nil level) (append-nil (collect (counted max_depth level) (pieces s)))

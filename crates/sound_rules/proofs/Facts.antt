-- What the soundness test of rules tells, rule by rule, and that it tells no more. Assumes nothing.
use mathlib.Core.Path.{◌≡◌, refl, sym}
use mathlib.Core.Bool.{Bool, true, false, not, false≢true}
use mathlib.Core.List.{List}
use mathlib.Core.Logic.{◌⊎◌, inl, inr}
use Prim.Native.Nat.{ℕ, ◌≤◌, ◌<◌}
use native.Mathlib.Omega.{arith}
use lib.Dec.{eqb, ltb}
use borrow.Author.Tests.{ltb-true, ltb-false, leb-true, eqb-true, eqb-false, lt-ltb, le-leb, eq-eqb, ne_eqb, not-true}
use Rattle.laws.proofs.Bools.{and_l, and_r, both, not_of_false, clash, split, either, cond_then, cond_else, cond_of}
use Rattle.laws.proofs.Tests.{all-at, all_of_lem, any_found, none_of, all_of-at, all_of_of, met, ◌also◌}
use Rattle.access.specs.Limits.{max_entries, max_port}
use Rattle.access.specs.Rights.{within, file_set, known_fs, known_net, known_scope}
use Rattle.tables.specs.Tables.{object, live, is_dir, path_rule, port_rule, rule_type, rule_key, rule_rights}
use Rattle.sound_rules.specs.Rules.{is_file_of, file_object, rights_fit, path_sound, port_sound, cells_sound, rule_sound, same_key, new_key, rule_count, rules_sound, masks_known}

-- a rule for the object o
pub record PathRule (es : List ℕ) (next fs o rights : ℕ) : Type 0 where
  -- "below the counter"
  pub below : o < next
  -- "grant something"
  pub some : rights ≡ 0 → ⊥
  -- "all of it asked to be handled"
  pub asked : within rights fs ≡ true
  -- "on a live non-directory's object only from the file set"
  pub fits : (e : ℕ) → e < max_entries → live es e ≡ true → is_dir es e ≡ false → object es e ≡ o → within rights file_set ≡ true

-- a rule for a port
pub record PortRule (net port rights : ℕ) : Type 0 where
  -- "ports .. are in range"
  pub in_range_lem : port ≤ max_port
  -- "grant something"
  pub some : rights ≡ 0 → ⊥
  -- "all of it asked to be handled"
  pub asked : within rights net ≡ true

-- the rules of a ruleset or of a layer
pub record Rules (es : List ℕ) (next fs net : ℕ) (rules : List ℕ) : Type 0 where
  -- a rule is for a path or for a port
  pub typed : (i : ℕ) → i < rule_count rules → (rule_type rules i ≡ path_rule) ⊎ (rule_type rules i ≡ port_rule)
  pub path : (i : ℕ) → i < rule_count rules → rule_type rules i ≡ path_rule → PathRule es next fs (rule_key rules i) (rule_rights rules i)
  pub port : (i : ℕ) → i < rule_count rules → rule_type rules i ≡ port_rule → PortRule net (rule_key rules i) (rule_rights rules i)
  -- "distinct objects or ports"
  pub distinct : (i j : ℕ) → i < rule_count rules → j < rule_count rules → rule_type rules i ≡ rule_type rules j → rule_key rules i ≡ rule_key rules j → i ≡ j

-- "bits asked for belong to the level"
pub record Masks (level fs net scope : ℕ) : Type 0 where
  pub fs-known : within fs (known_fs level) ≡ true
  pub net-known : within net (known_net level) ≡ true
  pub scope-known : within scope (known_scope level) ≡ true

-- ---- an entry that is a file of the object
module _ (es : List ℕ) (o e : ℕ) where
  pub file_of_lem : live es e ≡ true → is_dir es e ≡ false → object es e ≡ o → is_file_of es o e ≡ true
  unfolding is_file_of
  file_of_lem l d q = both _ _ (eq-eqb (object es e) o q) (both _ _ l (not_of_false _ d))

  pub file-object : is_file_of es o e ≡ true → object es e ≡ o
  unfolding is_file_of
  file-object f = eqb-true (object es e) o (and_l _ _ f)

  pub file-live : is_file_of es o e ≡ true → live es e ≡ true
  unfolding is_file_of
  file-live f = and_l _ _ (and_r (eqb (object es e) o) _ f)

  pub file_no_dir : is_file_of es o e ≡ true → is_dir es e ≡ false
  unfolding is_file_of
  file_no_dir f = not-true _ (and_r (live es e) _ (and_r (eqb (object es e) o) _ f))

-- ---- a rule by its cells
module _ (es : List ℕ) (o rights : ℕ) where
  abbrev Fits : Type 0
  Fits = (e : ℕ) → e < max_entries → live es e ≡ true → is_dir es e ≡ false → object es e ≡ o → within rights file_set ≡ true

  rights-fits : rights_fit es o rights ≡ true → Fits
  unfolding rights_fit file_object
  rights-fits h e l a d q =
      split (within rights file_set) (λ p. p)
      (λ p. clash (file_object es o) (sym (any_found (is_file_of es o) max_entries e l (file_of_lem es o e a d q)))
      (not-true _ (cond_else (within rights file_set) true (not (file_object es o)) p h)))

  rights_fit_lem : Fits → rights_fit es o rights ≡ true
  unfolding rights_fit file_object
  rights_fit_lem f =
      cond_of (within rights file_set) true (not (file_object es o)) (λ q. refl)
      (λ q. not_of_false _ (none_of (is_file_of es o) max_entries (no_file q)))
    where
      no_file : within rights file_set ≡ false → (e : ℕ) → e < max_entries → is_file_of es o e ≡ false
      no_file q e l =
          split (is_file_of es o e)
          (λ p. clash (within rights file_set) (f e l (file-live es o e p) (file_no_dir es o e p) (file-object es o e p)) q)
          (λ p. p)

module _ (es : List ℕ) (next fs o rights : ℕ) where
  path-rule : path_sound es next fs o rights ≡ true → PathRule es next fs o rights
  unfolding path_sound
  path-rule h =
      record {
        below = ltb-true o next (all_of-at _ 0 h);
        some = eqb-false rights 0 (not-true _ (all_of-at _ 1 h));
        asked = all_of-at _ 2 h;
        fits = rights-fits es o rights (all_of-at _ 3 h);
      }

  path-sound : PathRule es next fs o rights → path_sound es next fs o rights ≡ true
  unfolding path_sound
  path-sound p =
      all_of_of
      (lt-ltb o next p.below also not_of_false _ (ne_eqb rights 0 p.some) also p.asked also rights_fit_lem es o rights p.fits also met)

module _ (net port rights : ℕ) where
  port-rule : port_sound net port rights ≡ true → PortRule net port rights
  unfolding port_sound
  port-rule h =
      record {
        in_range_lem = leb-true port max_port (all_of-at _ 0 h);
        some = eqb-false rights 0 (not-true _ (all_of-at _ 1 h));
        asked = all_of-at _ 2 h;
      }

  port-sound : PortRule net port rights → port_sound net port rights ≡ true
  unfolding port_sound
  port-sound p = all_of_of (le-leb port max_port p.in_range_lem also not_of_false _ (ne_eqb rights 0 p.some) also p.asked also met)

module _ (es : List ℕ) (next fs net ty key rights : ℕ) where
  module _ (h : cells_sound es next fs net ty key rights ≡ true) where
    cells_typed : (ty ≡ path_rule) ⊎ (ty ≡ port_rule)
    unfolding cells_sound
    cells_typed =
        split (eqb ty path_rule) (λ p. inl (eqb-true ty path_rule p))
        (λ p. split (eqb ty port_rule) (λ q. inr (eqb-true ty port_rule q))
        (λ q. absurd (false≢true (cond_else (eqb ty port_rule) _ false q (cond_else (eqb ty path_rule) _ _ p h)))))

    cells-path : ty ≡ path_rule → PathRule es next fs key rights
    unfolding cells_sound
    cells-path e = path-rule es next fs key rights (cond_then (eqb ty path_rule) _ _ (eq-eqb ty path_rule e) h)

    cells-port : ty ≡ port_rule → PortRule net key rights
    unfolding cells_sound
    cells-port e =
        port-rule net key rights
        (cond_then (eqb ty port_rule) _ _ (eq-eqb ty port_rule e)
        (cond_else (eqb ty path_rule) _ _ (ne_eqb ty path_rule (λ q. omega arith)) h))

  cells-sound : (ty ≡ path_rule) ⊎ (ty ≡ port_rule) → (ty ≡ path_rule → PathRule es next fs key rights) → (ty ≡ port_rule → PortRule net key rights)
      → cells_sound es next fs net ty key rights ≡ true
  unfolding cells_sound
  cells-sound t p q =
      either t
      (λ e. rw (eq-eqb ty path_rule e) (path-sound es next fs key rights (p e)))
      (λ e. rw (ne_eqb ty path_rule (λ d. omega arith), eq-eqb ty port_rule e) (port-sound net key rights (q e)))

-- ---- all the rules
module _ (rules : List ℕ) where
  -- the test of rule i against those before it
  key-new : (i j : ℕ) → new_key rules i ≡ true → j < i → rule_type rules i ≡ rule_type rules j → rule_key rules i ≡ rule_key rules j → ⊥
  unfolding new_key same_key
  key-new i j h l t k =
      clash (same_key rules i j)
      (both _ _ (eq-eqb (rule_key rules i) (rule_key rules j) k) (eq-eqb (rule_type rules i) (rule_type rules j) t))
      (not-true _ (all-at (λ m. not (same_key rules i m)) i j h l))

  pub new-key : (i : ℕ) → ((j : ℕ) → j < i → rule_type rules i ≡ rule_type rules j → rule_key rules i ≡ rule_key rules j → ⊥) → new_key rules i ≡ true
  unfolding new_key same_key
  new-key i f = all_of_lem (λ m. not (same_key rules i m)) i (λ j l. not_of_false _ (other j l))
    where
      other : (j : ℕ) → j < i → same_key rules i j ≡ false
      other j l =
          let k : Bool = eqb (rule_key rules i) (rule_key rules j) in
          let t : Bool = eqb (rule_type rules i) (rule_type rules j) in
          split (same_key rules i j)
          (λ q. absurd (f j l (eqb-true (rule_type rules i) (rule_type rules j) (and_r k t q)) (eqb-true (rule_key rules i) (rule_key rules j) (and_l k t q))))
          (λ q. q)

module _ (es : List ℕ) (next fs net : ℕ) (cells : List ℕ) where
  pub rules : rules_sound es next fs net cells ≡ true → Rules es next fs net cells
  unfolding rules_sound rule_sound
  rules h =
      let n : ℕ = rule_count cells in
      let one : (i : ℕ) → i < n → rule_sound es next fs net cells i ≡ true = λ i l. all-at (rule_sound es next fs net cells) n i (all_of-at _ 0 h) l in
      let new : (i : ℕ) → i < n → new_key cells i ≡ true = λ i l. all-at (new_key cells) n i (all_of-at _ 1 h) l in
      record {
        typed = λ i l. cells_typed es next fs net (rule_type cells i) (rule_key cells i) (rule_rights cells i) (one i l);
        path = λ i l. cells-path es next fs net (rule_type cells i) (rule_key cells i) (rule_rights cells i) (one i l);
        port = λ i l. cells-port es next fs net (rule_type cells i) (rule_key cells i) (rule_rights cells i) (one i l);
        distinct = λ i j l m t k. split (ltb i j)
            (λ q. absurd (key-new cells j i (new j m) (ltb-true i j q) (sym t) (sym k)))
            (λ q. split (ltb j i)
            (λ r. absurd (key-new cells i j (new i l) (ltb-true j i r) t k))
            (λ r. let a : j ≤ i = ltb-false i j q in let b : i ≤ j = ltb-false j i r in omega arith));
      }

  pub rules-sound : Rules es next fs net cells → rules_sound es next fs net cells ≡ true
  unfolding rules_sound rule_sound
  rules-sound R =
      let n : ℕ = rule_count cells in
      let one : (i : ℕ) → i < n → rule_sound es next fs net cells i ≡ true =
      λ i l. cells-sound es next fs net (rule_type cells i) (rule_key cells i) (rule_rights cells i) (R.typed i l) (R.path i l) (R.port i l) in
      let new : (i : ℕ) → i < n → new_key cells i ≡ true =
      λ i l. new-key cells i (λ j m t k. let e : i ≡ j = R.distinct i j l (omega arith) t k in omega arith) in
      all_of_of (all_of_lem (rule_sound es next fs net cells) n one also all_of_lem (new_key cells) n new also met)

-- ---- the masks
module _ (level fs net scope : ℕ) where
  pub masks : masks_known level fs net scope ≡ true → Masks level fs net scope
  unfolding masks_known
  masks h = record { fs-known = all_of-at _ 0 h; net-known = all_of-at _ 1 h; scope-known = all_of-at _ 2 h }

  pub masks-known : Masks level fs net scope → masks_known level fs net scope ≡ true
  unfolding masks_known
  masks-known m = all_of_of (m.fs-known also m.net-known also m.scope-known also met)

-- Restrict keeps sound tables sound. Assumes nothing.
use mathlib.Core.Path.{◌≡◌, refl, sym, ◌∙◌}
use mathlib.Core.Bool.{true, false, not, ◌||◌}
use mathlib.Core.List.{List}
use Prim.Native.Nat.{ℕ, suc, ◌+◌, ◌-◌, ◌*◌, ◌≤◌, ◌<◌}
use native.Mathlib.Numerals.{add-one, sub-one}
use native.Mathlib.Omega.{arith}
use lib.Dec.{eqb, ltb, leb}
use lib.ListN.{length, get_or, set, length-set}
use lib.Seq.{get_or-set_same, get_or-set_other}
use borrow.Author.Tests.{eqb-true, eqb-false, eq-eqb, ne_eqb, leb-false, not-true, not-false}
use Rattle.laws.specs.Cells.{put_cell}
use Rattle.laws.specs.Refusals.{first}
use Rattle.laws.proofs.Bools.{split}
use Rattle.laws.proofs.Cells.{cell_put, cell_put_beside, length-put_cell}
use Rattle.laws.proofs.Refusals.{passed}
use Rattle.laws.specs.Sums.{sum_below, bit, tally}
use Rattle.laws.proofs.Sums.{bit_yes, bit_no, tally-room}
use Rattle.laws.proofs.Tests.{first_passes}
use Rattle.access.specs.Limits.{max_layers, max_pool, max_threads, max_domain}
use Rattle.tables.specs.Tables.{Tables, tables, system_width, layer_width, rule_width, thread_width, level, counter, layers_used, pool_used, youngest, thread_live}
use Rattle.tables.specs.Layers.{ruleset_count, is_open, layer_parent, layer_count, layer_holders, layer_in_use}
use Rattle.judge.specs.Domain.{domain}
use Rattle.sound_domains.specs.Domains.{chain_ends, holders}
use Rattle.sound_domains.proofs.Chains.{chain_up}
use Rattle.sound_domains.proofs.Facts.{LiveThread, Threads}
use Rattle.sound_domains.proofs.Hierarchy.{Hierarchy, no_due, no_thread, no_layer}
use Rattle.sound_domains.proofs.Holders.{holders-thread, holders-layer}
use Rattle.sound.specs.Sound.{sound}
use Rattle.sound_layers.proofs.Facts.{Layers}
use Rattle.sound.proofs.Facts.{Owing, Sound, facts, sound_of}
use Rattle.domain_restrict.specs.Restrict.{restrict_form, is_deep, no_room, restrict_room, restrict_checks, free_layer, counted, restricted, restrict_done, restrict_call}
use Rattle.domain_restrict.proofs.Room.{roomy}
use Rattle.sound.proofs.Calls.{kept-call}
use Rattle.kept_rulesets.proofs.Rows.{open_small}
use Rattle.kept_domains.proofs.Rows.{HasRow, has_row, row_beside}
use Rattle.kept_domains.proofs.Threads.{live_below, threads-changed}
use Rattle.kept_domains.proofs.Chains.{chain-short, ends-around}
use Rattle.kept_domains.proofs.Counts.{unused_none}
use Rattle.kept_domains.proofs.Layers.{new_layers, new-length, new-other, new-parent, new-held, new_pool, pool-length, layers-new}

-- ---- what the checks tell
pub record Allowed (T : Tables) (t r : ℕ) : Type 0 where
  pub live : thread_live T.threads t ≡ true
  pub some_level : level T.system ≡ 0 → ⊥
  pub opens : is_open T.rulesets r ≡ true
  pub short : length (domain T.layers T.threads t) < max_domain
  pub room : layers_used T.system < max_layers
  pub space : pool_used T.system + ruleset_count T.rulesets r ≤ max_pool

pub allowed : (T : Tables) (t r flags : ℕ) → first (restrict_checks T t r flags) ≡ 0 → Allowed T t r
unfolding restrict_checks restrict_form restrict_room is_deep
allowed T t r flags z =
    let p = passed (restrict_checks T t r flags) z in
    let q = roomy T t r flags refl z in
    record {
      live = not-false _ p.0;
      some_level = eqb-false (level T.system) 0 p.1.0;
      opens = not-false _ p.1.1.1.1.0;
      short = leb-false max_domain (length (domain T.layers T.threads t)) p.1.1.1.1.1.0;
      room = q.0;
      space = q.1;
    }

-- document 02, W13, "ENOMEM is given exactly if live layers and rules leave too little room": the records in use, and their rules
pub room-exact : (T : Tables) (r : ℕ) → Sound T
    → no_room T.system T.rulesets r ≡ (leb max_layers (tally (layer_in_use T.layers) max_layers) || ltb max_pool (sum_below (layer_count T.layers) max_layers + ruleset_count T.rulesets r))
unfolding no_room
room-exact T r S = rw (S.layers.counted, S.layers.filled) refl

-- ---- both counters set: layers and pool rules in use
module _ (sys : List ℕ) (a b : ℕ) where
  abbrev both : List ℕ
  both = set (set sys 2 a) 3 b

  both_length : length both ≡ length sys
  both_length = simp (length-set)

  -- the level and the next object number
  pub both_other : (k : ℕ) → k < 2 → get_or both k 0 ≡ get_or sys k 0
  both_other k h = get_or-set_other (set sys 2 a) 3 k b 0 (λ e. omega arith) ∙ get_or-set_other sys 2 k a 0 (λ e. omega arith)

  module _ (w : length sys ≡ system_width) where
    both_layers : layers_used both ≡ a
    both_layers = get_or-set_other (set sys 2 a) 3 2 b 0 (λ e. omega arith) ∙ get_or-set_same sys 2 a 0 (omega arith)

    both_pool : pool_used both ≡ b
    both_pool = get_or-set_same (set sys 2 a) 3 b 0 (rw (length-set) (omega arith))

-- a call that changes layers, pool and threads, and sets both
pub recounted : (T : Tables) (due due' a b : ℕ) (ls ps ts : List ℕ) → Owing T due → length ls ≡ layer_width * max_layers → length ps ≡ rule_width * max_pool → length ts ≡ thread_width * max_threads
    → (level T.system ≡ 0 → a ≡ 0) → Threads ls ts max_layers → Hierarchy ls ts due' → Layers T.entries (counter T.system) (level T.system) ls ps a b
    → Owing (tables (set (set T.system 2 a) 3 b) T.entries T.rulesets ls ps ts) due'
recounted T due due' a b ls ps ts S wl wp wt none Z H Y =
    let sys = T.system in
    let lv = both_other sys a b 0 (omega arith) in
    let ct = both_other sys a b 1 (omega arith) in
    let lu = both_layers sys a b S.lengths.system in
    let pu = both_pool sys a b S.lengths.system in
    record {
      lengths = record { system = both_length sys a b ∙ S.lengths.system; entries = S.lengths.entries; rulesets = S.lengths.rulesets; layers = wl; pool = wp; threads = wt };
      system = record { level-known = rw lv S.system.level-known; counter_low = rw ct S.system.counter_low; counter_high = rw ct S.system.counter_high };
      level-zero = record { no_layer = λ z. lu ∙ none (sym lv ∙ z); no_ruleset = λ z. S.level-zero.no_ruleset (sym lv ∙ z) };
      threads = Z;
      hierarchy = H;
      tree = rw ct S.tree;
      rulesets = rw (ct, lv) S.rulesets;
      layers = rw (ct, lv, lu, pu) Y;
    }

-- ---- the tables after it
module _ (T : Tables) (t r : ℕ) (S : Sound T) (A : Allowed T t r) where
  abbrev sys : List ℕ
  sys = T.system

  abbrev ls : List ℕ
  ls = T.layers

  abbrev rs : List ℕ
  rs = T.rulesets

  abbrev ts : List ℕ
  ts = T.threads

  -- the record taken
  abbrev used : ℕ
  used = free_layer ls

  abbrev y : ℕ
  y = youngest ts t

  abbrev ls' : List ℕ
  ls' = new_layers ls rs used (pool_used sys) r y

  abbrev ts' : List ℕ
  ts' = put_cell ts thread_width t 1 (used + 1)

  below : t < max_threads
  below = live_below ts t S.lengths.threads A.live

  record_room : used < max_layers
  unfolding free_layer
  record_room = tally-room (layer_in_use ls) max_layers (let c = S.layers.counted in let r = A.room in omega arith)

  pub record_free : layer_in_use ls used ≡ false
  unfolding free_layer
  record_free = not-true (layer_in_use ls used) (first_passes (λ l. not (layer_in_use ls l)) max_layers record_room)

  pub unheld : holders ls ts (suc used) ≡ 0
  unheld = let z = unused_none ls used record_free in let h = S.hierarchy.held used record_room in omega arith

  pub unnamed : (m : ℕ) → layer_parent ls m ≡ suc used → ⊥
  unnamed = no_layer ls ts used unheld S.lengths.layers

  pub has : HasRow ls layer_width used
  has = has_row ls layer_width max_layers used S.lengths.layers record_room

  pub same-parent : (m : ℕ) → (m ≡ used → ⊥) → layer_parent ls' m ≡ layer_parent ls m
  same-parent m d = new-other ls rs used (pool_used sys) r y m d 0 (omega arith)

  thread : LiveThread ls ts max_layers t
  thread = S.threads.live t below A.live

  -- chains from layers in use
  chains : (n z : ℕ) → (z ≡ suc used → ⊥) → chain_ends ls' n z ≡ chain_ends ls n z
  chains = ends-around ls ls' used unnamed same-parent

  -- and the one from the new layer
  chain-new : chain_ends ls' max_domain (suc used) ≡ true
  unfolding domain
  chain-new =
      chain_up ls' max_domain (suc used) (λ z. omega arith) (λ z. omega arith)
      ∙ rw (sub-one (suc used), new-parent ls rs used (pool_used sys) r y has)
      (chains (max_domain - 1) y (no_thread ls ts used unheld t below) ∙ chain-short ls (max_domain - 1) y A.short)

  chains_all : (z : ℕ) → z ≤ max_layers → chain_ends ls' max_domain z ≡ chain_ends ls max_domain z
  chains_all z h = split (eqb z (suc used))
      (λ q. rw (eqb-true z (suc used) q) (chain-new ∙ sym (S.hierarchy.ends used record_room)))
      (λ q. chains max_domain z (eqb-false z (suc used) q))

  threads-new : Threads ls' ts' max_layers
  threads-new =
      let L = thread in
      let e : youngest ts' t ≡ used + 1 = cell_put ts thread_width t 1 (used + 1) (let w = S.lengths.threads in let b = below in omega arith) in
      let b = record_room in
      threads-changed ls ls' ts ts' max_layers max_layers t (omega arith) chains_all (λ u d. row_beside ts thread_width t 1 (used + 1) u (omega arith) d)
      (record {
        state = cell_put_beside ts thread_width t 1 (used + 1) 0 (λ z. omega arith) ∙ L.state;
        in_use = rw e (omega arith);
        privs_mark = rw (cell_put_beside ts thread_width t 1 (used + 1) 2 (λ z. omega arith)) L.privs_mark;
        admin_mark = rw (cell_put_beside ts thread_width t 1 (used + 1) 3 (λ z. omega arith)) L.admin_mark;
        domain = rw (e, add-one used) chain-new;
      })
      S.threads

  -- the thread holds the new layer, and the new layer in its place the thread's old one
  hierarchy_new : Hierarchy ls' ts' 0
  hierarchy_new = record {
    parents = λ m h. split (eqb m used)
        (λ q. rw (eqb-true m used q, new-parent ls rs used (pool_used sys) r y has) thread.in_use)
        (λ q. rw (same-parent m (eqb-false m used q)) (S.hierarchy.parents m h));
    ends = λ m h. chains_all (suc m) h ∙ S.hierarchy.ends m h;
    held = λ m h.
        let e : youngest ts' t ≡ suc used = cell_put ts thread_width t 1 (used + 1) (let w = S.lengths.threads in let b = below in omega arith) ∙ add-one used in
        let a = holders-thread ls ls ts ts' (suc m) t below (λ u k d. row_beside ts thread_width t 1 (used + 1) u (omega arith) d 1 (omega arith)) (λ i k. refl) in
        let b = holders-layer ls ls' ts' ts' (suc m) used record_room (λ u k. refl) (λ i k d. same-parent i d) in
        let c : bit (eqb (layer_parent ls used) (suc m)) ≡ 0 = rw (S.layers.free used record_room record_free 0 (omega arith)) (no_due m) in
        let d : bit (eqb (layer_parent ls' used) (suc m)) ≡ bit (eqb y (suc m)) = rw (new-parent ls rs used (pool_used sys) r y has) refl in
        let f : bit (eqb (youngest ts' t) (suc m)) ≡ bit (eqb (suc used) (suc m)) = rw e refl in
        let n = no_due m in
        split (eqb m used)
        (λ q.
        let z = eqb-true m used q in
        let g : bit (eqb (suc used) (suc m)) ≡ 1 = bit_yes (eqb (suc used) (suc m)) (eq-eqb (suc used) (suc m) (omega arith)) in
        let i : layer_holders ls' m ≡ 1 = rw z (new-held ls rs used (pool_used sys) r y has) in
        let j : holders ls ts (suc m) ≡ 0 = rw z unheld in
        omega arith)
        (λ q.
        let z = eqb-false m used q in
        let g : bit (eqb (suc used) (suc m)) ≡ 0 = bit_no (eqb (suc used) (suc m)) (ne_eqb (suc used) (suc m) (λ x. z (omega arith))) in
        let i = new-other ls rs used (pool_used sys) r y m z 6 (omega arith) in
        let j = S.hierarchy.held m h in
        omega arith);
  }

  restrict-sound : Sound (restricted T t r)
  unfolding restricted counted
  restrict-sound =
      let low = open_small rs r S.lengths.rulesets A.opens in
      recounted T 0 0 (layers_used sys + 1) (pool_used sys + ruleset_count rs r) ls' (new_pool T.pool rs (pool_used sys) r) ts' S
      (new-length ls rs used (pool_used sys) r y ∙ S.lengths.layers) (pool-length T.pool rs (pool_used sys) r ∙ S.lengths.pool)
      (length-put_cell ts thread_width t 1 (used + 1) ∙ S.lengths.threads) (λ z. absurd (A.some_level z)) threads-new hierarchy_new
      (layers-new T.entries (counter sys) (level sys) ls T.pool rs used (pool_used sys) r y (layers_used sys) S.lengths.layers S.lengths.pool S.lengths.rulesets
      low A.opens (S.rulesets.opened r low A.opens) record_free record_room A.space S.layers)

-- ---- the call
pub kept-restricted : (T : Tables) (t r flags : ℕ) → sound T ≡ true → sound (restrict_call T t r flags).left ≡ true
unfolding restrict_call restrict_done
kept-restricted T t r flags h = kept-call T (restrict_checks T t r flags) (restrict_done T t r)
    (λ z. sound_of (restricted T t r) (restrict-sound T t r (facts T h) (allowed T t r flags z)))
    h

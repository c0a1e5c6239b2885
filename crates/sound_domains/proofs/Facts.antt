-- What sound threads say of any thread, and the way back. Assumes nothing.
use mathlib.Core.Path.{◌≡◌}
use mathlib.Core.Bool.{true, false}
use mathlib.Core.List.{List}
use Prim.Native.Nat.{ℕ, ◌≤◌, ◌<◌}
use borrow.Author.Tests.{eqb-true, eq-eqb, leb-true, le-leb}
use Rattle.laws.proofs.Bools.{cond_then, cond_else, cond_of}
use Rattle.laws.proofs.Tests.{all-at, all_of_lem, all_of-at, all_of_of, met, ◌also◌}
use Rattle.access.specs.Limits.{max_threads, max_domain}
use Rattle.tables.specs.Tables.{thread_state, youngest, no_new_privs, admin, thread_live}
use Rattle.sound_domains.specs.Domains.{chain_ends, live_sound, free_sound, thread_sound, threads_sound}

pub record LiveThread (ls ts : List ℕ) (used t : ℕ) : Type 0 where
  pub state : thread_state ts t ≡ 1
  -- "threads .. name only those" layers in use
  pub in_use : youngest ts t ≤ used
  -- "marks .. are in range"
  pub privs_mark : no_new_privs ts t ≤ 1
  pub admin_mark : admin ts t ≤ 1
  -- "domains have at most 16 layers"; document 02, W5: 64
  pub domain : chain_ends ls max_domain (youngest ts t) ≡ true

-- "free space is zero"
pub record FreeThread (ts : List ℕ) (t : ℕ) : Type 0 where
  pub no_layer : youngest ts t ≡ 0
  pub no_privs_mark : no_new_privs ts t ≡ 0
  pub no_admin_mark : admin ts t ≡ 0

pub record Threads (ls ts : List ℕ) (used : ℕ) : Type 0 where
  pub live : (t : ℕ) → t < max_threads → thread_live ts t ≡ true → LiveThread ls ts used t
  pub free : (t : ℕ) → t < max_threads → thread_live ts t ≡ false → FreeThread ts t

module _ (ls ts : List ℕ) (used : ℕ) where
  live-thread : (t : ℕ) → live_sound ls ts used t ≡ true → LiveThread ls ts used t
  unfolding live_sound
  live-thread t h = record {
    state = eqb-true (thread_state ts t) 1 (all_of-at _ 0 h);
    in_use = leb-true (youngest ts t) used (all_of-at _ 1 h);
    privs_mark = leb-true (no_new_privs ts t) 1 (all_of-at _ 2 h);
    admin_mark = leb-true (admin ts t) 1 (all_of-at _ 3 h);
    domain = all_of-at _ 4 h;
  }

  live_back : (t : ℕ) → LiveThread ls ts used t → live_sound ls ts used t ≡ true
  unfolding live_sound
  live_back t L =
      all_of_of
      (eq-eqb (thread_state ts t) 1 L.state
      also le-leb (youngest ts t) used L.in_use
      also le-leb (no_new_privs ts t) 1 L.privs_mark
      also le-leb (admin ts t) 1 L.admin_mark
      also L.domain
      also met)

  free-thread : (t : ℕ) → free_sound ts t ≡ true → FreeThread ts t
  unfolding free_sound
  free-thread t h = record {
    no_layer = eqb-true (youngest ts t) 0 (all_of-at _ 0 h);
    no_privs_mark = eqb-true (no_new_privs ts t) 0 (all_of-at _ 1 h);
    no_admin_mark = eqb-true (admin ts t) 0 (all_of-at _ 2 h);
  }

  free_back : (t : ℕ) → FreeThread ts t → free_sound ts t ≡ true
  unfolding free_sound
  free_back t F =
      all_of_of
      (eq-eqb (youngest ts t) 0 F.no_layer also eq-eqb (no_new_privs ts t) 0 F.no_privs_mark also eq-eqb (admin ts t) 0 F.no_admin_mark also met)

  pub threads : threads_sound ls ts used ≡ true → Threads ls ts used
  unfolding threads_sound thread_sound
  threads h =
      let at : (t : ℕ) → t < max_threads → thread_sound ls ts used t ≡ true = λ t l. all-at (thread_sound ls ts used) max_threads t h l in
      record {
        live = λ t l p. live-thread t (cond_then (thread_live ts t) (live_sound ls ts used t) (free_sound ts t) p (at t l));
        free = λ t l p. free-thread t (cond_else (thread_live ts t) (live_sound ls ts used t) (free_sound ts t) p (at t l));
      }

  pub threads-sound : Threads ls ts used → threads_sound ls ts used ≡ true
  unfolding threads_sound thread_sound
  threads-sound Z =
      all_of_lem (thread_sound ls ts used) max_threads
      (λ t l. cond_of (thread_live ts t) (live_sound ls ts used t) (free_sound ts t) (λ p. live_back t (Z.live t l p)) (λ p. free_back t (Z.free t l p)))

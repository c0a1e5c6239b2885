-- Link, rename and exchange as they are, with names: EXDEV is never needless. Assumes nothing.
use mathlib.Core.Path.{◌≡◌, refl, sym}
use mathlib.Core.Bool.{true, false}
use mathlib.Core.List.{List, [], ◌∷◌, ◌++◌}
use Prim.Native.Nat.{ℕ}
use lib.Dec.{eqb}
use borrow.Author.Tests.{eqb-true, not-false}
use Rattle.laws.specs.Refusals.{◌⇒◌, first}
use Rattle.laws.proofs.Refusals.{passed}
use Rattle.laws.proofs.Joined.{join-left, join-right}
use Rattle.access.specs.Errno.{EPERM, EINVAL}
use Rattle.tables.specs.Tables.{Tables, parent, live, is_dir}
use Rattle.tables.specs.Layers.{Layer}
use Rattle.sound.proofs.Facts.{Sound, facts}
use Rattle.tree.specs.Entries.{is_above}
use Rattle.tree.specs.Moves.{move_of, replaced_kind}
use Rattle.tree.specs.Link.{link_verdict, link_later}
use Rattle.tree.specs.Rename.{rename_verdict, rename_later, dropped}
use Rattle.tree.specs.Exchange.{exchange_names, exchange_shape, exchange_verdict, exchange_checks}
use Rattle.fs.specs.Move.{verdict}
use Rattle.fs.specs.declared.needs.Step.TheVariants.{Rename}
use Rattle.kept_tree.proofs.Climbs.{Avoids}
use Rattle.kept_tree.proofs.Move.{nonzero, not_above}
use Rattle.theorems.specs.Calls.{Call, caller}
use Rattle.theorems.specs.Named.{verdict_on}
use Rattle.names.specs.Names.{name_checks}
use Rattle.names.proofs.Bearer.{bearer-cases}
use Rattle.named.specs.Named.{Named}
use Rattle.named.specs.Tree.{link_target, new_name, link_before, link_named_checks, replaced_by, rename_before, rename_named_checks}
use Rattle.named.specs.Calls.{on_core}
use Rattle.named.specs.Layer.{faulty, refusals_named}
use Rattle.named.proofs.Made.{core-sound, omits}
use Rattle.gain.specs.Gain.{gained, if_moved, rename_gain, link_gain}
use Rattle.gain.specs.Claim.{link_crossing, rename_crossing, exchange_crossing, Judged, NeverNeedless}
use Rattle.gain.proofs.Moves.{move_sharp, replaced_off, exchange_sharp, link_sharp, link-same}
use Rattle.gain.proofs.Answers.{Parts, exact}

module _ (N : Named) where
  abbrev T : Tables
  T = N.core

  abbrev es : List ℕ
  es = N.core.entries

  -- the source is live and not the root, the target is a directory
  record Fit (s d : ℕ) : Type 0 where
    source : live es s ≡ true
    nz : 0 ≡ s → ⊥
    home : is_dir es d ≡ true

  fit : (t s d : ℕ) → first (link_target es N.core.threads t s d) ≡ 0 → Fit s d
  unfolding link_target
  fit t s d z =
      let p = passed (link_target es N.core.threads t s d) z in
      record { source = not-false (live es s) p.1.0; nz = nonzero s p.1.1.1.0; home = not-false (is_dir es d) p.1.1.1.1.0 }

  -- ---- link
  module _ (t s d : ℕ) (n : List ℕ) where
    record Linkable : Type 0 where
      whole : Sound T
      fits : Fit s d
      file : is_dir es s ≡ false

    linkable : Judged N (link_crossing N t s d n) → Linkable
    unfolding link_crossing link_before link_target new_name name_checks
    linkable j =
        let last = is_dir es s ⇒ EPERM ∷ [] in
        record {
          whole = facts T (core-sound N j.is-sound_lem);
          fits = fit t s d (join-left (link_target es N.core.threads t s d) _ j.passed);
          file = (passed last (join-right (link_before N t s d n) last tt j.passed)).0;
        }

    link_parts : Parts N (link_crossing N t s d n)
    unfolding link_crossing link_before link_target new_name name_checks link_named_checks link_verdict link_later faulty refusals_named omits on_core caller verdict_on move_of
    link_parts = record {
      unsound-first = refl;
      refusals = refl;
      refusing = tt;
      earlier_omits = refl;
      later_omits = refl;
      is-verdict = refl;
      comes_to = Call.link t s d;
      only = refl;
      whose = refl;
      crosses = refl;
      sharp = λ j. let k = linkable j in link_sharp T k.whole s d k.fits.source k.fits.nz k.fits.home k.file;
    }

    link_as_source : Judged N (link_crossing N t s d n) → (L : Layer) → link_gain es s d L ≡ rename_gain es s d L
    link_as_source j = let k = linkable j in link-same T k.whole s d k.fits.source k.fits.nz k.fits.home k.file

  -- ---- rename
  module _ (t s d : ℕ) (n : List ℕ) where
    record Movable : Type 0 where
      whole : Sound T
      fits : Fit s d
      away : Avoids es s d

    movable : Judged N (rename_crossing N t s d n) → Movable
    unfolding rename_crossing rename_before link_target name_checks
    movable j =
        let last = is_above es s d ⇒ EINVAL ∷ [] in
        let k = facts T (core-sound N j.is-sound_lem) in
        let f = fit t s d (join-left (link_target es N.core.threads t s d) _ j.passed) in
        record {
          whole = k;
          fits = f;
          away = not_above T k s d f.nz f.home (passed last (join-right (rename_before T t s d n) last tt j.passed)).0;
        }

    rename_parts : Parts N (rename_crossing N t s d n)
    unfolding rename_crossing rename_before link_target name_checks rename_named_checks rename_verdict rename_later faulty refusals_named omits on_core caller verdict_on move_of
    rename_parts = record {
      unsound-first = refl;
      refusals = refl;
      refusing = tt;
      earlier_omits = refl;
      later_omits = refl;
      is-verdict = refl;
      comes_to = Call.rename t s d (replaced_by N d n);
      only = refl;
      whose = refl;
      crosses = refl;
      sharp = λ j. let k = movable j in move_sharp T k.whole s d k.fits.source k.fits.nz k.fits.home k.away Rename (replaced_kind es (replaced_by N d n));
    }

    replaced_unseen : Judged N (rename_crossing N t s d n) → (L : Layer) → gained es (dropped (if_moved es s d) (replaced_by N d n)) L s s ≡ rename_gain es s d L
    unfolding rename_crossing replaced_by dropped move_of
    replaced_unseen j L =
        let k = movable j in
        bearer-cases es N.names d n
        (λ q u. rw q refl)
        (λ y q b. rw q (replaced_off T k.whole s d k.fits.source k.fits.nz k.fits.home k.away y b.alive (λ z. b.not_root (sym z)) b.child j.apart L))

  -- ---- exchange
  module _ (t s d x : ℕ) where
    exchange_parts : Parts N (exchange_crossing N t s d x)
    unfolding exchange_crossing exchange_names exchange_shape exchange_verdict verdict exchange_checks faulty refusals_named omits on_core caller verdict_on move_of
    exchange_parts = record {
      unsound-first = refl;
      refusals = refl;
      refusing = tt;
      earlier_omits = refl;
      later_omits = refl;
      is-verdict = refl;
      comes_to = Call.exchange t s d x;
      only = refl;
      whose = refl;
      crosses = refl;
      sharp = λ j.
          let k = facts T (core-sound N j.is-sound_lem) in
          let p = passed (exchange_names T t s d x ++ exchange_shape es s d x) j.passed in
          let source = not-false (live es s) p.1.0 in
          let other = not-false (live es x) p.1.1.1.0 in
          let q = p.1.1.1.1 in
          let nz = nonzero s q.0 in
          let nx = nonzero x q.1.0 in
          let home = not-false (is_dir es d) q.1.1.0 in
          exchange_sharp T k s d x source nz home (not_above T k s d nz home q.1.1.1.1.0) other nx
          (eqb-true (parent es x) d (not-false (eqb (parent es x) d) q.1.1.1.0))
          (not_above T k x (parent es s) nx (k.tree.in_dir s source) q.1.1.1.1.1.0) j.apart;
    }

pub never_needless : NeverNeedless
never_needless = record {
  links = λ N t s d n. exact N (link_crossing N t s d n) (link_parts N t s d n);
  renames = λ N t s d n. exact N (rename_crossing N t s d n) (rename_parts N t s d n);
  exchanges = λ N t s d x. exact N (exchange_crossing N t s d x) (exchange_parts N t s d x);
  link_as_source = link_as_source;
  replaced_unseen = replaced_unseen;
}

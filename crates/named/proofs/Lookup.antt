-- The lookup of an entry's path answers the entry. Assumes nothing.
use mathlib.Core.Path.{◌≡◌, refl, sym, ap, ◌∙◌}
use mathlib.Core.Bool.{true}
use Prim.Native.Nat.{ℕ, ◌≤◌}
use lib.ListN.{length}
use Rattle.access.specs.declared.errno.Reply.TheVariants.{Done}
use Rattle.tables.specs.Tables.{live}
use Rattle.sound.proofs.Facts.{facts}
use Rattle.names.specs.Paths.{max_path, path_checks, found, path_of}
use Rattle.names.proofs.Facts.{names}
use Rattle.names.proofs.Paths.{path-fine, path-found}
use Rattle.named.specs.Named.{Named, named_sound, NamedOutcome, named_outcome}
use Rattle.named.specs.Calls.{lookup, outcome_named, reply_named}
use Rattle.named.proofs.Made.{core-sound, names-sound, named-goes}

pub lookup-path : (N : Named) (e : ℕ) → named_sound N ≡ true → live N.core.entries e ≡ true → length (path_of N.core.entries N.names e) ≤ max_path
    → reply_named N (lookup (path_of N.core.entries N.names e)) ≡ Done e
unfolding outcome_named
lookup-path N e h l s =
    let es = N.core.entries in
    let ns = N.names in
    let p = path_of es ns e in
    let Z = (facts N.core (core-sound N h)).tree in
    let W = names es ns (names-sound N h) in
    ap (λ (o : NamedOutcome). o.reply) (sym (named-goes N (path_checks p) (named_outcome (found es ns p) N) h (sym (path-fine es ns _ Z W e l s)) refl)) ∙ path-found es ns _ Z W e l

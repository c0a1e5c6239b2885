use mathlib.Core.Bool.{not}
use mathlib.Core.Path.{refl, sym, ◌∙◌, ap}
use borrow.Author.Rules.{rules}
use borrow.Author.Tests.{not-true, not-false}
use Rattle.laws.proofs.Tests.{all_more}
use Rattle.names.specs.Names.{row_at}
use Rattle.sound_names_rows.proofs.Twins.{row_is, row_fails, free-unlike}
use Rattle.sound_names_chains.specs.Chains.{IsAdded}
use Rattle.sound_names_chains.proofs.Index.{index_free}
use Rattle.sound_names_chains.proofs.add_entry.Goals as goal

pub returns-then-not-row_sound : goal.returns-then-not-row_sound
unfolding row_at IsAdded
returns-then-not-row_sound c =
    row_fails _ c.args.names.now c.args.e (row_is _ c.args.names.now c.args.e c.is_named-named.ensures c.row_sound.ensures) (ap not c.if-not-row_sound.true)

pub returns-then-steps-eq0 : goal.returns-then-steps-eq0
unfolding row_at IsAdded
returns-then-steps-eq0 c =
    (sym (row_is _ c.args.names.now c.args.e c.is_named-named.ensures c.row_sound.ensures) ∙ c.if-not-row_sound.false, λ z. absurd (z refl))

pub returns-then-not-named : goal.returns-then-not-named
unfolding row_at IsAdded
returns-then-not-named c =
    let free = sym c.is_named-named.ensures ∙ c.if-not-named.true in (
      sym (row_is _ c.args.names.now c.args.e c.is_named-named.ensures c.row_sound.ensures) ∙ c.if-not-row_sound.false,
      λ z. ((z, free-unlike _ c.args.names.now c.args.e free), index_free _ _ (c.requires.1.1.1 z) free),
    )

pub add_name-requires : goal.add_name-requires
unfolding row_at IsAdded
add_name-requires c = (
  c.requires.0,
  (
    (c.requires.1.0, sym c.is_named-named.ensures ∙ c.if-not-named.false),
    (c.if-steps-eq0.false, (all_more _ _ c.requires.1.1.0 (sym (row_is _ c.args.names.now c.args.e c.is_named-named.ensures c.row_sound.ensures) ∙ c.if-not-row_sound.false), c.requires.1.1.1 c.if-steps-eq0.false)),
  ),
)

pub returns : goal.returns
unfolding row_at IsAdded
returns c =
    c.add_name.ensures

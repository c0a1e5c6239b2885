use mathlib.Core.Path.{refl, sym, ◌∙◌}
use borrow.Author.Rules.{rules}
use Rattle.named.specs.Tree.{renamed_names}
use Rattle.named_names.proofs.put_renamed.Goals as goal

pub returns-then-is_same : goal.returns-then-is_same
unfolding renamed_names
returns-then-is_same c =
    rw (sym c.is_same.ensures ∙ c.if-is_same.true) refl

pub put_name-requires : goal.put_name-requires
unfolding renamed_names
put_name-requires c =
    c.requires

pub returns : goal.returns
unfolding renamed_names
returns c =
    rw (sym c.is_same.ensures ∙ c.if-is_same.false, c.put_name.ensures, c.drop_name.ensures) refl

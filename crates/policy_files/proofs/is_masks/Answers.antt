use borrow.Author.Tests.{ne_eqb}
use Rattle.policy_files.specs.Next.{is_masks_of}
use Rattle.policy_files.proofs.is_masks.Goals as goal

pub returns-then-tag-eq-MASKS_TAG : goal.returns-then-tag-eq-MASKS_TAG
unfolding is_masks_of
returns-then-tag-eq-MASKS_TAG c =
    rw c.if-tag-eq-MASKS_TAG.true

pub returns : goal.returns
unfolding is_masks_of
returns c =
    rw (ne_eqb _ _ c.if-tag-eq-MASKS_TAG.false)

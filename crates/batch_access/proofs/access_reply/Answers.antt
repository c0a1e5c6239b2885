use mathlib.Core.Path.{◌≡◌, sym, ◌∙◌}
use mathlib.Core.Bool.{true}
use mathlib.Core.List.{List}
use Prim.Native.Nat.{ℕ}
use borrow.Author.Rules.{rules}
use borrow.Author.Tests.{not-false}
use Rattle.laws.specs.Refusals.{first}
use Rattle.laws.proofs.Refusals.{passed}
use Rattle.tables.specs.Tables.{live}
use Rattle.tables.proofs.Blames.{name_stop, name_go}
use Rattle.verdict.proofs.Answers.{entry-last}
use Rattle.fs_access.specs.Access.{access_names, access_mask, access_checks}
use Rattle.batch_access.proofs.access_reply.Goals as goal

live-entry : (es ts : List ℕ) (t e : ℕ) → first (access_names es ts t e) ≡ 0 → live es e ≡ true
unfolding access_names
live-entry es ts t e z = not-false (live es e) (passed _ z).1.0

pub returns-then-a-ne0 : goal.returns-then-a-ne0
unfolding access_checks access_names access_mask
returns-then-a-ne0 c =
    record { reply = name_stop _ _ _ _ _ tt c.access_names-a.ensures c.if-a-ne0.true; ready = c.requires }

pub returns-then-b-ne0 : goal.returns-then-b-ne0
unfolding access_checks access_names access_mask
returns-then-b-ne0 c =
    record { reply = name_go _ _ _ _ _ tt c.access_names-a.ensures c.if-a-ne0.false (name_stop _ _ _ _ _ tt c.access_mask-b.ensures c.if-b-ne0.true); ready = c.requires }

pub entry_denial-denial-requires : goal.entry_denial-denial-requires
unfolding access_checks access_names access_mask
entry_denial-denial-requires c =
    (c.requires, live-entry _ _ _ _ (sym c.access_names-a.ensures ∙ c.if-a-ne0.false))

pub returns : goal.returns
unfolding access_checks access_names access_mask
returns c = record {
  reply = name_go _ _ _ _ _ tt c.access_names-a.ensures c.if-a-ne0.false
      (name_go _ _ _ _ _ tt c.access_mask-b.ensures c.if-b-ne0.false (entry-last _ _ _ _ _ _ _ c.entry_denial-denial.ensures.denial c.reply.ensures));
  ready = c.entry_denial-denial.ensures.ready;
}

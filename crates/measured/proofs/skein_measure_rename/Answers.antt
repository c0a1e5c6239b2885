use Rattle.verdict.proofs.Answers.{move-is}
use Rattle.measured.proofs.skein_measure_rename.Goals as goal

pub rename_move-m-requires : goal.rename_move-m-requires
rename_move-m-requires c =
    c.needs_table-needs.ensures

pub returns : goal.returns
returns c =
    rw (← c.rename_move-m.ensures) (move-is _ _ _ _ _ _ c.move_denial.ensures c.refusal.ensures)

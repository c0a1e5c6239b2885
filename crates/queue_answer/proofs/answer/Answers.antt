use Rattle.queue_answer.proofs.Answered.{answered_by}
use Rattle.queue_answer.proofs.answer.Goals as goal

pub returns : goal.returns
returns c =
    let a = c.access-accessed.ensures in
    answered_by _ _ _ _ a.reply a.read c.error_number.ensures c.named_layer.ensures c.denied_rights.ensures

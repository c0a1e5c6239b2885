use borrow.Author.Rules.{rules}
use Rattle.log_changes.proofs.Trying.{exchange-refused, exchange-idle, exchange-made}
use Rattle.log_changes.proofs.try_exchange.Goals as goal

pub returns-then-exchange_refusal-ne0 : goal.returns-then-exchange_refusal-ne0
returns-then-exchange_refusal-ne0 c =
    exchange-refused _ _ _ _ _ c.exchange_refusal.ensures c.if-exchange_refusal-ne0.true

pub returns-then-same_object : goal.returns-then-same_object
returns-then-same_object c =
    exchange-idle _ _ _ _ _ c.exchange_refusal.ensures c.same_object.ensures c.if-same_object.true

pub returns : goal.returns
returns c =
    exchange-made _ _ _ _ _ c.exchange_refusal.ensures c.same_object.ensures c.if-exchange_refusal-ne0.false c.if-same_object.false c.apply_exchange.ensures c.put_swapped.ensures

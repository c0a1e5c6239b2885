use Rattle.rule.proofs.place_in.Goals as goal

pub returns : goal.returns
returns c =
    rw (← c.ruleset_rules.ensures) c.rule_place.ensures

use mathlib.Core.Path.{refl, ap, ◌∙◌}
use lib.Dec.{eqb}
use Rattle.std.proofs.Common.{rules, tests}
use Rattle.std.proofs.lemmas.Iterator.{YieldsList-from_range}
use Rattle.std.proofs.lemmas.Iterator.Consumers.{YieldsList-from_filter, count_from_yields_List}
use Rattle.laws.proofs.Ranges.{tally_range}
use Rattle.access.specs.Limits.{max_layers}
use Rattle.tables.specs.Layers.{layer_in_use}
use Rattle.sound_layers.specs.Layers.{layers_counted}
use Rattle.sound_runs.proofs.layers_counted.Goals as goal

pub returns : goal.returns
unfolding layers_counted layer_in_use
returns c =
    let ls = c.args.layers.now in
    let n = count_from_yields_List c.filter.result _ c.count-n.ensures.ran
    (YieldsList-from_filter _ (layer_in_use ls) (YieldsList-from_range 0 max_layers max_layers c.filter.ensures.source refl) c.filter.ensures.closure (λ x b q k. search (rules, tests))) in
    ap (eqb c.args.used) (n ∙ tally_range (layer_in_use ls) max_layers)

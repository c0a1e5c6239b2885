-- Request W12: rulesets "with the same masks and the same rights for each object and port".
use Rattle.std.specs.Prelude.{◌≡◌, ℕ}
use Rattle.tables.specs.Tables.{path_rule, port_rule}
use Rattle.tables.specs.Layers.{Layer}
use Rattle.judge.specs.Rules.{rights_on}

pub record Agree (L M : Layer) : Type 0 where
  pub fs : L.fs ≡ M.fs
  pub net : L.net ≡ M.net
  pub scope : L.scope ≡ M.scope
  pub objects : (o : ℕ) → rights_on L.rules path_rule o ≡ rights_on M.rules path_rule o
  pub ports : (n : ℕ) → rights_on L.rules port_rule n ≡ rights_on M.rules port_rule n

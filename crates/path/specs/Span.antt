-- Request W1: "A call shows the caller the first component starting at or after a given place": its place in the path.
use Rattle.std.specs.Prelude.{cond, List, ℕ, ltb, length}
use Rattle.names.specs.Paths.{component_start}

-- where the component starts; 0 if there is none
unfoldable pub shown_start : List ℕ → ℕ → ℕ
shown_start p at = let from = component_start p at in cond (ltb from (length p)) from 0

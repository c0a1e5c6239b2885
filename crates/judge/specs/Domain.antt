-- A domain, and what it denies.
use Rattle.std.specs.Prelude.{Bool, not, List, [], ◌∷◌, ℕ, zero, suc, eqb}
use Rattle.laws.specs.Tests.{any}
use Rattle.access.specs.Limits.{max_domain}
use Rattle.tables.specs.Tables.{youngest}
use Rattle.tables.specs.Layers.{layer_parent, layer_at}
use Rattle.judge.specs.Judge.{missing, port_missing}

-- a layer and its parents, youngest first: the numbers of at most n layers from a cell (a number + 1, or 0 for none)
unfoldable pub chain : List ℕ → ℕ → ℕ → List ℕ
chain ls zero y = []
chain ls (suc n) zero = []
chain ls (suc n) (suc l) = l ∷ chain ls n (layer_parent ls l)

-- "The youngest layer and its parents are the thread's domain"
unfoldable pub domain : List ℕ → List ℕ → ℕ → List ℕ
domain ls ts t = chain ls max_domain (youngest ts t)

-- layer l denies one of the rights m at entry e
unfoldable pub layer_lacks : List ℕ → List ℕ → List ℕ → ℕ → ℕ → ℕ → Bool
layer_lacks es ls ps e m l = not (eqb (missing es (layer_at ls ps l) e m) 0)

-- "The domain grants a right if no layer denies it": some layer of the domain denies one of the rights m at entry e
unfoldable pub lacks : List ℕ → List ℕ → List ℕ → List ℕ → ℕ → ℕ → Bool
lacks es ls ps D e m = any (layer_lacks es ls ps e m) D

-- layer l denies one of the rights m at a port
unfoldable pub layer_port_lacks : List ℕ → List ℕ → ℕ → ℕ → ℕ → Bool
layer_port_lacks ls ps port m l = not (eqb (port_missing (layer_at ls ps l) port m) 0)

-- "A domain denies a right at a port if some layer of it handles the right and has no rule for that port with it"
unfoldable pub port_lacks : List ℕ → List ℕ → List ℕ → ℕ → ℕ → Bool
port_lacks ls ps D port m = any (layer_port_lacks ls ps port m) D

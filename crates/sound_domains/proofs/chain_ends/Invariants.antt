-- The invariant: the rest of the chain decides.
use mathlib.Core.Path.{◌≡◌}
use Prim.Native.Nat.{◌-◌}
use Rattle.access.specs.Limits.{max_domain}
use Rattle.sound_domains.specs.Domains.{chain_ends}
use Rattle.sound_domains.proofs.chain_ends.Given as goal

abbrev pub invariant-loop : goal.invariant-loop
invariant-loop l = chain_ends l.layers max_domain l.y ≡ chain_ends l.layers (max_domain - l.counter) l.at

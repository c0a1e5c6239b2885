-- Demand 3 holds: a sandbox cannot widen itself. Assumes nothing.
use Rattle.theorems.specs.Claim.{Demand3}
use Rattle.theorems.proofs.Kept.{kept}
use Rattle.theorems.proofs.Denied.{denied-kept, kept_entry, link-denied}
use Rattle.theorems.proofs.Assembly as assembly

pub demand3 : Demand3
demand3 = assembly.demand3 kept denied-kept kept_entry link-denied

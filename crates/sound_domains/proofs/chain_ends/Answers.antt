use mathlib.Core.Path.{◌≡◌, sym, ap, ◌∙◌}
use Prim.Native.Nat.{ℕ, ◌+◌, ◌-◌, ◌*◌}
use native.Mathlib.Omega.{arith}
use lib.ListN.{get_or}
use Rattle.access.specs.Limits.{max_domain}
use Rattle.tables.specs.Tables.{layer_width}
use Rattle.sound_domains.specs.Domains.{chain_ends}
use Rattle.sound_domains.proofs.Chains.{chain-end, chain-none, chain-past, chain-cell}
use Rattle.sound_domains.proofs.chain_ends.Goals as goal

pub returns-then-at-eq0 : goal.returns-then-at-eq0
returns-then-at-eq0 c =
    let l = c.loop in sym (l.invariant ∙ chain-end _ (max_domain - l.counter) l.at c.if-at-eq0.true)

pub returns-then-at : goal.returns-then-at
returns-then-at c =
    let l = c.loop in sym (l.invariant ∙ chain-past _ (max_domain - l.counter) l.at c.requires c.if-at.true (λ z. omega arith))

pub loop-preserved : goal.loop-preserved
loop-preserved c =
    let l = c.loop in
    let ls = c.args.layers.now in
    let e : max_domain - l.counter - 1 ≡ max_domain - (l.counter + 1) = omega arith in
    l.invariant ∙ chain-cell _ (max_domain - l.counter) l.at c.if-at-eq0.false (λ z. omega arith) ∙ ap (λ (n : ℕ). chain_ends ls n (get_or ls (layer_width * (l.at - 1)) 0)) e

pub returns : goal.returns
returns c =
    let l = c.loop in sym (l.invariant ∙ chain-none _ (max_domain - l.counter) l.at (omega arith))

use mathlib.Core.Path.{◌≡◌}
use Prim.Native.Nat.{ℕ, ◌+◌, ◌-◌}
use native.Mathlib.Omega.{arith}
use lib.ListN.{length}
use borrow.Author.Rules.{rules}
use borrow.Author.Tests.{lt-leb, le-leb}
use Rattle.named.specs.Batch.{part_name}
use Rattle.batch_requests.proofs.request_name.Goals as goal

back : (a b : ℕ) → a + b - a ≡ b
back a b = omega arith

pub returns-then-n-bytes : goal.returns-then-n-bytes
unfolding part_name
returns-then-n-bytes c =
    let a = c.args in rw (lt-leb (a.from + a.bytes) (length a.names.now) (omega arith))

pub returns-then-n-bytes-2 : goal.returns-then-n-bytes-2
unfolding part_name
returns-then-n-bytes-2 c =
    let a = c.args in rw (lt-leb (a.from + a.bytes) (length a.names.now) (omega arith))

pub returns : goal.returns
unfolding part_name
returns c =
    let a = c.args in rw (le-leb (a.from + a.bytes) (length a.names.now) (omega arith), back a.from a.bytes)

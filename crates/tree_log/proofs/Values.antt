-- A value that is written is read back. Assumes nothing.
use mathlib.Core.Path.{◌≡◌}
use Prim.Native.Nat.{ℕ, ◌+◌, ◌*◌, ◌/◌, ◌%◌, ◌≤◌}
use native.Mathlib.Omega.{arith}
use lib.ListN.{length}
use borrow.Author.Tests.{le-ltb}
use Rattle.tree_log.specs.Changes.{Change, create, remove, link, rename, exchange, max_value, tag_of, value_of, Listed, read_create, read_remove, read_move, read_exchange, read_value, read_field}

two : (n : ℕ) → n % 256 + 256 * (n / 256) ≡ n
two n = omega arith

value_back : (c : Change) → read_value (tag_of c) (value_of c) ≡ Listed c
unfolding read_value tag_of value_of read_create read_remove read_move read_exchange
value_back (create k d n) = rw (two d)
value_back (remove e) = rw (two e)
value_back (link s d n) = rw (two s, two d)
value_back (rename s d n) = rw (two s, two d)
value_back (exchange s d x) = rw (two s, two d, two x)

pub read_back : (c : Change) → length (value_of c) ≤ max_value → read_field (tag_of c) (value_of c) ≡ Listed c
unfolding read_field
read_back c h = rw (le-ltb max_value (length (value_of c)) h) (value_back c)

-- How code comes to an answer, by the reply and the entries read. Assumes nothing.
use mathlib.Core.Path.{◌≡◌}
use Prim.Native.Nat.{ℕ}
use Rattle.access.specs.declared.errno.Reply.{Reply}
use Rattle.codes.specs.Codes.{said}
use Rattle.fs_access.specs.Access.{access_call, access_count}
use Rattle.named.specs.Named.{Named, named_outcome, lift, lift_count}
use Rattle.named.specs.Queue.{answer_of}

pub answered_by : (N : Named) (t e m : ℕ) {r : Reply} {M : Named} {x l s n : ℕ} → named_outcome r M ≡ lift N (access_call N.core t e m)
    → n ≡ lift_count N (access_count N.core t e m) → x ≡ (said r).error → l ≡ (said r).layer → s ≡ (said r).rights
    → record { error = x; layer = l; rights = s; read = n } ≡ answer_of N t e m
unfolding answer_of
answered_by N t e m h k a b c = rw (← h, k, a, b, c)

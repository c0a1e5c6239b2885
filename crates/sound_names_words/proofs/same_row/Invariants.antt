-- The invariant: the bytes of the first `n` words agree.
use mathlib.Core.Path.{sym, ◌∙◌}
use Prim.Native.Nat.{◌*◌, ◌≤◌, ◌-◌}
use native.Mathlib.Omega.{arith}
use Rattle.sound_names_words.specs.Words.{word_bytes, words}
use Rattle.sound_names_words.proofs.Same.{Agree, agree_none, agree_more, words_differ, last_decides}
use Rattle.sound_names_words.proofs.same_row.Given as goal

abbrev pub invariant-loop-n : goal.invariant-loop-n
invariant-loop-n l = (l.n ≤ words) × Agree l.a l.b (word_bytes * l.n)

abbrev pub decreases-loop-n : goal.decreases-loop-n
decreases-loop-n l = words - l.n

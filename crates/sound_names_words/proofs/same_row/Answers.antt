use mathlib.Core.Path.{sym, ◌∙◌}
use Prim.Native.Nat.{◌*◌, ◌≤◌, ◌-◌}
use native.Mathlib.Omega.{arith}
use Rattle.sound_names_words.specs.Words.{word_bytes, words}
use Rattle.sound_names_words.proofs.Same.{Agree, agree_none, agree_more, words_differ, last_decides}
use Rattle.sound_names_words.proofs.same_row.Goals as goal

pub loop-n-init : goal.loop-n-init
loop-n-init c =
    (omega arith, agree_none c.args.a.now c.args.b.now)

pub returns-then-word : goal.returns-then-word
returns-then-word c =
    words_differ _ _ (word_bytes * c.loop-n.n) (λ e. c.if-word.true (c.word.ensures ∙ e ∙ sym c.word-in-loop-n.ensures))

pub loop-n-preserved : goal.loop-n-preserved
loop-n-preserved c =
    (omega arith, agree_more c.args.a.now c.args.b.now (λ i. omega (arith, c.shared_slice_known-1.given i)) (λ i. omega (arith, c.shared_slice_known-2-1.given i)) c.loop-n.n c.loop-n.invariant.1 (sym c.word.ensures ∙ c.if-word.false ∙ c.word-in-loop-n.ensures))

pub returns : goal.returns
returns c =
    last_decides c.args.a.now c.args.b.now c.requires.0 c.requires.1 (λ k h. c.loop-n.invariant.1 k (omega arith))

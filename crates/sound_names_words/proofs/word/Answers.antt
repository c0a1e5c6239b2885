use borrow.Author.Rules.{rules}
use Rattle.sound_names_words.proofs.Words.{word_is}
use Rattle.sound_names_words.proofs.word.Goals as goal

pub returns : goal.returns
returns c =
    let s = c.args in
    word_is s.row.now s.i c.wide.ensures.0 c.wide-2.ensures.0 c.wide-3.ensures.0 c.wide-4.ensures.0 c.wide-5.ensures.0 c.wide-6.ensures.0 c.wide-7.ensures.0 c.wide-8.ensures.0

use borrow.Author.Rules.{rules}
use Rattle.domain.specs.Threads.{copied_thread}
use Rattle.domain.proofs.threads.copy_thread.Goals as goal

pub returns : goal.returns
unfolding copied_thread
returns c =
    cc

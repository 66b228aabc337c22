-- `decoder::pages::two_words` meets its contract.
use borrow.Author.Rules.{rules}
use Rattle.numbers.specs.Words.{word_at}
use Rattle.decoder.proofs.Operands.{word_after}
use Rattle.decoder.proofs.pages.two_words.Goals as goal

pub returns-then-at-bytes : goal.returns-then-at-bytes
unfolding word_at
returns-then-at-bytes c = rw (c.joined.ensures, c.word-then-at-bytes.ensures, c.word.ensures, word_after c.args.bytes.now c.args.at)

pub returns-else-at-bytes : goal.returns-else-at-bytes
unfolding word_at
returns-else-at-bytes c = search rules

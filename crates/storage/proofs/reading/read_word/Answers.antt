-- `storage::reading::read_word` meets its contract.
use Rattle.storage.specs.Reading.{read_word}
use Rattle.storage.proofs.reading.read_word.Goals as goal

pub returns : goal.returns
unfolding read_word
returns c = rw (c.word.ensures, c.byte_from-low.ensures, c.byte_from-high.ensures)

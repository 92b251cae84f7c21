-- `book_bytes::field::put_word` meets its contract: the four bytes are those of the word. Assumes nothing.
use Rattle.std.proofs.Common.{ap, sym, ◌∙◌}
use Rattle.splice.specs.Splice.{splice}
use Rattle.book_laws.proofs.Laws.Bytes.{word_digits}
use Rattle.book_bytes.proofs.field.put_word.Goals as goal

pub returns : goal.returns
returns c = c.put.ensures ∙ ap (splice _ _) (c.to_be_bytes.ensures ∙ sym (word_digits _))

-- `book_bytes::part::put` meets its contract. Assumes nothing.
use Rattle.std.proofs.Common.{arith}
use Rattle.book_bytes.proofs.Parts.{put_spliced}
use Rattle.book_bytes.proofs.part.put.Goals as goal

pub returns : goal.returns
returns c = put_spliced _ _ _ c.copy_from_slice.ensures.after (omega arith)

-- What the reading of a trailer returns, as the description of `book_laws`. Assumes nothing.
use Rattle.std.specs.Prelude.{Result, Ok, Err}
use Rattle.book_bytes.specs.declared.trailer.Description as Code
use Rattle.book_bytes.specs.declared.refusal.Refusal.{Refusal}
use Rattle.book_bytes.specs.Refusal.{number_of}
use Rattle.book_laws.specs.Trailer.{Description, undescribed}

abbrev pub description_of : Result Code.Description Refusal → Description
description_of (Ok d) = record { number = 0; count = d.count; first = d.first }
description_of (Err refusal) = undescribed (number_of refusal)

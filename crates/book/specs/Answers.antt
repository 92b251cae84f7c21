-- What the operations return, as the answers of `book_laws`. Assumes nothing.
use Rattle.std.specs.Prelude.{Result, Ok, Err, List, ℕ}
use Rattle.book_bytes.specs.declared.trailer.Description as Code
use Rattle.book_bytes.specs.declared.record.Record.{Record}
use Rattle.book_bytes.specs.declared.refusal.Refusal.{Refusal}
use Rattle.book_bytes.specs.Record.{fields_in}
use Rattle.book_bytes.specs.Refusal.{number_of, named_by}
use Rattle.book_laws.specs.Start.{Written, unwritten}
use Rattle.book_laws.specs.Read.{Fields, unread}
use Rattle.book_laws.specs.Accept.{Acceptance, unaccepted}

-- with every byte of the buffer afterwards
abbrev pub written_of : Result ℕ Refusal → List ℕ → Written
written_of (Ok used) b = record { number = 0; used = used; bytes = b }
written_of (Err refusal) b = unwritten (number_of refusal) b

abbrev pub fields_read : Result Record Refusal → Fields
fields_read (Ok r) = record { number = 0; fields = fields_in r }
fields_read (Err refusal) = unread (number_of refusal)

-- the note's length is the place of the first record
abbrev pub acceptance_of : Result Code.Description Refusal → Acceptance
acceptance_of (Ok d) = record { number = 0; count = d.count; note = d.first; named = 0 }
acceptance_of (Err refusal) = unaccepted (number_of refusal) (named_by refusal)

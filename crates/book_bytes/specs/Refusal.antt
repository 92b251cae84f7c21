-- The number of each refusal of a book (docs/BOOK.md), and the record that it names. Assumes nothing.
use Rattle.std.specs.Prelude.{ℕ}
use Rattle.book_bytes.specs.declared.refusal.Refusal.{Refusal}
use Rattle.book_bytes.specs.declared.refusal.Refusal.TheVariants.{Length, Mark, Trailer, Disagrees, Space, Full, Index}

abbrev pub number_of : Refusal → ℕ
number_of Length = 20
number_of Mark = 21
number_of Trailer = 22
number_of (Disagrees k) = 23
number_of Space = 24
number_of Full = 25
number_of Index = 26

-- from 1, or 0 where the refusal names none
abbrev pub named_by : Refusal → ℕ
named_by Length = 0
named_by Mark = 0
named_by Trailer = 0
named_by (Disagrees k) = k
named_by Space = 0
named_by Full = 0
named_by Index = 0

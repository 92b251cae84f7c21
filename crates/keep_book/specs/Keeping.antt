-- A book built from text (docs/BOOK.md): the note's words, and what becomes of a line. Assumes nothing.
use Rattle.std.specs.Prelude.{Bool, true, false, cond, List, ◌∷◌, ℕ, Result, Ok, Err}
use Rattle.book_bytes.specs.Refusal.{number_of}
use Rattle.book_laws.specs.Book.{append_of}
use Rattle.book_laws.specs.Start.{Written, unwritten}
use Rattle.keep_book.specs.declared.NotKept.{NotKept}
use Rattle.keep_book.specs.declared.NotKept.TheVariants.{Unreadable as NotRead, Refused}
use Rattle.text.specs.declared.line.Said.{Said}
use Rattle.text.specs.declared.line.Said.TheVariants.{PassedOver, Case, Unreadable}

-- words are joined by single blanks (32), so each but the first has one before it
unfoldable pub next_word : Bool → List ℕ → List ℕ
next_word first word = cond first word (32 ∷ word)

-- what became of a line: whether it could be read, and what its case's append left
pub record Kept : Type 0 where
  pub readable : Bool
  pub written : Written

-- nothing is appended: the used length and every byte stay
unfoldable pub unchanged : Bool → List ℕ → ℕ → Kept
unchanged readable b used = record { readable = readable; written = record { number = 0; used = used; bytes = b } }

-- by what the line says, at a book in b of used length `used`
unfoldable pub keep_for : Said → List ℕ → ℕ → Kept
keep_for PassedOver b used = unchanged true b used
keep_for (Case xs) b used = record { readable = true; written = append_of b used xs }
keep_for Unreadable b used = unchanged false b used

-- what the function hands back, with the used length before and every byte of the buffer afterwards
abbrev pub kept_of : Result ℕ NotKept → ℕ → List ℕ → Kept
kept_of (Ok used) before b = record { readable = true; written = record { number = 0; used = used; bytes = b } }
kept_of (Err (Refused refusal)) before b = record { readable = true; written = unwritten (number_of refusal) b }
kept_of (Err NotRead) before b = unchanged false b before

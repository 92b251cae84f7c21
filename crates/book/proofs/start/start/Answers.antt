-- `book::start::start` meets its contract: 24 where the note and the trailer do not fit, else the trailer stands after the note.
-- Assumes nothing.
use Rattle.std.proofs.Common.{List, arith, le-ltb, length, lt-ltb, sym, ℕ, ◌+◌, ◌<◌, ◌≡◌, ◌≤◌}
use Rattle.splice.specs.Splice.{splice}
use Rattle.book_laws.specs.Layout.{trailer_length}
use Rattle.book_laws.specs.Format.{trailer_bytes}
use Rattle.book_laws.specs.Start.{unwritten, start_in}
use Rattle.book_laws.specs.Book.{new_layout, start_of}
use Rattle.book.proofs.start.start.Goals as goal

no_room : (b : List ℕ) (note : ℕ) → length b < note + trailer_length new_layout → unwritten 24 b ≡ start_of b note
unfolding start_in
no_room b note h = sym (simp (lt-ltb _ _ h))

started :
    (b : List ℕ) (note : ℕ) {m t : List ℕ} → note + trailer_length new_layout ≤ length b → t ≡ trailer_bytes new_layout 0 →
    m ≡ splice b note t →
    record { number = 0; used = note + trailer_length new_layout; bytes = m } ≡ start_of b note
unfolding start_in
started b note {m} {t} h is put = rw (put, is) (sym (simp (le-ltb _ _ h)))

pub returns-then-buffer-lt-TRAILER_LENGTH : goal.returns-then-buffer-lt-TRAILER_LENGTH
returns-then-buffer-lt-TRAILER_LENGTH c = no_room _ _ (omega arith)

pub returns : goal.returns
returns c = started _ _ (omega arith) c.trailer_of.ensures c.put.ensures

-- What each C function answers and leaves behind its slices: the operation's answer, or 2^32 - 1 and every slice as it was, where a slice
-- has a wrong length. Assumes nothing.
use Rattle.std.specs.Prelude.{cond, List, [], ◌∷◌, ℕ, ◌+◌, eqb, length}
use Rattle.fields.specs.Fields.{width}
use Rattle.rating.specs.Rate.{rate_of}
use Rattle.book_laws.specs.Start.{Written}
use Rattle.book_laws.specs.Book.{start_of, append_of, read_of, accept_of}

abbrev pub wrong_length : ℕ
wrong_length = 4294967295

-- the answer and what is left behind `out`
pub record Call : Type 0 where
  pub number : ℕ
  pub out : List ℕ

abbrev pub call : ℕ → List ℕ → Call
call n l = record { number = n; out = l }

-- `out` takes the results where it has n places
unfoldable pub called : ℕ → List ℕ → ℕ → List ℕ → Call
called n out number results = cond (eqb (length out) n) (call number results) (call wrong_length out)

unfoldable pub rate_call : List ℕ → List ℕ → Call
rate_call x out =
    let a = rate_of x in
    cond (eqb (length x) width) (called 14 out a.number (a.rating ∷ a.sheet)) (call wrong_length out)

unfoldable pub read_call : List ℕ → ℕ → ℕ → List ℕ → Call
read_call b used index out = let f = read_of b used index in called (width + 2) out f.number f.fields

unfoldable pub accept_call : List ℕ → ℕ → List ℕ → Call
accept_call b used out = let a = accept_of b used in called 3 out a.number (a.count ∷ a.note ∷ a.named ∷ [])

-- the answer, every byte of the buffer, and what is left behind `out`
pub record BookCall : Type 0 where
  pub number : ℕ
  pub bytes : List ℕ
  pub out : List ℕ

abbrev pub book_call : ℕ → List ℕ → List ℕ → BookCall
book_call n b l = record { number = n; bytes = b; out = l }

unfoldable pub written_call : List ℕ → List ℕ → Written → BookCall
written_call b out w =
    cond (eqb (length out) 1) (book_call w.number w.bytes (w.used ∷ []))
    (book_call wrong_length b out)

unfoldable pub start_call : List ℕ → ℕ → List ℕ → BookCall
start_call b note out = written_call b out (start_of b note)

unfoldable pub append_call : List ℕ → ℕ → List ℕ → List ℕ → BookCall
append_call b used x out =
    cond (eqb (length x) width) (written_call b out (append_of b used x)) (book_call wrong_length b out)

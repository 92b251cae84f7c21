-- The small book of docs/BOOK.md, the note "OK" and the record of one cable, which rates 457.106 A: it builds again to the same bytes, and
-- demand 3 holds of its record. Two cases appended to a fresh book read back, and so does one appended to a book with a record. What each
-- operation leaves where it is refused. So the premises of the theorems are met. Assumes nothing.
use Rattle.std.specs.Prelude.{true, List, [], ◌∷◌, ◌++◌, ◌≡◌, refl, ℕ, suc, replicate, set, take}
use Rattle.std.proofs.Common.{sym, ap, ◌∙◌, suc-ne-zero, lit<, lit≤}
use Rattle.exact.specs.Fraction.{whole, ◌≤F◌, ◌<F◌}
use Rattle.splice.specs.Splice.{splice}
use Rattle.rating.specs.Values.{permitted_of}
use Rattle.rating.specs.Rate.{rate_of}
use Rattle.rating.specs.Exact.{exact_rise}
use Rattle.rating.proofs.Laws.Answers.{cable}
use Rattle.rating.proofs.Laws.Instances.{chosen, chosen_allowed}
use Rattle.book_laws.specs.Bytes.{number_bytes, number_at, words_bytes, words_at, stands, below}
use Rattle.book_laws.specs.Layout.{rbk2}
use Rattle.book_laws.specs.Format.{fields_of, record_bytes, all_fields, answered_fields, trailer_bytes}
use Rattle.book_laws.specs.Trailer.{wrong_trailer, describe_at, describe_in, on_book_in}
use Rattle.book_laws.specs.Record.{all_agree}
use Rattle.book_laws.specs.Start.{Written}
use Rattle.book_laws.specs.Append.{append_after, append_in}
use Rattle.book_laws.specs.Read.{read_after, read_in, cases_read_in}
use Rattle.book_laws.specs.Build.{all_cases, append_all}
use Rattle.book_laws.specs.Built.{built_in}
use Rattle.book_laws.specs.Book.{layout_of, IsNew, cases_of, describe, start_of, append_of, read_of, accept_of}
use Rattle.book_laws.specs.Book.{Accepted, Appended, build, Kept}
use Rattle.book_laws.proofs.Laws.Refused.{Unwritten, Unread, Unaccepted}
use Rattle.book_laws.proofs.Laws.Margin.{safe, close}
use Rattle.book_laws.proofs.Laws.Answered.{AnsweredBy, new_answered}
use Rattle.book_laws.proofs.Laws.Demands.{build_fits, kept, accepted, accepts, cases_as_read, appended, all_appended, rebuilt_whole}
use Rattle.book_laws.proofs.Laws.Demands.{start_refused, append_refused, read_refused, accept_refused}
use Rattle.book_laws.proofs.Laws.Literal.{small_book, fresh_book, literal, edges}

fine : Accepted small_book 146
fine = accepted small_book 146 (ap (λ a. a.number) literal.accepts)

accepts_it : accept_of small_book 146 ≡ record { number = 0; count = 1; note = 2; named = 0 }
unfolding describe_in describe_at wrong_trailer stands layout_of number_at
accepts_it = accepts small_book 146 fine

reads_it : read_of small_book 146 0 ≡ record { number = 0; fields = cable ++ ((rate_of cable).number ∷ (rate_of cable).rating ∷ []) }
unfolding describe_in describe_at wrong_trailer stands layout_of cases_read_in read_in read_after all_fields
    answered_fields on_book_in words_at number_at
reads_it = cases_as_read small_book 146 fine 0 (lit< tt)

answered_it : AnsweredBy 0 457106 (rate_of cable)
unfolding layout_of stands
answered_it = new_answered small_book 146 refl fine 0 0 457106 cable literal.reads

-- Built again in a buffer as long, with the note at its front.

built_again :
    let d = describe small_book 146 in
    build (79 ∷ 75 ∷ replicate 144 0) d.first (cases_of small_book 146)
    ≡ record { number = 0; used = 146; bytes = take 146 small_book }
unfolding describe_in describe_at wrong_trailer stands layout_of number_at below
built_again = rebuilt_whole small_book 146 refl refl fine (79 ∷ 75 ∷ replicate 144 0) refl refl

-- Demand 3 of the record.

under : exact_rise cable chosen (whole 457106) ≤F whole (permitted_of cable)
under = safe small_book 146 fine 0 457106 cable literal.reads chosen chosen_allowed

over : whole (permitted_of cable) <F exact_rise cable chosen (whole 457108)
over = close small_book 146 fine 0 457106 cable literal.reads chosen chosen_allowed

-- The cable and the case of 30 zeros, appended after a note of two bytes.

abbrev two_cases : List (List ℕ)
two_cases = cable ∷ replicate 30 0 ∷ []

are_cases : all_cases rbk2 two_cases ≡ true
unfolding all_cases below
are_cases = refl

not_refused : (build (replicate 282 7) 2 two_cases).number ≡ 0
unfolding built_in
not_refused =
    ap (λ w. w.number) (build_fits (replicate 282 7) 2 two_cases are_cases (record { room = lit≤ tt; most = lit≤ tt }))

read_back :
    let w = build (replicate 282 7) 2 two_cases in
    IsNew w.bytes w.used × Kept (replicate 282 7) 2 two_cases w
read_back = kept (replicate 282 7) 2 two_cases are_cases not_refused

-- Appended to a fresh book, to the book which that left, and both at once.

fresh_fine : Accepted (fresh_book 256) 18
unfolding describe_in describe_at wrong_trailer stands layout_of all_agree number_at
fresh_fine = record { trailer_right = refl; records_agree = refl }

abbrev one_record : List ℕ
one_record = (append_of (fresh_book 256) 18 cable).bytes

first_record :
    let w = append_of (fresh_book 256) 18 cable in
    IsNew (fresh_book 256) 18 × IsNew w.bytes w.used × Appended (fresh_book 256) 18 cable w
unfolding all_cases append_in append_after on_book_in describe_in describe_at wrong_trailer stands layout_of number_at below
first_record = appended (fresh_book 256) 18 cable refl fresh_fine refl refl

second_record :
    let w = append_of one_record 146 (replicate 30 0) in
    IsNew one_record 146 × IsNew w.bytes w.used × Appended one_record 146 (replicate 30 0) w
unfolding all_cases append_in append_after on_book_in describe_in describe_at wrong_trailer stands layout_of number_at below splice
    fields_of record_bytes words_bytes number_bytes trailer_bytes
second_record =
    let first = first_record.2 in
    appended one_record 146 (replicate 30 0) first.still_bytes (accepted one_record 146 (ap (λ a. a.number) first.accepted)) refl refl

both_records :
    let book : Written = record { number = 0; used = 18; bytes = fresh_book 256 } in
    Kept (fresh_book 256) 2 two_cases (append_all rbk2 book two_cases)
unfolding append_all append_in append_after on_book_in describe_in describe_at wrong_trailer stands layout_of number_at cases_read_in
    below splice fields_of record_bytes words_bytes number_bytes trailer_bytes
both_records = all_appended (fresh_book 256) 18 refl refl fresh_fine two_cases are_cases refl

-- Refused by 24, by 24, by 26 and by 23.

not_none : {n m : ℕ} → n ≡ suc m → n ≡ 0 → ⊥
not_none is none = suc-ne-zero _ (sym is ∙ none)

start_left : start_of (replicate 17 7) 2 ≡ record { number = 24; used = 0; bytes = replicate 17 7 }
start_left = start_refused (replicate 17 7) 2 (not_none (ap (λ w. w.number) edges.start_short))

append_left : Unwritten (fresh_book 127) (append_of (fresh_book 127) 18 cable)
append_left = append_refused (fresh_book 127) 18 cable (not_none (ap (λ w. w.number) (edges.append_short cable)))

read_left : Unread (read_of small_book 146 1)
read_left = read_refused small_book 146 1 (not_none (ap (λ f. f.number) edges.index_at_count))

accept_left : Unaccepted rbk2 (set small_book 129 147) 146 (accept_of (set small_book 129 147) 146)
unfolding layout_of stands
accept_left = accept_refused (set small_book 129 147) 146 (not_none (ap (λ a. a.number) edges.rating_changed))

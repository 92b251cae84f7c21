-- A book of RBK1 with every byte written out, the note 'OK' and the record of one cable: it is described, read and accepted, and demand 3
-- holds of its record. It is not appended to, and built again from its cases it is a longer book. Where one mark is written over the other
-- the trailer is wrong. So books that are no longer written keep their meaning. Assumes nothing.
use Rattle.std.specs.Prelude.{List, [], ◌∷◌, ◌++◌, ◌≡◌, refl, true, false, ℕ, take, drop, set, replicate}
use Rattle.std.proofs.Common.{sym, ap, ap₂, ◌∙◌, arith, lit<, lit≤}
use Rattle.bools.specs.Earliest.{earliest}
use Rattle.exact.specs.Fraction.{whole, ◌≤F◌, ◌<F◌}
use Rattle.splice.specs.Splice.{splice}
use Rattle.rating.specs.Values.{permitted_of}
use Rattle.rating.specs.Rate.{rate_of}
use Rattle.rating.specs.Exact.{exact_rise}
use Rattle.rating.proofs.Laws.Answers.{cable}
use Rattle.rating.proofs.Laws.Instances.{answer, chosen, chosen_allowed}
use Rattle.book_laws.specs.Bytes.{number_bytes, number_at, words_at, stands}
use Rattle.book_laws.specs.Layout.{rbk1}
use Rattle.book_laws.specs.Format.{all_fields, answered_fields, trailer_bytes}
use Rattle.book_laws.specs.Trailer.{undescribed, wrong_trailer, describe_at, describe_in, on_book_in}
use Rattle.book_laws.specs.Record.{agrees, all_agree, first_disagreeing}
use Rattle.book_laws.specs.Start.{Written, unwritten, start_in}
use Rattle.book_laws.specs.Append.{append_after, append_in}
use Rattle.book_laws.specs.Read.{unread, read_after, read_in, cases_read_in}
use Rattle.book_laws.specs.Accept.{Acceptance, unaccepted, accept_after, accept_in}
use Rattle.book_laws.specs.Build.{append_all, build_in}
use Rattle.book_laws.specs.Book.{layout_of, describe, append_of, read_of, cases_of, accept_of, Accepted, build}
use Rattle.book_laws.proofs.Laws.Mark.{append_older}
use Rattle.book_laws.proofs.Laws.Demands.{accepted, cases_as_read}
use Rattle.book_laws.proofs.Laws.Judged.{as_rated, judged}
use Rattle.book_laws.proofs.Laws.Margin.{safe, close}
use Rattle.book_laws.proofs.Laws.Answered.{AnsweredBy, older_answered}
use Rattle.book_laws.proofs.Laws.Literal.{note_and_inputs, small_book, fresh_book}

-- From 106 on stands the answer, from 110 the rating, from 114 the trailer: the mark, from 118 the count, from 122 the distance, from 126
-- the record length.
abbrev pub older_book : List ℕ
older_book =
    note_and_inputs
    ++ (0 ∷ 0 ∷ 0 ∷ 0 ∷ 0 ∷ 6 ∷ 249 ∷ 146
    ∷ 82 ∷ 66 ∷ 75 ∷ 49 ∷ 0 ∷ 0 ∷ 0 ∷ 1 ∷ 0 ∷ 0 ∷ 0 ∷ 112 ∷ 0 ∷ 0 ∷ 0 ∷ 112 ∷ [])

pub record Older : Type 0 where
  pub described : describe older_book 130 ≡ record { number = 0; count = 1; first = 2 }
  -- four zeros stand between the 26 fields that are stored and the answer
  pub reads : read_of older_book 130 0 ≡ record { number = 0; fields = take 26 cable ++ (0 ∷ 0 ∷ 0 ∷ 0 ∷ 0 ∷ 457106 ∷ []) }
  pub accepts : accept_of older_book 130 ≡ record { number = 0; count = 1; note = 2; named = 0 }
  pub rating_changed : accept_of (set older_book 113 147) 130 ≡ record { number = 23; count = 0; note = 0; named = 1 }
  pub index_at_count : read_of older_book 130 1 ≡ record { number = 26; fields = replicate 32 0 }
  -- 22, by RBK1's own lengths and not by RBK2's.
  pub most : wrong_trailer rbk1 11200000 100000 11200000 112 ≡ false
  pub too_many : wrong_trailer rbk1 11200112 100001 11200112 112 ≡ true
  pub newer_distance : wrong_trailer rbk1 12800000 100000 12800000 112 ≡ true
  pub newer_length : wrong_trailer rbk1 11200000 100000 11200000 128 ≡ true
  pub records_too_long : wrong_trailer rbk1 11199999 100000 11200000 112 ≡ true
  -- Append: 20 before 21, and 21 before the 22 that read and accept are refused by, for the count, the distance and the record length.
  pub append_length_over : (x : List ℕ) → append_of older_book 131 x ≡ record { number = 20; used = 0; bytes = older_book }
  pub count_wrong : (describe (set older_book 121 2) 130).number ≡ 22
  pub distance_wrong : (describe (set older_book 125 128) 130).number ≡ 22
  pub length_wrong : (describe (set older_book 129 128) 130).number ≡ 22
  -- One mark over the other: the distance and the length are the other's, and the length in a book without records.
  pub older_mark : describe (set small_book 133 49) 146 ≡ record { number = 22; count = 0; first = 0 }
  pub newer_mark : describe (set older_book 117 50) 130 ≡ record { number = 22; count = 0; first = 0 }
  pub older_mark_no_records : describe (set (fresh_book 0) 5 49) 18 ≡ record { number = 22; count = 0; first = 0 }
  pub newer_mark_no_records : describe (set (fresh_book 0) 17 112) 18 ≡ record { number = 22; count = 0; first = 0 }
  pub newer_mark_append :
      (x : List ℕ) → append_of (set older_book 117 50) 130 x ≡ record { number = 22; used = 0; bytes = set older_book 117 50 }

-- what accept answers where the record has this rating, and the cable's answer is n and its rating i
abbrev accepted_as : (rating n i : ℕ) → Acceptance
accepted_as rating n i = judged 2 (as_rated 0 rating n i ∷ [])

pub older : Older
unfolding start_in append_in append_after read_in read_after accept_in accept_after unwritten unread unaccepted on_book_in describe_in
    describe_at undescribed wrong_trailer agrees all_agree first_disagreeing earliest all_fields stands layout_of number_at words_at
older =
    record {
      described = refl;
      reads = refl;
      accepts = ap₂ (accepted_as 457106) answer.0 answer.1;
      rating_changed = ap₂ (accepted_as 457107) answer.0 answer.1;
      index_at_count = refl;
      most = refl;
      too_many = refl;
      newer_distance = refl;
      newer_length = refl;
      records_too_long = refl;
      append_length_over = λ x. refl;
      count_wrong = refl;
      distance_wrong = refl;
      length_wrong = refl;
      older_mark = refl;
      newer_mark = refl;
      older_mark_no_records = refl;
      newer_mark_no_records = refl;
      newer_mark_append = λ x. refl;
    }

-- Append is refused by the mark, with room behind the book, and whatever the lowest bytes of the trailer's numbers are.

module _ (x : List ℕ) where
  with_room : append_of (older_book ++ replicate 128 7) 130 x ≡ record { number = 21; used = 0; bytes = older_book ++ replicate 128 7 }
  unfolding stands
  with_room = append_older (older_book ++ replicate 128 7) 130 x (lit≤ tt) refl

  trailer_besides :
      (count distance size : ℕ) →
      let b = set (set (set older_book 121 count) 125 distance) 129 size in
      append_of b 130 x ≡ record { number = 21; used = 0; bytes = b }
  unfolding stands
  trailer_besides count distance size =
      append_older (set (set (set older_book 121 count) 125 distance) 129 size) 130 x (lit≤ tt) refl

-- Demand 3 of the record.

fine : Accepted older_book 130
fine = accepted older_book 130 (ap (λ a. a.number) older.accepts)

under : exact_rise cable chosen (whole 457106) ≤F whole (permitted_of cable)
under = safe older_book 130 fine 0 457106 cable older.reads chosen chosen_allowed

over : whole (permitted_of cable) <F exact_rise cable chosen (whole 457108)
over = close older_book 130 fine 0 457106 cable older.reads chosen chosen_allowed

-- its case, with zeros for the inputs that are not stored, is the one that `read` answers
reads_it : read_of older_book 130 0 ≡ record { number = 0; fields = cable ++ ((rate_of cable).number ∷ (rate_of cable).rating ∷ []) }
unfolding describe_in describe_at wrong_trailer stands layout_of cases_read_in read_in read_after all_fields
    answered_fields on_book_in words_at number_at
reads_it = cases_as_read older_book 130 fine 0 (lit< tt)

answered_it : AnsweredBy 0 457106 (rate_of cable)
unfolding layout_of stands
answered_it = older_answered older_book 130 refl fine 0 0 457106 cable older.reads (λ direct. omega (arith, direct))

-- Built again from its case, as it is stored or as `read` answers it, it is a book of RBK2, which is longer. So what `rebuilt` says of a
-- book of RBK2 is false of it.

-- the note, and room for either book
abbrev buffer : List ℕ
buffer = 79 ∷ 75 ∷ replicate 144 7

stored_longer : (build buffer 2 (cases_of older_book 130)).used ≡ 146
unfolding build_in append_all start_in append_in append_after on_book_in describe_in describe_at wrong_trailer stands layout_of number_at
    cases_read_in read_in read_after all_fields words_at splice trailer_bytes number_bytes
stored_longer = refl

read_longer : (build buffer 2 (cable ∷ [])).used ≡ 146
unfolding build_in append_all start_in append_in append_after on_book_in describe_in describe_at wrong_trailer stands number_at splice
    trailer_bytes number_bytes
read_longer = refl

not_rebuilt :
    build buffer 2 (cases_of older_book 130) ≡ record { number = 0; used = 130; bytes = take 130 older_book ++ drop 130 buffer } → ⊥
not_rebuilt same = omega (arith, sym stored_longer ∙ ap (λ (w : Written). w.used) same)

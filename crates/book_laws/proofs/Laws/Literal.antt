-- docs/BOOK.md with every byte written out: its small book as start and append make it and as describe, read and accept find it, a trailer,
-- a record, and each refusal 20 to 26 at its edge and just not given. So a definition that moves a byte or an edge is refused, even where
-- writing and reading still undo each other. Assumes nothing.
use Rattle.std.specs.Prelude.{true, false, List, [], ◌∷◌, ◌++◌, ◌≡◌, refl, ℕ, drop, set, replicate}
use Rattle.std.proofs.Common.{ap₂}
use Rattle.bools.specs.Earliest.{earliest}
use Rattle.splice.specs.Splice.{splice}
use Rattle.rating.specs.Rate.{rate_of}
use Rattle.rating.proofs.Laws.Answers.{cable}
use Rattle.rating.proofs.Laws.Instances.{answer}
use Rattle.book_laws.specs.Bytes.{number_bytes, number_at, word_bytes, words_bytes, words_at, stands}
use Rattle.book_laws.specs.Layout.{rbk2}
use Rattle.book_laws.specs.Format.{fields_of, record_bytes, all_fields, trailer_bytes}
use Rattle.book_laws.specs.Trailer.{undescribed, wrong_trailer, describe_at, describe_in, on_book_in}
use Rattle.book_laws.specs.Record.{agrees, all_agree, first_disagreeing}
use Rattle.book_laws.specs.Start.{Written, unwritten, start_in}
use Rattle.book_laws.specs.Append.{append_after, append_in}
use Rattle.book_laws.specs.Read.{unread, read_after, read_in}
use Rattle.book_laws.specs.Accept.{Acceptance, unaccepted, accept_after, accept_in}
use Rattle.book_laws.specs.Book.{layout_of, describe, start_of, append_of, read_of, accept_of}
use Rattle.book_laws.proofs.Laws.Judged.{as_rated, judged}

-- The note 'OK' and the first 26 inputs of the cable, by which a book of either mark begins.
abbrev pub note_and_inputs : List ℕ
note_and_inputs =
    79 ∷ 75
    ∷ 0 ∷ 0 ∷ 0 ∷ 5 ∷ 0 ∷ 0 ∷ 0 ∷ 1 ∷ 0 ∷ 0 ∷ 19 ∷ 136 ∷ 0 ∷ 0 ∷ 33 ∷ 52 ∷ 0 ∷ 0 ∷ 5 ∷ 220 ∷ 0 ∷ 1 ∷ 228 ∷ 96 ∷ 0 ∷ 0 ∷ 5 ∷ 170
    ∷ 0 ∷ 0 ∷ 16 ∷ 104 ∷ 0 ∷ 0 ∷ 6 ∷ 214 ∷ 0 ∷ 0 ∷ 14 ∷ 16 ∷ 0 ∷ 0 ∷ 74 ∷ 56 ∷ 0 ∷ 0 ∷ 1 ∷ 94 ∷ 0 ∷ 0 ∷ 3 ∷ 232 ∷ 0 ∷ 0 ∷ 15 ∷ 160
    ∷ 0 ∷ 0 ∷ 0 ∷ 1 ∷ 0 ∷ 15 ∷ 66 ∷ 64 ∷ 0 ∷ 0 ∷ 23 ∷ 112 ∷ 0 ∷ 0 ∷ 0 ∷ 6 ∷ 0 ∷ 3 ∷ 208 ∷ 144 ∷ 0 ∷ 0 ∷ 21 ∷ 124 ∷ 0 ∷ 0 ∷ 9 ∷ 196
    ∷ 0 ∷ 0 ∷ 42 ∷ 248 ∷ 0 ∷ 5 ∷ 87 ∷ 48 ∷ 0 ∷ 0 ∷ 156 ∷ 64 ∷ 0 ∷ 0 ∷ 234 ∷ 96 ∷ 0 ∷ 6 ∷ 221 ∷ 208 ∷ []

-- The page's small book: these and the other four inputs. From 122 on stands the answer, from 126 the rating, from 130 the trailer: the
-- mark, from 134 the count, from 138 the distance, from 142 the record length.
abbrev pub small_book : List ℕ
small_book =
    note_and_inputs
    ++ (0 ∷ 0 ∷ 0 ∷ 0 ∷ 0 ∷ 0 ∷ 0 ∷ 0 ∷ 0 ∷ 0 ∷ 0 ∷ 0 ∷ 0 ∷ 0 ∷ 0 ∷ 0 ∷ 0 ∷ 0 ∷ 0 ∷ 0 ∷ 0 ∷ 6 ∷ 249 ∷ 146
    ∷ 82 ∷ 66 ∷ 75 ∷ 50 ∷ 0 ∷ 0 ∷ 0 ∷ 1 ∷ 0 ∷ 0 ∷ 0 ∷ 128 ∷ 0 ∷ 0 ∷ 0 ∷ 128 ∷ [])

-- the trailer of a book without records
abbrev no_records : List ℕ
no_records = 82 ∷ 66 ∷ 75 ∷ 50 ∷ 0 ∷ 0 ∷ 0 ∷ 0 ∷ 0 ∷ 0 ∷ 0 ∷ 0 ∷ 0 ∷ 0 ∷ 0 ∷ 128 ∷ []

-- a book without records after the note, and n bytes behind
abbrev pub fresh_book : ℕ → List ℕ
fresh_book n = 79 ∷ 75 ∷ no_records ++ replicate n 7

-- 30 numbers whose bytes are 1 to 120
abbrev numbered : List ℕ
numbered =
    16909060 ∷ 84281096 ∷ 151653132 ∷ 219025168 ∷ 286397204 ∷ 353769240 ∷ 421141276 ∷ 488513312 ∷ 555885348 ∷ 623257384
    ∷ 690629420 ∷ 758001456 ∷ 825373492 ∷ 892745528 ∷ 960117564 ∷ 1027489600 ∷ 1094861636 ∷ 1162233672 ∷ 1229605708 ∷ 1296977744
    ∷ 1364349780 ∷ 1431721816 ∷ 1499093852 ∷ 1566465888 ∷ 1633837924 ∷ 1701209960
    ∷ 1768581996 ∷ 1835954032 ∷ 1903326068 ∷ 1970698104 ∷ []

pub record Literal : Type 0 where
  -- The small book.
  pub started : start_of (79 ∷ 75 ∷ replicate 144 7) 2 ≡ record { number = 0; used = 18; bytes = fresh_book 128 }
  pub appended : append_of (fresh_book 129) 18 cable ≡ record { number = 0; used = 146; bytes = small_book ++ (7 ∷ []) }
  pub described : describe small_book 146 ≡ record { number = 0; count = 1; first = 2 }
  pub reads : read_of small_book 146 0 ≡ record { number = 0; fields = cable ++ (0 ∷ 457106 ∷ []) }
  pub accepts : accept_of small_book 146 ≡ record { number = 0; count = 1; note = 2; named = 0 }
  -- A trailer, and a record field by field.
  pub trailer : trailer_bytes rbk2 2 ≡ 82 ∷ 66 ∷ 75 ∷ 50 ∷ 0 ∷ 0 ∷ 0 ∷ 2 ∷ 0 ∷ 0 ∷ 1 ∷ 0 ∷ 0 ∷ 0 ∷ 0 ∷ 128 ∷ []
  pub fields :
      record_bytes rbk2 numbered
      ≡
      1 ∷ 2 ∷ 3 ∷ 4 ∷ 5 ∷ 6 ∷ 7 ∷ 8 ∷ 9 ∷ 10 ∷ 11 ∷ 12 ∷ 13 ∷ 14 ∷ 15 ∷ 16 ∷ 17 ∷ 18 ∷ 19 ∷ 20 ∷ 21 ∷ 22 ∷ 23 ∷ 24 ∷ 25 ∷ 26
      ∷ 27 ∷ 28 ∷ 29 ∷ 30 ∷ 31 ∷ 32 ∷ 33 ∷ 34 ∷ 35 ∷ 36 ∷ 37 ∷ 38 ∷ 39 ∷ 40 ∷ 41 ∷ 42 ∷ 43 ∷ 44 ∷ 45 ∷ 46 ∷ 47 ∷ 48 ∷ 49
      ∷ 50 ∷ 51 ∷ 52 ∷ 53 ∷ 54 ∷ 55 ∷ 56 ∷ 57 ∷ 58 ∷ 59 ∷ 60 ∷ 61 ∷ 62 ∷ 63 ∷ 64 ∷ 65 ∷ 66 ∷ 67 ∷ 68 ∷ 69 ∷ 70 ∷ 71 ∷ 72
      ∷ 73 ∷ 74 ∷ 75 ∷ 76 ∷ 77 ∷ 78 ∷ 79 ∷ 80 ∷ 81 ∷ 82 ∷ 83 ∷ 84 ∷ 85 ∷ 86 ∷ 87 ∷ 88 ∷ 89 ∷ 90 ∷ 91 ∷ 92 ∷ 93 ∷ 94 ∷ 95
      ∷ 96 ∷ 97 ∷ 98 ∷ 99 ∷ 100 ∷ 101 ∷ 102 ∷ 103 ∷ 104 ∷ 105 ∷ 106 ∷ 107 ∷ 108 ∷ 109 ∷ 110 ∷ 111 ∷ 112 ∷ 113 ∷ 114 ∷ 115 ∷ 116
      ∷ 117 ∷ 118 ∷ 119 ∷ 120
      ∷ (word_bytes (rate_of numbered).number ++ word_bytes (rate_of numbered).rating)

-- The refusals, each at its edge and just not given.
pub record Edges : Type 0 where
  -- 20: the used length exceeds the buffer by one, where it does not the book is described; before 21.
  pub length_over : describe small_book 147 ≡ record { number = 20; count = 0; first = 0 }
  pub length_before_mark : describe [] 1 ≡ record { number = 20; count = 0; first = 0 }
  -- 21: too short by one, long enough, and a mark of which one byte is wrong; before 22.
  pub too_short : describe no_records 15 ≡ record { number = 21; count = 0; first = 0 }
  pub long_enough : describe no_records 16 ≡ record { number = 0; count = 0; first = 0 }
  pub mark_wrong : describe (set small_book 133 51) 146 ≡ record { number = 21; count = 0; first = 0 }
  pub mark_before_trailer : describe (set (set small_book 133 51) 137 2) 146 ≡ record { number = 21; count = 0; first = 0 }
  -- 22, by the bytes before the trailer, the count, the distance and the record length.
  pub most : wrong_trailer rbk2 12800000 100000 12800000 128 ≡ false
  pub too_many : wrong_trailer rbk2 12800128 100001 12800128 128 ≡ true
  pub distance_under : wrong_trailer rbk2 12800000 100000 12799999 128 ≡ true
  pub distance_over : wrong_trailer rbk2 12800001 100000 12800001 128 ≡ true
  pub length_wrong : wrong_trailer rbk2 12800000 100000 12800000 127 ≡ true
  pub records_too_long : wrong_trailer rbk2 12799999 100000 12800000 128 ≡ true
  -- 22, by the bytes: the count, the distance, the record length, and no note before the records, then one byte of them missing.
  pub count_byte : describe (set small_book 137 2) 146 ≡ record { number = 22; count = 0; first = 0 }
  pub distance_byte : describe (set small_book 141 127) 146 ≡ record { number = 22; count = 0; first = 0 }
  pub length_byte : describe (set small_book 145 127) 146 ≡ record { number = 22; count = 0; first = 0 }
  pub no_note : describe (drop 2 small_book) 144 ≡ record { number = 0; count = 1; first = 0 }
  pub byte_missing : describe (drop 3 small_book) 143 ≡ record { number = 22; count = 0; first = 0 }
  -- 23: a rating or an answer changed by one.
  pub rating_changed : accept_of (set small_book 129 147) 146 ≡ record { number = 23; count = 0; note = 0; named = 1 }
  pub answer_changed : accept_of (set small_book 125 1) 146 ≡ record { number = 23; count = 0; note = 0; named = 1 }
  -- 24: one byte too short, and exactly enough.
  pub start_short : start_of (replicate 17 7) 2 ≡ record { number = 24; used = 0; bytes = replicate 17 7 }
  pub start_enough : start_of (79 ∷ 75 ∷ replicate 16 7) 2 ≡ record { number = 0; used = 18; bytes = fresh_book 0 }
  pub append_short : (x : List ℕ) → append_of (fresh_book 127) 18 x ≡ record { number = 24; used = 0; bytes = fresh_book 127 }
  pub append_enough : append_of (fresh_book 128) 18 cable ≡ record { number = 0; used = 146; bytes = small_book }
  -- 25: at the most records and one below; before 24.
  pub full :
      (x : List ℕ) →
      append_after rbk2 (record { number = 0; count = 100000; first = 0 }) (fresh_book 128) 18 x
      ≡ record { number = 25; used = 0; bytes = fresh_book 128 }
  pub not_full : (x : List ℕ) → (append_after rbk2 (record { number = 0; count = 99999; first = 0 }) (fresh_book 128) 18 x).number ≡ 0
  pub full_before_space :
      (x : List ℕ) →
      append_after rbk2 (record { number = 0; count = 100000; first = 0 }) (fresh_book 127) 18 x
      ≡ record { number = 25; used = 0; bytes = fresh_book 127 }
  -- 26: at the count, where one below it is read.
  pub index_at_count : read_of small_book 146 1 ≡ record { number = 26; fields = replicate 32 0 }
  -- 22 before each operation's own.
  pub trailer_before_space :
      (x : List ℕ) → append_of (set small_book 137 2) 146 x ≡ record { number = 22; used = 0; bytes = set small_book 137 2 }
  pub trailer_before_index : read_of (set small_book 137 2) 146 2 ≡ record { number = 22; fields = replicate 32 0 }
  pub trailer_before_record :
      accept_of (set (set small_book 137 2) 129 147) 146 ≡ record { number = 22; count = 0; note = 0; named = 0 }

-- `rate_of` is shut, so that the cable's answer n and its rating i come from its theorem.

-- what append leaves in a fresh book with so many bytes behind
abbrev recorded : (behind n i : ℕ) → Written
recorded behind n i =
    let bytes = words_bytes (cable ++ (n ∷ i ∷ [])) ++ trailer_bytes rbk2 1 in
    record { number = 0; used = 146; bytes = splice (fresh_book behind) 2 bytes }

-- what accept answers where the record has this number and this rating
abbrev accepted_as : (number rating n i : ℕ) → Acceptance
accepted_as number rating n i = judged 2 (as_rated number rating n i ∷ [])

pub literal : Literal
unfolding start_in append_in append_after read_in read_after accept_in accept_after unwritten unread unaccepted on_book_in describe_in
    describe_at undescribed wrong_trailer agrees all_agree first_disagreeing earliest fields_of record_bytes all_fields trailer_bytes
    stands layout_of number_at number_bytes words_at words_bytes splice
literal =
    record {
      started = refl;
      appended = ap₂ (recorded 129) answer.0 answer.1;
      described = refl;
      reads = refl;
      accepts = ap₂ (accepted_as 0 457106) answer.0 answer.1;
      trailer = refl;
      fields = refl;
    }

pub edges : Edges
unfolding start_in append_in append_after read_in read_after accept_in accept_after unwritten unread unaccepted on_book_in describe_in
    describe_at undescribed wrong_trailer agrees all_agree first_disagreeing earliest fields_of record_bytes all_fields trailer_bytes
    stands layout_of number_at number_bytes words_at words_bytes splice
edges =
    record {
      length_over = refl;
      length_before_mark = refl;
      too_short = refl;
      long_enough = refl;
      mark_wrong = refl;
      mark_before_trailer = refl;
      most = refl;
      too_many = refl;
      distance_under = refl;
      distance_over = refl;
      length_wrong = refl;
      records_too_long = refl;
      count_byte = refl;
      distance_byte = refl;
      length_byte = refl;
      no_note = refl;
      byte_missing = refl;
      rating_changed = ap₂ (accepted_as 0 457107) answer.0 answer.1;
      answer_changed = ap₂ (accepted_as 1 457106) answer.0 answer.1;
      start_short = refl;
      start_enough = refl;
      append_short = λ x. refl;
      append_enough = ap₂ (recorded 128) answer.0 answer.1;
      full = λ x. refl;
      not_full = λ x. refl;
      full_before_space = λ x. refl;
      index_at_count = refl;
      trailer_before_space = λ x. refl;
      trailer_before_index = refl;
      trailer_before_record = refl;
    }

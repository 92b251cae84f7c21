-- A book of given cases as it stands in a buffer: the note, the records, the trailer, and what stands behind. Its trailer tells the count
-- and the note's length. Assumes nothing.
use Rattle.std.proofs.Common.{List, ◌++◌, append_assoc, arith, le-ltb, eq-eqb}
use Rattle.std.specs.Prelude.{true, false, ◌≡◌, ℕ, ◌+◌, ◌-◌, ◌*◌, ◌≤◌}
use Rattle.std.proofs.Math.Path.{refl, sym, ap}
use Rattle.std.proofs.Common.{ap₂, ◌∙◌, length-take-le}
use Rattle.std.proofs.Math.ListN.{length, take, drop, length-append}
use Rattle.splice.specs.Splice.{splice}
use Rattle.splice.proofs.Laws.Splice.{splice_length}
use Rattle.book_laws.specs.Bytes.{number_bytes, number_at, word_bytes, stands, below}
use Rattle.book_laws.specs.Layout.{Layout, record_length, trailer_length}
use Rattle.book_laws.specs.Format.{records_bytes, trailer_bytes, count_at, distance_at, length_at}
use Rattle.book_laws.specs.Trailer.{Description, wrong_trailer, describe_at, describe_in}
use Rattle.book_laws.specs.Build.{all_cases}
use Rattle.book_laws.specs.Built.{book_bytes, used_for, FitsIn}
use Rattle.book_laws.proofs.Laws.Bytes.{below_append, number_bytes_length, number_bytes_bytes, number_at_skip, number_at_after}
use Rattle.book_laws.proofs.Laws.Bytes.{stands_written}
use Rattle.book_laws.proofs.Laws.Lawful.{Lawful, distance_of, count_of}
use Rattle.book_laws.proofs.Laws.Record.{records_bytes_length}

-- Lengths.

pub trailer_bytes_length : {l : Layout} → Lawful l → (n : ℕ) → length (trailer_bytes l n) ≡ trailer_length l
unfolding trailer_bytes
trailer_bytes_length {l} lawful n = simp (length-append, number_bytes_length, lawful.mark_length) (omega arith)

pub trailer_bytes_bytes : {l : Layout} → Lawful l → (n : ℕ) → below 256 (trailer_bytes l n) ≡ true
unfolding trailer_bytes
trailer_bytes_bytes {l} lawful n =
    let to_count = below_append 256 l.mark _ lawful.mark_bytes (number_bytes_bytes l.width _) in
    let to_distance = below_append 256 _ _ to_count (number_bytes_bytes l.width _) in
    below_append 256 _ _ to_distance (number_bytes_bytes 4 _)

pub book_bytes_length :
    {l : Layout} → Lawful l → (xs : List (List ℕ)) → all_cases l xs ≡ true →
    length (book_bytes l xs) ≡ record_length l * length xs + trailer_length l
unfolding book_bytes
book_bytes_length {l} lawful xs cases =
    omega (
      arith,
      length-append (records_bytes l xs) (trailer_bytes l (length xs)),
      records_bytes_length l xs cases,
      trailer_bytes_length lawful (length xs),
    )

-- The trailer of a book of n records, written after p and read.

module _ {l : Layout} (lawful : Lawful l) (p q : List ℕ) (n : ℕ) (few : n ≤ l.most) where
  count_bytes : List ℕ
  count_bytes = number_bytes l.width n

  distance_bytes : List ℕ
  distance_bytes = number_bytes l.width (record_length l * n)

  after_trailer : List ℕ
  after_trailer = trailer_bytes l n ++ q

  from_length : after_trailer ≡ l.mark ++ count_bytes ++ distance_bytes ++ (word_bytes (record_length l) ++ q)
  unfolding after_trailer trailer_bytes count_bytes distance_bytes
  from_length = append_assoc (l.mark ++ count_bytes ++ distance_bytes) (word_bytes (record_length l)) q

  from_distance : after_trailer ≡ l.mark ++ count_bytes ++ (distance_bytes ++ (word_bytes (record_length l) ++ q))
  from_distance = from_length ∙ append_assoc (l.mark ++ count_bytes) distance_bytes (word_bytes (record_length l) ++ q)

  from_count : after_trailer ≡ l.mark ++ (count_bytes ++ (distance_bytes ++ (word_bytes (record_length l) ++ q)))
  from_count = from_distance ∙ append_assoc l.mark count_bytes (distance_bytes ++ (word_bytes (record_length l) ++ q))

  marked : stands l.mark (p ++ after_trailer) (length p) ≡ true
  marked = ap (λ (t : List ℕ). stands l.mark (p ++ t) (length p)) from_count ∙ stands_written l.mark p _

  count_is : count_at l (p ++ after_trailer) (length p) ≡ n
  unfolding count_bytes
  count_is =
      number_at_skip p after_trailer 4 l.width
      ∙ ap (λ (t : List ℕ). number_at t 4 l.width) from_count
      ∙ number_at_after l.mark l.width n _ lawful.mark_length (count_of lawful n few)

  count_end : length (l.mark ++ count_bytes) ≡ 4 + l.width
  unfolding count_bytes
  count_end = omega (arith, length-append l.mark count_bytes, lawful.mark_length, number_bytes_length l.width n)

  distance_is : distance_at l (p ++ after_trailer) (length p) ≡ record_length l * n
  unfolding distance_bytes
  distance_is =
      number_at_skip p after_trailer (4 + l.width) l.width
      ∙ ap (λ (t : List ℕ). number_at t (4 + l.width) l.width) from_distance
      ∙ number_at_after (l.mark ++ count_bytes) l.width (record_length l * n) _ count_end (distance_of lawful n few)

  distance_end : length (l.mark ++ count_bytes ++ distance_bytes) ≡ 4 + 2 * l.width
  unfolding distance_bytes
  distance_end =
      omega (
        arith,
        length-append (l.mark ++ count_bytes) distance_bytes,
        count_end,
        number_bytes_length l.width (record_length l * n),
      )

  length_is : length_at l (p ++ after_trailer) (length p) ≡ record_length l
  length_is =
      number_at_skip p after_trailer (4 + 2 * l.width) 4
      ∙ ap (λ (t : List ℕ). number_at t (4 + 2 * l.width) 4) from_length
      ∙ number_at_after (l.mark ++ count_bytes ++ distance_bytes) 4 (record_length l) q distance_end lawful.length_fits

  not_wrong : record_length l * n ≤ length p → wrong_trailer l (length p) n (record_length l * n) (record_length l) ≡ false
  unfolding wrong_trailer
  not_wrong h =
      simp (
        le-ltb l.most n few,
        eq-eqb (record_length l * n) (record_length l * n) refl,
        eq-eqb (record_length l) (record_length l) refl,
        le-ltb (length p) (record_length l * n) h,
      )

  trailer_described :
      record_length l * n ≤ length p →
      describe_at l (p ++ (trailer_bytes l n ++ q)) (length p) ≡ record { number = 0; count = n; first = length p - record_length l * n }
  unfolding describe_at after_trailer
  trailer_described h = simp (marked, count_is, distance_is, length_is, not_wrong h)

-- A book of these cases in the buffer b.

module _ (l : Layout) (b : List ℕ) (note : ℕ) (xs : List (List ℕ)) where
  abbrev pub whole : List ℕ
  whole = splice b note (book_bytes l xs)

  abbrev pub now_described : Description
  now_described = record { number = 0; count = length xs; first = note }

  abbrev pub after_records : List ℕ
  after_records = trailer_bytes l (length xs) ++ drop (note + length (book_bytes l xs)) b

  pub in_parts : whole ≡ take note b ++ (records_bytes l xs ++ after_records)
  unfolding splice book_bytes
  in_parts =
      let behind = drop (note + length (book_bytes l xs)) b in
      append_assoc (take note b) (book_bytes l xs) behind
      ∙ ap (λ (t : List ℕ). take note b ++ t) (append_assoc (records_bytes l xs) (trailer_bytes l (length xs)) behind)

module _ {l : Layout} (lawful : Lawful l) (b : List ℕ) (note : ℕ) (xs : List (List ℕ)) (cases : all_cases l xs ≡ true)
    (fit : FitsIn l b note (length xs)) where
  pub note_length : length (take note b) ≡ note
  note_length = length-take-le note b (omega (arith, fit.room))

  pub built_length : length (whole l b note xs) ≡ length b
  built_length = splice_length b note (book_bytes l xs) (omega (arith, book_bytes_length lawful xs cases, fit.room))

  -- its trailer tells the count and the note's length
  pub built_described : describe_in l (whole l b note xs) (used_for l note (length xs)) ≡ now_described l b note xs
  unfolding describe_in
  built_described =
      let n = length xs in
      let front = take note b ++ records_bytes l xs in
      let front_length : length front ≡ note + record_length l * n =
      omega (arith, length-append (take note b) (records_bytes l xs), note_length, records_bytes_length l xs cases)
      in
      let parts = in_parts l b note xs ∙ sym (append_assoc (take note b) (records_bytes l xs) (after_records l b note xs)) in
      let place : used_for l note n - trailer_length l ≡ length front = omega (arith, front_length) in
      let first_is : length front - record_length l * n ≡ note = omega (arith, front_length) in
      let within = le-ltb (length (whole l b note xs)) (used_for l note n) (omega (arith, built_length, fit.room)) in
      let long = le-ltb (used_for l note n) (trailer_length l) (omega arith) in
      simp (within, long)
      (ap₂ (describe_at l) parts place
      ∙ trailer_described lawful front _ n fit.most (omega (arith, front_length))
      ∙ ap (λ (i : ℕ). record { number = 0; count = n; first = i }) first_is)

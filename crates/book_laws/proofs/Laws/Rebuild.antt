-- Demand 2: an accepted book, built again from its note and its cases, has the same used length and the same bytes, and nothing is
-- refused on the way. Assumes nothing.
use Rattle.std.proofs.Common.{List, [], ◌∷◌, ◌++◌, append-nil}
use Rattle.std.specs.Prelude.{true, ◌≡◌, ℕ, zero, suc, ◌+◌, ◌-◌, ◌*◌, ◌≤◌}
use Rattle.std.proofs.Math.Path.{sym, ap, ap₂}
use Rattle.std.proofs.Common.{◌∙◌, arith, take-add}
use Rattle.std.proofs.Math.ListN.{length, take, drop}
use Rattle.std.proofs.Math.Seq.{drop-length}
use Rattle.bools.proofs.Laws.Tests.{both}
use Rattle.splice.specs.Splice.{splice}
use Rattle.book_laws.specs.Bytes.{number_bytes, words_bytes, stands, below}
use Rattle.book_laws.specs.Layout.{Layout, record_fields, record_length, trailer_length}
use Rattle.book_laws.specs.Format.{record_bytes, records_bytes, trailer_bytes, count_at, distance_at, length_at}
use Rattle.book_laws.specs.Trailer.{describe_in}
use Rattle.book_laws.specs.Record.{place_from, case_at, agrees, all_agree}
use Rattle.book_laws.specs.Read.{cases_read_in}
use Rattle.book_laws.specs.Accept.{AcceptedIn}
use Rattle.book_laws.specs.Build.{build_in}
use Rattle.book_laws.specs.Built.{book_bytes, used_for, built_in, FitsIn}
use Rattle.book_laws.proofs.Laws.Bytes.{stand_together, stands_read, number_bytes_read, words_bytes_read}
use Rattle.book_laws.proofs.Laws.Lawful.{Lawful}
use Rattle.book_laws.proofs.Laws.Trailer.{described}
use Rattle.book_laws.proofs.Laws.Record.{records_bytes_append, agreed_fields}
use Rattle.book_laws.proofs.Laws.Built.{book_bytes_length}
use Rattle.book_laws.proofs.Laws.Build.{build_in_fits}
use Rattle.book_laws.proofs.Laws.Cases.{cases_at, cases_are, cases_at_length, cases_read}

-- The records that agree, and the trailer, are the bytes that stand there.

records_stand :
    (l : Layout) (b : List ℕ) (first n : ℕ) → below 256 b ≡ true → first + record_length l * n ≤ length b →
    all_agree l b first n ≡ true → records_bytes l (cases_at l b first n) ≡ take (record_length l * n) (drop first b)
unfolding records_bytes cases_at all_agree record_bytes
records_stand l b first zero bytes h all =
    let nothing : 0 ≡ record_length l * 0 = omega arith in ap (λ (k : ℕ). take k (drop first b)) nothing
records_stand l b first (suc n) bytes h all =
    let at = place_from l first n in
    let split = both (all_agree l b first n) (agrees l b at) all in
    let last : records_bytes l (case_at l b at ∷ []) ≡ take (record_length l) (drop at b) =
    append-nil (record_bytes l (case_at l b at))
    ∙ ap words_bytes (sym (agreed_fields l b at split.1))
    ∙ words_bytes_read b at (record_fields l) bytes (omega arith)
    in
    let size : record_length l * n + record_length l ≡ record_length l * suc n = omega arith in
    records_bytes_append l (cases_at l b first n) (case_at l b at ∷ [])
    ∙ stand_together b first (record_length l * n) (record_length l) (records_stand l b first n bytes (omega arith) split.0) last
    ∙ ap (λ (k : ℕ). take k (drop first b)) size

trailer_stands :
    {l : Layout} → Lawful l → (b : List ℕ) (at n : ℕ) → below 256 b ≡ true → at + trailer_length l ≤ length b →
    stands l.mark b at ≡ true → count_at l b at ≡ n → distance_at l b at ≡ record_length l * n → length_at l b at ≡ record_length l →
    trailer_bytes l n ≡ take (trailer_length l) (drop at b)
unfolding trailer_bytes
trailer_stands {l} lawful b at n bytes h marked count_is distance_is length_is =
    let w = l.width in
    let mark_stands : l.mark ≡ take 4 (drop at b) =
    stands_read l.mark b at (omega (arith, lawful.mark_length)) marked
    ∙ ap (λ (k : ℕ). take k (drop at b)) lawful.mark_length
    in
    let count_stands = ap (number_bytes w) (sym count_is) ∙ number_bytes_read b (at + 4) w bytes (omega arith) in
    let distance_stands = ap (number_bytes w) (sym distance_is) ∙ number_bytes_read b (at + (4 + w)) w bytes (omega arith) in
    let length_stands = ap (number_bytes 4) (sym length_is) ∙ number_bytes_read b (at + (4 + 2 * w)) 4 bytes (omega arith) in
    let twice : 4 + w + w ≡ 4 + 2 * w = omega arith in
    let first_two = stand_together b at 4 w mark_stands count_stands in
    let first_three =
    stand_together b at (4 + w) w first_two distance_stands ∙ ap (λ (k : ℕ). take k (drop at b)) twice
    in
    stand_together b at (4 + 2 * w) 4 first_three length_stands

-- An accepted book is the book of its cases.

module _ {l : Layout} (lawful : Lawful l) (b : List ℕ) (used : ℕ) (bytes : below 256 b ≡ true) (fine : AcceptedIn l b used) where
  abbrev note : ℕ
  note = (describe_in l b used).first

  abbrev count : ℕ
  count = (describe_in l b used).count

  abbrev cases : List (List ℕ)
  cases = cases_at l b note count

  book_stands : book_bytes l cases ≡ take (record_length l * count + trailer_length l) (drop note b)
  unfolding book_bytes
  book_stands =
      let told = described l b used fine.trailer_right in
      let place : used - trailer_length l ≡ place_from l note count = omega (arith, told.places) in
      let trailer =
      trailer_stands lawful b (used - trailer_length l) count bytes (omega (arith, told.places, told.used_most)) told.marked
      told.count_is
      told.distance_is
      told.size_is
      in
      stand_together b note (record_length l * count) (trailer_length l)
      (records_stand l b note count bytes (omega (arith, told.places, told.used_most)) fine.records_agree)
      (ap (trailer_bytes l) (cases_at_length l b note count)
      ∙ trailer
      ∙ ap (λ (at : ℕ). take (trailer_length l) (drop at b)) place)

  used_is : used_for l note (length cases) ≡ used
  used_is = ap (used_for l note) (cases_at_length l b note count) ∙ (described l b used fine.trailer_right).places

  pub cases_fit : (c : List ℕ) → used ≤ length c → FitsIn l c note (length cases)
  cases_fit c long =
      let told = described l b used fine.trailer_right in
      record { room = omega (arith, used_is, long); most = omega (arith, cases_at_length l b note count, told.most) }

  -- in a buffer c that is long enough and has the note at its front
  pub cases_stand :
      (c : List ℕ) → used ≤ length c → take note c ≡ take note b →
      built_in l c note cases ≡ record { number = 0; used = used; bytes = take used b ++ drop used c }
  unfolding built_in splice
  cases_stand c long same-note =
      let end : note + length (book_bytes l cases) ≡ used =
      omega (arith, book_bytes_length lawful cases (cases_are l b note count bytes), used_is)
      in
      let size : note + (record_length l * count + trailer_length l) ≡ used =
      omega (arith, (described l b used fine.trailer_right).places)
      in
      let front : take note c ++ book_bytes l cases ≡ take used b =
      ap₂ ◌++◌ same-note book_stands ∙ sym (take-add note (record_length l * count + trailer_length l) b) ∙ ap (λ (k : ℕ). take k b) size
      in
      ap₂ (λ (u : ℕ) (m : List ℕ). record { number = 0; used = u; bytes = m }) used_is
      (ap₂ ◌++◌ front (ap (λ (k : ℕ). drop k c) end))

  pub read_cases : cases_read_in l b used count ≡ cases
  read_cases = cases_read l b used fine.trailer_right count (omega arith)

  -- For every accepted book in a buffer of bytes: built from its cases in a buffer that is long enough and has the note at its front,
  -- nothing is refused, the used length is the same, and so is every byte of the book; what stood behind stays.
  pub rebuilt_in :
      let d = describe_in l b used in
      (c : List ℕ) → used ≤ length c → take d.first c ≡ take d.first b →
      build_in l c d.first (cases_read_in l b used d.count) ≡ record { number = 0; used = used; bytes = take used b ++ drop used c }
  rebuilt_in c long same-note =
      ap (build_in l c note) read_cases
      ∙ build_in_fits lawful c note cases (cases_are l b note count bytes) (cases_fit c long)
      ∙ cases_stand c long same-note

  -- in a buffer as long as the book
  pub rebuilt_in_whole :
      let d = describe_in l b used in
      (c : List ℕ) → length c ≡ used → take d.first c ≡ take d.first b →
      build_in l c d.first (cases_read_in l b used d.count) ≡ record { number = 0; used = used; bytes = take used b }
  rebuilt_in_whole c size same-note =
      let nothing_behind : drop used c ≡ [] = ap (λ (u : ℕ). drop u c) (sym size) ∙ drop-length c in
      rebuilt_in c (omega (arith, size)) same-note
      ∙ ap (λ (t : List ℕ). record { number = 0; used = used; bytes = take used b ++ t }) nothing_behind
      ∙ ap (λ (m : List ℕ). record { number = 0; used = used; bytes = m }) (append-nil (take used b))

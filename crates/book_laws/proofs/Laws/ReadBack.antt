-- Demand 2: cases appended without refusal to a fresh book read back as they were, with their answers and ratings; accept finds no fault
-- with it; the note and all bytes past the book are untouched. Assumes nothing.
use Rattle.std.specs.Prelude.{true, List, [], ◌++◌, ◌≡◌, ℕ, ◌+◌, ◌*◌, ◌≤◌, ◌<◌, get_or, take}
use Rattle.std.proofs.Math.Path.{refl, subst}
use Rattle.std.proofs.Common.{sym, ap₂, ◌∙◌, arith}
use Rattle.std.proofs.Math.ListN.{length, drop}
use Rattle.std.proofs.lemmas.Bool.{lt-leb}
use Rattle.splice.proofs.Laws.Splice.{splice_before, splice_past}
use Rattle.book_laws.specs.Bytes.{words_at}
use Rattle.book_laws.specs.Layout.{Layout, record_fields, record_length}
use Rattle.book_laws.specs.Format.{fields_of, records_bytes, answered_fields}
use Rattle.book_laws.specs.Record.{place_from, all_agree}
use Rattle.book_laws.specs.Read.{read_after, read_in}
use Rattle.book_laws.specs.Accept.{accept_after, accept_in}
use Rattle.book_laws.specs.Build.{all_cases, build_in}
use Rattle.book_laws.specs.Built.{book_bytes, used_for, built_in, FitsIn, KeptIn}
use Rattle.book_laws.proofs.Laws.Bytes.{words_at_skip}
use Rattle.book_laws.proofs.Laws.Lawful.{Lawful}
use Rattle.book_laws.proofs.Laws.Trailer.{on_book_on}
use Rattle.book_laws.proofs.Laws.Record.{Stored, stored, stored_agrees, stored_fields, all_cases_at, records_read, all_agree_all}
use Rattle.book_laws.proofs.Laws.Built.{whole, after_records, in_parts, book_bytes_length, note_length, built_length, built_described}
use Rattle.book_laws.proofs.Laws.Build.{build_in_fits, build_in_fitted}

module _ {l : Layout} (lawful : Lawful l) (b : List ℕ) (note : ℕ) (xs : List (List ℕ)) (cases : all_cases l xs ≡ true) where
  -- A book of the cases as it stands.

  module _ (fit : FitsIn l b note (length xs)) where
    abbrev book : List ℕ
    book = whole l b note xs

    fields_stand : (i : ℕ) → i < length xs → words_at book (place_from l note i) (record_fields l) ≡ fields_of l (get_or xs i [])
    fields_stand i h =
        let place : place_from l note i ≡ length (take note b) + record_length l * i =
        omega (arith, note_length lawful b note xs cases fit)
        in
        let after = after_records l b note xs in
        ap₂ (λ (m : List ℕ) (at : ℕ). words_at m at (record_fields l)) (in_parts l b note xs) place
        ∙ words_at_skip (take note b) (records_bytes l xs ++ after) (record_length l * i) (record_fields l)
        ∙ records_read lawful xs after i cases h

    record_stands : (i : ℕ) → i < length xs → Stored l book (place_from l note i) (get_or xs i [])
    record_stands i h =
        stored l book (place_from l note i) (get_or xs i []) (all_cases_at l xs i cases h).size (fields_stand i h)

    built_reads :
        (i : ℕ) → i < length xs →
        read_in l book (used_for l note (length xs)) i ≡ record { number = 0; fields = answered_fields l (get_or xs i []) }
    unfolding read_in read_after
    built_reads i h =
        on_book_on l book (used_for l note (length xs)) _ _ (sym (built_described lawful b note xs cases fit)) refl
        ∙ simp (lt-leb (length xs) i h, stored_fields l book (place_from l note i) (get_or xs i []) (record_stands i h))

    built_agrees : all_agree l book note (length xs) ≡ true
    built_agrees =
        all_agree_all l book note (length xs)
        (λ i h. stored_agrees l book (place_from l note i) (get_or xs i []) (record_stands i h))

    built_accepted : accept_in l book (used_for l note (length xs)) ≡ record { number = 0; count = length xs; note = note; named = 0 }
    unfolding accept_in accept_after
    built_accepted =
        on_book_on l book (used_for l note (length xs)) _ _ (sym (built_described lawful b note xs cases fit)) refl
        ∙ simp built_agrees

    pub built_kept : KeptIn l b note xs (built_in l b note xs)
    unfolding built_in
    built_kept =
        let note_within : note ≤ length b = omega (arith, fit.room) in
        let past : note + length (book_bytes l xs) + 0 ≡ used_for l note (length xs) = omega (arith, book_bytes_length lawful xs cases) in
        record {
          used = refl;
          reads = built_reads;
          accepted = built_accepted;
          note_untouched = splice_before b note (book_bytes l xs) note_within;
          rest_untouched = subst (λ (u : ℕ). drop u book ≡ drop u b) past (splice_past b note (book_bytes l xs) 0 note_within);
          as_long = built_length lawful b note xs cases fit;
        }

  pub kept_in : (build_in l b note xs).number ≡ 0 → KeptIn l b note xs (build_in l b note xs)
  kept_in none =
      let fit = build_in_fitted lawful b note xs cases none in
      subst (KeptIn l b note xs) (sym (build_in_fits lawful b note xs cases fit)) (built_kept fit)

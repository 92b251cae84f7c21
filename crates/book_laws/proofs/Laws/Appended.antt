-- Demand 2 for any accepted book, however it was made: cases appended to it without refusal read back after its own, and the book is
-- accepted. Assumes nothing.
use Rattle.std.proofs.Common.{List, [], ◌∷◌, ◌++◌, ℕ, ◌+◌, ◌-◌, ◌*◌, ◌≤◌}
use Rattle.std.specs.Prelude.{true, ◌≡◌, ltb, leb}
use Rattle.std.proofs.Math.Path.{refl, sym, ap}
use Rattle.std.proofs.Common.{subst, ◌∙◌, arith, take-append-drop}
use Rattle.std.proofs.Math.ListN.{length, take, length-append, get_or-append}
use Rattle.std.proofs.lemmas.List.{get_or_at}
use Rattle.bools.proofs.Laws.Tests.{either}
use Rattle.splice.specs.Splice.{splice}
use Rattle.splice.proofs.Laws.Splice.{splice_before}
use Rattle.book_laws.specs.Bytes.{below}
use Rattle.book_laws.specs.Layout.{Layout, record_length, trailer_length}
use Rattle.book_laws.specs.Format.{record_bytes, trailer_bytes, answered_fields}
use Rattle.book_laws.specs.Trailer.{describe_in}
use Rattle.book_laws.specs.Start.{Written, unwritten}
use Rattle.book_laws.specs.Append.{append_after, append_in}
use Rattle.book_laws.specs.Read.{Fields, cases_read_in}
use Rattle.book_laws.specs.Accept.{AcceptedIn}
use Rattle.book_laws.specs.Build.{all_cases, append_all}
use Rattle.book_laws.specs.Built.{built_in, FitsIn, KeptIn}
use Rattle.book_laws.specs.Appended.{AppendedIn}
use Rattle.book_laws.proofs.Laws.Bytes.{below_splice, below_append}
use Rattle.book_laws.proofs.Laws.Lawful.{Lawful}
use Rattle.book_laws.proofs.Laws.Trailer.{described, on_book_each}
use Rattle.book_laws.proofs.Laws.Record.{record_bytes_bytes}
use Rattle.book_laws.proofs.Laws.Built.{trailer_bytes_bytes}
use Rattle.book_laws.proofs.Laws.Build.{all_cases_append, append_all_fits, append_all_fitted}
use Rattle.book_laws.proofs.Laws.ReadBack.{built_kept}
use Rattle.book_laws.proofs.Laws.Cases.{cases_at, cases_are, cases_at_length, cases_as_read_in}
use Rattle.book_laws.proofs.Laws.Rebuild.{cases_fit, cases_stand, read_cases}

-- what holds of the buffer, and of the buffer with the record and the trailer in it, holds of what append leaves, refused or not
append_each :
    (P : List ℕ → Type 0) (l : Layout) (b : List ℕ) (used : ℕ) (x : List ℕ) → P b →
    P (splice b (used - trailer_length l) (record_bytes l x ++ trailer_bytes l ((describe_in l b used).count + 1))) →
    P (append_in l b used x).bytes
unfolding append_in append_after unwritten
append_each P l b used x as-was with-record =
    let of_bytes : Written → Type 0 = λ w. P w.bytes in
    on_book_each of_bytes l b used _ _ as-was as-was as-was as-was
    (either of_bytes (leb l.most (describe_in l b used).count) as-was
    (either of_bytes (ltb (length b) (used + record_length l)) as-was with-record))

module _ {l : Layout} (lawful : Lawful l) (b : List ℕ) (used : ℕ) (bytes : below 256 b ≡ true) (fine : AcceptedIn l b used) where
  abbrev note : ℕ
  note = (describe_in l b used).first

  abbrev count : ℕ
  count = (describe_in l b used).count

  abbrev cases : List (List ℕ)
  cases = cases_at l b note count

  abbrev as_stands : Written
  as_stands = record { number = 0; used = used; bytes = b }

  within : used ≤ length b
  within = (described l b used fine.trailer_right).used_most

  -- the book of its cases
  is_built : built_in l b note cases ≡ as_stands
  is_built =
      cases_stand lawful b used bytes fine b within refl
      ∙ ap (λ (m : List ℕ). record { number = 0; used = used; bytes = m }) (take-append-drop used b)

  -- with any number of cases appended it is the book of its cases and of these
  cases_kept :
      (xs : List (List ℕ)) → all_cases l xs ≡ true → (append_all l as_stands xs).number ≡ 0 →
      KeptIn l b note (cases ++ xs) (append_all l as_stands xs)
  cases_kept xs of-xs none =
      let of_cases = cases_are l b note count bytes in
      let from_built = ap (λ (w : Written). append_all l w xs) is_built in
      let fit = append_all_fitted lawful b note cases xs of_cases of-xs (cases_fit lawful b used bytes fine b within)
      (ap (λ (w : Written). w.number) from_built ∙ none) in
      let is = append_all_fits lawful b note cases xs of_cases of-xs fit in
      subst (KeptIn l b note (cases ++ xs)) (sym is ∙ from_built)
      (built_kept lawful b note (cases ++ xs) (all_cases_append l cases xs of_cases of-xs)
      (subst (λ (n : ℕ). FitsIn l b note n) (sym (length-append cases xs)) fit))

  pub all_appended_in :
      (xs : List (List ℕ)) → all_cases l xs ≡ true → (append_all l as_stands xs).number ≡ 0 →
      KeptIn l b note (cases_read_in l b used count ++ xs) (append_all l as_stands xs)
  all_appended_in xs of-xs none =
      subst (λ (ys : List (List ℕ)). KeptIn l b note (ys ++ xs) (append_all l as_stands xs)) (sym (read_cases lawful b used bytes fine))
      (cases_kept xs of-xs none)

  -- one case
  pub appended_in :
      (x : List ℕ) → all_cases l (x ∷ []) ≡ true → (append_in l b used x).number ≡ 0 → AppendedIn l b used x (append_in l b used x)
  unfolding append_all
  appended_in x is_a_case none =
      let kept = cases_kept (x ∷ []) is_a_case none in
      let n_is = cases_at_length l b note count in
      let more_is : length (cases ++ (x ∷ [])) ≡ count + 1 = length-append cases (x ∷ []) ∙ ap (λ (n : ℕ). n + 1) n_is in
      let fields : List ℕ → Fields = λ y. record { number = 0; fields = answered_fields l y } in
      record {
        used_is = kept.used ∙ omega (arith, ap (λ (n : ℕ). record_length l * n) more_is, (described l b used fine.trailer_right).places);
        accepted = kept.accepted ∙ ap (λ (n : ℕ). record { number = 0; count = n; note = note; named = 0 }) more_is;
        reads_before = λ i h.
            kept.reads i (omega (arith, more_is, h))
            ∙ ap fields (get_or-append cases (x ∷ []) [] i (omega (arith, n_is, h)))
            ∙ sym (cases_as_read_in l b used i h fine);
        reads_last = kept.reads count (omega (arith, more_is)) ∙ ap fields (get_or_at cases x [] [] count n_is);
        front_untouched =
            append_each (λ m. take (used - trailer_length l) m ≡ take (used - trailer_length l) b) l b used x refl
            (splice_before b (used - trailer_length l) _ (omega (arith, within)));
        rest_untouched = kept.rest_untouched;
        as_long = kept.as_long;
        still_bytes =
            append_each (λ m. below 256 m ≡ true) l b used x bytes
            (below_splice 256 b _ _ bytes (below_append 256 (record_bytes l x) _ (record_bytes_bytes l x) (trailer_bytes_bytes lawful _)));
      }

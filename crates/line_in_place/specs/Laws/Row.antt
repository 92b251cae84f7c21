-- A row of numbers in a chunk, with one blank after each: how it goes on by one number, that with a last number and the line's end it is
-- a line of its numbers. Assumes nothing.
use Rattle.std.proofs.Common.{List, [], ◌∷◌, ◌++◌, append_assoc, append-nil, ℕ, suc, ◌+◌, ◌-◌, ◌≤◌, ◌<◌, arith}
use Rattle.std.specs.Prelude.{Bool, true, false, cond, ◌≡◌, eqb, Option}
use Rattle.std.proofs.Math.Path.{refl, sym, ap}
use Rattle.std.proofs.Common.{◌∙◌, le_refl, zero-add, eqb-true, ne_eqb}
use Rattle.std.proofs.Math.ListN.{length, get_or}
use Rattle.line_in_place.specs.NumberAt.{NumberAt}
use Rattle.line_in_place.specs.Plain.{PlainLine}
use Rattle.line_in_place.specs.Laws.Standing.{line_ends}
use Rattle.text.specs.Laws.After.{after, after_one, after_none}
use Rattle.text.specs.declared.line.Said.TheVariants.{Case}
use Rattle.text.specs.Gather.{is_in_line, piece}
use Rattle.text.specs.Line.{case_of, field, fields, longest_line, read_line}
use Rattle.text.specs.Number.{is_digit, every, is_numeral}
use Rattle.text.specs.Laws.Number.{every_append, every_weaker, differ}
use Rattle.text.specs.Laws.Pieces.{piece_none, piece_more, piece_join, piece_length}
use Rattle.text.specs.Laws.Words.{one_field, blank_first, is_plain, numeral_ink, numeral_plain, blank_plain, plain_case, plain_case_return}
use Rattle.text.specs.Words.{is_blank, is_ink, is_empty, drop_blanks, run}

-- i numbers xs from `from` to `at`, with one blank after each: whatever follows, they are read in front of it
pub record Row (s : List ℕ) (from at i : ℕ) (xs : List ℕ) : Type 0 where
  pub forward : from ≤ at
  pub plain : every is_plain (piece from at s) ≡ true
  pub read : (k : ℕ) (t : List ℕ) → fields (i + k) (piece from at s ++ t) ≡ after xs (fields k t)

pub row_none : (s : List ℕ) (from : ℕ) → Row s from from 0 []
unfolding every after
row_none s from =
    record {
      forward = le_refl from;
      plain = ap (every is_plain) (piece_none s from);
      read = λ k t.
          ap (λ (n : ℕ). fields n (piece from from s ++ t)) (zero-add k) ∙ ap (λ (p : List ℕ). fields k (p ++ t)) (piece_none s from);
    }

-- a byte that passes a test after bytes that do
every_more : (p : ℕ → Bool) (t : List ℕ) (b : ℕ) → every p t ≡ true → p b ≡ true → every p (t ++ (b ∷ [])) ≡ true
unfolding every
every_more p t b h k = every_append p t (b ∷ []) h (rw k)

-- digits, minus signs and blanks are no line feed
plain_in_line : (b : ℕ) → is_plain b ≡ true → is_in_line b ≡ true
unfolding is_plain is_numeral is_digit is_blank is_in_line
plain_in_line b h = simp (ne_eqb b 10 (differ is_plain b 10 h refl))

is_line : {s : List ℕ} {from : ℕ} {xs : List ℕ} (to : ℕ) (line : List ℕ) → piece from to s ≡ line → every is_in_line line ≡ true
    → from ≤ to → to < length s → get_or s to 0 ≡ 10 → read_line line ≡ case_of xs → PlainLine s from to xs
is_line {s} {from} to line bytes none forward inside feed says =
    record {
      inside = inside;
      end = line_ends s from to forward inside (ap (every is_in_line) bytes ∙ none) feed;
      says = ap read_line bytes ∙ says;
    }

-- a row, and a number after it
module _ {s : List ℕ} {from at i : ℕ} {xs : List ℕ} (row : Row s from at i xs) {to x : ℕ} (next : NumberAt s at to x) where
  line : List ℕ
  line = piece from to s

  word : List ℕ
  word = piece at to s

  forward : from < to
  forward = omega (arith, row.forward, next.some)

  joined : line ≡ piece from at s ++ word
  unfolding line word
  joined = piece_join s from at to row.forward (omega (arith, next.some))

  line_plain : every is_plain line ≡ true
  unfolding word
  line_plain =
      ap (every is_plain) joined
      ∙ every_append is_plain (piece from at s) word row.plain (every_weaker is_numeral is_plain numeral_plain word next.numeral)

  -- whatever follows, if no word goes on with it
  reads : (k : ℕ) (t : List ℕ) → run is_ink t ≡ 0 → fields (i + suc k) (line ++ t) ≡ after (xs ++ (x ∷ [])) (fields k t)
  unfolding word field
  reads k t stop =
      let some : 0 < length word = omega (arith, piece_length s at to (omega (arith, next.inside)), next.some) in
      let ink = every_weaker is_numeral is_ink numeral_ink word next.numeral in
      ap (λ (p : List ℕ). fields (i + suc k) (p ++ t)) joined
      ∙ ap (fields (i + suc k)) (append_assoc (piece from at s) word t)
      ∙ row.read (suc k) (word ++ t)
      ∙ ap (after xs) (one_field word t some ink stop k ∙ ap (λ (r : Option ℕ). field r (fields k t)) next.says)
      ∙ sym (after_one xs x (fields k t))

  one_byte_more : piece from (to + 1) s ≡ line ++ (get_or s to 0 ∷ [])
  unfolding line
  one_byte_more = piece_more s from to (omega (arith, forward)) next.inside

  -- a blank after it: the row is one longer
  pub row_more : is_blank (get_or s to 0) ≡ true → Row s from (to + 1) (i + 1) (xs ++ (x ∷ []))
  unfolding run is_ink
  row_more blank =
      let b = get_or s to 0 in
      record {
        forward = omega (arith, forward);
        plain = ap (every is_plain) one_byte_more ∙ every_more is_plain line b line_plain (blank_plain b blank);
        read = λ k t.
            let count : i + 1 + k ≡ i + suc k = omega arith in
            ap (λ (n : ℕ). fields n (piece from (to + 1) s ++ t)) count
            ∙ ap (λ (p : List ℕ). fields (i + suc k) (p ++ t)) one_byte_more
            ∙ ap (fields (i + suc k)) (append_assoc line (b ∷ []) t)
            ∙ reads k (b ∷ t) (rw blank)
            ∙ ap (after (xs ++ (x ∷ []))) (blank_first k b t blank);
      }

  -- nothing after it: the row says its numbers
  says_row : fields (suc i) line ≡ Case (xs ++ (x ∷ []))
  unfolding run fields drop_blanks is_empty
  says_row =
      let count : suc i ≡ i + 1 = omega arith in
      ap (λ (n : ℕ). fields n line) count
      ∙ ap (fields (i + 1)) (sym (append-nil line))
      ∙ reads 0 [] refl
      ∙ after_none (xs ++ (x ∷ []))

  line_in_line : every is_in_line line ≡ true
  line_in_line = every_weaker is_plain is_in_line plain_in_line line line_plain

  -- a line feed after it, or a carriage return and a line feed: the row is a line
  module _ (short : to < from + longest_line) (end : ℕ) (inside : end < length s) (feed : get_or s end 0 ≡ 10) where
    size : length line ≡ to - from
    unfolding line
    size = piece_length s from to (omega (arith, next.inside))

    some : 0 < length line
    some = omega (arith, size, forward)

    ends_at_feed : end ≡ to → PlainLine s from end (xs ++ (x ∷ []))
    unfolding line
    ends_at_feed e =
        is_line end line (ap (λ (n : ℕ). piece from n s) e) line_in_line (omega (arith, forward)) inside feed
        (plain_case line some line_plain i (xs ++ (x ∷ [])) says_row (omega (arith, size)))

    ends_at_return : get_or s to 0 ≡ 13 → end ≡ to + 1 → PlainLine s from end (xs ++ (x ∷ []))
    unfolding is_in_line
    ends_at_return return e =
        let longer = line ++ (13 ∷ []) in
        let bytes : piece from end s ≡ longer =
        ap (λ (n : ℕ). piece from n s) e ∙ one_byte_more ∙ ap (λ (b : ℕ). line ++ (b ∷ [])) return
        in
        is_line end longer bytes (every_more is_in_line line 13 line_in_line refl) (omega (arith, forward)) inside feed
        (plain_case_return line some line_plain i (xs ++ (x ∷ [])) says_row (omega (arith, size)))

    pub row_ends : end ≡ cond (eqb (get_or s to 0) 13) (to + 1) to → PlainLine s from end (xs ++ (x ∷ []))
    row_ends = go (eqb (get_or s to 0) 13) refl
      where
        go : (t : Bool) → eqb (get_or s to 0) 13 ≡ t → end ≡ cond t (to + 1) to → PlainLine s from end (xs ++ (x ∷ []))
        go true return = ends_at_return (eqb-true _ 13 return)
        go false return = ends_at_feed

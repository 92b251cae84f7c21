-- The laws of a row and of a line in a chunk, on a chunk of two numbers, a line's end and bytes of the next line: each premise is met.
-- Assumes nothing.
use Rattle.std.specs.Prelude.{Some, None, List, [], ◌∷◌, ◌≡◌, refl, ℕ, ◌<◌}
use Rattle.std.proofs.Common.{lit<, lit≤}
use Rattle.line_in_place.specs.NumberAt.{NumberAt}
use Rattle.line_in_place.specs.Laws.NumberAt.{without_sign, with_sign}
use Rattle.line_in_place.specs.Plain.{PlainLine}
use Rattle.line_in_place.specs.Laws.Row.{Row, row_none, row_more, row_ends}
use Rattle.line_in_place.specs.Standing.{line_end, line_of, standing}
use Rattle.line_in_place.specs.Laws.Standing.{stands_whole, stands_in_part, whole_within}
use Rattle.text.specs.Gather.{is_in_line, piece}
use Rattle.text.specs.Line.{read_line}
use Rattle.text.specs.Number.{is_digit, every, value_from, value}
use Rattle.text.specs.Words.{is_blank, run}

-- "7\t-1\r\n00000000"
abbrev chunk : List ℕ
chunk = 55 ∷ 9 ∷ 45 ∷ 49 ∷ 13 ∷ 10 ∷ 48 ∷ 48 ∷ 48 ∷ 48 ∷ 48 ∷ 48 ∷ 48 ∷ 48 ∷ []

seven : NumberAt chunk 0 1 7
unfolding piece every is_digit value value_from
seven =
    without_sign (lit≤ tt)
    (record {
      digits = record { forward = lit≤ tt; within = lit≤ tt; digits = refl; amount = refl };
      some = lit< tt;
      near = lit≤ tt;
      fits = lit≤ tt;
    })

minus_one : NumberAt chunk 2 4 4294967295
unfolding piece every is_digit value value_from
minus_one =
    with_sign (lit≤ tt) refl
    (record {
      digits = record { forward = lit≤ tt; within = lit≤ tt; digits = refl; amount = refl };
      some = lit< tt;
      near = lit≤ tt;
      fits = lit≤ tt;
    })

row : Row chunk 0 2 1 (7 ∷ [])
unfolding is_blank
row = row_more (row_none chunk 0) seven refl

line : PlainLine chunk 0 5 (7 ∷ 4294967295 ∷ [])
line = row_ends row minus_one (lit< tt) 5 (lit< tt) refl refl

whole : Some (line_of 5 (read_line (piece 0 5 chunk))) ≡ standing chunk 0
whole = stands_whole chunk 0 5 line.end _ (lit< tt) refl

inside : (line_of 5 (read_line (piece 0 5 chunk))).to < 14
inside = whole_within chunk 0 _ whole

in_part : None ≡ standing chunk 6
unfolding line_end run is_in_line
in_part = stands_in_part chunk 6 14 refl (lit≤ tt)

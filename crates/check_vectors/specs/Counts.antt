-- How comparisons are counted. A count stops at the largest number of 64 bits. Assumes nothing.
use Rattle.std.specs.Prelude.{Bool, cond, eqb, get_or, if◌then◌else◌, List, min, ℕ, ◌+◌, ◌-◌, ◌^◌}
use Rattle.check_vectors.specs.declared.count.Count.{Count}
use Rattle.check_vectors.specs.declared.tally.Tally.{Tally}

-- one more comparison, and one more that failed where it is not right
abbrev pub counted : Bool → Count → Count
counted is_right c = record {
  made = min (c.made + 1) (2 ^ 64 - 1);
  failed = min (c.failed + (if is_right then 0 else 1)) (2 ^ 64 - 1);
}

-- whether a line has a range of the rating: it begins with `r`
unfoldable pub is_range : List ℕ → Bool
is_range line = eqb (get_or line 0 0) 114

-- one more comparison, with the range or the line that a line has
abbrev pub compared : List ℕ → Bool → Tally → Tally
compared line is_right t = cond (is_range line)
    (record { cases = t.cases; ranges = counted is_right t.ranges })
    (record { cases = counted is_right t.cases; ranges = t.ranges })

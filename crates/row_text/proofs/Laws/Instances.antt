-- Rows to the last byte: with decimals and without, below zero, and with a whole part that is wider than its column. Assumes nothing.
use Rattle.std.specs.Prelude.{◌≡◌, refl, neg_ℤ, pos, codes}
use Rattle.decimals.specs.Decimal.{decimal, digits, padded}
use Rattle.row_text.specs.Columns.{to_left, to_right}
use Rattle.row_text.specs.Row.{meaning, row}
use Rattle.row_text.specs.Value.{fraction, sign, value, whole}

t1 : row (codes "  ") 6 (record { symbol = codes "T1"; unit = codes "K.m/W"; words = codes "insulation"; decimals = 6 }) (pos 350000)
    ≡ codes "  T1                  0.350000  K.m/W     insulation\n"
unfolding row meaning value whole fraction sign to_left to_right decimal digits padded
t1 = refl

below_zero : value 0 2 2 (neg_ℤ (pos 5)) ≡ codes "-0.05"
unfolding value whole fraction sign to_left to_right decimal digits padded
below_zero = refl

no_decimals : row (codes "> ") 6 (record { symbol = codes "U0"; unit = codes "V"; words = codes ""; decimals = 0 }) (pos 19000)
    ≡ codes "> U0              19000         V\n"
unfolding row meaning value whole fraction sign to_left to_right decimal digits padded
no_decimals = refl

wide : value 3 2 0 (pos 12345) ≡ codes "12345   "
unfolding value whole fraction sign to_left to_right decimal digits padded
wide = refl

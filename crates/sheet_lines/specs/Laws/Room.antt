-- Room for what is printed for any line. Assumes nothing.
use Rattle.std.specs.Prelude.{ℕ}

abbrev pub printed_room : ℕ
printed_room = 13000

-- How many lines may still come, so that a loop over them ends. Assumes nothing.
use Rattle.std.specs.Prelude.{ℕ, ◌+◌, ◌-◌, ◌*◌}

-- a bound on them: a line takes a byte of the chunk at least, or a read, which gives 65536 bytes at most
abbrev pub most_lines : ℕ → ℕ → ℕ → ℕ
most_lines at end reads = reads * 65537 + (end - at)

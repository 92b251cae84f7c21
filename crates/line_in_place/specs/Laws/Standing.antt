-- A line that stands in a chunk: where it ends, how a reader shows that it has read it, and that it ends within the chunk, and
-- not before its start. Assumes nothing.
use Rattle.std.specs.Prelude.{Bool, cond, List, Some, None, ◌≡◌, refl, ℕ, ◌≤◌, ◌<◌, ltb, get_or, drop}
use Rattle.std.proofs.Math.Bool.{true, false}
use Rattle.std.proofs.Math.Path.{sym, ap}
use Rattle.std.proofs.Common.{subst, ◌∙◌, arith, lt-ltb, le-ltb, ltb-true}
use Rattle.std.proofs.Math.ListN.{length}
use Rattle.line_in_place.specs.declared.Line.{Line}
use Rattle.line_in_place.specs.Standing.{line_end, line_of, standing}
use Rattle.text.specs.declared.line.Said.{Said}
use Rattle.text.specs.Gather.{is_in_line, piece}
use Rattle.text.specs.Line.{read_line}
use Rattle.text.specs.Number.{every}
use Rattle.text.specs.Laws.Pieces.{piece_then, piece_length}
use Rattle.text.specs.Laws.Runs.{run_stop}
use Rattle.text.specs.Laws.Words.{run_past}
use Rattle.text.specs.Words.{run}

-- bytes before a line feed, none of which is one
pub line_ends : (s : List ℕ) (from to : ℕ) → from ≤ to → to < length s → every is_in_line (piece from to s) ≡ true → get_or s to 0 ≡ 10
    → to ≡ line_end s from
unfolding line_end is_in_line
line_ends s from to forward inside none feed =
    let line = piece from to s in
    let stop : run is_in_line (drop to s) ≡ 0 = omega (arith, run_stop is_in_line s to inside (ap is_in_line feed)) in
    let passed : run is_in_line (drop from s) ≡ length line =
    ap (run is_in_line) (piece_then s from to forward) ∙ run_past is_in_line line (drop to s) none stop
    in
    omega (arith, passed, piece_length s from to (omega (arith, inside)))

module _ (chunk : List ℕ) (from to : ℕ) (end : to ≡ line_end chunk from) where
  pub stands_whole : (said : Said) → to < length chunk → said ≡ read_line (piece from to chunk)
      → Some (line_of to said) ≡ standing chunk from
  unfolding standing
  stands_whole said inside e =
      ap (λ (s : Said). Some (line_of to s)) e
      ∙ ap (λ (n : ℕ). Some (line_of n (read_line (piece from n chunk)))) end
      ∙ sym (simp (lt-ltb (line_end chunk from) (length chunk) (subst (λ (n : ℕ). n < length chunk) end inside)))

  pub stands_in_part : length chunk ≤ to → None ≡ standing chunk from
  unfolding standing
  stands_in_part past = sym (simp (le-ltb (line_end chunk from) (length chunk) (subst (λ (n : ℕ). length chunk ≤ n) end past)))

-- a line that a test chose
chosen : (t : Bool) (a b : Line) → Some a ≡ cond t (Some b) None → (t ≡ true) × (a ≡ b)
chosen true a b e = (refl, cc)
chosen false a b e = cc

pub whole_within : (chunk : List ℕ) (from : ℕ) (line : Line) → Some line ≡ standing chunk from → line.to < length chunk
unfolding standing line_of
whole_within chunk from line e =
    let to = line_end chunk from in
    let e = chosen (ltb to (length chunk)) line (line_of to (read_line (piece from to chunk))) e in
    subst (λ (l : Line). l.to < length chunk) (sym e.1) (ltb-true to (length chunk) e.0)

pub whole_after : (chunk : List ℕ) (from : ℕ) (line : Line) → Some line ≡ standing chunk from → from ≤ line.to
unfolding standing line_of line_end
whole_after chunk from line e =
    let to = line_end chunk from in
    let e = chosen (ltb to (length chunk)) line (line_of to (read_line (piece from to chunk))) e in
    subst (λ (l : Line). from ≤ l.to) (sym e.1) (omega arith)

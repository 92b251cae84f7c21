-- A line that is read where it stands in a chunk is the first of the bytes of the chunk that are still to come. Assumes nothing.
use Rattle.std.specs.Prelude.{Bool, true, false, cond, Some, None, List, ◌≡◌, ℕ, ◌+◌, ◌-◌, ◌≤◌, ◌<◌, length, take, drop, ltb}
use Rattle.std.proofs.Common.{ap, sym, ◌∙◌, arith, length-drop, length-take}
use Rattle.std.proofs.lemmas.List.{drop-take}
use Rattle.line_in_place.specs.declared.Line.{Line}
use Rattle.line_in_place.specs.Laws.Standing.{whole_within}
use Rattle.line_in_place.specs.Standing.{line_end, line_of, standing}
use Rattle.input.specs.Laws.Lines.{EndsAt, run_ends}
use Rattle.text.specs.Gather.{is_in_line, piece}
use Rattle.text.specs.Line.{read_line}
use Rattle.text.specs.Words.{run}

-- a line that stands in a chunk from `at` on, before `end`: as many bytes as it has, and then its line feed
pub record Stands (chunk : List ℕ) (at end : ℕ) (line : Line) : Type 0 where
  pub size : ℕ
  pub place : line.to ≡ at + size
  pub inside : line.to < end
  pub ends : EndsAt (piece at end chunk) size
  pub says : line.said ≡ read_line (take size (piece at end chunk))

chosen : (t : Bool) (a b : Line) → Some a ≡ cond t (Some b) None → a ≡ b
chosen true a b e = cc
chosen false a b e = cc

module _ (chunk : List ℕ) (at end : ℕ) (line : Line) (whole : Some line ≡ standing (take end chunk) at) (within : at ≤ end) where
  abbrev held : List ℕ
  held = piece at end chunk

  abbrev place : ℕ
  place = line_end (take end chunk) at

  abbrev size : ℕ
  size = run is_in_line held

  held_is : drop at (take end chunk) ≡ held
  unfolding piece
  held_is =
      let up_to_end : at + (end - at) ≡ end = omega arith in
      ap (λ (n : ℕ). drop at (take n chunk)) (sym up_to_end) ∙ drop-take at (end - at) chunk

  line_is : line ≡ line_of place (read_line (piece at place (take end chunk)))
  unfolding standing
  line_is = chosen (ltb place (length (take end chunk))) line _ whole

  place_is : place ≡ at + size
  unfolding line_end
  place_is = ap (λ (s : List ℕ). at + run is_in_line s) held_is

  to_is : line.to ≡ at + size
  unfolding line_of
  to_is = ap (λ (l : Line). l.to) line_is ∙ place_is

  said_is : line.said ≡ read_line (take size held)
  unfolding line_of piece
  said_is =
      let from_start : at + size - at ≡ size = omega arith in
      ap (λ (l : Line). l.said) line_is
      ∙ ap (λ (n : ℕ). read_line (piece at n (take end chunk))) place_is
      ∙ ap (λ (n : ℕ). read_line (take n (drop at (take end chunk)))) from_start
      ∙ ap (λ (s : List ℕ). read_line (take size s)) held_is

  pub stands : Stands chunk at end line
  stands =
      let in_chunk : line.to < length (take end chunk) = whole_within (take end chunk) at line whole in
      record {
        size = size;
        place = to_is;
        inside = omega (arith, in_chunk, length-take end chunk);
        ends = run_ends held (omega (arith, to_is, in_chunk, ap length held_is, length-drop at (take end chunk)));
        says = said_is;
      }

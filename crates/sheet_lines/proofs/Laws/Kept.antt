-- `input` gives of a line as many bytes as there is room for: what is printed for these, and the heading after them, is that of the whole
-- line. Assumes nothing.
use Rattle.std.proofs.Common.{Bool, List, false, ◌<◌, ◌≡◌, ◌∙◌, ◌&&◌, ℕ, ap}
use Rattle.std.proofs.Common.{arith, eqb, get_or, length, length-take, sym, take, take_all, ⊎_elim}
use Rattle.std.proofs.lemmas.Bool.{cases_lt, lt-leb}
use Rattle.text.specs.Gather.{line_room}
use Rattle.text.specs.Laws.Gather.{start_decides}
use Rattle.text.specs.Line.{longest_line}
use Rattle.sheet_lines.specs.Heading.{is_comment, printed, printed_for}

pub printed_kept : (k : ℕ) (heading line : List ℕ) → printed k heading (take line_room line) ≡ printed k heading line
unfolding printed
printed_kept k heading line = ap (printed_for k heading) (start_decides line)

-- a longer line is no comment
no_comment : (line : List ℕ) → longest_line < length line → is_comment line ≡ false
unfolding is_comment
no_comment line long = ap (λ (t : Bool). t && eqb (get_or line 0 0) 35) (lt-leb (length line) longest_line long)

pub is_comment_kept : (line : List ℕ) → is_comment (take line_room line) ≡ is_comment line
is_comment_kept line =
    ⊎_elim
    (λ long.
    no_comment (take line_room line) (omega (arith, long, length-take line_room line))
    ∙ sym (no_comment line long))
    (λ short. ap is_comment (take_all line_room line (omega (arith, short))))
    (cases_lt longest_line (length line))

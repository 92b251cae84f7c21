-- What `fields` gives, said of the words that are left: how the loop of `text::line::read_fields` goes on by one word, and where it stops.
-- Assumes nothing.
use Rattle.std.proofs.Common.{List, [], ◌≡◌, sym, ap, ◌∙◌, ℕ, suc, ◌-◌, ◌≤◌, ◌<◌, length, take, drop, drop-drop}
use Rattle.std.specs.Prelude.{Option}
use Rattle.text.specs.declared.line.Said.TheVariants.{Case, Unreadable}
use Rattle.std.proofs.Math.Nat.{add-sub_cancel_left}
use Rattle.text.specs.Gather.{piece}
use Rattle.text.specs.Line.{field, fields}
use Rattle.text.specs.Number.{read_number}
use Rattle.text.specs.Laws.Leading.{WordAt}
use Rattle.text.specs.Laws.Runs.{left, nothing_left}
use Rattle.text.specs.Words.{run, is_blank, is_ink, drop_blanks, word, drop_word, run_end}

pub past_blanks : (s : List ℕ) (at from : ℕ) → from ≡ run_end is_blank s at → drop_blanks (drop at s) ≡ drop from s
unfolding drop_blanks
past_blanks s at from e = drop-drop (run is_blank (drop at s)) at s ∙ ap (λ (k : ℕ). drop k s) (sym e)

-- the word from `from` to `to`, past the blanks from `at` on
pub turn : (n : ℕ) (s : List ℕ) (at from to : ℕ) (r : Option ℕ) → from ≡ run_end is_blank s at → WordAt s from to r
    → fields (suc n) (drop at s) ≡ field r (fields n (drop to s))
unfolding fields word drop_word piece
turn n s at from to r b w =
    let ink = run is_ink (drop from s) in
    let size : ink ≡ to - from = sym (add-sub_cancel_left from ink) ∙ ap (λ (k : ℕ). k - from) (sym w.end_is) in
    ap (λ (t : List ℕ). field (read_number (word t)) (fields n (drop_word t))) (past_blanks s at from b)
    ∙ ap (λ (k : ℕ). field (read_number (take k (drop from s))) (fields n (drop_word (drop from s)))) size
    ∙ ap (λ (q : Option ℕ). field q (fields n (drop_word (drop from s)))) (sym w.said_is)
    ∙ ap (λ (t : List ℕ). field r (fields n t)) (drop-drop ink from s ∙ ap (λ (k : ℕ). drop k s) (sym w.end_is))

pub ends : (s : List ℕ) (at from : ℕ) → from ≡ run_end is_blank s at → length s ≤ from → fields 0 (drop at s) ≡ Case []
unfolding fields
ends s at from e h = rw (past_blanks s at from e, nothing_left s from h)

pub goes_on : (s : List ℕ) (at from : ℕ) → from ≡ run_end is_blank s at → from < length s
    → fields 0 (drop at s) ≡ Unreadable
unfolding fields
goes_on s at from e h = rw (past_blanks s at from e, left s from h)

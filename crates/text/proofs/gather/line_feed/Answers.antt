-- `text::gather::line_feed` meets its contract: the first line feed ends the run of other bytes.
-- Assumes nothing.
use Rattle.std.proofs.Common.{Bool, List, Option, Some, None, arith, eqb, false, get_or, length, not, refl, suc, true, zero, ℕ}
use Rattle.std.proofs.Common.{length-drop, take_all, add-one, ap, drop, sym, ◌+◌, ◌<◌, ◌∙◌, ◌≡◌, ◌≤◌}
use Rattle.std.specs.Option.{unwrap_or}
use Rattle.memchr.specs.Find.{IsFirstByte, is_byte}
use Rattle.text.specs.Gather.{is_in_line}
use Rattle.text.specs.Laws.Runs.{run_more, run_stop, run_end_past}
use Rattle.text.specs.Words.{run, run_end}
use Rattle.text.proofs.gather.line_feed.Goals as goal

-- a run goes past bytes that all pass
passed : (p : ℕ → Bool) (s : List ℕ) (k : ℕ) → k ≤ length s → ((i : ℕ) → i < k → p (get_or s i 0) ≡ true)
    → run_end p s 0 ≡ run_end p s k
passed p s zero h e = refl
passed p s (suc k) h e =
    passed p s k (omega arith) (λ i j. e i (omega arith))
    ∙ run_more p s k h (e k (omega arith))
    ∙ ap (run_end p s) (add-one k)

other : (b : ℕ) → (eqb b 10 ≡ true → ⊥) → is_in_line b ≡ true
unfolding is_in_line
other b h = go (eqb b 10) h
  where
    go : (t : Bool) → (t ≡ true → ⊥) → not t ≡ true
    go true h = absurd (h refl)
    go false h = refl

first : (s : List ℕ) (r : Option ℕ) → IsFirstByte (is_byte 10) s r → unwrap_or r (length s) ≡ run_end is_in_line s 0
unfolding is_in_line
first s None none =
    sym
    (passed is_in_line s (length s) (omega arith) (λ i h. other _ (none i (omega arith) h))
    ∙ run_end_past is_in_line s (length s) (omega arith))
first s (Some k) at =
    sym (passed is_in_line s k (omega (arith, at.0.high)) (λ i h. other _ (at.0.before i (omega arith) h))
    ∙ run_stop is_in_line s k at.0.high (ap not at.1))

pub returns-in-Some : goal.returns-in-Some
returns-in-Some c =
    let whole = c.args.chunk.now in
    let rest : c.in-Some.rest.now ≡ drop c.args.from whole =
    c.in-Some.ensures.lookup.0.2 ∙ take_all _ (drop c.args.from whole) (omega (arith, length-drop c.args.from whole))
    in
    let to : run_end is_in_line c.in-Some.rest.now 0 ≡ 0 + run is_in_line (drop c.args.from whole) =
    ap (λ (t : List ℕ). 0 + run is_in_line t) rest
    in
    omega (arith, first _ _ c.memchr.ensures, c.unwrap_or.ensures)

pub returns-in-None : goal.returns-in-None
returns-in-None c = sym (run_end_past is_in_line _ _ (omega (arith, c.in-None.ensures.lookup)))

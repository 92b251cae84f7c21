-- `text::words::skip` meets its contract: the first byte that does not pass ends the run.
-- Assumes nothing.
use Rattle.std.proofs.Common.{Bool, List, arith, ap, cond, drop, false, length, length-drop}
use Rattle.std.proofs.Common.{ltb-false, not, refl, suc, sym, true, ℕ, take_all, rules, tests}
use Rattle.std.proofs.Common.{Option, Some, None, nat_lt, ◌+◌, ◌∙◌, ◌≡◌, ◌≤◌}
use Rattle.std.specs.Option.{unwrap_or}
use Rattle.std.specs.List.{position, position_or_len}
use Rattle.std.proofs.lemmas.Iterator.{YieldsList-from_slice}
use Rattle.std.proofs.lemmas.Iterator.Search.{position_from_yields_List}
use Rattle.std.proofs.lemmas.List.Recursion.{is_position_or_len}
use Rattle.text.specs.Laws.Runs.{run_end_past, run_length}
use Rattle.text.specs.Words.{run}
use Rattle.text.proofs.words.skip.Goals as goal

-- a run ends at the first byte that does not pass
run_is : (p : ℕ → Bool) (s : List ℕ) → run p s ≡ position_or_len (λ b. not (p b)) s
unfolding run
run_is p = is_position_or_len (run p) (λ b. not (p b)) refl (λ b s. ends (p b) (run p s))
  where
    ends : (t : Bool) (n : ℕ) → cond t (suc n) 0 ≡ cond (not t) 0 (1 + n)
    ends true n = omega arith
    ends false n = refl

ended : (p : ℕ → Bool) (s : List ℕ) → unwrap_or (position (λ b. not (p b)) s) (length s) ≡ run p s
ended p s = by_place _ _ (run_is p s) (run_length p s)
  where
    by_place : (n m : ℕ) → m ≡ n → m ≤ length s → unwrap_or (cond (nat_lt n (length s)) (Some n) None) (length s) ≡ m
    by_place n m e h = by_test (nat_lt n (length s)) refl
      where
        by_test : (t : Bool) → nat_lt n (length s) ≡ t → unwrap_or (cond t (Some n) None) (length s) ≡ m
        by_test true g = sym e
        by_test false g = omega (arith, ltb-false _ _ g)

pub returns-in-Some : goal.returns-in-Some
returns-in-Some g c p decides =
    let whole = c.args.s.now in
    let rest : c.in-Some.rest.now ≡ drop c.args.at whole =
    c.in-Some.ensures.lookup.0.2 ∙ take_all _ (drop c.args.at whole) (omega (arith, length-drop c.args.at whole))
    in
    let found =
    position_from_yields_List (λ b. not (p b)) _ _ c.position.result c.position.ensures.ran (YieldsList-from_slice _ c.iter.ensures.rest)
    (λ x b q k. search (rules, tests, decides))
    in
    let to = c.unwrap_or.ensures ∙ ap (λ (r : Option ℕ). unwrap_or r (length c.in-Some.rest.now)) found ∙ ended p c.in-Some.rest.now in
    ap (λ (n : ℕ). c.args.at + n) (to ∙ ap (run p) rest)

pub returns : goal.returns
returns g c p decides = sym (run_end_past p _ _ (omega (arith, c.in-None.ensures.lookup)))

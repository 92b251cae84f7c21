-- `line_in_place::plain::plain_line` meets its contract. The invariant: the numbers read so far are a row, and each took twelve bytes at
-- most.
-- Assumes nothing.
use Rattle.std.proofs.Common.{Bool, List, [], arith, cond, drop, replicate, eqb, false, get_or, le_refl, length, length-set, lit≤, refl}
use Rattle.std.proofs.Common.{set, subst, sym, take, true, ℕ, ◌++◌, ◌+◌, ◌-◌, ◌<◌, ◌∙◌, ◌∷◌, ◌≡◌, ◌≤◌}
use Rattle.std.proofs.lemmas.List.{take_more_set}
use Rattle.line_in_place.specs.NumberAt.{NumberAt}
use Rattle.line_in_place.specs.Plain.{PlainLine, longest_plain}
use Rattle.line_in_place.specs.Laws.Row.{Row, row_none, row_more, row_ends}
use Rattle.line_in_place.specs.Standing.{line_of}
use Rattle.line_in_place.specs.Laws.Standing.{stands_whole}
use Rattle.text.specs.Laws.Case.{zeros_left}
use Rattle.text.specs.Words.{is_blank}
use Rattle.line_in_place.proofs.plain.plain_line.Invariants.{Reading-on}
use Rattle.line_in_place.proofs.plain.plain_line.Goals as goal

at_most_one : (t : Bool) (n : ℕ) → cond t (n + 1) n ≤ n + 1
at_most_one true n = le_refl (n + 1)
at_most_one false n = omega arith

-- one number more
module _ {n : ℕ} {s : List ℕ} {from : ℕ} {l : List ℕ} {at i : ℕ} (on : Reading-on n s from l at i) (more : i < n)
    {to x : ℕ} (number : NumberAt s at to x) where
  added : take i l ++ (x ∷ []) ≡ take (i + 1) (set l i x)
  added = sym (take_more_set l i x (omega (arith, on.room)))

  zeros : drop (i + 1) (set l i x) ≡ replicate (n - (i + 1)) 0
  zeros = zeros_left n i l x more on.zeros

  next : is_blank (get_or s to 0) ≡ true → Reading-on n s from (set l i x) (to + 1) (i + 1)
  next blank =
      record {
        space = on.space;
        count = omega arith;
        near = omega (arith, on.near, number.near);
        room = length-set l i x ∙ on.room;
        zeros = zeros;
        row = subst (Row s from (to + 1) (i + 1)) added (row_more on.row number blank);
      }

  -- the last
  module _ (end : ℕ) (e : end ≡ cond (eqb (get_or s to 0) 13) (to + 1) to) where
    end_inside : end < length s
    unfolding longest_plain
    end_inside =
        let most : end ≤ to + 1 = rw e (at_most_one (eqb (get_or s to 0) 13) to) in
        omega (arith, on.space, on.near, number.near)

    done : n ≤ 80 → get_or s end 0 ≡ 10 → PlainLine s from end (take (i + 1) (set l i x))
    done few feed =
        subst (PlainLine s from end) added
        (row_ends on.row number (omega (arith, on.near, number.near)) end end_inside feed e)

pub loop-i-init : goal.loop-i-init
loop-i-init c =
    record {
      space = c.has_room.ensures c.if-not-has_room.false;
      count = omega arith;
      near = omega arith;
      room = refl;
      zeros = refl;
      row = row_none _ _;
    }

pub number_at-requires : goal.number_at-requires
unfolding longest_plain
number_at-requires c = let on = c.loop-i.invariant in omega (arith, on.space, on.near)

pub loop-i-preserved : goal.loop-i-preserved
loop-i-preserved c =
    next c.loop-i.invariant c.loop-i-test.true c.in_ok-number.ensures (sym c.is_blank.ensures ∙ c.if-is_blank.true)

pub bounds-s-to : goal.bounds-s-to
bounds-s-to c = end_inside c.loop-i.invariant c.loop-i-test.true c.in_ok-number.ensures _ c.past_return-to.ensures

pub case_of-requires-clause-zeros : goal.case_of-requires-clause-zeros
case_of-requires-clause-zeros c = zeros c.loop-i.invariant c.loop-i-test.true c.in_ok-number.ensures

pub returns-in-loop-i : goal.returns-in-loop-i
unfolding line_of
returns-in-loop-i c =
    let number = c.in_ok-number.ensures in
    let line = done c.loop-i.invariant c.loop-i-test.true number _ c.past_return-to.ensures (lit≤ tt) (omega arith) in
    stands_whole _ _ _ line.end _ line.inside (c.case_of.ensures ∙ sym line.says)

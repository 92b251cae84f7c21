-- `text::line::read_fields` meets its contract. The invariant: the line goes on after each of the i numbers read so far, and what it says
-- is these in front of what the words from `at` on say.
-- Assumes nothing.
use Rattle.std.proofs.Common.{List, add-one, add-zero, ap, arith, drop, length, length-set, refl, set, suc, sym, take, take-suc-set, ℕ}
use Rattle.std.proofs.Common.{inl, inr, take_all, zero-add, ◌+◌, ◌-◌, ◌<◌, ◌∙◌, ◌≡◌, ◌≤◌}
use Rattle.std.proofs.lemmas.Bool.{cases_lt}
use Rattle.std.specs.Prelude.{Option, Some, None}
use Rattle.text.specs.declared.line.Said.TheVariants.{Case, Unreadable}
use Rattle.fields.specs.Fields.{width, older_width}
use Rattle.text.specs.Laws.After.{after, after_one, after_unreadable, after_none}
use Rattle.text.specs.Laws.Case.{of_width, one_case, no_case, zeros_left}
use Rattle.text.specs.Line.{case_of, field, fields}
use Rattle.text.specs.Laws.Leading.{WordAt}
use Rattle.text.specs.Laws.Runs.{run_within}
use Rattle.text.specs.Words.{is_blank, is_ink, run_end}
use Rattle.text.proofs.Fields.{turn, ends, goes_on}
use Rattle.text.proofs.line.read_fields.Invariants.{Reading-on}
use Rattle.text.proofs.line.read_fields.Goals as goal

-- past the blanks after i numbers
module _ {n : ℕ} {s l : List ℕ} {at i : ℕ} (on : Reading-on n s l at i) (from : ℕ) (blanks : from ≡ run_end is_blank s at) where
  none_more : fields i s ≡ after (take i l) (fields 0 (drop at s))
  none_more = ap (λ (k : ℕ). fields k s) (sym (add-zero i)) ∙ on.same 0

  ended : length s ≤ from → fields i s ≡ Case (take i l)
  ended h = none_more ∙ ap (after (take i l)) (ends s at from blanks h) ∙ after_none (take i l)

  module _ (left : from < length s) where
    -- the line says no i numbers, nor fewer
    longer : fields i s ≡ Unreadable
    longer = none_more ∙ ap (after (take i l)) (goes_on s at from blanks left) ∙ after_unreadable (take i l)

    up_to : (k : ℕ) → k < i + 1 → fields k s ≡ Unreadable
    up_to k h =
        elim (cases_lt k i) [
          | inl less ↦ on.fewer k less
          | inr not_less ↦ let last : k ≡ i = omega arith in ap (λ (m : ℕ). fields m s) last ∙ longer
        ]

    -- a word is left, which is read as r
    module _ (to : ℕ) (r : Option ℕ) (word : WordAt s from to r) where
      one_more : (k : ℕ) → fields (i + suc k) s ≡ after (take i l) (field r (fields k (drop to s)))
      one_more k = on.same (suc k) ∙ ap (after (take i l)) (turn k s at from to r blanks word)

      next : i < n → (x : ℕ) → r ≡ Some x → Reading-on n s (set l i x) to (i + 1)
      unfolding field
      next more x e =
          let added = ap (λ (k : ℕ). take k (set l i x)) (add-one i) ∙ take-suc-set l i x (rw on.room more) in
          record {
            count = omega arith;
            within = rw word.end_is (run_within is_ink s from (omega arith));
            room = length-set l i x ∙ on.room;
            zeros = zeros_left n i l x more on.zeros;
            fewer = up_to;
            same = λ k.
                let count : i + 1 + k ≡ i + suc k = omega arith in
                ap (λ (m : ℕ). fields m s) count
                ∙ one_more k
                ∙ ap (λ (q : Option ℕ). after (take i l) (field q (fields k (drop to s)))) e
                ∙ sym (after_one (take i l) x (fields k (drop to s)))
                ∙ ap (λ (t : List ℕ). after t (fields k (drop to s))) (sym added);
          }

      -- the word is no number
      bad : r ≡ None → (k : ℕ) → fields k s ≡ Unreadable
      unfolding field
      bad e k =
          elim (cases_lt k (i + 1)) [
            | inl less ↦ up_to k less
            | inr not_less ↦
                let rest = k - (i + 1) in
                let count : k ≡ i + suc rest = omega arith in
                ap (λ (m : ℕ). fields m s) count
                ∙ one_more rest
                ∙ ap (λ (q : Option ℕ). after (take i l) (field q (fields rest (drop to s)))) e
                ∙ after_unreadable (take i l)
          ]

pub loop-i-init : goal.loop-i-init
unfolding after
loop-i-init c =
    record {
      count = omega arith;
      within = omega arith;
      room = refl;
      zeros = refl;
      fewer = λ k h. absurd (omega arith);
      same = λ k. ap (λ (n : ℕ). fields n c.args.s.now) (zero-add k);
    }

pub returns-then-s-from : goal.returns-then-s-from
returns-then-s-from c =
    c.case_of.ensures ∙ sym (one_case _ _ _ (ended c.loop-i.invariant _ c.skip_blanks-from.ensures c.if-s-from.true))

pub returns-in_default : goal.returns-in_default
returns-in_default c =
    let none = bad c.loop-i.invariant _ c.skip_blanks-from.ensures c.if-s-from.false _ _ c.read_word-word.ensures c.in_default.is in
    sym (no_case _ (none width) (none older_width))

pub loop-i-preserved : goal.loop-i-preserved
loop-i-preserved c =
    next c.loop-i.invariant _ c.skip_blanks-from.ensures c.if-s-from.false _ _ c.read_word-word.ensures c.loop-i-test.true _ c.in-Some.is

pub returns-then-skip_blanks-s : goal.returns-then-skip_blanks-s
returns-then-skip_blanks-s c =
    let none = up_to c.loop-i.invariant _ c.skip_blanks.ensures c.if-skip_blanks-s.true in
    sym (no_case _ (none width (omega arith)) (none older_width (omega arith)))

pub returns : goal.returns
returns c =
    let on = c.loop-i.invariant in
    let all : take c.loop-i.i c.loop-i.fields ≡ c.loop-i.fields = take_all _ _ (omega (arith, on.room)) in
    let said = one_case _ _ _ (ended on _ c.skip_blanks.ensures c.if-skip_blanks-s.false) in
    sym (said ∙ ap case_of all ∙ of_width _ on.room)

-- `text::line::case_of` meets its contract: the count of the numbers says which case of the definition holds, and the zeros after them are
-- those of a case of the older width.
-- Assumes nothing.
use Rattle.std.proofs.Common.{Bool, List, ap, arith, cond, drop, eqb, eqb-true, false, length, length-take-le, refl, replicate, sym, take}
use Rattle.std.proofs.Common.{take-append-drop, take_all, true, ℕ, ◌++◌, ◌-◌, ◌||◌, ◌∙◌, ◌≡◌, ◌≤◌}
use Rattle.text.specs.declared.line.Said.TheVariants.{Case, Unreadable}
use Rattle.fields.specs.Fields.{width, older_width, from_older}
use Rattle.text.proofs.line.case_of.Goals as goal
use Rattle.text.specs.Line.{case_of}

module _ (fields : List ℕ) (room : length fields ≡ width) (count : ℕ) (fits : count ≤ width)
    (zeros : drop count fields ≡ replicate (width - count) 0) where
  size : length (take count fields) ≡ count
  size = length-take-le count fields (omega arith)

  returned : (t : Bool) → (eqb count width || eqb count older_width) ≡ t → cond t (Case fields) Unreadable ≡ case_of (take count fields)
  unfolding case_of
  returned t h = rw (size, sym h) (go (eqb count width) (eqb count older_width) refl refl)
    where
      go : (t u : Bool) → eqb count width ≡ t → eqb count older_width ≡ u
          → cond (t || u) (Case fields) Unreadable
          ≡ cond t (Case (take count fields)) (cond u (Case (from_older (take count fields))) Unreadable)
      go true u h k = ap Case (sym (take_all count fields (let e = eqb-true count width h in omega arith)))
      go false true h k =
          let e = eqb-true count older_width k in
          let rest : drop count fields ≡ replicate (width - older_width) 0 = zeros ∙ ap (λ (n : ℕ). replicate (width - n) 0) e in
          ap Case (sym (take-append-drop count fields) ∙ ap (λ (t : List ℕ). take count fields ++ t) rest)
      go false false h k = refl

pub returns-then-count : goal.returns-then-count
returns-then-count c = returned _ (omega arith) _ c.requires.fits c.requires.zeros true c.if-count.true

pub returns : goal.returns
returns c = returned _ (omega arith) _ c.requires.fits c.requires.zeros false c.if-count.false

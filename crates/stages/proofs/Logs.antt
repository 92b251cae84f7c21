-- Both ends of stage 5's logarithm have the same parts: the octaves, and thirteen terms from the first power. What the code needs of
-- them is stated over the rounding. Assumes nothing.
use Rattle.std.proofs.Common.{◌≡◌, ap, ap₂, ◌∙◌, ℕ, ◌*◌, ◌≤◌, le_trans, le_of_eq, arith}
use Rattle.exact.specs.Trillion.{trillion}
use Rattle.formulas.specs.Constants.{tera}
use Rattle.formulas.specs.Logarithm.{octaves, first_power, thirteen_terms}
use Rattle.formulas.proofs.Laws.LogRange.{Bounded, first_power_most, thirteen_terms_most, octaves_most}
use Rattle.formulas.specs.Laws.Bounds.{most_power, most_terms}
use Rattle.stages.specs.Reduced.{IsReduced}
use Rattle.stages.specs.Laws.Ranges.{LogRanges}

-- the two summands of an end, with what bounds them
pub record Parts (round : ℕ → ℕ → ℕ) (a b terms count : ℕ) : Type 0 where
  pub terms_are : terms ≡ thirteen_terms round (first_power round a b)
  pub terms_most : terms ≤ most_terms
  pub count_is : count ≡ octaves a b
  pub count_most : count ≤ 14

-- at a and b in range, for which `reduce` answers count and ζ
module _
    {a b count num den : ℕ} {round : ℕ → ℕ → ℕ} (bounded : Bounded round)
    (ranges : LogRanges a b) (reduced : IsReduced a b count num den) where
  first_is : round (num * trillion) den ≡ first_power round a b
  unfolding first_power tera
  first_is = ap₂ (λ n d. round (n * trillion) d) reduced.num_is reduced.den_is

  pub first_most : round (num * trillion) den ≤ most_power
  first_most = le_trans (le_of_eq first_is) (first_power_most bounded a b ranges.octaves.b>0 ranges.octaves.b_most)

  pub parts :
      {first terms : ℕ} → first ≡ round (num * trillion) den → terms ≡ thirteen_terms round first → Parts round a b terms count
  parts {first} first_of terms-of =
      record {
        terms_are = terms-of ∙ ap (λ p. thirteen_terms round p) (first_of ∙ first_is);
        terms_most = omega (arith, thirteen_terms_most bounded first (omega (arith, first_most)));
        count_is = reduced.octaves_are;
        count_most =
            omega
            (arith, octaves_most a b ranges.octaves.b>0 ranges.octaves.b_most ranges.ratio_below, reduced.octaves_are);
      }

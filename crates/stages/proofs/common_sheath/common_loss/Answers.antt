-- `stages::common_sheath::common_loss` is the definition: b, and the formula that Rs picks.
use Rattle.std.proofs.Common.{ap, arith, le-leb, ◌∙◌, ◌≤◌}
use Rattle.std.proofs.lemmas.Bool.{lt-leb}
use Rattle.exact.specs.Trillion.{trillion}
use Rattle.formulas.specs.CommonSheath.{is_first, first_formula, second_formula, common_loss}
use Rattle.formulas.proofs.Laws.Ranges.{axis_ratio_most}
use Rattle.stages.proofs.common_sheath.common_loss.Goals as goal
use Rattle.stages.proofs.common_sheath.common_loss.Goals.{After-axis_ratio-ratio}

ratio_most : (c : After-axis_ratio-ratio) → c.axis_ratio-ratio.result ≤ trillion
ratio_most c =
    let pre = c.requires.axis in
    omega (arith, c.axis_ratio-ratio.ensures, axis_ratio_most c.args.c pre.d>0 pre.c_most)

pub first_formula-requires : goal.first_formula-requires
first_formula-requires c = record {
  common = record { b_least = c.requires.b_least; rs_most = c.if-rs-le-FIRST_FORMULA_LIMIT.true };
  ratio_most = ratio_most (goal.at.first_formula-requires c).After-axis_ratio-ratio;
}

pub returns-then-rs-le-FIRST_FORMULA_LIMIT : goal.returns-then-rs-le-FIRST_FORMULA_LIMIT
unfolding common_loss is_first
returns-then-rs-le-FIRST_FORMULA_LIMIT c = let args = c.args in
    let picked = ap (first_formula args.b args.rs) c.axis_ratio-ratio.ensures in
    c.first_formula.ensures ∙ simp (picked, le-leb _ _ c.if-rs-le-FIRST_FORMULA_LIMIT.true)

pub second_formula-requires : goal.second_formula-requires
second_formula-requires c = let pre = c.requires in
    record {
      b_most = pre.b_most;
      rs_above = c.if-rs-le-FIRST_FORMULA_LIMIT.false;
      rs_most = pre.rs_most;
      ratio_most = ratio_most (goal.at.second_formula-requires c).After-axis_ratio-ratio;
    }

pub returns : goal.returns
unfolding common_loss is_first
returns c = let args = c.args in
    let picked = ap (second_formula args.b args.rs) c.axis_ratio-ratio.ensures in
    c.second_formula.ensures ∙ simp (picked, lt-leb _ _ c.if-rs-le-FIRST_FORMULA_LIMIT.false)

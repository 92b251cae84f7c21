-- `loaded` is the definition: refusals 10 and 11 are its tests, and the sheet is in order.
use Rattle.std.proofs.Common.{[], ap, arith, le-ltb, lt-ltb, ltb, sym, ◌+◌, ◌*◌, ◌∙◌, ◌∷◌, ◌≡◌}
use Rattle.formulas.specs.Refusals as Test
use Rattle.rating.specs.Arrangements.{own}
use Rattle.rating.specs.Laws.Steps.{Loses}
use Rattle.rating.proofs.Own.{loses}
use Rattle.rating.specs.StageRefusals.{dielectric_refused}
use Rattle.rating.specs.Stage10.{d0}
use Rattle.rating.specs.Rate.{refused, rated, loaded, sheet_of}
use Rattle.rating.proofs.Laws.Ranges.{permitted_range}
use Rattle.rating.proofs.Laws.Stage10.{d0_most}
use Rattle.rating.proofs.judge.FitCase.loaded.Goals as goal
use Rattle.rating.proofs.judge.FitCase.loaded.Goals.{After-losses-l, After-dielectric_rise-dd, After-solar_rise, After-permitted-permitted}

-- the losses are those of the case's own arrangement
own_losses : (c : After-losses-l) → Loses (own c.args.self.now.case.x) c.args.self.now.case.x c.losses-l.result
own_losses c = loses c.args.self.now.case.has c.losses-l.ensures

-- what the code adds up is d0
d0_is : (c : After-solar_rise) → c.dielectric_rise-dd.result + c.solar_rise.result ≡ d0 c.args.self.now.case.x
unfolding d0
d0_is c =
    let dd = c.dielectric_rise-dd.ensures in
    let sun = c.solar_rise.ensures in
    λ i. dd i + sun i

-- the code's test of refusal 10 is the definition's
hot :
    (c : After-permitted-permitted) →
    let x = c.args.self.now.case.x in
    dielectric_refused x ≡ ltb (9 * c.permitted-permitted.result) (10 * (c.dielectric_rise-dd.result + c.solar_rise.result))
unfolding Test.dielectric_refused
hot c =
    let weighed = sym (d0_is c.before) in
    let permitted = sym c.permitted-permitted.ensures in
    λ i. ltb (9 * permitted i) (10 * weighed i)

pub dielectric_rise-dd-requires : goal.dielectric_rise-dd-requires
dielectric_rise-dd-requires c =
    record { n_is = (own_losses (goal.at.dielectric_rise-dd-requires c).After-losses-l).n_is; t_is = c.thermal-t.ensures }

pub overflow_mul-permitted : goal.overflow_mul-permitted
overflow_mul-permitted c = omega (arith, c.permitted-permitted.ensures, permitted_range c.args.self.now.fit.sound)

pub overflow_add-d0 : goal.overflow_add-d0
overflow_add-d0 c = omega (arith, d0_is (goal.at.overflow_add-d0 c).After-solar_rise, d0_most c.args.self.now.fit)

pub overflow_mul-d0 : goal.overflow_mul-d0
overflow_mul-d0 c = omega (arith, d0_is (goal.at.overflow_mul-d0 c).After-solar_rise, d0_most c.args.self.now.fit)

pub returns-then-permitted-d0 : goal.returns-then-permitted-d0
unfolding loaded refused
returns-then-permitted-d0 c =
    sym
    (c.args.self.now.answer
    ∙ simp (hot (goal.at.returns-then-permitted-d0 c).After-permitted-permitted ∙ lt-ltb _ _ c.if-permitted-d0.true))

pub current-i-requires : goal.current-i-requires
current-i-requires c =
    record {
      permitted_is = c.permitted-permitted.ensures;
      d0_is = d0_is (goal.at.current-i-requires c).After-solar_rise;
      e_is = c.unit_rise-e.ensures;
      share = c.if-permitted-d0.false;
    }

pub returns-then-i-gt-MOST_CURRENT : goal.returns-then-i-gt-MOST_CURRENT
unfolding loaded refused Test.current_refused
returns-then-i-gt-MOST_CURRENT c =
    let over = ap (ltb 5000000) (sym c.current-i.ensures) ∙ lt-ltb _ _ c.if-i-gt-MOST_CURRENT.true in
    sym
    (c.args.self.now.answer
    ∙ simp (hot (goal.at.returns-then-i-gt-MOST_CURRENT c).After-permitted-permitted ∙ le-ltb _ _ c.if-permitted-d0.false, over))

pub returns : goal.returns
unfolding loaded Test.current_refused rated sheet_of
returns c =
    let p = c.args.self.now in
    let l = own_losses (goal.at.returns c).After-losses-l in
    let under = ap (ltb 5000000) (sym c.current-i.ensures) ∙ le-ltb _ _ c.if-i-gt-MOST_CURRENT.false in
    simp (p.answer, hot (goal.at.returns c).After-permitted-permitted ∙ le-ltb _ _ c.if-permitted-d0.false, under)
    (λ j.
    record {
      number = 0;
      rating = c.current-i.ensures j;
      sheet =
          p.rc_is j ∷ p.rs_is j ∷ l.ra_is j ∷ p.b_is j ∷ p.ys_is j ∷ p.yp_is j ∷ p.r_is j ∷ l.x_is j ∷ l.s_is j ∷ l.w_is j
          ∷ p.wd_is j
          ∷ c.dielectric_rise-dd.ensures j
          ∷ c.unit_rise-e.ensures j
          ∷ [];
    })

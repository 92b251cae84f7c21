-- Demand 3 for a case: whichever fractions stand for pi, ln 2 and the logarithms, the exact rise at the rating is at most the permitted
-- rise, and at 2 mA more, or 1 mA and a ten-millionth of the rating, it is above. The premise is that the case is rated. Assumes nothing.
use Rattle.std.proofs.Common.{ltb-false}
use Rattle.std.specs.Prelude.{◌≡◌, List, ℕ, ◌+◌, ◌*◌, ◌≤◌, ◌<◌}
use Rattle.std.proofs.Common.{lt_of_not-le, mul-le-mul, arith}
use Rattle.bools.proofs.Laws.Tests.{neither, not_both}
use Rattle.exact.specs.Fraction.{◌over◌, whole, ◌≤F◌, ◌<F◌}
use Rattle.formulas.specs.Refusals.{skin_refused, eddy_refused, dielectric_refused, current_refused}
use Rattle.formulas.specs.Dielectric.{current_rise}
use Rattle.formulas.proofs.Laws.Current.{rating_largest}
use Rattle.formulas.specs.Laws.CloseRise.{Stage10}
use Rattle.formulas.proofs.Laws.CloseRise as Law
use Rattle.rating.specs.Values.{permitted_of}
use Rattle.rating.specs.Chosen.{Chosen}
use Rattle.rating.specs.Arrangements.{own}
use Rattle.rating.specs.Allowed.{Allowed}
use Rattle.rating.specs.Stage10.{d0, N, E, current_of}
use Rattle.rating.specs.Rate.{rated, rate_of}
use Rattle.rating.specs.Exact.{E*, d0*, exact_rise}
use Rattle.rating.proofs.Laws.Sound.{sound}
use Rattle.rating.proofs.Laws.Ranges.{permitted_range}
use Rattle.rating.specs.Laws.Fit.{Fit}
use Rattle.rating.proofs.Laws.Passed.{Passed, all_passed}
use Rattle.rating.proofs.Laws.Stage10.{E_range, d0_close, E_close}

pub fit : {x : List ℕ} → Passed x → Fit (own x) x
unfolding skin_refused eddy_refused
fit {x} p =
    let fine = sound x p.fields in
    record {
      sound = fine;
      known = fine.known;
      limits = fine.limits;
      geometry = fine.geometry;
      alternating = fine.alternating;
      skin = λ alternates. ltb-false _ _ (neither _ _ (not_both _ _ p.skin alternates)).0;
      proximity = λ alternates. ltb-false _ _ (neither _ _ (not_both _ _ p.skin alternates)).1;
      eddies = λ tried. ltb-false _ _ (not_both _ _ p.eddies tried);
    }

module _ {x : List ℕ} {c : Chosen} (allowed : Allowed (own x) x c) (p : Passed x) where
  share : 10 * d0 x ≤ 9 * permitted_of x
  unfolding dielectric_refused
  share = ltb-false (9 * permitted_of x) (10 * d0 x) p.dielectric

  rated_at : Stage10 (E* x c) (d0* x c) (E x) (d0 x) (N x) (permitted_of x) (current_of x)
  unfolding current_refused current_of N current_rise
  rated_at =
      record {
        e_close = E_close (fit p) allowed;
        d0_close = d0_close (fit p) allowed;
        left = omega (arith, share);
        shares = share;
        warm = (permitted_range (fit p).sound).least;
        rating = rating_largest _ (omega (arith, E_range (fit p)));
        most = ltb-false _ _ p.current;
      }

  -- E is at most 6.77 × 10^17 and N at least half a kelvin, so no rating is below 14 mA
  current_least : 14 ≤ current_of x
  current_least =
      let n≥ = Law.n_least rated_at in
      let more : 14 < current_of x + 1 =
      lt_of_not-le (λ few. omega (arith, mul-le-mul (mul-le-mul few few) (E_range (fit p)).most, rated_at.rating.no_more, n≥))
      in
      omega arith

module _ (x : List ℕ) (c : Chosen) (allowed : Allowed (own x) x c) (is-rated : (rate_of x).number ≡ 0) where
  pub safe : exact_rise x c (whole (rate_of x).rating) ≤F whole (permitted_of x)
  unfolding exact_rise rated
  safe = let p = all_passed x is-rated in rw p.answer (Law.rise_safe (rated_at allowed p))

  pub close : whole (permitted_of x) <F exact_rise x c (whole ((rate_of x).rating + 2))
  unfolding exact_rise rated
  close = let p = all_passed x is-rated in rw p.answer (Law.rise_above (rated_at allowed p))

  -- at I + 1 + I/10^7 already
  pub nearer : whole (permitted_of x) <F exact_rise x c ((rate_of x).rating * 10000001 + 10000000 over 10000000)
  unfolding exact_rise rated
  nearer = let p = all_passed x is-rated in rw p.answer (Law.rise_above_nearer (rated_at allowed p) (current_least allowed p))

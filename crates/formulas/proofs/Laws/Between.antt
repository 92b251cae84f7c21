-- What lies between two ends is close to either of them when the ends are close to each other: so pi, ln 2 and the logarithms may be
-- any numbers between their ends. Assumes nothing.
use Rattle.std.specs.Prelude.{ℕ, ◌+◌, ◌*◌, ◌≤◌, ◌<◌}
use Rattle.std.proofs.Math.Nat.{mul-pos, mul-le-mul_right}
use Rattle.std.proofs.Common.{arith, lit<}
use Rattle.exact.specs.Trillion.{trillion}
use Rattle.exact.specs.Fraction.{Fraction, ◌over◌, whole, ◌+F◌, ◌*F◌, ◌≤F◌}
use Rattle.exact.proofs.Laws.Fraction.{≤F_refl, ≤F_trans, +F_mono, *F_mono}
use Rattle.exact.specs.Error.{parts, Within}
use Rattle.formulas.specs.Constants.{Between}

over_mono : {m n den : ℕ} → 0 < den → m ≤ n → m over den ≤F n over den
over_mono {den = den} den>0 m≤n = record { left = den>0; right = den>0; across = mul-le-mul_right den m≤n }

-- a whole number between two others, over their denominator
pub between_over : {low m high den : ℕ} → 0 < den → low ≤ m → m ≤ high → Between low high den (m over den)
between_over den>0 low≤ ≤high = record { at_least = over_mono den>0 low≤; at_most = over_mono den>0 ≤high }

pub between_widen :
    {low low' high high' den : ℕ} {x : Fraction} → low' ≤ low → high ≤ high' → Between low high den x → Between low' high' den x
between_widen low≤ high≤ p =
    let den>0 = p.at_least.left in
    record { at_least = ≤F_trans (over_mono den>0 low≤) p.at_least; at_most = ≤F_trans p.at_most (over_mono den>0 high≤) }

module _ (r low high den : ℕ) (den>0 : 0 < den) where
  -- the upper end is at most the lower one and r parts of m
  ends : (m : ℕ) → high * trillion ≤ low * trillion + r * m → high over den ≤F (low over den) +F (parts r *F (m over den) +F whole 0)
  unfolding parts ◌+F◌ ◌*F◌
  ends m near =
      record {
        left = den>0;
        right = mul-pos den>0 (mul-pos (mul-pos (lit< tt) den>0) (lit< tt));
        across = omega (arith, mul-le-mul_right (den * den) near);
      }

  pub between_below :
      {x : Fraction} → high * trillion ≤ low * trillion + r * high → Between low high den x → Within r (whole 0) x (high over den)
  unfolding parts ◌+F◌ ◌*F◌
  between_below near p =
      record {
        below = p.at_most;
        close = ≤F_trans (ends high near) (+F_mono p.at_least (≤F_refl _ (mul-pos (mul-pos (lit< tt) den>0) (lit< tt))));
      }

  pub between_above :
      {x : Fraction} → high * trillion ≤ low * trillion + r * low → Between low high den x → Within r (whole 0) (low over den) x
  unfolding parts
  between_above near p =
      let parts≤ = *F_mono (≤F_refl (parts r) (lit< tt)) p.at_least in
      record {
        below = p.at_least;
        close =
            ≤F_trans p.at_most
            (≤F_trans (ends low near) (+F_mono (≤F_refl (low over den) den>0) (+F_mono parts≤ (≤F_refl (whole 0) (lit< tt)))));
      }

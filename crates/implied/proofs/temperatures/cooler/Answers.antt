-- `implied::temperatures::cooler` is the definition, since the temperature and the drop are small.
use Rattle.std.proofs.Common.{◌≡◌, ◌<◌, ◌^◌, to_z, pos, ◌-ℤ◌, w32, ap, ◌∙◌, lt_of_lt_of_le, lt_of_le_of_lt, lit≤}
use Rattle.std.specs.Int.Signed.{mag}
use Rattle.std.proofs.lemmas.Int.{to_z-of_z}
use Rattle.std.proofs.Math.Path.{subst⁻¹}
use Rattle.implied.specs.Implied.{cooler}
use Rattle.implied.proofs.Laws.Nearest.{nearest_at_most_whole}
use Rattle.implied.proofs.Signed.{drop_fits, difference_fits, difference_read}
use Rattle.implied.proofs.temperatures.cooler.Goals as goal

module _ (c : goal.After-nearest) where
  theta_is : c.from.result ≡ to_z w32 c.args.theta
  theta_is = c.from.ensures ∙ to_z-of_z w32 c.cast_signed.result (record { sfits = c.cast_signed.type_inv }) ∙ c.cast_signed.ensures

  small_theta : mag c.from.result < 2 ^ 120
  small_theta =
      let is : c.from.result ≡ c.cast_signed.result =
      c.from.ensures ∙ to_z-of_z w32 c.cast_signed.result (record { sfits = c.cast_signed.type_inv })
      in
      subst⁻¹ (λ z. mag z < 2 ^ 120) is (lt_of_lt_of_le c.cast_signed.type_inv (lit≤ tt))

  small_drop : c.nearest.result < 2 ^ 120
  small_drop = subst⁻¹ (λ n. n < 2 ^ 120) c.nearest.ensures (lt_of_le_of_lt (nearest_at_most_whole c.args.halves _) c.requires)

pub overflow_cast-result : goal.overflow_cast-result
overflow_cast-result c = drop_fits c.from.result c.nearest.result (small_theta c) (small_drop c)

pub overflow_sub-result : goal.overflow_sub-result
overflow_sub-result c = difference_fits c.from.result c.nearest.result (small_theta c) (small_drop c)

pub returns : goal.returns
unfolding cooler
returns c =
    difference_read c.from.result c.nearest.result (small_theta c) (small_drop c)
    ∙ ap (λ θ. θ -ℤ pos c.nearest.result) (theta_is c)
    ∙ ap (λ d. to_z w32 c.args.theta -ℤ pos d) c.nearest.ensures

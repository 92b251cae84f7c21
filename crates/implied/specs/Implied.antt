-- What a case's rating and sheet imply (docs/RATING.md, 'What the rating implies'): how the losses compare, what a metre of one core loses,
-- and how hot sheath, armour and surface are, each of these from the losses as they are shown. Assumes nothing.
use Rattle.std.specs.Prelude.{List, ℕ, ◌+◌, ◌*◌, pos, ◌-ℤ◌, ℤ}
use Rattle.fields.specs.Fields as Field
use Rattle.rating.specs.Arrangements.{own}
use Rattle.implied.specs.declared.values.Implied.{Implied}
use Rattle.implied.specs.Nearest.{nearest}

-- the sheet's numbers by name: R, S and W in 10^-16 ohm/m, Wd in 10^-12 W/m
abbrev pub resistance : List ℕ → ℕ
resistance sheet = Field.word sheet 6

abbrev pub in_sheath : List ℕ → ℕ
in_sheath sheet = Field.word sheet 8

abbrev pub in_armour : List ℕ → ℕ
in_armour sheet = Field.word sheet 9

abbrev pub in_insulation : List ℕ → ℕ
in_insulation sheet = Field.word sheet 10

-- λ1 or λ2 in millionths: the loss of S or W over that of R
unfoldable pub factor : ℕ → ℕ → ℕ
factor S R = nearest (S * 1000000) R

-- what a metre of one core loses in r at I mA, in 10^-6 W/m
unfoldable pub loss : ℕ → ℕ → ℕ
loss I r = nearest (I * I * r) 10000000000000000

-- the temperature, in hundredths of a degree, that is below θ by a drop D in halves of 10^-12 K. This is the only rounding of a drop.
unfoldable pub cooler : ℤ → ℕ → ℤ
cooler θ D = θ -ℤ pos (nearest D 20000000000)

-- I is the rating in mA, n the number of cores. Pc, Ps, PA and Pd are the losses of a metre of one core in conductor, sheath, armour and
-- insulation; D1, D2 and D3 the drops from the conductor to sheath, armour and surface. Half of Pd counts across T1, since it arises all
-- through the insulation.
unfoldable pub implied : List ℕ → ℕ → List ℕ → Implied
implied x I sheet =
    let Pc = loss I (resistance sheet) in
    let Ps = loss I (in_sheath sheet) in
    let PA = loss I (in_armour sheet) in
    let Pd = nearest (in_insulation sheet) 1000000 in
    let n = (own x).n in
    let D1 = (2 * Pc + Pd) * Field.t1 x in
    let D2 = D1 + 2 * n * (Pc + Ps + Pd) * Field.t2 x in
    let D3 = D2 + 2 * n * (Pc + Ps + PA + Pd) * Field.t3 x in
    let θc = Field.conductor_temperature x in
    record {
      sheath_factor = pos (factor (in_sheath sheet) (resistance sheet));
      armour_factor = pos (factor (in_armour sheet) (resistance sheet));
      conductor_loss = pos Pc;
      sheath_loss = pos Ps;
      armour_loss = pos PA;
      dielectric_loss = pos Pd;
      sheath_temperature = cooler θc D1;
      armour_temperature = cooler θc D2;
      surface_temperature = cooler θc D3;
    }

-- `conductor_resistance` is the definition: stage 1 within the limits of the fields.
use Rattle.std.proofs.Common.{ap, arith, ◌∙◌}
use Rattle.formulas.specs.Tables.{coefficient}
use Rattle.formulas.specs.Resistance.{resistance}
use Rattle.formulas.proofs.Laws.TableRange.{conductor_metal_range}
use Rattle.fields.specs.Fields as Field
use Rattle.rating.specs.Values.{R'}
use Rattle.rating.proofs.Laws.Rise.{above_cold}
use Rattle.rating.proofs.case.SoundCase.conductor_resistance.Goals as goal

pub resistance_of-requires : goal.resistance_of-requires
resistance_of-requires c =
    let fine = c.args.self.now.sound in
    let range = conductor_metal_range (Field.conductor c.args.self.now.x) in
    record {
      resistance = fine.resistance.most;
      code = record { least = omega (arith, c.conductor_metal.ensures); most = omega (arith, c.conductor_metal.ensures) };
      temperature = record { least = above_cold _ fine.hot.least; most = fine.hot.most };
    }

pub returns : goal.returns
unfolding R'
returns c =
    let x = c.args.self.now.x in
    c.resistance_of.ensures
    ∙ ap (λ m. resistance (Field.conductor_resistance x) (coefficient m) (Field.conductor_temperature x))
    c.conductor_metal.ensures

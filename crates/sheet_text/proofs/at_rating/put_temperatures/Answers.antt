-- `sheet_text::at_rating::put_temperatures` meets its contract: the three rows, one after the other. Assumes nothing.
use Rattle.std.proofs.Common.{Bool, List, ◌++◌, ◌∙◌, ℕ, ap, ap₂, append_assoc}
use Rattle.std.specs.Prelude.{codes}
use Rattle.fields.specs.Fields.{armour_temperature, sheath_temperature}
use Rattle.sheet_text.specs.Sheet.{beside, temperature_row, temperatures_text}
use Rattle.sheet_text.proofs.at_rating.put_temperatures.Goals as goal

pub returns-clause-text : goal.returns-clause-text
unfolding temperatures_text
returns-clause-text g c =
    let text = c.args.out.now.bytes in
    let x = c.args.x in
    let v = c.args.v.now in
    let sheath : Bool → List ℕ =
    λ there. beside there (codes "theta_s") (codes "sheath, given as ") (sheath_temperature x) v.sheath_temperature in
    let armour : Bool → List ℕ =
    λ there. beside there (codes "theta_A") (codes "armour, given as ") (armour_temperature x) v.armour_temperature in
    let surface = temperature_row (codes "theta_e") (codes "surface") v.surface_temperature in
    c.put_temperature.ensures.text
    ∙ ap (λ (t : List ℕ). t ++ surface)
    (c.put_beside-2.ensures.text
    ∙ ap (λ (t : List ℕ). t ++ armour c.has-armoured.result) c.put_beside.ensures.text
    ∙ append_assoc text (sheath c.has-sheathed.result) (armour c.has-armoured.result))
    ∙ append_assoc text (sheath c.has-sheathed.result ++ armour c.has-armoured.result) surface
    ∙ ap₂ (λ (s a : Bool). text ++ ((sheath s ++ armour a) ++ surface)) c.has-sheathed.ensures c.has-armoured.ensures

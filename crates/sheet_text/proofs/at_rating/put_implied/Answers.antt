-- `sheet_text::at_rating::put_implied` meets its contract: each number is read back as it was passed. Assumes nothing.
use Rattle.std.proofs.Common.{[], List, ◌++◌, ◌∙◌, ◌∷◌, ◌≡◌, ℤ, ap, append_assoc, rules}
use Rattle.std.specs.Prelude.{codes}
use Rattle.std.specs.Int.{w128}
use Rattle.std.proofs.lemmas.Int.{to_z-of_z}
use Rattle.fields.specs.Fields.{arrangement}
use Rattle.implied.specs.declared.values.Implied.{Implied}
use Rattle.sheet_text.specs.NumberRows.{loss_rows}
use Rattle.sheet_text.specs.Numbers.{numbers_text}
use Rattle.sheet_text.specs.Sheet.{implied_text, temperatures_text}
use Rattle.sheet_text.proofs.at_rating.put_implied.Goals as goal

losses_of : Implied → List ℤ
losses_of v = v.sheath_factor ∷ v.armour_factor ∷ v.conductor_loss ∷ v.sheath_loss ∷ v.armour_loss ∷ v.dielectric_loss ∷ []

pub returns-clause-text : goal.returns-clause-text
unfolding implied_text losses_of
returns-clause-text g c =
    let text = c.args.out.now.bytes in
    let a = arrangement c.args.x in
    let v = c.implied-v.result in
    let read = to_z-of_z w128 in
    let λ1 = read v.sheath_factor (search rules) in
    let λ2 = read v.armour_factor (search rules) in
    let Pc = read v.conductor_loss (search rules) in
    let Ps = read v.sheath_loss (search rules) in
    let PA = read v.armour_loss (search rules) in
    let Pd = read v.dielectric_loss (search rules) in
    let values : _ ≡ losses_of v = (λ k. λ1 k ∷ λ2 k ∷ Pc k ∷ Ps k ∷ PA k ∷ Pd k ∷ []) in
    let losses : c.put_numbers.new.out.bytes ≡ (text ++ codes "AT THE RATING\n") ++ numbers_text a loss_rows (losses_of v) =
    c.put_numbers.ensures.text
    ∙ (λ k. c.push_str.ensures.bytes k ++ numbers_text a (c.loss_rows.ensures.rows k) (values k)) in
    c.put_temperatures.ensures.text
    ∙ (λ k. losses k ++ temperatures_text c.args.x v)
    ∙ append_assoc (text ++ codes "AT THE RATING\n") (numbers_text a loss_rows (losses_of v)) (temperatures_text c.args.x v)
    ∙ append_assoc text (codes "AT THE RATING\n") (numbers_text a loss_rows (losses_of v) ++ temperatures_text c.args.x v)
    ∙ ap
    (λ (w : Implied). text ++ (codes "AT THE RATING\n" ++ (numbers_text a loss_rows (losses_of w) ++ temperatures_text c.args.x w)))
    c.implied-v.ensures

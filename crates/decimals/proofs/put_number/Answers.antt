-- `decimals::put_number` meets its contract: the blank and the digits are what a number on a line is. Assumes nothing.
use Rattle.std.proofs.Common.{[], ap, append_assoc, arith, length, length-append, lit<, List, ◌++◌, ◌∙◌, ◌∷◌, ◌≡◌, ℕ}
use Rattle.decimals.specs.Decimal.{decimal}
use Rattle.decimals.proofs.Laws.Decimal.{spaced_one}
use Rattle.decimals.proofs.put_number.Goals as goal

pub returns : goal.returns
returns g c =
    let text = c.args.out.now.bytes in
    let digits = decimal c.args.x in
    let blank : c.push.new.self.bytes ≡ text ++ 32 ∷ [] = c.push.ensures.ascii (lit< tt) in
    record {
      text =
          c.put_decimal.ensures.text
          ∙ ap (λ (t : List ℕ). t ++ digits) blank
          ∙ append_assoc text (32 ∷ []) digits
          ∙ ap (λ (t : List ℕ). text ++ t) (spaced_one c.args.x);
      within = omega (arith, c.put_decimal.ensures.within, ap length blank, length-append text (32 ∷ []));
    }

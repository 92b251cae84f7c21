-- `rate_text::placed::print_said` meets its contract: what is appended to an empty text is put at the place. Assumes nothing.
use Rattle.std.proofs.Common.{ap, arith, length, List, ◌++◌, ◌≡◌, ◌∙◌, ℕ}
use Rattle.splice.proofs.Laws.Put.{put_as}
use Rattle.rate_text.specs.Answers.{printed_for}
use Rattle.rate_text.proofs.placed.print_said.Goals as goal

pub returns : goal.returns
returns c =
    let text = printed_for c.args.number c.args.said in
    let bytes : c.as_bytes.result.now ≡ c.print_said.new.out.bytes = c.as_bytes.ensures.value ∙ c.as_str.ensures.value in
    let printed : c.print_said.new.out.bytes ≡ text =
    c.print_said.ensures.text ∙ ap (λ (t : List ℕ). t ++ text) c.new-answer.ensures
    in
    record {
      put = put_as _ _ (bytes ∙ printed) c.put_bytes.ensures;
      within = omega (arith, c.put_bytes.ensures.place_is, c.print_said.ensures.within, ap length c.new-answer.ensures, ap length bytes);
    }

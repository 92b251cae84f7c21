-- `rate_text::placed::print_line` meets its contract: what is printed is printed for what the line says. Assumes nothing.
use Rattle.std.proofs.Common.{ap}
use Rattle.splice.proofs.Laws.Put.{put_within_as}
use Rattle.rate_text.specs.Answers.{printed_for, printed}
use Rattle.rate_text.proofs.placed.print_line.Goals as goal

pub returns : goal.returns
unfolding printed
returns c = put_within_as _ _ (ap (printed_for c.args.number) c.read_line.ensures) c.print_said.ensures

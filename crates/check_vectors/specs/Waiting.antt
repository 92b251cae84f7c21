-- The case that waits, line by line: a line that comes while none waits is a case or is passed over, and one that comes while a case
-- waits says what that case must get, after which it waits no more. Assumes nothing.
use Rattle.std.specs.Prelude.{cond, eqb, length, List, [], ℕ}
use Rattle.rate_text.specs.Answers.{printed}
use Rattle.rating.specs.Rate.{rate_of}
use Rattle.text.specs.Line.{read_line}
use Rattle.text.specs.declared.line.Said.{Said}
use Rattle.text.specs.declared.line.Said.TheVariants.{PassedOver, Case, Unreadable}

-- what is printed for the case that waits after line k, where `before` is that of the one that waits before it; nothing is printed for none
abbrev pub waits_after : List ℕ → ℕ → List ℕ → List ℕ
waits_after before k line = cond (eqb (length before) 0) (printed k line) []

-- the rating of the case that a line says, and 0 where it says none
unfoldable pub rating_said : Said → ℕ
rating_said PassedOver = 0
rating_said (Case xs) = (rate_of xs).rating
rating_said Unreadable = 0

-- of a line's bytes
abbrev pub rating_in : List ℕ → ℕ
rating_in line = rating_said (read_line line)

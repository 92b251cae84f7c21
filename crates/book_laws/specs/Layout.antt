-- What a mark stands for (docs/BOOK.md, 'The bytes'): the widths, the lengths and the rule of the books that bear it. Each book is of one
-- layout; everything else about books is said of any layout. Assumes nothing.
use Rattle.std.specs.Prelude.{cond, List, [], ◌∷◌, ℕ, ◌+◌, ◌-◌, ◌*◌, eqb, replicate}
use Rattle.fields.specs.Fields as Fields
use Rattle.rating.specs.Rate.{Answer, rate_of}

pub record Layout : Type 0 where
  -- the four bytes by which the trailer begins
  pub mark : List ℕ
  -- of the count and of the distance, in bytes
  pub width : ℕ
  -- how many inputs of a case a record stores: the first ones
  pub inputs : ℕ
  -- the most records that a book may have
  pub most : ℕ
  -- the answer to a case of so many inputs, by which a record is written and judged
  pub rule : List ℕ → Answer

-- A record is the inputs, the answer and the rating, each a field of four bytes.

abbrev pub record_fields : Layout → ℕ
record_fields l = l.inputs + 2

abbrev pub record_length : Layout → ℕ
record_length l = 4 * record_fields l

-- zeros for the inputs that a record does not store
abbrev pub missing : Layout → List ℕ
missing l = replicate (Fields.width - l.inputs) 0

-- The trailer is the mark, the count, the distance and the record length.

abbrev pub trailer_length : Layout → ℕ
trailer_length l = 4 + 2 * l.width + 4

-- what refusal 1 answers to a case
abbrev pub refused_by_1 : Answer
refused_by_1 = record { number = 1; rating = 0; sheet = replicate 13 0 }

-- The rule of RBK1. Where fields 26 to 29 are zero, the dielectric loss counts at every voltage, no soil dries out and no sun heats the
-- cable. Arrangement 7 came after that mark: refusal 1 still refuses it there.
abbrev pub older_rule : List ℕ → Answer
older_rule x = cond (eqb (Fields.arrangement x) 7) refused_by_1 (rate_of (Fields.from_older x))

-- ASCII "RBK1", of books that are no longer written.
abbrev pub rbk1 : Layout
rbk1 =
    record {
      mark = 82 ∷ 66 ∷ 75 ∷ 49 ∷ [];
      width = 4;
      inputs = Fields.older_width;
      most = 100000;
      rule = older_rule;
    }

-- "RBK2"
abbrev pub rbk2 : Layout
rbk2 = record { mark = 82 ∷ 66 ∷ 75 ∷ 50 ∷ []; width = 4; inputs = Fields.width; most = 100000; rule = rate_of }

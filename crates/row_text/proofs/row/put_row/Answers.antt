-- `row_text::row::put_row` meets its contract: each part has room behind those before it. Assumes nothing.
use Rattle.std.proofs.Common.{arith, ◌+◌, ◌≤◌}
use Rattle.arrayvec.specs.ArrayString.{array_string_len}
use Rattle.row_text.proofs.row.put_row.Given.{Over}
use Rattle.row_text.proofs.row.put_row.Goals as goal
use Rattle.row_text.proofs.row.put_row.Goals.{After-push_str-2}

-- before the meaning stand the mark and the symbol in 24 bytes at most, the value in 83, and two blanks
before_meaning : (g : Over) (c : After-push_str-2 g) → array_string_len c.push_str-2.new.self ≤ array_string_len c.args.out.now + 109
before_meaning g c =
    omega (
      arith,
      c.requires.short.symbol,
      c.requires.short_mark,
      c.requires.few_after,
      c.push_str.ensures.len,
      c.put_to_left.ensures.within,
      c.put_value.ensures.within,
      c.push_str-2.ensures.len,
    )

pub put_meaning-requires : goal.put_meaning-requires
put_meaning-requires g c =
    let before = before_meaning g (goal.at.put_meaning-requires g c).After-push_str-2 in
    omega (arith, c.requires.room, c.requires.short.unit, c.requires.short.words, before)

pub push_str-requires-3 : goal.push_str-requires-3
push_str-requires-3 g c =
    let before = before_meaning g (goal.at.push_str-requires-3 g c).After-push_str-2 in
    omega (arith, c.requires.room, c.requires.short.unit, c.requires.short.words, before, c.put_meaning.ensures.within)

pub returns-clause-within : goal.returns-clause-within
returns-clause-within g c =
    let before = before_meaning g (goal.at.returns-clause-within g c).After-push_str-2 in
    omega (
      arith,
      c.requires.short.unit,
      c.requires.short.words,
      before,
      c.put_meaning.ensures.within,
      c.push_str-3.ensures.len,
    )

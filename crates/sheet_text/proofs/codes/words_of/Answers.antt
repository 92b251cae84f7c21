-- `sheet_text::codes::words_of` meets its contract: a place in the table has its words, and none is past its end. Assumes nothing.
use Rattle.std.proofs.Common.{[], ◌∙◌, ap, arith, map, sym}
use Rattle.std.proofs.lemmas.List.{get_or-map, get_or_past, length-map}
use Rattle.sheet_text.specs.Codes.{words_of}
use Rattle.sheet_text.proofs.codes.words_of.Goals as goal

pub returns-in-Some : goal.returns-in-Some
unfolding words_of
returns-in-Some c =
    let words = c.args.words.now in
    ap (λ t. t.now) c.in-Some.ensures.lookup.1
    ∙ sym (get_or-map (λ t. t.now) words c.args.code c.in-Some.word.now [] c.in-Some.ensures.lookup.3.0)

pub returns-in-None : goal.returns-in-None
unfolding words_of
returns-in-None c =
    let words = c.args.words.now in
    sym (get_or_past (map (λ t. t.now) words) c.args.code [] (omega (arith, length-map words (λ t. t.now), c.in-None.ensures.lookup.3)))

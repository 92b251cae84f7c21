-- `row_text::value::put_padded` meets its contract: behind the one that the library writes first stand the last digits. Assumes nothing.
use Rattle.std.proofs.Common.{ap, arith, length, List, ◌++◌, ◌∙◌, ℕ}
use Rattle.std.proofs.lemmas.Str.{IsCharBoundary-from_ascii}
use Rattle.row_text.proofs.Digits.{behind, behind_length, positive, written_ahead}
use Rattle.row_text.proofs.value.put_padded.Goals as goal

pub nonzero_rem-x : goal.nonzero_rem-x
nonzero_rem-x g c = positive c.args.decimals _ c.pow-one.ensures

pub range_from-requires : goal.range_from-requires
range_from-requires g c =
    let ahead = c.format.ensures.text ∙ written_ahead c.args.decimals _ c.pow-one.ensures c.requires.few c.args.x in
    λ _. IsCharBoundary-from_ascii _ 1 c.format.ensures.ascii (omega (arith, ap length ahead))

pub push_str-requires : goal.push_str-requires
push_str-requires g c =
    let few = c.requires.few in
    let size = behind_length c.args.decimals _ c.pow-one.ensures few c.args.x c.format.ensures.text c.range_from.ensures.value in
    omega (arith, c.requires.room, size)

pub returns : goal.returns
returns g c =
    let few = c.requires.few in
    let digits = behind c.args.decimals _ c.pow-one.ensures few c.args.x c.format.ensures.text c.range_from.ensures.value in
    let size = behind_length c.args.decimals _ c.pow-one.ensures few c.args.x c.format.ensures.text c.range_from.ensures.value in
    record {
      text = c.push_str.ensures.bytes ∙ ap (λ (t : List ℕ). c.args.out.now.bytes ++ t) digits;
      len = omega (arith, c.push_str.ensures.len, size);
    }

-- `field_limits::value` is the definition: which way a word is read is what its row says.
use Rattle.std.specs.Prelude.{◌≡◌, Bool, cond, List, ℕ, ℤ, pos, ◌<◌, ◌^◌}
use Rattle.std.proofs.Common.{ap, ◌∙◌, sym, to_z, of_z, w64}
use Rattle.std.specs.Int.Signed.{mag}
use Rattle.std.proofs.lemmas.Int.{to_z-of_z}
use Rattle.fields.specs.Fields as Field
use Rattle.field_limits.specs.Limits.{Limits}
use Rattle.field_limits.specs.Marked.{value}
use Rattle.field_limits.proofs.value.Goals as goal

read_back : (z : ℤ) → mag z < 2 ^ 63 → to_z w64 (of_z w64 z) ≡ z
read_back z fits = to_z-of_z w64 z (record { sfits = fits })

read_by : (x : List ℕ) (i : ℕ) → Bool → ℤ
read_by x i signed = cond signed (Field.temperature x i) (pos (Field.word x i))

pub returns-then-row_of : goal.returns-then-row_of
unfolding value read_by
returns-then-row_of c =
    let way = sym c.if-row_of.true ∙ ap (λ (row : Limits). row.signed) c.row_of.ensures in
    read_back c.signed.result c.signed.type_inv ∙ c.signed.ensures ∙ ap (read_by c.args.x c.args.field) way

pub returns-else-row_of : goal.returns-else-row_of
unfolding value read_by
returns-else-row_of c =
    let way = sym c.if-row_of.false ∙ ap (λ (row : Limits). row.signed) c.row_of.ensures in
    read_back c.from.result c.from.type_inv ∙ c.from.ensures ∙ ap (read_by c.args.x c.args.field) way

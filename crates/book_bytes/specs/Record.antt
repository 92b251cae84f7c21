-- The fields of a record, as the list that read answers: all inputs of its case, the answer and the rating. Assumes nothing.
use Rattle.std.specs.Prelude.{List, [], ◌∷◌, ◌++◌, ℕ}
use Rattle.book_bytes.specs.declared.record.Record as Code

abbrev pub fields_in : Code.Record → List ℕ
fields_in r = r.case ++ (r.answer ∷ r.rating ∷ [])

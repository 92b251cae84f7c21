-- `book_bytes::field::word_at` meets its contract: the four bytes that are taken are those from `at` on, and joined they are the word.
-- Assumes nothing.
use Rattle.std.proofs.Common.{List, add-zero, ap, arith, drop, length, take, ℕ, ◌-◌, ◌∙◌, ◌≡◌, ◌≤◌}
use Rattle.std.proofs.lemmas.List.{take-take}
use Rattle.std.proofs.lemmas.Option.{MatchOption-at_some}
use Rattle.book_bytes.proofs.Parts.{number_in, part_taken}
use Rattle.book_laws.specs.Bytes.{word_at}
use Rattle.book_laws.proofs.Laws.Bytes.{word_joined}
use Rattle.book_bytes.proofs.field.word_at.Goals as goal

-- four bytes that stand at a place are the word there
word_taken : (b : List ℕ) (at : ℕ) {t : List ℕ} → t ≡ take 4 (drop at b) → word_at t 0 ≡ word_at b at
word_taken b at is =
    ap (λ (t : List ℕ). word_at t 0) is
    ∙ number_in b _ at 4 (part_taken b at 4) 0 4 (omega arith)
    ∙ ap (word_at b) (add-zero at)

pub returns : goal.returns
returns c =
    let chunk = MatchOption-at_some _ _ _ c.unwrap.ensures c.first_chunk.ensures.cases in
    let rest = drop c.args.at c.args.bytes.now in
    let four_left : 4 ≤ length c.args.bytes.now - c.args.at = omega arith in
    c.from_be_bytes.ensures
    ∙ word_joined c.unwrap.result.now 0
    ∙ word_taken c.args.bytes.now c.args.at (chunk.same ∙ take-take 4 _ rest four_left)

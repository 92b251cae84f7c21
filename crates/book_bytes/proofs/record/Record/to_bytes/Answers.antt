-- `book_bytes::record::Record::to_bytes` meets its contract: the fields stand one after another. Assumes nothing.
use Rattle.std.proofs.Common.{List, [], ap, arith, get_or, length, length-append, length-take-le, refl, replicate, sym, take, take_all, ℕ}
use Rattle.std.proofs.Common.{◌*◌, ◌++◌, ◌+◌, ◌<◌, ◌∙◌, ◌∷◌, ◌≡◌, ◌≤◌}
use Rattle.std.proofs.lemmas.List.{get_or-append_right, get_or_append_left}
use Rattle.splice.specs.Splice.{splice}
use Rattle.splice.proofs.Laws.Splice.{splice_nothing, splice_after, splice_length}
use Rattle.fields.specs.Fields.{width}
use Rattle.book_laws.specs.Book.{new_layout}
use Rattle.book_laws.specs.Bytes.{word_bytes, words_bytes}
use Rattle.book_laws.specs.Layout.{record_length}
use Rattle.book_laws.proofs.Laws.Bytes.{number_bytes_length, words_bytes_length, words_bytes_next}
use Rattle.book_bytes.specs.Record.{fields_in}
use Rattle.book_bytes.proofs.Parts.{splice_whole}
use Rattle.book_bytes.proofs.record.Record.to_bytes.Goals as goal

-- the bytes before any is written
abbrev blank : List ℕ
blank = replicate (record_length new_layout) 0

-- one field more
one_more :
    (l ws : List ℕ) (i : ℕ) {m n : List ℕ} {w : ℕ} → i < length ws → w ≡ get_or ws i 0 → m ≡ splice l 0 (words_bytes (take i ws)) →
    n ≡ splice m (4 * i) (word_bytes w) → n ≡ splice l 0 (words_bytes (take (i + 1) ws))
one_more l ws i {m} {n} {w} more is so_far put =
    let first = words_bytes (take i ws) in
    let size : 4 * i ≡ 0 + length first = omega (arith, words_bytes_length (take i ws), length-take-le i ws (omega arith)) in
    put
    ∙ ap (λ (t : List ℕ). splice t (4 * i) (word_bytes w)) so_far
    ∙ ap (λ (k : ℕ). splice (splice l 0 first) k (word_bytes w)) size
    ∙ splice_after l 0 first (word_bytes w) (omega arith)
    ∙ ap (λ (v : ℕ). splice l 0 (first ++ word_bytes v)) is
    ∙ ap (splice l 0) (words_bytes_next ws i more)

pub loop-i-init : goal.loop-i-init
unfolding words_bytes
loop-i-init c = (refl, sym (splice_nothing blank 0))

as_long : (m : List ℕ) (at w : ℕ) {n : List ℕ} → at + 4 ≤ length m → n ≡ splice m at (word_bytes w) → length n ≡ length m
as_long m at w h put =
    let four = number_bytes_length 4 w in ap length put ∙ splice_length m at (word_bytes w) (omega (arith, four))

-- the answer and the rating stand after the case
last_two :
    (case : List ℕ) (answer rating : ℕ) {m n p : List ℕ} → length case ≡ width →
    let fields = case ++ (answer ∷ rating ∷ []) in
    m ≡ splice blank 0 (words_bytes (take width fields)) → n ≡ splice m (4 * width) (word_bytes answer) →
    p ≡ splice n (4 * (width + 1)) (word_bytes rating) → p ≡ words_bytes fields
last_two case answer rating {m} {n} {p} size so_far put_answer put_rating =
    let two = answer ∷ rating ∷ [] in
    let fields = case ++ two in
    let long : length fields ≡ width + 2 = omega (arith, length-append case two) in
    let answer_is : answer ≡ get_or fields width 0 = sym (get_or-append_right case two width width 0 size (omega arith)) in
    let rating_is : rating ≡ get_or fields (width + 1) 0 =
    sym (get_or-append_right case two width (width + 1) 0 size (omega arith))
    in
    let answered : n ≡ splice blank 0 (words_bytes (take (width + 1) fields)) =
    one_more blank fields width (omega (arith, long)) answer_is so_far put_answer
    in
    let rated : p ≡ splice blank 0 (words_bytes (take (width + 2) fields)) =
    one_more blank fields (width + 1) (omega (arith, long)) rating_is answered put_rating
    in
    rated
    ∙ ap (λ (ws : List ℕ). splice blank 0 (words_bytes ws)) (take_all (width + 2) fields (omega (arith, long)))
    ∙ splice_whole blank (words_bytes fields) (omega (arith, words_bytes_length fields, long))

pub loop-i-preserved : goal.loop-i-preserved
loop-i-preserved c =
    let at_loop = c.loop-i in
    let put = c.put_word.ensures in
    let case = c.args.self.now.case in
    let rest = c.args.self.now.answer ∷ c.args.self.now.rating ∷ [] in
    let within : at_loop.i < length case = omega arith in (
      as_long _ _ _ (omega (arith, at_loop.invariant.0)) put ∙ at_loop.invariant.0,
      one_more blank (fields_in c.args.self.now) at_loop.i (omega (arith, length-append case rest))
          (sym (get_or_append_left case rest 0 at_loop.i within)) at_loop.invariant.1 put,
    )

pub returns : goal.returns
returns c =
    let at_loop = c.loop-i in
    let all : at_loop.i ≡ width = omega arith in
    last_two c.args.self.now.case _ _ (omega arith)
    (at_loop.invariant.1 ∙ ap (λ (k : ℕ). splice blank 0 (words_bytes (take k (fields_in c.args.self.now)))) all)
    c.put_word-2.ensures c.put_word-3.ensures

-- `book_bytes::trailer::trailer_of` meets its contract: the mark and three words, one after another. Assumes nothing.
use Rattle.std.proofs.Common.{List, ap, arith, length, refl, replicate, ℕ, ◌*◌, ◌+◌, ◌∙◌, ◌≡◌, ◌≤◌}
use Rattle.splice.specs.Put.{Put}
use Rattle.splice.specs.Splice.{splice}
use Rattle.splice.proofs.Laws.Put.{put_then}
use Rattle.book_laws.specs.Bytes.{word_bytes}
use Rattle.book_laws.specs.Format.{trailer_bytes}
use Rattle.book_laws.specs.Book.{new_layout}
use Rattle.book_laws.specs.Layout.{record_length}
use Rattle.book_laws.proofs.Laws.Bytes.{number_bytes_length}
use Rattle.book_bytes.proofs.Parts.{splice_whole}
use Rattle.book_bytes.proofs.trailer.trailer_of.Goals as goal

parts :
    (l : List ℕ) (count : ℕ) {a b d e : List ℕ} → length l ≡ 16 → a ≡ splice l 0 new_layout.mark → b ≡ splice a 4 (word_bytes count) →
    d ≡ splice b 8 (word_bytes (record_length new_layout * count)) → e ≡ splice d 12 (word_bytes (record_length new_layout)) →
    e ≡ trailer_bytes new_layout count
unfolding trailer_bytes
parts l count {a} {b} {d} {e} size put_a put_b put_d put_e =
    let size_of : (n : ℕ) → length (word_bytes n) ≡ 4 = λ n. number_bytes_length 4 n in
    let next : (n at to : ℕ) → at + 4 ≡ to → to ≡ at + length (word_bytes n) = λ n at to there. omega (arith, size_of n) in
    let marked : Put l 0 new_layout.mark a 4 = record { place_is = refl; list_is = put_a } in
    let counted : Put a 4 (word_bytes count) b 8 = record { place_is = next count _ _ (omega arith); list_is = put_b } in
    let distant : Put b 8 (word_bytes (record_length new_layout * count)) d 12 =
    record { place_is = next _ _ _ (omega arith); list_is = put_d }
    in
    let sized : Put d 12 (word_bytes (record_length new_layout)) e 16 =
    record { place_is = next (record_length new_layout) _ _ (omega arith); list_is = put_e }
    in
    let front : 0 ≤ length l = omega arith in
    let all = put_then l 0 _ _ front (put_then l 0 _ _ front (put_then l 0 _ _ front marked counted) distant) sized in
    all.list_is ∙ splice_whole l _ (omega (arith, size, all.place_is))

pub returns : goal.returns
returns c =
    parts (replicate 16 0) c.args.count refl (c.put.ensures ∙ ap (splice (replicate 16 0) 0) c.mark.ensures) c.put_word.ensures
    c.put_word-2.ensures c.put_word-3.ensures

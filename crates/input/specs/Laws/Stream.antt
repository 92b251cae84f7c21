-- How a stream of lines goes on: it begins with all bytes of its source; a line is gathered from the chunk and from what is read after it,
-- up to its line feed or the end. Assumes nothing.
use Rattle.std.specs.Prelude.{true, Some, None, Option, ◌≡◌, refl, ℕ, zero, suc, ◌+◌, ◌-◌, ◌<◌, ◌≤◌, ◌⊎◌, min}
use Rattle.std.specs.Prelude.{List, [], ◌∷◌, ◌++◌, map, length, take, drop}
use Rattle.std.specs.Io.KnownBytes.{Consumes, IsAtEnd}
use Rattle.std.proofs.Common.{sym, ap, subst, ◌∙◌, inl, inr, arith}
use Rattle.std.proofs.Common.{append_assoc, append-nil, length-append, drop-drop, length-take, length-take-le}
use Rattle.std.proofs.Math.Nat.{sub-zero}
use Rattle.std.proofs.lemmas.List.{drop-take, nil_from_length}
use Rattle.input.specs.declared.Lines.{Lines}
use Rattle.input.specs.Lines.{lines, kept_lines}
use Rattle.input.specs.Laws.Lines.{EndsAt, split, lines_whole, lines_last}
use Rattle.input.specs.Stream.{Awaits}
use Rattle.text.specs.Gather.{is_in_line, line_room, piece}
use Rattle.text.specs.Laws.Number.{every_append}
use Rattle.text.specs.Number.{every}

-- what a source with known bytes gives is known, and what it still has
consumed : (a b : Option (List ℕ)) (rest bs : List ℕ) → a ≡ Some rest → Consumes a b bs
    → (after : List ℕ) × (b ≡ Some after) × (rest ≡ bs ++ after)
consumed None b rest bs e h = cc
consumed (Some x) None rest bs e h = absurd h
consumed (Some x) (Some y) rest bs e h = let same : rest ≡ x = cc in (y, refl, same ∙ h)

ended : (b : Option (List ℕ)) (after : List ℕ) → b ≡ Some after → IsAtEnd b → after ≡ []
ended None after e h = cc
ended (Some y) after e h = let same : after ≡ y = cc in same ∙ h

-- of a start that is kept and more bytes the start is that of all
take_again : (n : ℕ) (a b : List ℕ) → take n (take n a ++ b) ≡ take n (a ++ b)
take_again zero a b = refl
take_again (suc n) [] b = refl
take_again (suc n) (x ∷ a) b = ap (λ (t : List ℕ). x ∷ t) (take_again n a b)

front : (at end : ℕ) (s : List ℕ) → at ≡ 0 → piece at end s ≡ take end s
unfolding piece
front at end s start = ap (λ (k : ℕ). piece k end s) start ∙ ap (λ (n : ℕ). take n s) (sub-zero end)

piece_past : (s : List ℕ) (at end n : ℕ) → n ≤ length (piece at end s) → drop n (piece at end s) ≡ piece (at + n) end s
unfolding piece
piece_past s at end n within =
    let size : end - at ≡ n + (end - (at + n)) = omega (arith, within, length-take (end - at) (drop at s)) in
    ap (λ (k : ℕ). drop n (take k (drop at s))) size
    ∙ drop-take n (end - (at + n)) (drop at s)
    ∙ ap (take (end - (at + n))) (drop-drop n at s)

module _ {S : Type 0} (remaining : S → Option (List ℕ)) where
  -- before anything is read all bytes of the source are to come
  pub begins : (l : Lines S) (xs : List ℕ) → l.at ≡ 0 → l.end ≡ 0 → remaining l.source ≡ Some xs → length xs < l.reads
      → Awaits remaining l xs
  begins l xs start none known few =
      record {
        rest = xs;
        known = known;
        bytes = ap (λ (h : List ℕ). h ++ xs) (sym (front l.at l.end l.chunk start ∙ ap (λ (n : ℕ). take n l.chunk) none));
        reads = inr few;
      }

  -- of the bytes xs that were to come a part is gathered in a line, which has no line feed, and the others are still to come
  pub record Gathered (line : List ℕ) (now : Lines S) (xs : List ℕ) : Type 0 where
    pub part : List ℕ
    pub left : List ℕ
    pub whole : xs ≡ part ++ left
    pub none : every is_in_line part ≡ true
    pub kept : line ≡ take line_room part
    pub awaits : Awaits remaining now left

  pub nothing_gathered : (l : Lines S) (xs : List ℕ) → Awaits remaining l xs → Gathered [] l xs
  unfolding every
  nothing_gathered l xs awaits =
      record { part = []; left = xs; whole = refl; none = refl; kept = refl; awaits = awaits }

  pub gathered_same : {line same : List ℕ} {now then : Lines S} {xs : List ℕ} → same ≡ line → then ≡ now
      → Gathered line now xs → Gathered same then xs
  gathered_same {same = same} {now = now} {xs = xs} e f g =
      subst (λ (l : Lines S). Gathered same l xs) (sym f) (subst (λ (l : List ℕ). Gathered l now xs) (sym e) g)

  -- while bytes are to come the reads suffice for those of the source
  enough : (l : Lines S) (xs : List ℕ) (awaits : Awaits remaining l xs) → 0 < length xs → length awaits.rest < l.reads
  enough l xs awaits some = go awaits.reads
    where
      go : (xs ≡ []) ⊎ (length awaits.rest < l.reads) → length awaits.rest < l.reads
      go (inl e) = absurd (omega (arith, ap length e))
      go (inr h) = h

  -- with no read left nothing is to come
  at_end : (l : Lines S) (xs : List ℕ) → l.reads ≡ 0 → Awaits remaining l xs → xs ≡ []
  at_end l xs none awaits = go awaits.reads
    where
      go : (xs ≡ []) ⊎ (length awaits.rest < l.reads) → xs ≡ []
      go (inl e) = e
      go (inr h) = absurd (omega arith)

  -- a read that gives a byte at least leaves enough reads for the rest
  still_enough : (l : Lines S) (xs : List ℕ) (awaits : Awaits remaining l xs) (given rest : List ℕ) (reads : ℕ)
      → awaits.rest ≡ given ++ rest → (length given ≡ 0 → rest ≡ []) → (0 < length given → l.reads ≤ reads + 1)
      → (awaits.rest ≡ []) ⊎ (length rest < reads)
  still_enough l xs awaits [] rest reads cut end one = inl (cut ∙ end refl)
  still_enough l xs awaits (b ∷ given) rest reads cut end one =
      let size : length awaits.rest ≡ suc (length given + length rest) = ap length cut ∙ ap suc (length-append given rest) in
      let all : length xs ≡ length (piece l.at l.end l.chunk) + length awaits.rest = ap length awaits.bytes ∙ length-append _ awaits.rest in
      inr (omega (arith, enough l xs awaits (omega (arith, size, all)), one (omega arith)))

  -- the same chunk, of which n bytes more are passed over
  pub record Passed (l : Lines S) (n : ℕ) (m : Lines S) : Type 0 where
    pub source : m.source ≡ l.source
    pub chunk : m.chunk ≡ l.chunk
    pub at : m.at ≡ l.at + n
    pub end : m.end ≡ l.end
    pub reads : m.reads ≡ l.reads

  passed_over : (l m : Lines S) (n : ℕ) → Passed l n m → n ≤ length (piece l.at l.end l.chunk)
      → piece m.at m.end m.chunk ≡ drop n (piece l.at l.end l.chunk)
  passed_over l m n p within =
      ap (λ (s : List ℕ). piece m.at m.end s) p.chunk
      ∙ ap (λ (k : ℕ). piece m.at k l.chunk) p.end
      ∙ ap (λ (k : ℕ). piece k l.end l.chunk) p.at
      ∙ sym (piece_past l.chunk l.at l.end n within)

  module _ {line : List ℕ} {l : Lines S} {xs : List ℕ} (g : Gathered line l xs) where
    abbrev held : List ℕ
    held = piece l.at l.end l.chunk

    -- a line feed stands among the chunk's bytes that are still to come: it ends the line, and the bytes after it are those of the others
    pub line_ends : (k : ℕ) → EndsAt held k → (m : Lines S) → Passed l (k + 1) m
        → (ys : List ℕ) × Awaits remaining m ys × (kept_lines xs ≡ take line_room (line ++ take k held) ∷ kept_lines ys)
    unfolding kept_lines
    line_ends k e m passed =
        let others : List ℕ = drop (k + 1) held ++ g.awaits.rest in
        let cut : g.left ≡ take k held ++ (10 ∷ others) =
        g.awaits.bytes
        ∙ ap (λ (h : List ℕ). h ++ g.awaits.rest) (split held k e)
        ∙ append_assoc (take k held) (10 ∷ drop (k + 1) held) g.awaits.rest
        in
        let whole : xs ≡ (g.part ++ take k held) ++ (10 ∷ others) =
        g.whole ∙ ap (λ (h : List ℕ). g.part ++ h) cut ∙ sym (append_assoc g.part (take k held) (10 ∷ others))
        in
        let some : 0 < length g.left = omega (arith, ap length cut, length-append (take k held) (10 ∷ others)) in (
          others,
          record {
            rest = g.awaits.rest;
            known = ap remaining passed.source ∙ g.awaits.known;
            bytes = ap (λ (h : List ℕ). h ++ g.awaits.rest) (sym (passed_over l m (k + 1) passed (omega (arith, e.within))));
            reads = inr (omega (arith, passed.reads, enough l g.left g.awaits some));
          },
          ap kept_lines whole
              ∙ ap (map (take line_room)) (lines_whole (g.part ++ take k held) others (every_append is_in_line _ _ g.none e.none))
              ∙ ap (λ (l : List ℕ). l ∷ kept_lines others)
              (sym (ap (λ (t : List ℕ). take line_room (t ++ take k held)) g.kept ∙ take_again line_room g.part (take k held))),
        )

    -- no line feed stands there, and the source gave the bytes that the chunk has then
    pub goes_on : every is_in_line held ≡ true → (more : List ℕ) → more ≡ take line_room (line ++ held)
        → (m : Lines S) → m.at ≡ 0 → m.end ≤ length m.chunk
        → Consumes (remaining l.source) (remaining m.source) (take m.end m.chunk)
        → (m.end ≡ 0 → IsAtEnd (remaining m.source))
        → (0 < m.end → l.reads ≤ m.reads + 1)
        → Gathered more m xs
    goes_on none more joined m start within bytes end reads =
        let given : List ℕ = take m.end m.chunk in
        let size : length given ≡ m.end = length-take-le m.end m.chunk within in
        let now : (after : List ℕ) × (remaining m.source ≡ Some after) × (g.awaits.rest ≡ given ++ after) =
        consumed (remaining l.source) (remaining m.source) g.awaits.rest given g.awaits.known bytes
        in
        record {
          part = g.part ++ held;
          left = g.awaits.rest;
          whole = g.whole ∙ ap (λ (h : List ℕ). g.part ++ h) g.awaits.bytes ∙ sym (append_assoc g.part held g.awaits.rest);
          none = every_append is_in_line _ _ g.none none;
          kept = joined ∙ ap (λ (t : List ℕ). take line_room (t ++ held)) g.kept ∙ take_again line_room g.part held;
          awaits =
              record {
                rest = now.0;
                known = now.1;
                bytes = now.2 ∙ ap (λ (h : List ℕ). h ++ now.0) (sym (front m.at m.end m.chunk start));
                reads =
                    still_enough l g.left g.awaits given now.0 m.reads now.2
                    (λ none. ended _ _ now.1 (end (omega (arith, none, size)))) (λ some. reads (omega (arith, some, size)));
              };
        }

    module _ (last : l.reads ≡ 0) where
      nothing_left : g.left ≡ []
      nothing_left = at_end l g.left last g.awaits

      whole_part : xs ≡ g.part
      whole_part = g.whole ∙ ap (λ (h : List ℕ). g.part ++ h) nothing_left ∙ append-nil g.part

      part_size : length line ≡ min line_room (length g.part)
      part_size = ap length g.kept ∙ length-take line_room g.part

      -- with no read left a line that has a byte is the last, and one that has none is no line
      pub last_line : 0 < length line → (ys : List ℕ) × Awaits remaining l ys × (kept_lines xs ≡ line ∷ kept_lines ys)
      unfolding kept_lines lines
      last_line some = (
        g.left,
        g.awaits,
        ap (map (take line_room)) (ap lines whole_part ∙ lines_last g.part (omega (arith, part_size)) g.none)
            ∙ ap (λ (t : List ℕ). t ∷ []) (sym g.kept)
            ∙ ap (λ (s : List ℕ). line ∷ kept_lines s) (sym nothing_left),
      )

      pub no_line : length line ≡ 0 → (ys : List ℕ) × Awaits remaining l ys × ((kept_lines xs ≡ []) × (kept_lines ys ≡ []))
      unfolding kept_lines lines
      no_line none =
          let empty : g.part ≡ [] = nil_from_length g.part (omega (arith, part_size)) in
          (g.left, g.awaits, (ap kept_lines (whole_part ∙ empty), ap kept_lines nothing_left))

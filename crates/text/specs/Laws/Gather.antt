-- A line that is gathered piece by piece in a room of fixed size: what is kept is the start of the whole line, and as much of it as
-- fills the room is enough to read it. Assumes nothing.
use Rattle.std.proofs.Common.{List, [], ◌∷◌, ◌++◌, arith}
use Rattle.text.specs.declared.line.Said.TheVariants.{Unreadable}
use Rattle.std.specs.Prelude.{Bool, true, false, ◌≡◌, refl, ℕ, zero, suc, ◌+◌, ◌-◌, ◌≤◌, ◌<◌, ltb, drop}
use Rattle.std.proofs.Math.Path.{sym, ap}
use Rattle.std.proofs.Common.{◌∙◌, lt-ltb, ltb-true, ltb-false, length-append, take_all, length-take-le}
use Rattle.std.proofs.Math.Nat.{zero-sub, sub-zero, suc-sub-suc}
use Rattle.std.proofs.Math.ListN.{length, take, length-take}
use Rattle.std.proofs.Math.Seq.{take_at, take-nil}
use Rattle.text.specs.Gather.{piece, line_room, kept, Holds}
use Rattle.text.specs.Line.{longest_line, read_line}
use Rattle.splice.specs.Splice.{splice}

-- ---- the start of a line that fills the room decides what the line says

pub too_long : (l : List ℕ) → longest_line < length l → read_line l ≡ Unreadable
unfolding read_line
too_long l h = simp (lt-ltb _ _ h)

pub start_decides : (l : List ℕ) → read_line (take line_room l) ≡ read_line l
start_decides l = go (ltb longest_line (length l)) refl
  where
    go : (t : Bool) → ltb longest_line (length l) ≡ t → read_line (take line_room l) ≡ read_line l
    go true e =
        let long = ltb-true longest_line (length l) e in
        too_long (take line_room l) (omega (arith, length-take line_room l)) ∙ sym (too_long l long)
    go false e = ap read_line (take_all line_room l (omega (arith, ltb-false longest_line (length l) e)))

-- ---- what is kept is the start of the line

take_append : (n : ℕ) (a b : List ℕ) → take n (a ++ b) ≡ take n a ++ take (n - length a) b
take_append n [] b = sym (ap (λ (t : List ℕ). t ++ take (n - 0) b) (take-nil n) ∙ ap (λ (k : ℕ). take k b) (sub-zero n))
take_append zero (x ∷ a) b = ap (λ (k : ℕ). take k b) (sym (zero-sub (suc (length a))))
take_append (suc n) (x ∷ a) b =
    ap (λ (r : List ℕ). x ∷ r) (take_append n a b)
    ∙ ap (λ (k : ℕ). x ∷ (take n a ++ take k b)) (sym (suc-sub-suc n (length a)))

module _ (n : ℕ) (l line : List ℕ) (len from to : ℕ) (chunk : List ℕ) (room : n ≤ length l) (h : Holds n l line len) where
  more : List ℕ
  more = kept (n - len) from to chunk

  joined : take len l ++ more ≡ take n (line ++ piece from to chunk)
  unfolding more kept
  joined =
      let left : n - len ≡ n - length line = let e = h.size in omega arith in
      ap (λ (t : List ℕ). t ++ more) h.bytes
      ∙ ap (λ (k : ℕ). take n line ++ take k (piece from to chunk)) left
      ∙ sym (take_append n line (piece from to chunk))

  joined_length : length (take len l ++ more) ≡ len + length more
  joined_length =
      let fits : len ≤ length l = let e = h.size in omega arith in
      length-append (take len l) more ∙ ap (λ (k : ℕ). k + length more) (length-take-le len l fits)

  pub holds_more : Holds n (splice l len (kept (n - len) from to chunk)) (line ++ piece from to chunk)
      (len + length (kept (n - len) from to chunk))
  unfolding more splice
  holds_more =
      record {
        size = sym joined_length ∙ ap length joined ∙ length-take n (line ++ piece from to chunk);
        bytes = take_at (take len l ++ more) (drop (len + length more) l) (len + length more) joined_length ∙ joined;
      }

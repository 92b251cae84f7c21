-- A line of numbers and blanks: its first word is read and what follows it is left, a blank in front is passed over, and the numbers
-- alone, and how many they are, decide what the line says, also with a carriage return at its end. Assumes nothing.
use Rattle.std.proofs.Common.{List, [], ◌∷◌, ◌++◌, arith, le-ltb, ne_eqb}
use Rattle.text.specs.declared.line.Said.TheVariants.{Case}
use Rattle.std.proofs.lemmas.Bool.{not-true}
use Rattle.std.specs.Prelude.{Bool, true, false, ◌||◌, ◌≡◌, ℕ, zero, suc, ◌+◌, ◌-◌, ◌≤◌, ◌<◌, eqb, get_or}
use Rattle.std.proofs.Math.Bool.{or-true}
use Rattle.std.proofs.Math.Path.{refl}
use Rattle.std.proofs.Common.{ap}
use Rattle.std.proofs.Math.ListN.{length, length-append}
use Rattle.std.proofs.Math.Seq.{take-append_seam, drop-append_seam, get_or-append_seam, take-length}
use Rattle.bools.proofs.Laws.Tests.{both}
use Rattle.text.specs.Laws.Case.{one_case, words_left}
use Rattle.text.specs.Line.{case_of, field, fields, says, text_length, longest_line, read_line}
use Rattle.text.specs.Number.{is_digit, is_numeral, every, read_number}
use Rattle.text.specs.Laws.Number.{every_at, differ}
use Rattle.text.specs.Words.{is_blank, is_ink, run, drop_blanks, word, drop_word}

pub run_past : (p : ℕ → Bool) (s t : List ℕ) → every p s ≡ true → run p t ≡ 0 → run p (s ++ t) ≡ length s
unfolding run every
run_past p [] t h k = k
run_past p (b ∷ s) t h k = let e = both (p b) (every p s) h in rw e.0 (ap suc (run_past p s t e.1 k))

ink_first : (s t : List ℕ) → 0 < length s → is_ink (get_or s 0 0) ≡ true → run is_blank (s ++ t) ≡ 0
unfolding run is_ink
ink_first [] t h k = absurd (omega arith)
ink_first (b ∷ s) t h k = rw (not-true (is_blank b) k)

-- ---- a word, after which no word goes on

module _ (w t : List ℕ) (some : 0 < length w) (ink : every is_ink w ≡ true) (stop : run is_ink t ≡ 0) where
  stays : drop_blanks (w ++ t) ≡ w ++ t
  unfolding drop_blanks
  stays = rw (ink_first w t some (every_at is_ink w ink 0 some))

  word_size : run is_ink (w ++ t) ≡ length w
  word_size = run_past is_ink w t ink stop

  the_word : word (w ++ t) ≡ w
  unfolding word
  the_word = rw word_size (take-append_seam w t)

  the_rest : drop_word (w ++ t) ≡ t
  unfolding drop_word
  the_rest = rw word_size (drop-append_seam w t)

  pub one_field : (n : ℕ) → fields (suc n) (w ++ t) ≡ field (read_number w) (fields n t)
  unfolding fields
  one_field n = rw (stays, the_word, the_rest)

pub blank_first : (n b : ℕ) (s : List ℕ) → is_blank b ≡ true → fields n (b ∷ s) ≡ fields n s
unfolding fields drop_blanks run
blank_first zero b s h = rw h
blank_first (suc n) b s h = rw h

-- ---- the bytes of numbers and blanks

-- digits, the minus sign, blanks and tabs
unfoldable pub is_plain : ℕ → Bool
is_plain b = is_numeral b || is_blank b

pub digit_numeral : (b : ℕ) → is_digit b ≡ true → is_numeral b ≡ true
unfolding is_numeral
digit_numeral b h = rw h

pub numeral_plain : (b : ℕ) → is_numeral b ≡ true → is_plain b ≡ true
unfolding is_plain
numeral_plain b h = rw h

pub blank_plain : (b : ℕ) → is_blank b ≡ true → is_plain b ≡ true
unfolding is_plain
blank_plain b h = rw h (or-true (is_numeral b))

pub numeral_ink : (b : ℕ) → is_numeral b ≡ true → is_ink b ≡ true
unfolding is_ink is_blank is_numeral is_digit
numeral_ink b h = simp (ne_eqb b 32 (differ is_numeral b 32 h refl), ne_eqb b 9 (differ is_numeral b 9 h refl))

pub digit_ink : (b : ℕ) → is_digit b ≡ true → is_ink b ≡ true
digit_ink b h = numeral_ink b (digit_numeral b h)

pub digit_plain : (b : ℕ) → is_digit b ≡ true → is_plain b ≡ true
digit_plain b h = numeral_plain b (digit_numeral b h)

-- ---- a line of numbers and blanks

module _ (line : List ℕ) (some : 0 < length line) (plain : every is_plain line ≡ true) where
  -- a byte that is none of these does not stand in the line
  none : (k i : ℕ) → i < length line → is_plain k ≡ false → eqb (get_or line i 0) k ≡ false
  none k i h p = ne_eqb _ k (differ is_plain _ k (every_at is_plain line plain i h) p)

  module _ (n : ℕ) (xs : List ℕ) (e : fields (suc n) line ≡ Case xs) where
    plain_says : says line ≡ case_of xs
    unfolding says is_plain is_numeral is_digit is_blank
    plain_says = rw (words_left n line xs e, none 35 0 some refl) (one_case (suc n) line xs e)

    pub plain_case : length line ≤ longest_line → read_line line ≡ case_of xs
    unfolding read_line text_length is_plain is_numeral is_digit is_blank
    plain_case fits = rw (le-ltb longest_line (length line) fits, none 13 (length line - 1) (omega arith) refl, take-length line) plain_says

    pub plain_case_return : length line < longest_line → read_line (line ++ (13 ∷ [])) ≡ case_of xs
    unfolding read_line text_length
    plain_case_return fits =
        let longer : length (line ++ (13 ∷ [])) ≡ length line + 1 = length-append line (13 ∷ []) in
        let last : length (line ++ (13 ∷ [])) - 1 ≡ length line = omega arith in
        let short = le-ltb longest_line (length (line ++ (13 ∷ []))) (omega arith) in
        rw (short, last, get_or-append_seam line 13 [] 0, take-append_seam line (13 ∷ [])) plain_says

-- How bytes are cut into lines: at their first line feed, or where they have none, into one line. Assumes nothing.
use Rattle.std.specs.Prelude.{Bool, true, false, cond, not, map, List, [], ◌∷◌, ◌++◌, ◌≡◌, refl, ℕ, zero, suc, ◌+◌, ◌≤◌, ◌<◌, eqb}
use Rattle.std.specs.Prelude.{length, get_or, take, drop, Some, None}
use Rattle.std.proofs.Common.{sym, ap, ◌∙◌, arith, add-one, ne_eqb, eq-eqb, eqb-true}
use Rattle.std.proofs.Common.{take-append-drop, drop-cons, get_or-take, length-take-le}
use Rattle.std.proofs.lemmas.List.{length-map}
use Rattle.bools.proofs.Laws.Tests.{both}
use Rattle.memchr.specs.Find.{IsFirstByte, is_byte}
use Rattle.text.specs.declared.line.Said.{Said}
use Rattle.text.specs.Gather.{is_in_line, line_room}
use Rattle.text.specs.Laws.Gather.{start_decides}
use Rattle.text.specs.Line.{read_line}
use Rattle.text.specs.Number.{every}
use Rattle.text.specs.Words.{run}
use Rattle.input.specs.Lines.{put_in_front, lines, kept_lines, said_lines}

-- ---- bytes without a line feed, and then one

pub lines_whole : (l t : List ℕ) → every is_in_line l ≡ true → lines (l ++ (10 ∷ t)) ≡ l ∷ lines t
unfolding every lines put_in_front is_in_line
lines_whole [] t h = refl
lines_whole (b ∷ l) t h =
    let first = both (is_in_line b) (every is_in_line l) h in
    rw (first.0, lines_whole l t first.1)

one_line : (b : ℕ) (l : List ℕ) → every is_in_line (b ∷ l) ≡ true → lines (b ∷ l) ≡ (b ∷ l) ∷ []
unfolding every lines put_in_front
one_line b [] h = rw (both (is_in_line b) true h).0
one_line b (c ∷ l) h =
    let first = both (is_in_line b) (every is_in_line (c ∷ l)) h in
    rw (first.0, one_line c l first.1)

pub lines_last : (l : List ℕ) → 0 < length l → every is_in_line l ≡ true → lines l ≡ l ∷ []
lines_last [] some h = absurd (omega arith)
lines_last (b ∷ l) some h = one_line b l h

-- a byte is in a line
some_line : (b : ℕ) (t : Bool) (ls : List (List ℕ)) → map (take line_room) (cond t (put_in_front b ls) ([] ∷ ls)) ≡ [] → ⊥
unfolding put_in_front
some_line b true [] e = cc
some_line b true (l ∷ ls) e = cc
some_line b false ls e = cc

-- so bytes that have no lines are none
pub no_lines : (s : List ℕ) → kept_lines s ≡ [] → s ≡ []
unfolding kept_lines lines
no_lines [] e = refl
no_lines (b ∷ s) e = absurd (some_line b (is_in_line b) (lines s) e)

-- ---- how many lines there are

pub as_many_lines : (s : List ℕ) → length (kept_lines s) ≡ length (lines s)
unfolding kept_lines
as_many_lines s = length-map (lines s) (take line_room)

one_more : (b : ℕ) (t : Bool) (ls : List (List ℕ)) → length (cond t (put_in_front b ls) ([] ∷ ls)) ≤ suc (length ls)
unfolding put_in_front
one_more b true [] = omega arith
one_more b true (l ∷ ls) = omega arith
one_more b false ls = omega arith

pub fewer_lines : (s : List ℕ) → length (lines s) ≤ length s
unfolding lines
fewer_lines [] = omega arith
fewer_lines (b ∷ s) = omega (arith, one_more b (is_in_line b) (lines s), fewer_lines s)

-- ---- the first line feed

-- a line feed stands at k, and none before it
pub record EndsAt (s : List ℕ) (k : ℕ) : Type 0 where
  pub within : k < length s
  pub none : every is_in_line (take k s) ≡ true
  pub feed : get_or s k 0 ≡ 10

pub split : (s : List ℕ) (k : ℕ) → EndsAt s k → s ≡ take k s ++ (10 ∷ drop (k + 1) s)
split s k e =
    sym (take-append-drop k s)
    ∙ ap (λ (t : List ℕ). take k s ++ t) (drop-cons s k 0 e.within)
    ∙ ap (λ (b : ℕ). take k s ++ (b ∷ drop (suc k) s)) e.feed
    ∙ ap (λ (n : ℕ). take k s ++ (10 ∷ drop n s)) (sym (add-one k))

every_byte : (s : List ℕ) → ((i : ℕ) → i < length s → is_in_line (get_or s i 0) ≡ true) → every is_in_line s ≡ true
unfolding every
every_byte [] h = refl
every_byte (b ∷ s) h = rw (h 0 (omega arith)) (every_byte s (λ i k. h (suc i) (omega arith)))

other : (b : ℕ) → (eqb b 10 ≡ true → ⊥) → is_in_line b ≡ true
unfolding is_in_line
other b h = ap not (ne_eqb b 10 (λ e. h (eq-eqb b 10 e)))

-- what a search for the first line feed finds
pub found : (s : List ℕ) (k : ℕ) → IsFirstByte (is_byte 10) s (Some k) → EndsAt s k
found s k first =
    let before : (i : ℕ) → i < k → is_in_line (get_or (take k s) i 0) ≡ true =
    λ i h. ap is_in_line (get_or-take k s i 0 h) ∙ other _ (first.0.before i (omega arith) h)
    in
    record {
      within = first.0.high;
      none = every_byte (take k s) (λ i h. before i (omega (arith, h, length-take-le k s (omega (arith, first.0.high)))));
      feed = eqb-true _ _ first.1;
    }

pub found_none : (s : List ℕ) → IsFirstByte (is_byte 10) s None → every is_in_line s ≡ true
found_none s none = every_byte s (λ i h. other _ (none i (omega arith) h))

-- a byte that is none
line_feed_is : (b : ℕ) (t : Bool) → eqb b 10 ≡ t → not t ≡ false → b ≡ 10
line_feed_is b true e h = eqb-true b 10 e
line_feed_is b false e h = cc

after_byte : (b : ℕ) (s : List ℕ) (t : Bool) → is_in_line b ≡ t → (run is_in_line s < length s → EndsAt s (run is_in_line s))
    → cond t (suc (run is_in_line s)) zero < length (b ∷ s) → EndsAt (b ∷ s) (cond t (suc (run is_in_line s)) zero)
unfolding every is_in_line
after_byte b s true e ends h =
    let next = ends (omega arith) in
    record { within = h; none = rw e next.none; feed = next.feed }
after_byte b s false e ends h = record { within = h; none = refl; feed = line_feed_is b (eqb b 10) refl e }

-- the run of bytes before it
pub run_ends : (s : List ℕ) → run is_in_line s < length s → EndsAt s (run is_in_line s)
unfolding run
run_ends [] h = absurd (omega arith)
run_ends (b ∷ s) h = after_byte b s (is_in_line b) refl (run_ends s) h

-- ---- what is kept of the lines decides what they say

start_says : (ls : List (List ℕ)) → map read_line (map (take line_room) ls) ≡ map read_line ls
start_says [] = refl
start_says (l ∷ ls) = rw (start_decides l, start_says ls)

kept_lines_say : (s : List ℕ) → map read_line (kept_lines s) ≡ said_lines s
unfolding kept_lines said_lines
kept_lines_say s = start_says (lines s)

pub first_says : (xs ys line : List ℕ) → kept_lines xs ≡ line ∷ kept_lines ys → said_lines xs ≡ read_line line ∷ said_lines ys
first_says xs ys line e =
    sym (kept_lines_say xs) ∙ ap (map read_line) e ∙ ap (λ (s : List Said). read_line line ∷ s) (kept_lines_say ys)

pub none_says : (xs : List ℕ) → kept_lines xs ≡ [] → said_lines xs ≡ []
none_says xs e = sym (kept_lines_say xs) ∙ ap (map read_line) e

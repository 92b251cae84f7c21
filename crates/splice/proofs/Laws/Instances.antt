-- The laws that have premises, on a list of six: each premise is met. Assumes nothing.
use Rattle.std.specs.Prelude.{List, [], ◌∷◌, ◌++◌, ◌≡◌, refl, ℕ, length, get_or, take, drop, set}
use Rattle.std.proofs.Common.{lit<, lit≤}
use Rattle.std.proofs.lemmas.List.Edits.{sets}
use Rattle.splice.specs.Splice.{splice}
use Rattle.splice.specs.Put.{Put, PutWithin}
use Rattle.splice.proofs.Laws.Splice.{splice_length, splice_before, splice_past, splice_one, splice_after, splice_again, splice_over}
use Rattle.splice.proofs.Laws.Splice.{splice_sets, copy_one}
use Rattle.splice.proofs.Laws.Put.{put_nothing, put_as, put_within_as, put_then}

abbrev six : List ℕ
six = 1 ∷ 2 ∷ 3 ∷ 4 ∷ 5 ∷ 6 ∷ []

abbrev part : List ℕ
part = 7 ∷ 8 ∷ []

replaced : splice six 1 part ≡ 1 ∷ 7 ∷ 8 ∷ 4 ∷ 5 ∷ 6 ∷ []
unfolding splice
replaced = refl

as_long : length (splice six 1 part) ≡ 6
as_long = splice_length six 1 part (lit≤ tt)

before : take 1 (splice six 1 part) ≡ 1 ∷ []
before = splice_before six 1 part (lit≤ tt)

after : drop 4 (splice six 1 part) ≡ 5 ∷ 6 ∷ []
after = splice_past six 1 part 1 (lit≤ tt)

one : splice six 5 (9 ∷ []) ≡ 1 ∷ 2 ∷ 3 ∷ 4 ∷ 5 ∷ 9 ∷ []
one = rw (← splice_one six 5 9 (lit< tt)) refl

two_parts : splice (splice six 1 part) 3 part ≡ splice six 1 (part ++ part)
two_parts = splice_after six 1 part part (lit≤ tt)

anew : splice (splice six 1 part) 1 (9 ∷ []) ≡ splice six 1 (9 ∷ 8 ∷ [])
anew = splice_again six 1 7 9 (8 ∷ []) (lit≤ tt)

written : Put six 1 part (splice six 1 part) 3
written = record { place_is = refl; list_is = refl }

both_written : Put six 1 (part ++ part) (splice (splice six 1 part) 3 part) 5
both_written = put_then six 1 part part (lit≤ tt) written (record { place_is = refl; list_is = refl })

same_written : Put six 2 [] six 2
same_written = put_as six 2 refl (put_nothing six 2)

written_within : PutWithin six 1 part (splice six 1 part) 3 4
written_within = put_within_as six 1 refl (record { put = written; within = lit≤ tt })

copied : take 1 (set six 0 (get_or part 0 0)) ≡ 7 ∷ []
copied = copy_one six part 0 (lit< tt) (lit< tt) refl

over : splice (splice six 1 (part ++ part)) 3 (9 ∷ 9 ∷ []) ≡ splice six 1 (part ++ (9 ∷ 9 ∷ []))
over = splice_over six 1 part part (9 ∷ 9 ∷ []) (lit≤ tt) (lit≤ tt)

stored : sets six 1 part ≡ splice six 1 part
stored = splice_sets six 1 part (lit≤ tt)

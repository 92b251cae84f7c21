-- Demand 2 for the operations, which go by a book's mark: what was built from cases reads back and is accepted, a book that fits is not
-- refused, and an accepted book of the new layout builds again to the same bytes, from the cases that `read` answers, and can be appended
-- to. And what a refusal leaves. Each is the law of any lawful layout. Assumes nothing.
use Rattle.std.specs.Prelude.{true, List, [], ◌∷◌, ◌++◌, ◌≡◌, ℕ, ◌≤◌, ◌<◌, length, get_or, take, drop}
use Rattle.std.proofs.Common.{sym, ap, subst, ◌∙◌, suc-ne-zero, arith}
use Rattle.book_laws.specs.Bytes.{below}
use Rattle.book_laws.specs.Layout.{Layout}
use Rattle.book_laws.specs.Format.{answered_fields}
use Rattle.book_laws.specs.Start.{Written}
use Rattle.book_laws.specs.Accept.{Acceptance, accept_in, AcceptedIn}
use Rattle.book_laws.specs.Build.{all_cases, append_all}
use Rattle.book_laws.specs.Book.{
  layout_of,
  new_layout,
  IsNew,
  describe,
  start_of,
  append_of,
  read_of,
  cases_of,
  accept_of,
  Accepted,
  DisagreesFirst,
  Appended,
  build,
  built,
  Fits,
  Kept,
}
use Rattle.book_laws.proofs.Laws.Mark.{new_lawful, described_new, append_new}
use Rattle.book_laws.proofs.Laws.Accept.{accepted_in, accepts_in}
use Rattle.book_laws.proofs.Laws.Refused.{Unwritten, Unread, Unaccepted, start_in_refused, append_in_refused, read_in_refused}
use Rattle.book_laws.proofs.Laws.Refused.{accept_in_refused}
use Rattle.book_laws.proofs.Laws.Build.{build_in_fits}
use Rattle.book_laws.proofs.Laws.ReadBack.{kept_in}
use Rattle.book_laws.proofs.Laws.Cases.{cases_as_read_in, cases_read}
use Rattle.book_laws.proofs.Laws.Rebuild.{rebuilt_in, rebuilt_in_whole}
use Rattle.book_laws.proofs.Laws.Appended.{appended_in, all_appended_in}

-- a book that is accepted by the new layout is of it
accepted_new :
    (b : List ℕ) (used : ℕ) {count note : ℕ} →
    accept_in new_layout b used ≡ record { number = 0; count = count; note = note; named = 0 } → IsNew b used
accepted_new b used is = described_new b used (accepted_in new_layout b used (ap (λ (a : Acceptance). a.number) is)).trailer_right

module _ (b : List ℕ) (note : ℕ) (xs : List (List ℕ)) (cases : all_cases new_layout xs ≡ true) where
  -- a book that fits is refused by neither 24 nor 25
  pub build_fits : Fits b note (length xs) → build b note xs ≡ built b note xs
  build_fits = build_in_fits new_lawful b note xs cases

  pub kept :
      (build b note xs).number ≡ 0 →
      let w = build b note xs in
      IsNew w.bytes w.used × Kept b note xs w
  kept none =
      let w = build b note xs in
      let kept = kept_in new_lawful b note xs cases none in
      (accepted_new w.bytes w.used kept.accepted, kept)

-- Accept accepts the accepted books.

module _ (b : List ℕ) (used : ℕ) where
  pub accepted : (accept_of b used).number ≡ 0 → Accepted b used
  accepted = accepted_in (layout_of b used) b used

  pub accepts :
      let d = describe b used in
      Accepted b used → accept_of b used ≡ record { number = 0; count = d.count; note = d.first; named = 0 }
  accepts = accepts_in (layout_of b used) b used

-- the cases of an accepted book are those that `read` answers, each with zeros for the inputs that the book's layout does not store, and
-- with its answer and its rating by the layout's rule
pub cases_as_read :
    (b : List ℕ) (used : ℕ) → Accepted b used → (i : ℕ) → i < (describe b used).count →
    read_of b used i ≡ record { number = 0; fields = answered_fields (layout_of b used) (get_or (cases_of b used) i []) }
cases_as_read b used fine i is_record =
    rw (cases_read (layout_of b used) b used fine.trailer_right (describe b used).count (omega arith))
    (cases_as_read_in (layout_of b used) b used i is_record fine)

module _ (b : List ℕ) (used : ℕ) (bytes : below 256 b ≡ true) (is_new : IsNew b used) (fine : Accepted b used) where
  fine_new : AcceptedIn new_layout b used
  fine_new = subst (λ (l : Layout). AcceptedIn l b used) is_new fine

  -- in a buffer that is long enough and has the note at its front; what stood behind stays
  pub rebuilt :
      let d = describe b used in
      (c : List ℕ) → used ≤ length c → take d.first c ≡ take d.first b →
      build c d.first (cases_of b used) ≡ record { number = 0; used = used; bytes = take used b ++ drop used c }
  rebuilt = rw is_new (rebuilt_in new_lawful b used bytes fine_new)

  -- in a buffer as long as the book
  pub rebuilt_whole :
      let d = describe b used in
      (c : List ℕ) → length c ≡ used → take d.first c ≡ take d.first b →
      build c d.first (cases_of b used) ≡ record { number = 0; used = used; bytes = take used b }
  rebuilt_whole = rw is_new (rebuilt_in_whole new_lawful b used bytes fine_new)

  -- any number of cases more, whichever way the book was made
  pub all_appended :
      let d = describe b used in
      let book : Written = record { number = 0; used = used; bytes = b } in
      (xs : List (List ℕ)) → all_cases new_layout xs ≡ true → (append_all new_layout book xs).number ≡ 0 →
      Kept b d.first (cases_of b used ++ xs) (append_all new_layout book xs)
  all_appended = rw is_new (all_appended_in new_lawful b used bytes fine_new)

-- one case more
pub appended :
    (b : List ℕ) (used : ℕ) (x : List ℕ) → below 256 b ≡ true → Accepted b used → all_cases new_layout (x ∷ []) ≡ true →
    (append_of b used x).number ≡ 0 →
    let w = append_of b used x in
    IsNew b used × IsNew w.bytes w.used × Appended b used x w
appended b used x bytes fine is_a_case none =
    let w = append_of b used x in
    let is_new = append_new b used x none in
    let more = appended_in new_lawful b used bytes (fine_new b used bytes is_new fine) x is_a_case none in
    (is_new, accepted_new w.bytes w.used more.accepted, more)

-- What a refusal leaves: the number, zeros, and every byte as it was.

module _ (b : List ℕ) where
  pub start_refused : (note : ℕ) → ((start_of b note).number ≡ 0 → ⊥) → start_of b note ≡ record { number = 24; used = 0; bytes = b }
  start_refused = start_in_refused new_layout b

  pub append_refused : (used : ℕ) (x : List ℕ) → ((append_of b used x).number ≡ 0 → ⊥) → Unwritten b (append_of b used x)
  append_refused = append_in_refused new_layout b

  pub read_refused : (used i : ℕ) → ((read_of b used i).number ≡ 0 → ⊥) → Unread (read_of b used i)
  read_refused used = read_in_refused (layout_of b used) b used

  pub accept_refused : (used : ℕ) → ((accept_of b used).number ≡ 0 → ⊥) → Unaccepted (layout_of b used) b used (accept_of b used)
  accept_refused used = accept_in_refused (layout_of b used) b used

  pub first_named : (used : ℕ) → (accept_of b used).number ≡ 23 → DisagreesFirst b used (accept_of b used).named
  first_named used is-23 = (accept_refused used (λ none. suc-ne-zero 22 (sym is-23 ∙ none))).names is-23

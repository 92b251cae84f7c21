-- The operations on books. This is the one place that picks a layout: of a book, and of a new book. Assumes nothing.
use Rattle.std.specs.Prelude.{cond, List, ◌≡◌, ℕ, ◌-◌}
use Rattle.book_laws.specs.Bytes.{stands}
use Rattle.book_laws.specs.Layout.{Layout, trailer_length, rbk1, rbk2}
use Rattle.book_laws.specs.Trailer.{Description, describe_in}
use Rattle.book_laws.specs.Start.{Written, start_in}
use Rattle.book_laws.specs.Append.{append_in}
use Rattle.book_laws.specs.Read.{Fields, read_in, cases_read_in}
use Rattle.book_laws.specs.Accept.{Acceptance, accept_in, AcceptedIn, DisagreesFirstIn}
use Rattle.book_laws.specs.Build.{build_in}
use Rattle.book_laws.specs.Built.{built_in, FitsIn, KeptIn}
use Rattle.book_laws.specs.Appended.{AppendedIn}

-- of the book in b: RBK1 where that mark stands, and else RBK2, whose mark refusal 21 then asks for
unfoldable pub layout_of : List ℕ → ℕ → Layout
layout_of b used = cond (stands rbk1.mark b (used - trailer_length rbk1)) rbk1 rbk2

-- start writes it, and append takes no other
abbrev pub new_layout : Layout
new_layout = rbk2

-- the book in b is of the new layout, so that read and accept go by it
abbrev pub IsNew : List ℕ → ℕ → Type 0
IsNew b used = layout_of b used ≡ new_layout

abbrev pub describe : List ℕ → ℕ → Description
describe b used = describe_in (layout_of b used) b used

abbrev pub start_of : List ℕ → ℕ → Written
start_of b note = start_in new_layout b note

abbrev pub append_of : List ℕ → ℕ → List ℕ → Written
append_of b used x = append_in new_layout b used x

abbrev pub read_of : List ℕ → ℕ → ℕ → Fields
read_of b used index = read_in (layout_of b used) b used index

-- the cases of a book, as read answers them: the inputs that its layout stores
abbrev pub cases_of : List ℕ → ℕ → List (List ℕ)
cases_of b used = cases_read_in (layout_of b used) b used (describe b used).count

abbrev pub accept_of : List ℕ → ℕ → Acceptance
accept_of b used = accept_in (layout_of b used) b used

abbrev pub Accepted : List ℕ → ℕ → Type 0
Accepted b used = AcceptedIn (layout_of b used) b used

-- record k, from 1, is the one that 23 names
abbrev pub DisagreesFirst : List ℕ → ℕ → ℕ → Type 0
DisagreesFirst b used k = DisagreesFirstIn (layout_of b used) b used k

-- w is what appending the case x to the accepted book in b left
abbrev pub Appended : List ℕ → ℕ → List ℕ → Written → Type 0
Appended b used x w = AppendedIn new_layout b used x w

-- A fresh book with cases appended to it.

abbrev pub build : List ℕ → ℕ → List (List ℕ) → Written
build b note xs = build_in new_layout b note xs

abbrev pub built : List ℕ → ℕ → List (List ℕ) → Written
built b note xs = built_in new_layout b note xs

abbrev pub Fits : List ℕ → ℕ → ℕ → Type 0
Fits b note n = FitsIn new_layout b note n

abbrev pub Kept : List ℕ → ℕ → List (List ℕ) → Written → Type 0
Kept b note xs w = KeptIn new_layout b note xs w

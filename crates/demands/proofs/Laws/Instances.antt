-- The demands on the small book of docs/BOOK.md, which has the record of one cable, on a book of RBK1, and on cases that are rated and
-- refused. So every premise of every demand is met by something. Assumes nothing.
use Rattle.std.specs.Prelude.{List, [], ◌∷◌, ◌++◌, ◌≡◌, refl, ℕ, replicate}
use Rattle.std.proofs.Common.{sym, ap, ◌∙◌, suc-ne-zero, lit≤}
use Rattle.exact.specs.Fraction.{whole, ◌≤F◌, ◌<F◌}
use Rattle.rating.specs.Values.{permitted_of}
use Rattle.rating.specs.Rate.{Answer, rate_of}
use Rattle.rating.specs.Exact.{exact_rise}
use Rattle.rating.proofs.Laws.Answers.{cable, aluminium, answered}
use Rattle.rating.proofs.Laws.Instances.{chosen, chosen_allowed}
use Rattle.rating.specs.Laws.Logarithms.{lowest}
use Rattle.book_laws.specs.Bytes.{number_at, stands, below}
use Rattle.book_laws.specs.Trailer.{wrong_trailer, describe_at, describe_in, on_book_in}
use Rattle.book_laws.specs.Record.{all_agree}
use Rattle.book_laws.specs.Start.{Written}
use Rattle.book_laws.specs.Append.{append_after, append_in}
use Rattle.book_laws.specs.Accept.{Acceptance}
use Rattle.book_laws.specs.Build.{all_cases}
use Rattle.book_laws.specs.Built.{built_in}
use Rattle.book_laws.specs.Book.{layout_of, IsNew, start_of, append_of, accept_of, cases_of}
use Rattle.book_laws.specs.Book.{Accepted, DisagreesFirst, Appended, build, Kept}
use Rattle.book_laws.proofs.Laws.Literal.{small_book, fresh_book, literal, edges}
use Rattle.book_laws.proofs.Laws.Named.{book, named}
use Rattle.book_laws.proofs.Laws.Older.{older_book, older}
use Rattle.demands.proofs.Demands.{demand_1, demand_2, demand_3}

-- Demand 1: a case that 7 refuses, a buffer that is one byte too short for start and for append, a book of RBK1 with room behind it, and a
-- book whose last two records disagree.

refused_case : ((rate_of aluminium).rating ≡ 0) × ((rate_of aluminium).sheet ≡ replicate 13 0)
refused_case =
    demand_1.refused_case aluminium (λ none. suc-ne-zero 6 (sym (ap (λ (a : Answer). a.number) answered.refused_7) ∙ none))

refused_start : (start_of (replicate 17 7) 2).bytes ≡ replicate 17 7
refused_start =
    demand_1.refused_start (replicate 17 7) 2
    (λ none. suc-ne-zero 23 (sym (ap (λ (w : Written). w.number) edges.start_short) ∙ none))

refused_append : (append_of (fresh_book 127) 18 cable).bytes ≡ fresh_book 127
refused_append =
    demand_1.refused_append (fresh_book 127) 18 cable
    (λ none. suc-ne-zero 23 (sym (ap (λ (w : Written). w.number) (edges.append_short cable)) ∙ none))

older_append : append_of (older_book ++ replicate 128 7) 130 cable ≡ record { number = 21; used = 0; bytes = older_book ++ replicate 128 7 }
unfolding stands
older_append = demand_1.older_append (older_book ++ replicate 128 7) 130 cable (lit≤ tt) refl

last_two_disagree :
    let b = book 457106 457105 457107 in
    DisagreesFirst b 400 (accept_of b 400).named
last_two_disagree = demand_1.first_named (book 457106 457105 457107) 400 (ap (λ (a : Acceptance). a.number) named.last_two)

-- Demand 2: the cable and the case of 30 zeros in a fresh book, the small book built again, and the cable appended to a book of no records.

abbrev two_cases : List (List ℕ)
two_cases = cable ∷ replicate 30 0 ∷ []

kept :
    let w = build (replicate 282 7) 2 two_cases in
    IsNew w.bytes w.used × Kept (replicate 282 7) 2 two_cases w
unfolding all_cases below built_in
kept =
    let fits = demand_2.fits (replicate 282 7) 2 two_cases refl (record { room = lit≤ tt; most = lit≤ tt }) in
    demand_2.kept (replicate 282 7) 2 two_cases refl (ap (λ (w : Written). w.number) fits)

fine : Accepted small_book 146
fine = demand_2.accepted small_book 146 (ap (λ (a : Acceptance). a.number) literal.accepts)

accepts : accept_of small_book 146 ≡ record { number = 0; count = 1; note = 2; named = 0 }
unfolding describe_in describe_at wrong_trailer stands layout_of number_at
accepts = demand_2.accepts small_book 146 fine

rebuilt : build (79 ∷ 75 ∷ replicate 145 7) 2 (cases_of small_book 146) ≡ record { number = 0; used = 146; bytes = small_book ++ (7 ∷ []) }
unfolding describe_in describe_at wrong_trailer stands layout_of number_at below
rebuilt = demand_2.rebuilt small_book 146 refl refl fine (79 ∷ 75 ∷ replicate 145 7) (lit≤ tt) refl

fresh : Accepted (fresh_book 256) 18
unfolding describe_in describe_at wrong_trailer stands layout_of all_agree number_at
fresh = record { trailer_right = refl; records_agree = refl }

appended :
    let w = append_of (fresh_book 256) 18 cable in
    IsNew (fresh_book 256) 18 × IsNew w.bytes w.used × Appended (fresh_book 256) 18 cable w
unfolding all_cases append_in append_after on_book_in describe_in describe_at wrong_trailer stands layout_of number_at below
appended = demand_2.appended (fresh_book 256) 18 cable refl fresh refl refl

-- Demand 3: the small book's record, with chosen fractions and with the lowest that there are, and the record of the book of RBK1.

under : exact_rise cable chosen (whole 457106) ≤F whole (permitted_of cable)
under = demand_3.under small_book 146 fine 0 457106 cable literal.reads chosen chosen_allowed

over : whole (permitted_of cable) <F exact_rise cable chosen (whole 457108)
over = demand_3.over small_book 146 fine 0 457106 cable literal.reads chosen chosen_allowed

under_lowest : exact_rise cable (lowest cable) (whole 457106) ≤F whole (permitted_of cable)
under_lowest = demand_3.under small_book 146 fine 0 457106 cable literal.reads (lowest cable) (demand_3.some cable)

older_fine : Accepted older_book 130
older_fine = demand_2.accepted older_book 130 (ap (λ (a : Acceptance). a.number) older.accepts)

older_under : exact_rise cable chosen (whole 457106) ≤F whole (permitted_of cable)
older_under = demand_3.under older_book 130 older_fine 0 457106 cable older.reads chosen chosen_allowed

older_over : whole (permitted_of cable) <F exact_rise cable chosen (whole 457108)
older_over = demand_3.over older_book 130 older_fine 0 457106 cable older.reads chosen chosen_allowed

-- The three demands are theorems: each part of a demand is a law of `rating` or of `book_laws`. Assumes nothing.
use Rattle.std.proofs.Common.{ap}
use Rattle.rating.specs.Rate.{refused}
use Rattle.rating.proofs.Laws.First.{by_refusals}
use Rattle.rating.proofs.Laws.Refused.{refused_zeros}
use Rattle.rating.proofs.Laws.Passed.{rated_stages}
use Rattle.rating.proofs.Laws.Logarithms.{lowest_allowed}
use Rattle.book_laws.specs.Start.{Written, unwritten}
use Rattle.book_laws.specs.Read.{unread}
use Rattle.book_laws.specs.Accept.{unaccepted}
use Rattle.book_laws.specs.Book.{layout_of, new_layout}
use Rattle.book_laws.proofs.Laws.First.{start_by_refusals, append_by_refusals, read_by_refusals, accept_by_refusals}
use Rattle.book_laws.proofs.Laws.Mark.{append_older}
use Rattle.book_laws.proofs.Laws.Demands as Law
use Rattle.book_laws.proofs.Laws.Margin as Margin
use Rattle.demands.specs.Demands.{Demand1, Demand2, Demand3}

pub demand_1 : Demand1
unfolding refused unwritten unread unaccepted
demand_1 =
    record {
      case = by_refusals;
      start = start_by_refusals new_layout;
      append = append_by_refusals new_layout;
      read = λ b used. read_by_refusals (layout_of b used) b used;
      accept = λ b used. accept_by_refusals (layout_of b used) b used;
      refused_case = λ x given. let zeros = refused_zeros x given in (zeros.rating, zeros.sheet);
      refused_start = λ b note given. ap (λ (w : Written). w.bytes) (Law.start_refused b note given);
      refused_append = λ b used x given. (Law.append_refused b used x given).bytes_stay;
      older_append = append_older;
      first_named = Law.first_named;
    }

pub demand_2 : Demand2
demand_2 =
    record {
      stages = rated_stages;
      kept = Law.kept;
      fits = Law.build_fits;
      accepted = Law.accepted;
      accepts = Law.accepts;
      rebuilt = Law.rebuilt;
      appended = Law.appended;
    }

pub demand_3 : Demand3
demand_3 = record { under = Margin.safe; over = Margin.close; some = lowest_allowed }

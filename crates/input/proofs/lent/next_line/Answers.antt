-- `input::lent::next_line` meets its contract: a line is added to only as far as its buffer has room, and a line feed that was found stands
-- before the end of the chunk's bytes.
-- Assumes nothing.
use Rattle.std.proofs.Common.{rules, List, length, length-take, ℕ, ◌+◌, ◌-◌, ◌≡◌, ◌≤◌, ap, arith}
use Rattle.text.specs.Gather.{kept, piece}
use Rattle.input.proofs.lent.next_line.Goals as goal
use Rattle.input.proofs.lent.next_line.Goals.{else-loop-reads-test, then-loop-reads-test+else-stop-end+then-end-eq0}

-- a line of len bytes in a buffer of n, with as much more of the chunk as there is room for
within_room : {len new n : ℕ} (from to : ℕ) (chunk : List ℕ) → len ≤ n → new ≡ len + length (kept (n - len) from to chunk) → new ≤ n
unfolding kept
within_room {len} {new} {n} from to chunk fits more = omega (arith, more, length-take (n - len) (piece from to chunk))

pub returns-then-stop-end : goal.returns-then-stop-end
returns-then-stop-end g c =
    record {
      fits = omega (arith, within_room _ _ _ c.loop-reads.invariant.fits c.keep-len.ensures.place_is, c.keep-len.auto.line);
      ready = record { within = omega (arith, c.if-stop-end.true); inside = c.loop-reads.invariant.inside };
    }

pub loop-reads-preserved : goal.loop-reads-preserved
loop-reads-preserved g c =
    record {
      within = omega arith;
      inside = search rules;
      fits = omega (arith, within_room _ _ _ c.loop-reads.invariant.fits c.keep-len.ensures.place_is, c.keep-len.auto.line);
    }

pub returns : goal.returns
returns g c =
    record {
      fits =
          elim c.loop-reads-test.branch [
            | else-loop-reads-test w ↦ omega (arith, c.loop-reads.invariant.fits, w.len-is, ap length w.line-is)
            | then-loop-reads-test+else-stop-end+then-end-eq0 w ↦
                omega (
                  arith,
                  within_room _ _ _ c.loop-reads.invariant.fits w.keep-len.ensures.place_is,
                  w.keep-len.auto.line,
                  w.len-is,
                  ap length w.line-is,
                )
          ];
      ready = record { within = c.start.ensures.ready.within; inside = omega (arith, c.start.ensures.ready.inside) };
    }

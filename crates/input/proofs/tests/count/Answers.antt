-- `input::tests::count` meets its contract: the steps gave the lines of all bytes, which are at most as many as the bytes.
-- Assumes nothing.
use Rattle.std.proofs.Common.{List, Option, Some, length, map, ℕ, ◌++◌, ◌≡◌, ◌≤◌, ap, arith, length-append, refl, subst, sym, ◌∙◌}
use Rattle.std.proofs.lemmas.List.{length-map}
use Rattle.arrayvec.specs.ArrayVec.{ArrayVec}
use Rattle.input.specs.declared.Lines.{Lines}
use Rattle.input.specs.declared.tests.Portions.{Portions}
use Rattle.input.specs.Lines.{kept_lines}
use Rattle.input.specs.Laws.Lines.{as_many_lines, fewer_lines}
use Rattle.input.specs.Laws.Runs.{all_lines, given_lines}
use Rattle.input.specs.Stream.{Awaits}
use Rattle.input.proofs.tests.count.Goals as goal

abbrev known : Portions → Option (List ℕ)
known s = Some s.bytes.now

awaits_too : {l m : Lines Portions} {xs : List ℕ} → m ≡ l → Awaits known l xs → Awaits known m xs
awaits_too {xs = xs} same = subst (λ (l : Lines Portions). Awaits known l xs) (sym same)

as_many : (got : List (ArrayVec ℕ)) → length (map (λ (line : ArrayVec ℕ). line.items) got) ≡ length got
as_many got = length-map got (λ (line : ArrayVec ℕ). line.items)

more_given : (got : List (ArrayVec ℕ)) (xs ys : List ℕ) → kept_lines xs ≡ map (λ (line : ArrayVec ℕ). line.items) got ++ kept_lines ys
    → length got ≤ length xs
more_given got xs ys given =
    let all = ap length given ∙ length-append (map (λ (line : ArrayVec ℕ). line.items) got) (kept_lines ys) in
    omega (arith, all, as_many got, as_many_lines xs, fewer_lines xs)

pub overflow_add-count : goal.overflow_add-count
overflow_add-count c =
    let bytes = c.args.bytes.now in
    let begun = awaits_too c.into_iter-line-iterator.ensures.into_iter_gives (c.new-line-items.ensures.awaits bytes refl c.requires) in
    let given = given_lines known _ c.loop-line.yielded _ c.loop-line.yielded_by bytes begun in
    omega (arith, more_given c.loop-line.yielded bytes given.0 given.2)

pub returns : goal.returns
returns c =
    let bytes = c.args.bytes.now in
    let begun = awaits_too c.into_iter-line-iterator.ensures.into_iter_gives (c.new-line-items.ensures.awaits bytes refl c.requires) in
    let all = all_lines known _ c.loop-line.yielded (_, (_, c.loop-line.yielded_by, c.in-None.ensures.steps)) bytes begun in
    c.loop-line.invariant ∙ sym (as_many c.loop-line.yielded) ∙ ap length all ∙ as_many_lines bytes

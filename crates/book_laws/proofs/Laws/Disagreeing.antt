-- The first record that disagrees: where not all of a book's records agree there is one, all before it agree, and it is the record at which
-- a walk from the first one on stops. So what refusal 23 names is this record. Assumes nothing.
use Rattle.std.proofs.Common.{ltb-true, ltb-false}
use Rattle.std.proofs.lemmas.Bool.{not-true, not-false}
use Rattle.std.specs.Prelude.{Bool, true, false, List, ◌≡◌, ℕ, ◌+◌, ◌-◌, ◌<◌, ltb}
use Rattle.std.proofs.Math.Bool.{not}
use Rattle.std.proofs.Math.Path.{ap}
use Rattle.std.proofs.Common.{◌∙◌, arith}
use Rattle.bools.proofs.Laws.Tests.{by_outcome, other_outcome}
use Rattle.bools.proofs.Laws.Earliest.{earliest_passes, none_before, earliest_only}
use Rattle.book_laws.specs.Layout.{Layout}
use Rattle.book_laws.specs.Trailer.{describe_in}
use Rattle.book_laws.specs.Accept.{DisagreesFirstIn}
use Rattle.book_laws.specs.Record.{place_from, agrees, all_agree, first_disagreeing}
use Rattle.book_laws.proofs.Laws.Record.{all_agree_all, all_agree_each}

module _ (l : Layout) (b : List ℕ) (first : ℕ) where
  abbrev disagrees : ℕ → Bool
  disagrees i = not (agrees l b (place_from l first i))

  -- a walk that stops at record k
  pub disagreeing_at :
      (n k : ℕ) → k < n → all_agree l b first k ≡ true → agrees l b (place_from l first k) ≡ false → first_disagreeing l b first n ≡ k
  unfolding first_disagreeing
  disagreeing_at n k within so_far at-k =
      earliest_only disagrees n k within (ap not at-k) (λ i h. ap not (all_agree_each l b first k i so_far h))

  pub earlier_agree : (n i : ℕ) → i < first_disagreeing l b first n → agrees l b (place_from l first i) ≡ true
  unfolding first_disagreeing
  earlier_agree n i h = not-false _ (none_before disagrees n i h)

  pub disagreeing_within : (n : ℕ) → all_agree l b first n ≡ false → first_disagreeing l b first n < n
  disagreeing_within n not_all =
      let k = first_disagreeing l b first n in
      by_outcome (λ t. k < n) (ltb k n)
      (λ below. ltb-true k n below)
      (λ past. other_outcome (all_agree l b first n) not_all
      (all_agree_all l b first n (λ i h. let most = ltb-false k n past in earlier_agree n i (omega (arith, most, h)))))

  pub disagreeing_disagrees :
      (n : ℕ) → all_agree l b first n ≡ false → agrees l b (place_from l first (first_disagreeing l b first n)) ≡ false
  unfolding first_disagreeing
  disagreeing_disagrees n not_all = not-true _ (earliest_passes disagrees n (disagreeing_within n not_all))

-- counted from 1, it is the record that 23 names
pub named_first :
    (l : Layout) (b : List ℕ) (used : ℕ) →
    let d = describe_in l b used in
    all_agree l b d.first d.count ≡ false → DisagreesFirstIn l b used (first_disagreeing l b d.first d.count + 1)
named_first l b used not_all =
    let d = describe_in l b used in
    let k = first_disagreeing l b d.first d.count in
    let index : k + 1 - 1 ≡ k = omega arith in
    record {
      from_one = omega arith;
      to_count = omega (arith, disagreeing_within l b d.first d.count not_all);
      disagrees = ap (λ i. agrees l b (place_from l d.first i)) index ∙ disagreeing_disagrees l b d.first d.count not_all;
      earlier_agree = λ i h. earlier_agree l b d.first d.count i (omega (arith, h));
    }

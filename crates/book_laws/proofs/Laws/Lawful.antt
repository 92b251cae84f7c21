-- What the laws of a book need of its layout: every number that a book stores fits its bytes, and what the rule rates it rates as `rate_of`
-- does the stored inputs with zeros for the others. RBK1 and RBK2 are such layouts. Assumes nothing.
use Rattle.std.specs.Prelude.{true, List, ◌++◌, ◌≡◌, refl, ℕ, ◌*◌, ◌^◌, ◌≤◌, ◌<◌, length}
use Rattle.std.proofs.Common.{sym, ap, append-nil, suc-ne-zero, mul-le-mul_left, arith, lit<, lit≤}
use Rattle.bools.proofs.Laws.Tests.{either, passed}
use Rattle.rating.specs.Rate.{Answer, rate_of}
use Rattle.rating.proofs.Laws.Bounds.{Bounded, rate_of_bounded}
use Rattle.book_laws.specs.Bytes.{below}
use Rattle.book_laws.specs.Layout.{Layout, missing, record_length, refused_by_1, rbk1, rbk2}

pub record Lawful (l : Layout) : Type 0 where
  pub mark_length : length l.mark ≡ 4
  pub mark_bytes : below 256 l.mark ≡ true
  pub distance_fits : record_length l * l.most < 256 ^ l.width
  pub length_fits : record_length l < 4294967296
  pub bounded : (x : List ℕ) → Bounded (l.rule x)
  pub rates : (x : List ℕ) → (l.rule x).number ≡ 0 → l.rule x ≡ rate_of (x ++ missing l)

by_1_bounded : Bounded refused_by_1
by_1_bounded = record { number_most = lit≤ tt; rating_most = lit≤ tt }

pub rbk1_lawful : Lawful rbk1
unfolding below
rbk1_lawful = record {
  mark_length = refl;
  mark_bytes = refl;
  distance_fits = lit< tt;
  length_fits = lit< tt;
  bounded = λ x. either Bounded _ by_1_bounded (rate_of_bounded _);
  rates = λ x rated. (passed (λ (a : Answer). a.number) _ _ _ (suc-ne-zero 0) rated).1;
}

pub rbk2_lawful : Lawful rbk2
unfolding below
rbk2_lawful = record {
  mark_length = refl;
  mark_bytes = refl;
  distance_fits = lit< tt;
  length_fits = lit< tt;
  bounded = rate_of_bounded;
  rates = λ x rated. ap rate_of (sym (append-nil x));
}

-- an answer and a rating fit a field
module _ {l : Layout} (lawful : Lawful l) (x : List ℕ) where
  pub number_of : (l.rule x).number < 4294967296
  number_of = omega (arith, (lawful.bounded x).number_most)

  pub rating_of : (l.rule x).rating < 4294967296
  rating_of = omega (arith, (lawful.bounded x).rating_most)

-- the distance of a book of n records, and so their count, fit the bytes that they have
module _ {l : Layout} (lawful : Lawful l) (n : ℕ) (few : n ≤ l.most) where
  pub distance_of : record_length l * n < 256 ^ l.width
  distance_of = omega (arith, mul-le-mul_left (record_length l) few, lawful.distance_fits)

  pub count_of : n < 256 ^ l.width
  count_of = omega (arith, distance_of)

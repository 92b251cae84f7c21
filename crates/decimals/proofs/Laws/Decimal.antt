-- Laws of `decimal`: its two cases, an induction by them, how many digits a number has, its digits at a fixed count, and its
-- digits cut in two. Assumes nothing.
use Rattle.std.proofs.Common.{ℕ, zero, suc, ◌+◌, ◌-◌, ◌*◌, ◌/◌, ◌%◌, ◌^◌, ◌≤◌, ◌<◌}
use Rattle.std.specs.Prelude.{Bool, true, false, List, [], ◌∷◌, ◌++◌, ◌≡◌, refl, ◌⊎◌, ltb, length}
use Rattle.std.proofs.Common.{append_assoc, append-nil, sym, subst, ◌∙◌, inl, inr, ⊎_elim, pow-suc, lt_trans, div-one, add-zero}
use Rattle.std.proofs.Common.{add-suc, add-one, arith, lt-ltb, le-ltb, ltb-true, ltb-false, lit<, length-append}
use Rattle.std.proofs.Math.Path.{ap}
use Rattle.std.proofs.Math.Nat.{div-div-eq-div-mul, div-mul-le_self, mod-eq-sub-div-mul, one-le-pow}
use Rattle.decimals.specs.Decimal.{digits, decimal, padded, spaced}

-- below ten or not
small? : (x : ℕ) → (x < 10) ⊎ (10 ≤ x)
small? x = go (ltb x 10) refl
  where
    go : (t : Bool) → ltb x 10 ≡ t → (x < 10) ⊎ (10 ≤ x)
    go true e = inl (ltb-true x 10 e)
    go false e = inr (ltb-false x 10 e)

pub digits_small : (n x : ℕ) → x < 10 → digits (suc n) x ≡ (x + 48) ∷ []
unfolding digits
digits_small n x h = simp (lt-ltb x 10 h)

pub digits_large : (n x : ℕ) → 10 ≤ x → digits (suc n) x ≡ digits n (x / 10) ++ ((x % 10 + 48) ∷ [])
unfolding digits
digits_large n x h = simp (le-ltb x 10 h)

-- any count above x gives all digits of x
enough : (n m x : ℕ) → x < n → x < m → digits n x ≡ digits m x
enough zero m x h k = absurd (omega arith)
enough (suc n) zero x h k = absurd (omega arith)
enough (suc n) (suc m) x h k =
    ⊎_elim
    (λ s. digits_small n x s ∙ sym (digits_small m x s))
    (λ l.
    digits_large n x l
    ∙ ap (λ (d : List ℕ). d ++ ((x % 10 + 48) ∷ [])) (enough n m (x / 10) (omega arith) (omega arith))
    ∙ sym (digits_large m x l))
    (small? x)

pub decimal_small : (x : ℕ) → x < 10 → decimal x ≡ (x + 48) ∷ []
unfolding decimal
decimal_small x h = digits_small x x h

pub decimal_large : (x : ℕ) → 10 ≤ x → decimal x ≡ decimal (x / 10) ++ ((x % 10 + 48) ∷ [])
unfolding decimal
decimal_large x h =
    digits_large x x h ∙ ap (λ (d : List ℕ). d ++ ((x % 10 + 48) ∷ [])) (enough x (suc (x / 10)) (x / 10) (omega arith) (omega arith))

-- what holds below ten, and of x where it holds of a tenth of x, holds of every number
pub decimal_ind : (P : ℕ → Type 0) → ((x : ℕ) → x < 10 → P x) → ((x : ℕ) → 10 ≤ x → P (x / 10) → P x) → (x : ℕ) → P x
decimal_ind P s l x = go (suc x) x (omega arith)
  where
    go : (n y : ℕ) → y < n → P y
    go zero y h = absurd (omega arith)
    go (suc n) y h = ⊎_elim (λ k. s y k) (λ k. l y k (go n (y / 10) (omega arith))) (small? y)

pub count_small : (x : ℕ) → x < 10 → length (decimal x) ≡ 1
count_small x h = ap length (decimal_small x h)

pub count_large : (x : ℕ) → 10 ≤ x → length (decimal x) ≡ suc (length (decimal (x / 10)))
count_large x h = ap length (decimal_large x h) ∙ simp (length-append, add-one)

pub count_positive : (x : ℕ) → 0 < length (decimal x)
count_positive = decimal_ind (λ x. 0 < length (decimal x)) (λ x h. omega (arith, count_small x h)) (λ x h r. omega (arith, count_large x h))

-- a number below a power of ten has no more digits than the power has zeros
pub count_below : (k x : ℕ) → x < 10 ^ suc k → length (decimal x) ≤ suc k
count_below zero x h = omega (arith, count_small x h)
count_below (suc k) x h =
    ⊎_elim
    (λ s. omega (arith, count_small x s))
    (λ l.
    let b : x < 10 ^ suc k * 10 = subst (λ (n : ℕ). x < n) (pow-suc 10 (suc k)) h in
    let r : length (decimal (x / 10)) ≤ suc k = count_below k (x / 10) (omega arith) in
    omega (arith, count_large x l))
    (small? x)

pub count_64 : (x : ℕ) → x < 2 ^ 64 → length (decimal x) ≤ 20
count_64 x h = count_below 19 x (lt_trans h (lit< tt))

pub decimal_padded : (x : ℕ) → decimal x ≡ padded (length (decimal x)) x
unfolding padded
decimal_padded =
    decimal_ind (λ x. decimal x ≡ padded (length (decimal x)) x)
    (λ x h. decimal_small x h ∙ ap (λ (d : ℕ). (d + 48) ∷ []) (omega arith) ∙ ap (λ (n : ℕ). padded n x) (sym (count_small x h)))
    (λ x h r.
    decimal_large x h ∙ ap (λ (d : List ℕ). d ++ ((x % 10 + 48) ∷ [])) r ∙ ap (λ (n : ℕ). padded n x) (sym (count_large x h)))

-- the last n + 1 digits are the last n of a tenth, and one more
module _ (n x : ℕ) where
  ten : 10 ^ suc n ≡ 10 ^ n * 10
  ten = pow-suc 10 n

  front_tenth : x / 10 / 10 ^ n ≡ x / 10 ^ suc n
  front_tenth = div-div-eq-div-mul x 10 (10 ^ n) ∙ ap (λ (k : ℕ). x / k) (omega (arith, ten))

  -- what x / 10^(n + 1) takes away is a multiple of ten
  whole : ℕ
  whole = x / 10 / 10 ^ n * 10 ^ n

  rest : x % 10 ^ suc n ≡ x - whole * 10
  unfolding whole
  rest =
      mod-eq-sub-div-mul x (10 ^ suc n)
      ∙ ap (λ (k : ℕ). x - k) (ap (λ (q : ℕ). q * 10 ^ suc n) (sym front_tenth) ∙ omega (arith, ap (λ (p : ℕ). x / 10 / 10 ^ n * p) ten))

  within : whole ≤ x / 10
  unfolding whole
  within = div-mul-le_self (x / 10) (10 ^ n)

  rest_tenth : x % 10 ^ suc n / 10 ≡ x / 10 % 10 ^ n
  unfolding whole
  rest_tenth = omega (arith, rest, within, mod-eq-sub-div-mul (x / 10) (10 ^ n))

  rest_last : x % 10 ^ suc n % 10 ≡ x % 10
  rest_last = omega (arith, rest, within)

-- the last n digits of x are those of what 10^n leaves of it
pub padded_mod : (n x : ℕ) → padded n (x % 10 ^ n) ≡ padded n x
unfolding padded
padded_mod zero x = refl
padded_mod (suc n) x =
    ap (λ (q : ℕ). padded n q ++ ((x % 10 ^ suc n % 10 + 48) ∷ [])) (rest_tenth n x)
    ∙ ap (λ (t : List ℕ). t ++ ((x % 10 ^ suc n % 10 + 48) ∷ [])) (padded_mod n (x / 10))
    ∙ ap (λ (d : ℕ). padded n (x / 10) ++ ((d + 48) ∷ [])) (rest_last n x)

-- the last m + n digits are the last m of x / 10^n, and the last n
pub padded_split : (m n x : ℕ) → padded (m + n) x ≡ padded m (x / 10 ^ n) ++ padded n (x % 10 ^ n)
unfolding padded
padded_split m zero x =
    ap (λ (k : ℕ). padded k x) (add-zero m) ∙ ap (padded m) (sym (div-one x)) ∙ sym (append-nil (padded m (x / 1)))
padded_split m (suc n) x =
    let last = (x % 10 + 48) ∷ [] in
    ap (λ (k : ℕ). padded k x) (add-suc m n)
    ∙ ap (λ (d : List ℕ). d ++ last) (padded_split m n (x / 10))
    ∙ append_assoc (padded m (x / 10 / 10 ^ n)) (padded n (x / 10 % 10 ^ n)) last
    ∙ ap (λ (q : ℕ). padded m q ++ (padded n (x / 10 % 10 ^ n) ++ last)) (front_tenth n x)
    ∙ ap (λ (r : ℕ). padded m (x / 10 ^ suc n) ++ (padded n r ++ last)) (sym (rest_tenth n x))
    ∙ ap (λ (d : ℕ). padded m (x / 10 ^ suc n) ++ (padded n (x % 10 ^ suc n / 10) ++ ((d + 48) ∷ []))) (sym (rest_last n x))

count_split : (n x : ℕ) → 10 ^ n ≤ x → length (decimal x) ≡ length (decimal (x / 10 ^ n)) + n
count_split zero x h = ap (λ (q : ℕ). length (decimal q)) (sym (div-one x)) ∙ sym (add-zero _)
count_split (suc n) x h =
    let some : 1 ≤ 10 ^ n = one-le-pow n 10 (lit< tt) in
    let tenth : 10 ^ n ≤ x / 10 = omega (arith, ten n x) in
    count_large x (omega (arith, ten n x))
    ∙ ap suc (count_split n (x / 10) tenth ∙ ap (λ (q : ℕ). length (decimal q) + n) (front_tenth n x))
    ∙ sym (add-suc _ n)

-- the digits of a number are those of x / 10^n, and its last n
pub decimal_split : (n x : ℕ) → 10 ^ n ≤ x → decimal x ≡ decimal (x / 10 ^ n) ++ padded n (x % 10 ^ n)
decimal_split n x h =
    let q = x / 10 ^ n in
    decimal_padded x
    ∙ ap (λ (k : ℕ). padded k x) (count_split n x h)
    ∙ padded_split (length (decimal q)) n x
    ∙ ap (λ (d : List ℕ). d ++ padded n (x % 10 ^ n)) (sym (decimal_padded q))

pub spaced_one : (x : ℕ) → (32 ∷ []) ++ decimal x ≡ spaced (x ∷ [])
unfolding spaced
spaced_one x = ap (λ (t : List ℕ). 32 ∷ t) (sym (append-nil (decimal x)))

pub spaced_append : (xs ys : List ℕ) → spaced (xs ++ ys) ≡ spaced xs ++ spaced ys
unfolding spaced
spaced_append [] ys = refl
spaced_append (x ∷ xs) ys =
    ap (λ (t : List ℕ). 32 ∷ (decimal x ++ t)) (spaced_append xs ys)
    ∙ ap (λ (t : List ℕ). 32 ∷ t) (sym (append_assoc (decimal x) (spaced xs) (spaced ys)))

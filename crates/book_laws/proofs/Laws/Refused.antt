-- What a refusal leaves: start and append change no byte and answer no length, read answers zeros, accept no count and no note; and which
-- numbers each refuses by. The operations in code equal these definitions, so that their callers may cite this. Assumes nothing.
use Rattle.std.specs.Prelude.{List, [], ◌∷◌, ◌⊎◌, ◌≡◌, ℕ, ◌+◌, ltb, leb, length, replicate}
use Rattle.std.proofs.Common.{inl, arith}
use Rattle.std.proofs.Math.Logic.{inr}
use Rattle.std.proofs.Math.Path.{refl}
use Rattle.bools.proofs.Laws.Tests.{either, either_by}
use Rattle.fields.specs.Fields.{width}
use Rattle.book_laws.specs.Layout.{Layout, record_length, trailer_length}
use Rattle.book_laws.specs.Trailer.{describe_in}
use Rattle.book_laws.specs.Record.{all_agree}
use Rattle.book_laws.specs.Start.{Written, unwritten, start_in}
use Rattle.book_laws.specs.Append.{append_after, append_in}
use Rattle.book_laws.specs.Read.{Fields, unread, read_after, read_in}
use Rattle.book_laws.specs.Accept.{Acceptance, unaccepted, accept_after, accept_in, DisagreesFirstIn}
use Rattle.book_laws.proofs.Laws.Trailer.{on_book_each}
use Rattle.book_laws.proofs.Laws.Disagreeing.{named_first}

-- n is one of the numbers
abbrev pub OneOf : List ℕ → ℕ → Type 0
OneOf [] n = ⊥
OneOf (m ∷ ms) n = (n ≡ m) ⊎ OneOf ms n

-- of append, in the buffer b
pub record Unwritten (b : List ℕ) (w : Written) : Type 0 where
  pub number_is : OneOf (20 ∷ 21 ∷ 22 ∷ 24 ∷ 25 ∷ []) w.number
  pub no_length : w.used ≡ 0
  pub bytes_stay : w.bytes ≡ b

-- of read
pub record Unread (f : Fields) : Type 0 where
  pub number_is : OneOf (20 ∷ 21 ∷ 22 ∷ 26 ∷ []) f.number
  pub zeros : f.fields ≡ replicate (width + 2) 0

-- of accept: 23 names the first record that disagrees, the others name none
pub record Unaccepted (l : Layout) (b : List ℕ) (used : ℕ) (a : Acceptance) : Type 0 where
  pub number_is : OneOf (20 ∷ 21 ∷ 22 ∷ 23 ∷ []) a.number
  pub no_count : a.count ≡ 0
  pub no_note : a.note ≡ 0
  pub names : a.number ≡ 23 → DisagreesFirstIn l b used a.named
  pub names_none : (a.number ≡ 23 → ⊥) → a.named ≡ 0

module _ (l : Layout) (b : List ℕ) where
  pub start_in_refused : (note : ℕ) → ((start_in l b note).number ≡ 0 → ⊥) → start_in l b note ≡ record { number = 24; used = 0; bytes = b }
  unfolding start_in unwritten
  start_in_refused note =
      either (λ (w : Written). (w.number ≡ 0 → ⊥) → w ≡ record { number = 24; used = 0; bytes = b })
      (ltb (length b) (note + trailer_length l))
      (λ given. refl)
      (λ given. absurd (given refl))

  pub append_in_refused :
      (used : ℕ) (x : List ℕ) → ((append_in l b used x).number ≡ 0 → ⊥) → Unwritten b (append_in l b used x)
  unfolding append_in append_after unwritten
  append_in_refused used x =
      let d = describe_in l b used in
      let P : Written → Type 0 = λ w. (w.number ≡ 0 → ⊥) → Unwritten b w in
      let leaves : (n : ℕ) → OneOf (20 ∷ 21 ∷ 22 ∷ 24 ∷ 25 ∷ []) n → P (unwritten n b) =
      λ n is given. record { number_is = is; no_length = refl; bytes_stay = refl }
      in
      on_book_each P l b used _ _ (λ given. absurd (given refl)) (leaves 20 (inl refl)) (leaves 21 (inr (inl refl)))
      (leaves 22 (inr (inr (inl refl))))
      (either P (leb l.most d.count) (leaves 25 (inr (inr (inr (inr (inl refl))))))
      (either P (ltb (length b) (used + record_length l)) (leaves 24 (inr (inr (inr (inl refl))))) (λ given. absurd (given refl))))

  pub read_in_refused : (used i : ℕ) → ((read_in l b used i).number ≡ 0 → ⊥) → Unread (read_in l b used i)
  unfolding read_in read_after unread
  read_in_refused used i =
      let P : Fields → Type 0 = λ f. (f.number ≡ 0 → ⊥) → Unread f in
      let leaves : (n : ℕ) → OneOf (20 ∷ 21 ∷ 22 ∷ 26 ∷ []) n → P (unread n) = λ n is given. record { number_is = is; zeros = refl } in
      on_book_each P l b used _ _ (λ given. absurd (given refl)) (leaves 20 (inl refl)) (leaves 21 (inr (inl refl)))
      (leaves 22 (inr (inr (inl refl))))
      (either P (leb (describe_in l b used).count i) (leaves 26 (inr (inr (inr (inl refl))))) (λ given. absurd (given refl)))

  pub accept_in_refused : (used : ℕ) → ((accept_in l b used).number ≡ 0 → ⊥) → Unaccepted l b used (accept_in l b used)
  unfolding accept_in accept_after unaccepted
  accept_in_refused used =
      let d = describe_in l b used in
      let P : Acceptance → Type 0 = λ a. (a.number ≡ 0 → ⊥) → Unaccepted l b used a in
      let leaves : (n : ℕ) → OneOf (20 ∷ 21 ∷ 22 ∷ 23 ∷ []) n → (n ≡ 23 → ⊥) → P (unaccepted n 0) =
      λ n is not-23 given. record {
        number_is = is;
        no_count = refl;
        no_note = refl;
        names = λ is-23. absurd (not-23 is-23);
        names_none = λ other. refl;
      }
      in
      on_book_each P l b used _ _ (λ given. absurd (given refl)) (leaves 20 (inl refl) (λ e. omega arith))
      (leaves 21 (inr (inl refl)) (λ e. omega arith))
      (leaves 22 (inr (inr (inl refl))) (λ e. omega arith))
      (either_by P (all_agree l b d.first d.count)
      (λ all given. absurd (given refl))
      (λ not_all given. record {
        number_is = inr (inr (inr (inl refl)));
        no_count = refl;
        no_note = refl;
        names = λ is-23. named_first l b used not_all;
        names_none = λ other. absurd (other refl);
      }))

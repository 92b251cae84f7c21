-- A loop over a stream gets each line once, in order, and all of them, whatever steps it takes. Assumes nothing.
use Rattle.std.specs.Prelude.{◌≡◌, refl, ℕ, Option, List, [], ◌∷◌, ◌++◌, map}
use Rattle.std.specs.Iterator.{Drains, Yields}
use Rattle.std.proofs.Common.{ap, subst, sym, ◌∙◌, append-nil}
use Rattle.std.proofs.lemmas.List.{map-id}
use Rattle.arrayvec.specs.ArrayVec.{ArrayVec}
use Rattle.input.specs.declared.Lines.{Lines}
use Rattle.input.specs.declared.SaidLines.{SaidLines}
use Rattle.input.specs.Lines.{kept_lines, said_lines}
use Rattle.input.specs.Stream.{Awaits, Next, NextLine, NextSaid}
use Rattle.text.specs.declared.line.Said.{Said}

module _ {S T A B : Type 0} (remaining : S → Option (List ℕ)) (stream : T → Lines S) (view : A → B) (items : List ℕ → List B) where
  abbrev steps : T → Option A → T → Type 0
  steps from r to = Next remaining view items (stream from) r (stream to)

  -- the items that steps gave, and those of the bytes that are still to come, are the items of all bytes
  pub given_items : (from : T) (got : List A) (to : T) → Yields steps from got to → (xs : List ℕ) → Awaits remaining (stream from) xs
      → (ys : List ℕ) × Awaits remaining (stream to) ys × (items xs ≡ map view got ++ items ys)
  given_items from [] to same xs awaits = (xs, subst (λ (t : T). Awaits remaining (stream t) xs) same awaits, refl)
  given_items from (x ∷ got) to run xs awaits =
      let first = run.1 xs awaits in
      let others = given_items run.0 got to run.2 first.0 first.1 in
      (others.0, others.1, first.2 ∙ ap (λ (l : List B). view x ∷ l) others.2)

  pub all_items : (from : T) (got : List A) → Drains steps from got → (xs : List ℕ) → Awaits remaining (stream from) xs
      → map view got ≡ items xs
  all_items from got run xs awaits =
      let given = given_items from got run.1.0 run.1.1 xs awaits in
      let end = run.1.2 given.0 given.1 in
      sym (given.2 ∙ ap (λ (l : List B). map view got ++ l) end.2.0 ∙ append-nil (map view got))

module _ {S : Type 0} (remaining : S → Option (List ℕ)) where
  pub given_lines : (from : Lines S) (got : List (ArrayVec ℕ)) (to : Lines S) → Yields (NextLine remaining) from got to → (xs : List ℕ)
      → Awaits remaining from xs
      → (ys : List ℕ) × Awaits remaining to ys × (kept_lines xs ≡ map (λ line. line.items) got ++ kept_lines ys)
  given_lines = given_items remaining (λ s. s) (λ line. line.items) kept_lines

  pub all_lines : (from : Lines S) (got : List (ArrayVec ℕ)) → Drains (NextLine remaining) from got → (xs : List ℕ)
      → Awaits remaining from xs → map (λ line. line.items) got ≡ kept_lines xs
  all_lines = all_items remaining (λ s. s) (λ line. line.items) kept_lines

  pub all_said : (from : SaidLines S) (got : List Said) → Drains (λ s r t. NextSaid remaining s.0 r t.0) from got → (xs : List ℕ)
      → Awaits remaining from.0 xs → got ≡ said_lines xs
  all_said from got run xs awaits = sym (map-id got) ∙ all_items remaining (λ s. s.0) (λ said. said) said_lines from got run xs awaits

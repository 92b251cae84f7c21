-- `keep_book::keep_said` meets its contract: each kind of line as `keep_for` says. Assumes nothing.
use Rattle.std.proofs.Common.{Err, List, Ok, Result, ap, refl, rules, true, ℕ, ◌∙◌, ◌≡◌}
use Rattle.std.specs.Result.{IsErrAnd, MatchResult}
use Rattle.std.proofs.lemmas.Result.{err_from_is_err_and}
use Rattle.book_bytes.specs.declared.refusal.Refusal.{Refusal}
use Rattle.book_laws.specs.Start.{Written}
use Rattle.book.specs.Answers.{written_of}
use Rattle.keep_book.specs.declared.NotKept.{NotKept}
use Rattle.keep_book.specs.declared.NotKept.TheVariants.{Refused}
use Rattle.keep_book.specs.Keeping.{keep_for, kept_of, unchanged}
use Rattle.keep_book.proofs.keep_said.Goals as goal

-- s is r, with Q between their errors
passed_on :
    (Q : Refusal → NotKept → Type 0) → ((e : Refusal) (n : NotKept) → Q e n → n ≡ Refused e) →
    (r : Result ℕ Refusal) (s : Result ℕ NotKept) (before : ℕ) (b : List ℕ) {w : Written} →
    MatchResult r (λ used. s ≡ Ok used) (λ e. IsErrAnd s (Q e)) → written_of r b ≡ w →
    kept_of s before b ≡ record { readable = true; written = w }
passed_on Q same (Ok used) s before b given is = rw given (ap (λ (v : Written). record { readable = true; written = v }) is)
passed_on Q same (Err e) s before b given is =
    let err = err_from_is_err_and s given in
    rw (err.1 ∙ ap Err (same e err.0 err.2)) (ap (λ (v : Written). record { readable = true; written = v }) is)

pub returns-in-PassedOver : goal.returns-in-PassedOver
unfolding keep_for unchanged
returns-in-PassedOver c = rw c.in-PassedOver.is refl

pub returns-in-Case : goal.returns-in-Case
unfolding keep_for
returns-in-Case c =
    rw c.in-Case.is (passed_on _ (λ e n q. search rules) c.append.result _ _ _ c.map_err.ensures.cases c.append.ensures)

pub returns-in-Unreadable : goal.returns-in-Unreadable
unfolding keep_for
returns-in-Unreadable c = rw c.in-Unreadable.is refl

-- The answer and the rating of each record of an accepted book, rated or refused, as `read` answers them beside the case: those of
-- `rate_of`, but for arrangement 7 in a book of RBK1, which 1 refuses there. Assumes nothing.
use Rattle.std.specs.Prelude.{List, [], ◌∷◌, ◌++◌, ◌≡◌, refl, ℕ, take}
use Rattle.std.proofs.Common.{sym, ap, subst, ◌∙◌, append-nil, eq-eqb, ne_eqb}
use Rattle.fields.specs.Fields as Fields
use Rattle.rating.specs.Rate.{Answer, rate_of}
use Rattle.book_laws.specs.Layout.{Layout, refused_by_1, rbk1, rbk2}
use Rattle.book_laws.specs.Book.{layout_of, IsNew, read_of, Accepted}
use Rattle.book_laws.proofs.Laws.Margin.{Rightly, read_rightly_in}

-- the answer and the rating are those of a
abbrev pub AnsweredBy : (number rating : ℕ) → Answer → Type 0
AnsweredBy number rating a = (number ≡ a.number) × (rating ≡ a.rating)

answered_by :
    (l : Layout) (number rating : ℕ) (x : List ℕ) (a : Answer) → Rightly l number rating x → l.rule (take l.inputs x) ≡ a →
    AnsweredBy number rating a
answered_by l number rating x a is same =
    (is.answer_is ∙ ap (λ (r : Answer). r.number) same, is.rating_is ∙ ap (λ (r : Answer). r.rating) same)

-- the first input is stored
arrangement_stored : (x : List ℕ) → Fields.arrangement (take rbk1.inputs x) ≡ Fields.arrangement x
arrangement_stored [] = refl
arrangement_stored (w ∷ x) = refl

module _ (b : List ℕ) (used : ℕ) {l : Layout} (is_of : layout_of b used ≡ l) (fine : Accepted b used) (k number rating : ℕ) (x : List ℕ)
    (reads : read_of b used k ≡ record { number = 0; fields = x ++ (number ∷ rating ∷ []) }) where
  rightly : Rightly l number rating x
  rightly = subst (λ (m : Layout). Rightly m number rating x) is_of (read_rightly_in (layout_of b used) b used fine k number rating x reads)

module _ (b : List ℕ) (used : ℕ) where
  pub new_answered :
      IsNew b used → Accepted b used → (k number rating : ℕ) (x : List ℕ) →
      read_of b used k ≡ record { number = 0; fields = x ++ (number ∷ rating ∷ []) } → AnsweredBy number rating (rate_of x)
  new_answered is_new fine k number rating x reads =
      let is = rightly b used is_new fine k number rating x reads in
      answered_by rbk2 number rating x (rate_of x) is (ap rate_of (sym (is.case_is ∙ append-nil _)))

  module _ (is_older : layout_of b used ≡ rbk1) (fine : Accepted b used) (k number rating : ℕ) (x : List ℕ)
      (reads : read_of b used k ≡ record { number = 0; fields = x ++ (number ∷ rating ∷ []) }) where
    pub older_refused : Fields.arrangement x ≡ 7 → (number ≡ 1) × (rating ≡ 0)
    older_refused direct =
        answered_by rbk1 number rating x refused_by_1 (rightly b used is_older fine k number rating x reads)
        (simp (eq-eqb _ _ (arrangement_stored x ∙ direct)))

    pub older_answered : (Fields.arrangement x ≡ 7 → ⊥) → AnsweredBy number rating (rate_of x)
    older_answered other =
        let is = rightly b used is_older fine k number rating x reads in
        answered_by rbk1 number rating x (rate_of x) is
        (simp (ne_eqb _ _ (λ direct. other (sym (arrangement_stored x) ∙ direct))) (ap rate_of (sym is.case_is)))

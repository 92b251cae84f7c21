-- `list_text::put_refusal` meets its contract: only 23 names a record. Assumes nothing.
use Rattle.std.proofs.Common.{ap, refl, List, ℕ, ◌++◌, ◌∙◌, ◌≡◌}
use Rattle.book_bytes.specs.declared.refusal.Refusal.{Refusal}
use Rattle.book_bytes.specs.declared.refusal.Refusal.TheVariants.{Length, Mark, Trailer, Disagrees, Space, Full, Index}
use Rattle.book_bytes.specs.Refusal.{named_by, number_of}
use Rattle.list_text.specs.Listing.{disagrees_line, refusal_line, refused_line}
use Rattle.list_text.proofs.put_refusal.Goals as goal

unnamed : (r : Refusal) → ((k : ℕ) → r ≡ Disagrees k → ⊥) → refused_line (number_of r) ≡ refusal_line (number_of r) (named_by r)
unfolding refusal_line
unnamed Length h = refl
unnamed Mark h = refl
unnamed Trailer h = refl
unnamed (Disagrees k) h = absurd (h k refl)
unnamed Space h = refl
unnamed Full h = refl
unnamed Index h = refl

named : (r : Refusal) (k : ℕ) → r ≡ Disagrees k → disagrees_line k ≡ refusal_line (number_of r) (named_by r)
unfolding refusal_line
named r k is = rw is refl

pub returns-in-Disagrees-clause-text : goal.returns-in-Disagrees-clause-text
unfolding disagrees_line
returns-in-Disagrees-clause-text g c =
    c.put_line.ensures.text ∙ ap (λ (t : List ℕ). c.args.out.now.bytes ++ t) (named c.args.refusal _ c.in-Disagrees.is)

pub returns-in_default-clause-text : goal.returns-in_default-clause-text
unfolding refused_line
returns-in_default-clause-text g c =
    let text = c.args.out.now.bytes in
    c.put_line-in_default.ensures.text
    ∙ ap (λ (n : ℕ). text ++ refused_line n) (c.from-in_default.ensures ∙ c.from.ensures)
    ∙ ap (λ (t : List ℕ). text ++ t) (unnamed c.args.refusal c.in_default.not-Disagrees)

-- What the layouts of the code have in common. Assumes nothing.
use Rattle.std.proofs.Common.{refl, true, ◌≡◌}
use Rattle.book_laws.proofs.Laws.Lawful.{Lawful, rbk1_lawful, rbk2_lawful}
use Rattle.book_bytes.specs.declared.layout.Layout.{Layout}
use Rattle.book_bytes.specs.declared.layout.Layout.TheVariants.{Rbk1, Rbk2}
use Rattle.book_bytes.specs.Layout.{layout_as}
use Rattle.book_bytes.proofs.Parts.{none_zero}

pub lawful_of : (l : Layout) → Lawful (layout_as l)
lawful_of Rbk1 = rbk1_lawful
lawful_of Rbk2 = rbk2_lawful

-- of the count and of the distance
pub width_is : (l : Layout) → (layout_as l).width ≡ 4
width_is Rbk1 = refl
width_is Rbk2 = refl

pub most_is : (l : Layout) → (layout_as l).most ≡ 100000
most_is Rbk1 = refl
most_is Rbk2 = refl

pub mark_not_zero : (l : Layout) → none_zero (layout_as l).mark ≡ true
unfolding none_zero
mark_not_zero Rbk1 = refl
mark_not_zero Rbk2 = refl

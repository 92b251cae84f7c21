-- The layout that each of the code's is. Assumes nothing.
use Rattle.book_bytes.specs.declared.layout.Layout.{Layout}
use Rattle.book_bytes.specs.declared.layout.Layout.TheVariants.{Rbk1, Rbk2}
use Rattle.book_laws.specs.Layout as Spec

abbrev pub layout_as : Layout → Spec.Layout
layout_as Rbk1 = Spec.rbk1
layout_as Rbk2 = Spec.rbk2

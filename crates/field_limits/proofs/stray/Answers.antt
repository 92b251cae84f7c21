-- `field_limits::stray` is the definition.
use Rattle.std.proofs.Common.{lt-ltb}
use Rattle.rating.specs.FieldRefusals.{moist}
use Rattle.field_limits.specs.Marked.{stray, unused}
use Rattle.field_limits.proofs.stray.Goals as goal

pub returns : goal.returns
unfolding stray unused moist
returns c = simp (c.has.ensures, lt-ltb c.args.field 30 c.if-field-ge-WIDTH.false)

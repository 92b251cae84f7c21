-- A row of the code's table as one of the definition's. Assumes nothing.
use Rattle.field_limits.specs.Limits.{Limits}
use Rattle.field_limits.specs.declared.Row.{Row}

abbrev pub limits_of : Row → Limits
limits_of row = record { low = row.low; high = row.high; signed = row.signed; arrangements = row.arrangements.now }

-- Private. Parts of rows.
use Rattle.std.specs.Prelude.{ℤ, ◌<◌, ⊤}
use Rattle.lia_filler.specs.declared.row.Row.{Row}
use Rattle.lia_filler.specs.declared.row.Part.{Part}
use Rattle.lia_filler.specs.Plain.{coef, bound}

abbrev pub part_of : Part → Row → ℤ
part_of (Part.Coef column) = coef column
part_of Part.Bound = bound

abbrev pub IsPart : Part → Type 0
IsPart (Part.Coef column) = column < 4
IsPart Part.Bound = ⊤

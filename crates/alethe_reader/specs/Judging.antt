-- Private. The id of a command that closes nothing, by the ids that are in use.
use Rattle.sexpr.specs.declared.causes.Cause.{Cause}
use Rattle.sexpr.specs.declared.causes.Cause.TheVariants.{Repeated}
use Rattle.text_items.specs.ItemShapes.{Name}
use Rattle.alethe_reader.specs.declared.ids.Role.{Role}
use Rattle.alethe_reader.specs.declared.ids.Role.TheVariants.{Assume, Step, Anchor}
use Rattle.alethe_reader.specs.declared.judging.Named.{Named}

-- a name with its place
abbrev pub is_named : Named → Name
is_named n = record { place = n.place; name = n.name.now }

-- why an id in use may not be that of such a command, where an open anchor's may not be for this cause
abbrev pub cause_of : Cause → Role → Cause
cause_of of_anchor Assume = Repeated
cause_of of_anchor Step = Repeated
cause_of of_anchor Anchor = of_anchor

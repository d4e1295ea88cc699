-- By what the id is found to be.
use Rattle.std.proofs.Common.{◌∙◌, sym, ap, refl, Some, None, if◌then◌else◌}
use Rattle.rule_model.specs.Visibility.{sight}
use Rattle.alethe_reader.proofs.premises.index_of.Goals as goal

pub returns-in_default : goal.returns-in_default
returns-in_default c sights h = (h.unseen c.args.id.name.now c.in_default.ensures, c.refused.ensures)

pub returns-then-reaches : goal.returns-then-reaches
returns-then-reaches c sights h = (
  sight c.in-Some.found.number c.args.id.name.now,
  h.seen c.args.id.name.now c.in-Some.found c.in-Some.ensures
      ∙ ap (λ b. if b then Some (sight c.in-Some.found.number c.args.id.name.now) else None) (sym c.reaches.ensures ∙ c.if-reaches.true),
  refl,
)

pub returns-else-reaches : goal.returns-else-reaches
returns-else-reaches c sights h = (
  h.seen c.args.id.name.now c.in-Some.found c.in-Some.ensures
      ∙ ap (λ b. if b then Some (sight c.in-Some.found.number c.args.id.name.now) else None) (sym c.reaches.ensures ∙ c.if-reaches.false),
  c.refused-else-reaches.ensures,
)

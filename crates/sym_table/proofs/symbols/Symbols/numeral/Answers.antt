-- The key of the numeral is placed, so its leaf is found or added.
use Rattle.std.proofs.Common.{◌∙◌, subst, refl, ap, arith}
use Rattle.std.proofs.Math.Facts.{to_z-of_z}
use Rattle.sym_table.specs.declared.cells.Symbol.TheVariants as Symbol
use Rattle.sym_table.specs.Names.{PlacesItem}
use Rattle.sym_table.proofs.Links.{AreLinked-PlacesItem}
use Rattle.sym_table.proofs.Laws.{table_of}
use Rattle.sym_table.proofs.Adds.{FindsOrAdds-seen, few-PlacesItem, place_fits, Keeps-same, Keeps-FindsOrAdds, IsLeaf-FindsOrAdds}
use Rattle.sym_table.proofs.symbols.Symbols.numeral.Goals as goal

placed : (c : goal.In_ok-place) → PlacesItem c.self.inside.leaves c.find_or_add.new.self c.in_ok-place.place (Symbol.Numeral c.args.n)
placed c = subst (λ n. PlacesItem c.self.inside.leaves c.find_or_add.new.self c.in_ok-place.place (Symbol.Numeral n)) (to_z-of_z c.ranges.n) c.in_ok-place.ensures.ok

pub invariant_of-self-2 : goal.invariant_of-self-2
invariant_of-self-2 c = (
  AreLinked-PlacesItem _ _ _ _ _ _ _ c.self.invariant.0 (c.requires.not_negative, c.ranges.n) refl (placed c),
  few-PlacesItem _ _ _ _ _ _ _ _ _ c.self.view_is c.requires.room (placed c),
  c.self.invariant.2,
  c.self.invariant.3,
)

pub returns-clause-found_or_new : goal.returns-clause-found_or_new
returns-clause-found_or_new c = FindsOrAdds-seen _ _ _ _ _ _ _ _ _ c.self.view_is c.self.invariant.0 (c.requires.not_negative, c.ranges.n) (placed c)

pub returns-clause-leaf : goal.returns-clause-leaf
returns-clause-leaf c = IsLeaf-FindsOrAdds _ _ _ _ (FindsOrAdds-seen _ _ _ _ _ _ _ _ _ c.self.view_is c.self.invariant.0 (c.requires.not_negative, c.ranges.n) (placed c))

pub returns-clause-keeps : goal.returns-clause-keeps
returns-clause-keeps c = Keeps-FindsOrAdds _ _ _ _ (FindsOrAdds-seen _ _ _ _ _ _ _ _ _ c.self.view_is c.self.invariant.0 (c.requires.not_negative, c.ranges.n) (placed c))

pub returns-in_err-place-clause-keeps : goal.returns-in_err-place-clause-keeps
returns-in_err-place-clause-keeps c =
    Keeps-same _ _ (ap (λ ks. table_of c.self.inside.function_names c.self.inside.functions.items c.self.inside.variable_names ks c.self.inside.sort_names) c.in_err-place.ensures.err ∙ c.self.view_is)

pub overflow_cast-result : goal.overflow_cast-result
overflow_cast-result c = omega (arith, place_fits _ _ _ _ c.self.invariant.1 (placed c))

pub overflow_add-result : goal.overflow_add-result
overflow_add-result c = omega (arith, place_fits _ _ _ _ c.self.invariant.1 (placed c))

use Rattle.std.proofs.Common.{◌∙◌, inl, inr, sym}
use Rattle.std.proofs.lemmas.Bool.{eq-eqb}
use Rattle.rules_subproof.specs.SideTables.{sides_are}
use Rattle.rules_subproof.proofs.SideTables.{has_sides}
use Rattle.rules_subproof.proofs.sides.are_equal_by.Goals as goal

pub returns-else-eq : goal.returns-else-eq
returns-else-eq c =
    let there = has_sides c.args.table.now.keys (sides_are c.args.left c.args.right) in (
      λ e. inr (there.0 (sym c.contains.ensures ∙ e)),
      λ h. elim h [
        | inl e ↦ (let clash = sym c.if-eq.false ∙ (c.eq.ensures ∙ eq-eqb _ _ e) in absurd cc)
        | inr k ↦ c.contains.ensures ∙ there.1 k
      ],
    )

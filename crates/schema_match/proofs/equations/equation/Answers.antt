use Rattle.std.proofs.Common.{[], All, length, sym, subst}
use Rattle.std.proofs.lemmas.Bool.{eqb-true, eq-eqb}
use Rattle.std.proofs.lemmas.List.Elements.{All-head}
use Rattle.std.proofs.lemmas.Option.{IfSome_then}
use Rattle.term_pool.specs.Views.{IsTerm}
use Rattle.schema_match.proofs.EquationLemmas.{with_premises, with_literals, no_equation, equation_is}
use Rattle.schema_match.proofs.equations.equation.Goals as goal
use Rattle.term_parts.proofs.Options.{none_then}

pub returns-then-not-is_empty-clause-other : goal.returns-then-not-is_empty-clause-other
returns-then-not-is_empty-clause-other c ps ts u w premises clause none e =
    with_premises c.args.symbols.now c.args.terms.now c.args.premises.now c.args.clause.now ps ts premises clause
    (λ empty. absurd (let f = eq-eqb (length c.args.premises.now) 0 empty in let g = c.if-not-is_empty.ensures in cc)) u w none e

pub returns-in_default-clause-other : goal.returns-in_default-clause-other
returns-in_default-clause-other c ps ts u w premises clause none e =
    with_literals c.args.symbols.now c.args.terms.now c.args.premises.now c.args.clause.now ps ts premises clause c.in_default.ensures.other u w none e

pub sides_of-requires : goal.sides_of-requires
sides_of-requires c =
    All-head (IsTerm c.args.symbols.now c.args.terms.now) c.in-Some.literal []
    (subst (All (IsTerm c.args.symbols.now c.args.terms.now)) c.in-Some.ensures.only c.requires)

pub returns-clause-equation : goal.returns-clause-equation
returns-clause-equation c =
    IfSome_then c.sides_of.result c.sides_of.ensures.sides (λ p sides ps ts premises clause.
    equation_is c.args.symbols.now c.args.terms.now c.args.premises.now c.args.clause.now ps ts premises clause c.in-Some.literal
    c.in-Some.ensures.only p (eqb-true (length c.args.premises.now) 0 (sym c.if-not-is_empty.ensures)) sides)

pub returns-clause-other : goal.returns-clause-other
returns-clause-other c =
    none_then c.sides_of.result c.sides_of.ensures.other (λ other ps ts u w premises clause none e.
    no_equation c.args.symbols.now c.args.terms.now c.args.premises.now c.args.clause.now ps ts premises clause c.in-Some.literal
    c.in-Some.ensures.only other u w none e)

use Rattle.std.proofs.Common.{◌∷◌, length, sym}
use Rattle.std.proofs.lemmas.Bool.{eqb-true, eq-eqb}
use Rattle.std.proofs.lemmas.Result.{IfOk-weaker}
use Rattle.schema_match.proofs.PremiseLemmas.{unit_is_term}
use Rattle.schema_match.proofs.InstanceLemmas.{clause_stack, clause_is_stack, step_stack, step_is_stack, tautology_with_premises, tautology_is, no_unit_instance, from_is}
use Rattle.schema_match.proofs.instances.is_instance.Goals as goal

pub returns-then-not-is_empty-clause-instance : goal.returns-then-not-is_empty-clause-instance
returns-then-not-is_empty-clause-instance c of ps ts has premises clause =
    tautology_with_premises c.args.symbols.now c.args.terms.now c.args.premises.now ps ts premises of.premises of.clause c.in-Tautology.parts (rw c.in-Tautology.is at has)
    (λ e. absurd (let f = eq-eqb (length c.args.premises.now) 0 e in let g = c.if-not-is_empty.ensures in cc))

pub fits-requires : goal.fits-requires
fits-requires c =
    clause_is_stack c.args.symbols.now c.args.terms.now c.stack_clause.new.stack.items c.args.clause.now c.in_ok-stack_clause.ensures c.requires.clause

pub returns-in_default-clause-instance : goal.returns-in_default-clause-instance
returns-in_default-clause-instance c of ps ts has premises clause =
    no_unit_instance c.args.symbols.now c.args.terms.now c.args.premises.now ps ts premises of.premises of.clause c.in-From.parts (rw c.in-From.is at has) c.in_default.ensures.other

pub fits-requires-in-From : goal.fits-requires-in-From
fits-requires-in-From c =
    step_is_stack c.args.symbols.now c.args.terms.now c.push.new.list.items c.stack_clause.new.stack.items c.args.clause.now c.in-Some.premise c.in_ok-push-in-From.ensures c.in_ok-stack_clause.ensures
    (unit_is_term c.args.symbols.now c.args.terms.now c.args.premises.now c.in-Some.premise c.in-Some.ensures.unit c.requires.premises) c.requires.clause

pub returns-else-not-is_empty-clause-instance : goal.returns-else-not-is_empty-clause-instance
returns-else-not-is_empty-clause-instance c =
    IfOk-weaker c.fits.result _ _ (λ b test of ps ts has premises clause.
    tautology_is c.args.symbols.now c.args.terms.now c.args.premises.now ps ts premises of.premises of.clause c.in-Tautology.parts b (rw c.in-Tautology.is at has)
    (eqb-true (length c.args.premises.now) 0 (sym c.if-not-is_empty.ensures))
    (λ qs is. test qs ts is (clause_stack c.args.symbols.now c.args.terms.now c.stack_clause.new.stack.items c.args.clause.now ts c.in_ok-stack_clause.ensures clause))) c.fits.ensures.fits

pub returns-in_ok-push-in-From-clause-instance : goal.returns-in_ok-push-in-From-clause-instance
returns-in_ok-push-in-From-clause-instance c =
    IfOk-weaker c.fits-in-From.result _ _ (λ b test of ps ts has premises clause.
    from_is c.args.symbols.now c.args.terms.now c.args.premises.now ps ts premises of.premises of.clause c.in-From.parts c.in-Some.premise b (rw c.in-From.is at has) c.in-Some.ensures.unit
    (λ qs t refers is. test qs (t ∷ ts) is
    (step_stack c.args.symbols.now c.args.terms.now c.push.new.list.items c.stack_clause.new.stack.items c.args.clause.now c.in-Some.premise t ts c.in_ok-push-in-From.ensures c.in_ok-stack_clause.ensures refers clause))) c.fits-in-From.ensures.fits

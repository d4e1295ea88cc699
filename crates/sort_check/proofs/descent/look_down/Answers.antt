use Rattle.std.proofs.Common.{refl, ◌∙◌}
use Rattle.term_pool.specs.declared.shape.Shape.TheVariants as Shape
use Rattle.term_pool.proofs.Keeping.{same_terms}
use Rattle.sort_check.proofs.Steps.{number_step, is_variable, variable_step, is_application, application_look, is_let, let_step}
use Rattle.sort_check.proofs.descent.look_down.Goals as goal

pub variable_sort-requires : goal.variable_sort-requires
variable_sort-requires c =
    is_variable c.args.symbols.now c.args.terms.now c.args.r c.in-Var.leaf (Shape.Var c.in-Var.leaf) c.in-Var.ensures.shape refl c.requires

pub application_step-requires : goal.application_step-requires
application_step-requires c =
    rw (same_terms c.args.terms.now c.view.new.self c.view.ensures.keeps c.view.ensures.unchanged)
    (is_application c.args.symbols.now c.args.terms.now c.args.r c.in-App.head c.in-App.count (Shape.App c.in-App.head c.in-App.count) c.in-App.ensures.shape refl c.requires)

pub below_let-requires : goal.below_let-requires
below_let-requires c =
    rw (same_terms c.args.terms.now c.view.new.self c.view.ensures.keeps c.view.ensures.unchanged)
    (is_let c.args.symbols.now c.args.terms.now c.args.r c.in-LetTerm.count (Shape.LetTerm c.in-LetTerm.count) c.in-LetTerm.ensures.shape refl c.requires)

pub returns-in-Num-clause-step : goal.returns-in-Num-clause-step
returns-in-Num-clause-step c =
    number_step c.args.symbols.now c.args.terms.now c.args.r (Shape.Num c.in-Num.field-0) c.in-Num.field-0 c.in-Num.ensures.shape refl

pub returns-in-Var-clause-step : goal.returns-in-Var-clause-step
returns-in-Var-clause-step c =
    variable_step c.args.symbols.now c.args.terms.now c.args.r c.in-Var.leaf (Shape.Var c.in-Var.leaf) c.variable_sort.result c.in-Var.ensures.shape refl c.variable_sort.ensures

pub returns-in-App-clause-step : goal.returns-in-App-clause-step
returns-in-App-clause-step c =
    application_look c.args.symbols.now c.args.terms.now c.view.new.self c.args.r c.in-App.head c.in-App.count (Shape.App c.in-App.head c.in-App.count) c.application_step.result
    (same_terms c.args.terms.now c.view.new.self c.view.ensures.keeps c.view.ensures.unchanged)
    c.in-App.ensures.shape refl c.application_step.ensures.step

pub returns-in-LetTerm-clause-step : goal.returns-in-LetTerm-clause-step
returns-in-LetTerm-clause-step c =
    let seen = same_terms c.args.terms.now c.view.new.self c.view.ensures.keeps c.view.ensures.unchanged in
    let read = same_terms c.view.new.self c.below_let.new.terms c.below_let.ensures.keeps c.below_let.ensures.unchanged in
    let_step c.args.symbols.now c.args.terms.now c.below_let.new.terms c.args.r c.below_let.result c.in-LetTerm.count (Shape.LetTerm c.in-LetTerm.count) (read ∙ seen)
    c.in-LetTerm.ensures.shape refl (rw seen at c.below_let.ensures.body)

-- The two arguments.
use Rattle.std.proofs.Common.{◌≡◌, sym, ◌∙◌, subst, rules, arith}
use Rattle.term_model.specs.Terms.{Term}
use Rattle.term_pool.specs.Reading.{HasArgument}
use Rattle.term_pool.specs.Views.{RefersTo, IsTerm}
use Rattle.term_parts.proofs.PartLemmas.{has_argument}
use Rattle.linear_lines.specs.Operands.{AreOperands}
use Rattle.linear_lines.proofs.ComparisonLemmas.{operands_are, first_sorted, second_sorted}
use Rattle.linear_lines.proofs.comparisons.operands.Goals as goal

pub nth_arg-a-requires : goal.nth_arg-a-requires
nth_arg-a-requires c =
    let is : IsTerm c.args.symbols.now c.args.terms.now c.args.r = record { means = c.requires.term.means; refers = c.requires.term.refers } in
    has_argument c.args.symbols.now c.args.terms.now c.args.r 2 0 c.args.op is c.requires.over (omega arith)

pub nth_arg-b-requires : goal.nth_arg-b-requires
nth_arg-b-requires c =
    let is : IsTerm c.args.symbols.now c.args.terms.now c.args.r = record { means = c.requires.term.means; refers = c.requires.term.refers } in
    let same : c.nth_arg-a.new.self ≡ c.args.terms.now = search rules in
    subst (λ w. HasArgument w c.args.r 1) (sym same) (has_argument c.args.symbols.now c.args.terms.now c.args.r 2 1 c.args.op is c.requires.over (omega arith))

both : (c : goal.After-nth_arg-b) (t : Term) → RefersTo c.args.symbols.now c.args.terms.now c.args.r t → AreOperands c.args.symbols.now c.args.terms.now c.args.op (c.nth_arg-a.result, c.nth_arg-b.result) t
both c t refers =
    let s = c.args.symbols.now in
    let same : c.nth_arg-a.new.self ≡ c.args.terms.now = search rules in
    let again : c.nth_arg-b.new.self ≡ c.nth_arg-a.new.self = search rules in
    operands_are s c.args.terms.now c.nth_arg-a.result c.nth_arg-b.result c.args.op t (c.requires.over t refers)
    (λ x e. subst (λ w. RefersTo s w c.nth_arg-a.result x) same (c.nth_arg-a.ensures.argument s t x refers e))
    (λ x e. subst (λ w. RefersTo s w c.nth_arg-b.result x) (again ∙ same) (c.nth_arg-b.ensures.argument s t x (subst (λ w. RefersTo s w c.args.r t) (sym same) refers) e))

pub returns-clause-operands : goal.returns-clause-operands
returns-clause-operands c t refers = both c t refers

pub returns-clause-first : goal.returns-clause-first
returns-clause-first c =
    first_sorted c.args.symbols.now c.args.terms.now c.args.op (c.nth_arg-a.result, c.nth_arg-b.result) c.requires.term.means (both c c.requires.term.means c.requires.term.refers) c.requires.term.sorted

pub returns-clause-second : goal.returns-clause-second
returns-clause-second c =
    second_sorted c.args.symbols.now c.args.terms.now c.args.op (c.nth_arg-a.result, c.nth_arg-b.result) c.requires.term.means (both c c.requires.term.means c.requires.term.refers) c.requires.term.sorted

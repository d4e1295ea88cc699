use Rattle.std.proofs.Common.{refl}
use Rattle.rules_ite.proofs.DistinctLemmas.{no_inequality, inequality_here, inequality_turned}
use Rattle.rules_ite.proofs.distinct.is_inequality.Goals as goal

pub returns-in_default-clause-inequality : goal.returns-in_default-clause-inequality
returns-in_default-clause-inequality c t u l first second literal = no_inequality t u l (λ a b. c.in_default.ensures.other l a b literal)

pub returns-then-here-clause-inequality : goal.returns-then-here-clause-inequality
returns-then-here-clause-inequality c t u l first second literal =
    let s = c.args.symbols.now in
    let v = c.args.terms.now in
    let one = c.equal_exactly_where_terms_are.ensures s c.leaves_differ.ensures.table in
    let sides = c.in-Some.ensures.sides l literal in (
      λ e. inequality_here s v one _ l sides c.args.one c.args.other t u first second c.are_both-here.result c.are_both-here.ensures c.if-here.true,
      λ i. refl,
    )

pub returns-clause-inequality : goal.returns-clause-inequality
returns-clause-inequality c t u l first second literal =
    let s = c.args.symbols.now in
    let v = c.args.terms.now in
    let one = c.equal_exactly_where_terms_are.ensures s c.leaves_differ.ensures.table in
    let sides = c.in-Some.ensures.sides l literal in
    inequality_turned s v one _ l sides c.args.one c.args.other t u first second
    c.are_both-here.result c.are_both.result c.are_both-here.ensures c.if-here.false c.are_both.ensures

use Rattle.std.proofs.lemmas.Result.{on_ok_weaker}
use Rattle.rules_subproof.proofs.SideTables.{told_one, told_other}
use Rattle.rules_subproof.proofs.sides.add_premise.Goals as goal

pub returns-in_default-clause-added : goal.returns-in_default-clause-added
returns-in_default-clause-added c premises clause zip told =
    told_other c.args.symbols.now c.args.terms.now c.args.table.now.keys premises clause (λ t u. c.in_default.ensures.other clause t u zip) told

pub returns-clause-added : goal.returns-clause-added
returns-clause-added c =
    on_ok_weaker c.add.result
    (λ adds premises clause zip told.
    told_one c.args.symbols.now c.args.terms.now (λ p q a b g h. c.equal_exactly_where_terms_are.ensures c.args.symbols.now c.leaves_differ.ensures.table p q a b g h)
    c.args.table.now.keys c.add.new.table.keys premises clause c.in-Some.sides adds (c.in-Some.ensures.sides clause zip) told) c.add.ensures

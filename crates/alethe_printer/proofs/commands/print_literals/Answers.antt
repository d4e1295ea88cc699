use Rattle.std.proofs.Common.{◌≡◌, get_or, length, ap, subst, arith}
use Rattle.std.proofs.lemmas.Result.{on_ok_weaker}
use Rattle.alethe_printer.proofs.Pages.{names_same}
use Rattle.alethe_printer.proofs.StageParts.{literal_does, literals_end}
use Rattle.alethe_printer.proofs.commands.print_literals.Goals as goal

pub returns-then-from-clause : goal.returns-then-from-clause
returns-then-from-clause c =
    on_ok_weaker c.end_clause.result (λ ends plan s v p h u sorts given.
    literals_end plan s v c.args.proof.now c.args.command c.args.from c.args.page.now c.end_clause.new.page c.args.stages.now.items
    c.end_clause.new.stages.items
    p u h (let e = ap length c.clause-clause.ensures in omega arith) (λ step at. ends plan s v step at u sorts given)) c.end_clause.ensures

pub returns : goal.returns
returns c =
    on_ok_weaker c.begin_term.result (λ begun plan s v p h u sorts given.
    literal_does plan s v c.args.proof.now c.args.command c.args.from c.args.page.now c.begin_term.new.page c.args.stages.now.items c.push.new.self.items
    c.put.new.self c.index-clause-from.result c.index-clause-from.result p u c.requires.within h (let e = ap length c.clause-clause.ensures in omega arith)
    (subst (λ xs. c.index-clause-from.result ≡ get_or xs c.args.from c.index-clause-from.result) c.clause-clause.ensures c.index-clause-from.is)
    c.in_ok-put.ensures.text c.in_ok-push.ensures.items (λ t refers. begun plan s v t u refers
    (names_same plan s v c.put.new.self.names c.args.page.now.names u.taken c.in_ok-put.ensures.names given))) c.begin_term.ensures.begun

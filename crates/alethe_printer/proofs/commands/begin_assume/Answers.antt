use Rattle.std.proofs.Common.{◌≡◌, ◌∙◌, codes, get_or, subst}
use Rattle.std.proofs.lemmas.Result.{on_ok_weaker}
use Rattle.sexpr.specs.Printed.{printed, symbol_item}
use Rattle.term_pool.specs.Views.{RefersTo}
use Rattle.printed_proofs.specs.Numbered.{printed_id}
use Rattle.alethe_printer.proofs.Appended.{in_three}
use Rattle.alethe_printer.proofs.Pages.{names_same}
use Rattle.alethe_printer.proofs.Lines.{assume_begins, only_literal}
use Rattle.alethe_printer.proofs.commands.begin_assume.Goals as goal

pub returns : goal.returns
returns c =
    on_ok_weaker c.begin_term.result (λ begun plan s v t u zip given.
    assume_begins plan s v c.args.proof.now c.args.i c.args.page.now c.begin_term.new.page c.args.stages.now.items c.push.new.self.items c.put-2.new.self t u
    (in_three c.args.page.now.text.items c.put.new.self.text.items c.push_id.new.text.items c.put-2.new.self.text.items (codes "(assume ")
    (printed (symbol_item (printed_id c.args.i))) (codes " ") c.in_ok-put.ensures.text c.in_ok-push_id.ensures c.in_ok-put-2.ensures.text)
    c.in_ok-push.ensures.items
    (begun plan s v t u (only_literal (RefersTo s v) _ c.index-clause-0.result t zip
    (subst (λ xs. c.index-clause-0.result ≡ get_or xs 0 c.index-clause-0.result) c.clause.ensures c.index-clause-0.is))
    (names_same plan s v c.put-2.new.self.names c.args.page.now.names u.taken (c.in_ok-put-2.ensures.names ∙ c.in_ok-put.ensures.names) given)))
    c.begin_term.ensures.begun

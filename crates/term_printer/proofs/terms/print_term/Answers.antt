use Rattle.std.proofs.Common.{◌≡◌, ◌++◌, ◌∷◌, [], codes}
use Rattle.std.proofs.lemmas.Result.{on_ok_weaker}
use Rattle.term_walk.specs.declared.tasks.Task.{Task}
use Rattle.term_printer.specs.Pages.{leaf_text}
use Rattle.term_printer.proofs.Pieces.{on_ok_both, of_leaf}
use Rattle.term_printer.proofs.TermParts.{leaf_performs, let_performs}
use Rattle.term_printer.proofs.terms.print_term.Goals as goal

pub returns-in-Leaf-clause-performs : goal.returns-in-Leaf-clause-performs
returns-in-Leaf-clause-performs c =
    on_ok_weaker c.print_leaf.result (λ meets t refers plan.
    let h = c.in-Leaf.ensures.top t refers in
    leaf_performs plan c.args.symbols.now c.args.terms.now c.args.page.now c.print_leaf.new.page c.in-Leaf.leaf c.args.r h.1
    (λ l there. of_leaf c.args.symbols.now c.in-Leaf.leaf l (λ l. c.print_leaf.new.page.text.items ≡ c.args.page.now.text.items ++ leaf_text l)
    meets there) c.print_leaf.ensures.tasks c.print_leaf.ensures.names t refers h.2) c.print_leaf.ensures.text

pub returns-in-Application-clause-performs : goal.returns-in-Application-clause-performs
returns-in-Application-clause-performs c =
    on_ok_weaker c.print_application.result (λ performs t refers. performs c.args.terms.now t (c.in-Application.ensures.top t refers) refers)
    c.print_application.ensures

pub returns-in-Let-clause-performs : goal.returns-in-Let-clause-performs
returns-in-Let-clause-performs c =
    on_ok_weaker c.print_let.result (λ both t refers plan.
    let_performs plan c.args.symbols.now c.args.terms.now c.args.page.now c.print_let.new.page c.in-Let.list c.in-Let.body t
    (c.in-Let.ensures.top t refers) both.0 both.1 c.print_let.ensures.names)
    (on_ok_both _ _ c.print_let.result c.print_let.ensures.text c.print_let.ensures.tasks)

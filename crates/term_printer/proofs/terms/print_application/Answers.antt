use Rattle.std.proofs.Common.{◌∙◌, ◌≡◌, ◌++◌, ◌∷◌, [], codes, ap, sym}
use Rattle.std.proofs.lemmas.List.{append_assoc}
use Rattle.std.proofs.lemmas.Result.{on_ok_weaker}
use Rattle.sexpr.specs.Printing.{printed_symbol}
use Rattle.sym_table.specs.Leaf.{name_of}
use Rattle.term_walk.specs.declared.tasks.Task.{Task}
use Rattle.term_printer.proofs.Pieces.{on_ok_both, of_leaf}
use Rattle.term_printer.proofs.TermParts.{application_performs, first_performs, again_performs}
use Rattle.term_printer.proofs.terms.print_application.Goals as goal

pub returns-in_default : goal.returns-in_default
returns-in_default c =
    on_ok_weaker c.print_head.result (λ both v t h refers plan.
    application_performs plan c.args.symbols.now v c.args.page.now c.print_head.new.page c.args.r c.args.head c.args.list t h refers
    (sym c.entry.ensures ∙ c.in_default.is)
    (λ l there. of_leaf c.args.symbols.now c.args.head l
    (λ l. c.print_head.new.page.text.items ≡ c.args.page.now.text.items ++ (40 ∷ printed_symbol (name_of l))) both.0 there)
    both.1 c.print_head.ensures.names)
    (on_ok_both _ _ c.print_head.result c.print_head.ensures.text c.print_head.ensures.tasks)

pub returns-then-entry : goal.returns-then-entry
returns-then-entry c =
    on_ok_weaker c.put_name.result (λ text v t h refers plan.
    again_performs plan c.args.symbols.now v c.args.page.now c.put_name.new.self c.args.r c.args.head c.args.list t h refers c.in-Some.entry
    (sym c.entry.ensures ∙ c.in-Some.is) c.if-entry.true text c.put_name.ensures.tasks c.put_name.ensures.names) c.put_name.ensures.text

pub returns : goal.returns
returns c =
    on_ok_weaker c.print_head-2.result (λ both v t h refers plan.
    first_performs plan c.args.symbols.now v c.args.page.now c.print_head-2.new.page c.args.r c.args.head c.args.list t h refers c.in-Some.entry
    (sym c.entry.ensures ∙ c.in-Some.is) c.if-entry.false
    (λ l there. of_leaf c.args.symbols.now c.args.head l
    (λ l. c.print_head-2.new.page.text.items ≡ c.put.new.self.text.items ++ (40 ∷ printed_symbol (name_of l))) both.0 there
    ∙ (ap (λ b. b ++ (40 ∷ printed_symbol (name_of l))) (c.in_ok-put.ensures.text ∙ ap (λ b. b ++ codes "(! ") c.in_ok-then.ensures.text)
    ∙ append_assoc c.args.page.now.text.items (codes "(! ") (40 ∷ printed_symbol (name_of l))))
    (both.1
    ∙ (ap (λ ts. ts ++ (Task.Close ∷ Task.Arguments c.args.list ∷ [])) (c.in_ok-put.ensures.tasks ∙ c.in_ok-then.ensures.tasks)
    ∙ append_assoc c.args.page.now.tasks.items (Task.Naming c.args.r ∷ []) (Task.Close ∷ Task.Arguments c.args.list ∷ [])))
    (c.print_head-2.ensures.names ∙ (c.in_ok-put.ensures.names ∙ c.in_ok-then.ensures.names)))
    (on_ok_both _ _ c.print_head-2.result c.print_head-2.ensures.text c.print_head-2.ensures.tasks)

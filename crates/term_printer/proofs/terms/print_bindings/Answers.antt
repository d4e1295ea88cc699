use Rattle.std.proofs.Common.{◌≡◌, ◌∙◌, ◌++◌, ap, refl, sym, subst}
use Rattle.std.proofs.lemmas.Result.{on_ok_weaker}
use Rattle.sexpr.specs.Printing.{printed_symbol}
use Rattle.sym_table.specs.Leaf.{name_of}
use Rattle.term_pool.specs.StandsFor.{variable_leaf}
use Rattle.term_walk.specs.Walks.{PutsBinding, TakesBinding}
use Rattle.term_printer.proofs.Pieces.{of_leaf, pair_text}
use Rattle.term_printer.proofs.TermParts.{no_pairs, pair_performs}
use Rattle.term_printer.proofs.terms.print_bindings.Goals as goal

pub returns-in_default-clause-performs : goal.returns-in_default-clause-performs
returns-in_default-clause-performs c = λ bs h plan.
    let takes = subst (λ o. TakesBinding o c.args.symbols.now c.args.terms.now c.args.page.now.tasks.items c.next_binding.new.tasks.items bs)
    c.in_default.is (c.in_ok-variable.ensures.next bs h) in
    no_pairs plan c.args.symbols.now c.args.terms.now c.args.page.now (record c.args.page.now { tasks = c.next_binding.new.tasks }) c.args.before.now bs
    takes.0 refl takes.1 refl

pub returns-clause-performs : goal.returns-clause-performs
returns-clause-performs c =
    on_ok_weaker c.put-3.result (λ text bs h plan.
    let puts : PutsBinding c.args.symbols.now c.args.terms.now c.in-Some.variable c.args.page.now.tasks.items c.put-3.new.self.tasks.items bs =
    subst (λ ks. PutsBinding c.args.symbols.now c.args.terms.now c.in-Some.variable c.args.page.now.tasks.items ks bs)
    (sym (c.put-3.ensures.tasks ∙ (c.in_ok-put_symbol.ensures.tasks ∙ (c.in_ok-put-2.ensures.tasks ∙ c.in_ok-put.ensures.tasks))))
    (subst (λ o. TakesBinding o c.args.symbols.now c.args.terms.now c.args.page.now.tasks.items c.next_binding.new.tasks.items bs)
    c.in-Some.is (c.in_ok-variable.ensures.next bs h)) in
    let name = of_leaf c.args.symbols.now c.in-Some.variable (variable_leaf puts.has.bound)
    (λ l. c.put_symbol.new.self.text.items ≡ c.put-2.new.self.text.items ++ printed_symbol (name_of l)) c.in_ok-put_symbol.ensures.text
    puts.has.leaf_is in
    pair_performs plan c.args.symbols.now c.args.terms.now c.args.page.now c.put-3.new.self c.args.before.now c.in-Some.variable bs puts
    (pair_text c.args.page.now.text.items c.put.new.self.text.items c.put-2.new.self.text.items c.put_symbol.new.self.text.items
    c.put-3.new.self.text.items c.args.before.now (printed_symbol puts.has.bound.name) c.in_ok-put.ensures.text c.in_ok-put-2.ensures.text name text)
    (c.put-3.ensures.names ∙ (c.in_ok-put_symbol.ensures.names ∙ (c.in_ok-put-2.ensures.names ∙ c.in_ok-put.ensures.names)))) c.put-3.ensures.text

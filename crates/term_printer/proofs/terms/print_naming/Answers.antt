use Rattle.std.proofs.Common.{◌≡◌, ◌∙◌, ℕ, ◌∷◌, ◌++◌, [], codes, nat_eq, ap, sym, subst}
use Rattle.std.specs.Map.{update}
use Rattle.std.proofs.lemmas.List.{append_assoc}
use Rattle.sexpr.specs.Printing.{printed_symbol}
use Rattle.term_printer.specs.Names.{name_numbered, entry_at, given_entry}
use Rattle.term_printer.proofs.SingleTasks.{some_entry, naming_performs}
use Rattle.term_printer.proofs.terms.print_naming.Goals as goal

pub returns-in_default : goal.returns-in_default
returns-in_default c = λ plan n h u g.
    some_entry plan c.args.symbols.now c.args.terms.now c.args.page.now c.args.page.now c.leaves_differ.ensures.table
    c.equal_exactly_where_terms_are.ensures c.args.r n h u.taken g (sym c.entry.ensures ∙ c.in_default.is) u g

pub returns : goal.returns
returns c = λ plan n h.
    naming_performs plan c.args.symbols.now c.args.terms.now c.args.page.now _ c.leaves_differ.ensures.table
    c.equal_exactly_where_terms_are.ensures c.args.r n h c.in-Some.entry (sym c.entry.ensures ∙ c.in-Some.is)
    (c.in_ok-put-2.ensures.text ∙ (ap (λ b. b ++ 41 ∷ []) (c.in_ok-put_name.ensures.text
    ∙ ap (λ b. b ++ printed_symbol (name_numbered c.in-Some.entry.number)) c.in_ok-put.ensures.text)
    ∙ (append_assoc (c.args.page.now.text.items ++ codes " :named ") (printed_symbol (name_numbered c.in-Some.entry.number)) (41 ∷ [])
    ∙ append_assoc c.args.page.now.text.items (codes " :named ") (printed_symbol (name_numbered c.in-Some.entry.number) ++ 41 ∷ []))))
    (c.in_ok-put-2.ensures.tasks ∙ (c.in_ok-put_name.ensures.tasks ∙ c.in_ok-put.ensures.tasks))
    (subst (λ n. (q : ℕ) → entry_at c.give.new.self q ≡ update nat_eq (entry_at n) c.args.r (given_entry (entry_at n c.args.r)) q)
    (c.in_ok-put-2.ensures.names ∙ (c.in_ok-put_name.ensures.names ∙ c.in_ok-put.ensures.names)) c.give.ensures)

use Rattle.std.proofs.Common.{◌∙◌, ◌++◌, ap, List, ℕ, reverse}
use Rattle.std.proofs.lemmas.Result.{on_ok_weaker}
use Rattle.term_sharing.proofs.UsesLemmas.{let_term, with_let, with_arguments}
use Rattle.term_sharing.proofs.uses.enter.Goals as goal

pub let_parts-requires : goal.let_parts-requires
let_parts-requires c =
    let t = c.requires.term.means in
    let is = c.is_let.ensures.yes c.if-is_let.true c.args.symbols.now t c.leaves_differ.ensures.table c.requires.term.refers in
    rw c.is_let.ensures.same (let_term c.args.symbols.now c.args.terms.now c.args.r t c.requires.term.refers is)

pub returns-then-is_let-clause-left : goal.returns-then-is_let-clause-left
returns-then-is_let-clause-left c =
    let t = c.requires.term.means in
    let is = c.is_let.ensures.yes c.if-is_let.true c.args.symbols.now t c.leaves_differ.ensures.table c.requires.term.refers in
    on_ok_weaker c.push_back.result (λ items.
    with_let c.args.symbols.now c.args.terms.now c.args.r c.args.left.now.items c.push_back.new.left.items c.requires.left t c.requires.term.sorted
    c.requires.term.refers is c.in_ok-parts.parts.variables.items c.in_ok-parts.parts.values.items c.in_ok-parts.parts.body
    (rw c.is_let.ensures.same at c.in_ok-parts.ensures.bindings) (rw c.is_let.ensures.same at c.in_ok-parts.ensures.body)
    (items ∙ ap (λ (xs : List ℕ). xs ++ reverse c.in_ok-parts.parts.values.items) c.in_ok-push.ensures.items)) c.push_back.ensures

pub returns-clause-left : goal.returns-clause-left
returns-clause-left c =
    let t = c.requires.term.means in
    let is = c.is_let.ensures.no c.if-is_let.false c.args.symbols.now t c.leaves_differ.ensures.table c.requires.term.refers in
    on_ok_weaker c.push_back-2.result (λ items.
    with_arguments c.args.symbols.now c.args.terms.now c.args.r c.args.left.now.items c.push_back-2.new.left.items c.requires.left t
    c.in_ok-parts-2.parts.items c.requires.term.sorted
    ((rw c.is_let.ensures.same at c.in_ok-parts-2.ensures.arguments) c.args.symbols.now t c.requires.term.refers is) items) c.push_back-2.ensures

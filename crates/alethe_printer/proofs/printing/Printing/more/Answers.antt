use Rattle.std.proofs.Common.{◌≡◌, ◌++◌, ◌∷◌, [], sym, refl, ◌∙◌, arith, rules}
use Rattle.rule_model.proofs.Numbers.{lines_in_count}
use Rattle.rule_model.specs.Scopes.{outermost}
use Rattle.alethe_printer.proofs.Turning.{page_turned, some_stage, stage_done, all_done}
use Rattle.alethe_printer.proofs.printing.Printing.more.Goals as goal

pub perform-requires-clause-stage : goal.perform-requires-clause-stage
perform-requires-clause-stage c =
    let p = c.requires.printing in
    let now = c.args.self.now in
    some_stage p.plan c.args.symbols.now c.args.terms.now c.args.proof.now p.of c.print_more.new.page c.pop.new.self.items c.in-Some.stage now.opened now.next
    p.bytes
    (page_turned p.plan c.args.symbols.now c.args.terms.now c.args.proof.now p.of now.page c.print_more.new.page c.print_more.new.terms now.stages.items
    (c.pop.new.self.items ++ c.in-Some.stage ∷ []) now.opened now.next p.bytes c.print_more.ensures.same c.in-Some.ensures.items
    (λ b end h. c.in_ok-print_more.ensures.left p.plan b end h) p.prints)

pub returns-in-Some-clause-left : goal.returns-in-Some-clause-left
returns-in-Some-clause-left c = λ plan of bytes stand h.
    let now = c.args.self.now in
    stage_done plan c.args.symbols.now c.args.terms.now c.args.proof.now of c.print_more.new.page c.perform.new.page c.pop.new.self.items
    c.perform.new.stages.items c.in-Some.stage now.opened now.next bytes (c.in_ok-print_more.ensures.done c.if-branch.false)
    (λ p is. c.in_ok-perform.ensures plan c.args.terms.now p is)
    (page_turned plan c.args.symbols.now c.args.terms.now c.args.proof.now of now.page c.print_more.new.page c.print_more.new.terms now.stages.items
    (c.pop.new.self.items ++ c.in-Some.stage ∷ []) now.opened now.next bytes c.print_more.ensures.same c.in-Some.ensures.items
    (λ b end h. c.in_ok-print_more.ensures.left plan b end h) h)

pub returns-then-self-count-clause-whole : goal.returns-then-self-count-clause-whole
returns-then-self-count-clause-whole c = λ _ plan of bytes stand h.
    let now = c.args.self.now in
    let none : now.stages.items ≡ [] = search rules in
    let same = c.places_correspond.ensures c.args.symbols.now c.args.terms.now c.args.proof.now of 0 stand in
    all_done plan c.args.symbols.now c.args.terms.now c.args.proof.now of c.print_more.new.page now.stages.items now.opened now.next bytes
    (c.in_ok-print_more.ensures.done c.if-branch.false) none
    (page_turned plan c.args.symbols.now c.args.terms.now c.args.proof.now of now.page c.print_more.new.page c.print_more.new.terms now.stages.items
    now.stages.items now.opened now.next bytes c.print_more.ensures.same refl (λ b end h. c.in_ok-print_more.ensures.left plan b end h) h)
    (let a = lines_in_count outermost of in let b = same.commands in let d = c.count.ensures.count in let e = c.if-self-count.true in omega arith)

pub begin_next-requires-clause-printing : goal.begin_next-requires-clause-printing
begin_next-requires-clause-printing c =
    let p = c.requires.printing in
    let now = c.args.self.now in
    let none : now.stages.items ≡ [] = search rules in
    let none_now : c.pop.new.self.items ≡ [] = search rules in
    record {
      table = c.args.symbols.now;
      view = c.args.terms.now;
      is = record {
        plan = p.plan;
        of = p.of;
        stand = p.stand;
        bytes = p.bytes;
        prints =
            page_turned p.plan c.args.symbols.now c.args.terms.now c.args.proof.now p.of now.page c.print_more.new.page c.print_more.new.terms
            now.stages.items c.pop.new.self.items now.opened now.next p.bytes c.print_more.ensures.same (none ∙ sym none_now)
            (λ b end h. c.in_ok-print_more.ensures.left p.plan b end h) p.prints;
      };
    }

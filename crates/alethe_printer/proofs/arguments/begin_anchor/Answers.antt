use Rattle.std.proofs.Common.{◌≡◌, ◌<◌, ◌∙◌, ◌∷◌, [], codes, length, ap, sym, subst, rules}
use Rattle.sexpr.specs.Printed.{printed, symbol_item}
use Rattle.printed_proofs.specs.Numbered.{printed_id}
use Rattle.alethe_printer.specs.declared.stages.Stage.{Stage}
use Rattle.alethe_printer.proofs.Appended.{in_two, in_three}
use Rattle.alethe_printer.proofs.Lines.{anchor_alone, anchor_binds}
use Rattle.alethe_printer.proofs.arguments.begin_anchor.Goals as goal

pub returns-then-is_empty : goal.returns-then-is_empty
returns-then-is_empty c = λ plan s v nesting bs u zip given.
    let none : length c.bindings.result.now ≡ 0 = search rules in
    anchor_alone plan s v c.args.proof.now c.args.closing c.args.page.now (record c.put.new.self { text = c.push_id.new.text }) c.args.stages.now.items
    c.push.new.self.items (record { none = c.requires.nothing_left; tasks = c.in_ok-put.ensures.tasks; names = c.in_ok-put.ensures.names }) c.args.scope nesting
    u given c.requires.within bs zip
    (ap length (sym c.bindings.ensures) ∙ none)
    (in_two c.args.page.now.text.items c.put.new.self.text.items c.push_id.new.text.items (codes "(anchor :step ")
    (printed (symbol_item (printed_id c.args.closing))) c.in_ok-put.ensures.text c.in_ok-push_id.ensures) c.in_ok-push.ensures.items

pub returns : goal.returns
returns c = λ plan s v nesting bs u zip given.
    let some : 0 < length c.bindings.result.now = search rules in
    anchor_binds plan s v c.args.proof.now c.args.closing c.args.page.now c.put-2.new.self c.args.stages.now.items c.push-2.new.self.items
    (record {
      none = c.requires.nothing_left;
      tasks = c.in_ok-put-2.ensures.tasks ∙ c.in_ok-put.ensures.tasks;
      names = c.in_ok-put-2.ensures.names ∙ c.in_ok-put.ensures.names;
    }) c.args.scope nesting u given c.requires.within bs zip
    (subst (λ xs. 0 < length xs) c.bindings.ensures some)
    (in_three c.args.page.now.text.items c.put.new.self.text.items c.push_id.new.text.items c.put-2.new.self.text.items (codes "(anchor :step ")
    (printed (symbol_item (printed_id c.args.closing))) (codes " :args (") c.in_ok-put.ensures.text c.in_ok-push_id.ensures c.in_ok-put-2.ensures.text)
    (in_two c.args.stages.now.items c.push.new.self.items c.push-2.new.self.items (Stage.EndLine ∷ []) (Stage.Variables c.args.scope 0 ∷ [])
    c.in_ok-push.ensures.items c.in_ok-push-2.ensures.items)

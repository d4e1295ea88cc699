use Rattle.std.proofs.Common.{◌++◌, ◌∷◌, [], ◌∙◌, sym, ap, arith}
use Rattle.std.proofs.lemmas.List.{append_assoc}
use Rattle.std.proofs.lemmas.Result.{on_ok_weaker}
use Rattle.std.specs.Fmt.{decimal}
use Rattle.term_printer.proofs.PlainNames.{name_bytes}
use Rattle.term_printer.proofs.symbols.push_name.Goals as goal

pub returns : goal.returns
returns c =
    on_ok_weaker c.push_digits.result (λ text.
    text ∙ (ap (λ x. x ++ decimal c.args.number) c.in_ok-extend_from_slice.ensures.items
    ∙ (append_assoc c.args.text.now.items (64 ∷ 99 ∷ []) (decimal c.args.number)
    ∙ ap (λ x. c.args.text.now.items ++ x) (sym (name_bytes c.args.number (omega arith)))))) c.push_digits.ensures

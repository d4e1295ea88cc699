use Rattle.std.proofs.Common.{◌+◌, ◌++◌, ◌∷◌, [], ◌∙◌, sym, ap, arith}
use Rattle.std.proofs.lemmas.List.{append_assoc}
use Rattle.std.proofs.lemmas.Result.{on_ok_weaker}
use Rattle.std.specs.Fmt.{decimal}
use Rattle.alethe_printer.proofs.Listed.{id_bytes}
use Rattle.alethe_printer.proofs.symbols.push_id.Goals as goal

pub returns : goal.returns
returns c =
    on_ok_weaker c.push_number.result (λ text.
    text ∙ (ap (λ x. x ++ decimal (c.args.index + 1)) c.in_ok-extend_from_slice.ensures.items
    ∙ (append_assoc c.args.text.now.items (99 ∷ []) (decimal (c.args.index + 1))
    ∙ ap (λ x. c.args.text.now.items ++ x) (sym (id_bytes c.args.index (omega arith)))))) c.push_number.ensures

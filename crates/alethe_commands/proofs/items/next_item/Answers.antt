use Rattle.std.proofs.Common.{sym, ◌∙◌, ap, Ok}
use Rattle.sexpr.specs.Tokens.{place_after}
use Rattle.alethe_commands.proofs.ItemsApart.{no_fault, text_ends, list_ends, some_item, item_found, moved}
use Rattle.alethe_commands.proofs.items.next_item.Goals as goal

pub unreachable-requires : goal.unreachable-requires
unreachable-requires c = let (items, behind, h) = c.requires in no_fault _ _ c.args.in_list items behind _ (sym c.next.ensures.exact ∙ c.in_default.is) h

pub returns-in_default-found-clause-item : goal.returns-in_default-found-clause-item
returns-in_default-found-clause-item c items behind h =
    let is = c.in-Ok.is ∙ ap Ok c.in_default-found.is in
    let p = text_ends _ c.args.in_list _ items behind (sym c.next.ensures.exact ∙ is) h in
    (p.0, moved _ _ _ _ c.next.ensures.source (c.next.ensures.position ∙ ap (place_after _) is) p.1)

pub returns-then-is_close-clause-item : goal.returns-then-is_close-clause-item
returns-then-is_close-clause-item c items behind h =
    let is = c.in-Ok.is ∙ ap Ok c.in-Some.is in
    let p = list_ends _ c.args.in_list _ c.in-Some.first items behind (sym c.next.ensures.exact ∙ is) (sym c.is_close.ensures ∙ c.if-is_close.true) h in
    (p.0, moved _ _ _ _ c.next.ensures.source (c.next.ensures.position ∙ ap (place_after _) is) p.1)

pub read_item-requires-clause-item : goal.read_item-requires-clause-item
read_item-requires-clause-item c =
    let is = c.in-Ok.is ∙ ap Ok c.in-Some.is in
    some_item c.next.new.self _ c.args.in_list _ c.in-Some.first c.next.ensures.source (c.next.ensures.position ∙ ap (place_after _) is) (sym c.next.ensures.exact ∙ is) (sym c.is_close.ensures ∙ c.if-is_close.false) c.requires

pub returns-clause-item : goal.returns-clause-item
returns-clause-item c items behind h =
    let is = c.in-Ok.is ∙ ap Ok c.in-Some.is in
    item_found c.next.new.self c.read_item.new.lexer _ c.args.in_list _ c.in-Some.first c.read_item.new.nodes.items c.next.ensures.source c.read_item.ensures.source (c.next.ensures.position ∙ ap (place_after _) is) (sym c.next.ensures.exact ∙ is) (sym c.is_close.ensures ∙ c.if-is_close.false)
    c.in_ok-read_item.ensures.item c.in_ok-read_item.ensures.behind items behind h

use Rattle.std.proofs.Common.{sym, ◌∙◌, ap, Ok}
use Rattle.sexpr.specs.Tokens.{place_after}
use Rattle.smtlib_reader.proofs.ScriptItems.{no_fault, text_ends, some_item, item_found}
use Rattle.smtlib_reader.proofs.script_reading.next_item.Goals as goal

pub unreachable-requires : goal.unreachable-requires
unreachable-requires c = no_fault _ _ _ (sym c.next.ensures.exact ∙ c.in_default.is) c.requires.items

pub returns-in_default-found-clause-item : goal.returns-in_default-found-clause-item
returns-in_default-found-clause-item c items h = text_ends _ _ items (sym c.next.ensures.exact ∙ (c.in-Ok.is ∙ cc)) h

pub read_item-requires-clause-item : goal.read_item-requires-clause-item
read_item-requires-clause-item c =
    some_item c.next.new.self _ _ c.in-Some.first c.next.ensures.source (c.next.ensures.position ∙ ap (place_after _) (c.in-Ok.is ∙ ap Ok c.in-Some.is)) (sym c.next.ensures.exact ∙ (c.in-Ok.is ∙ ap Ok c.in-Some.is)) c.requires.items

pub returns-clause-item : goal.returns-clause-item
returns-clause-item c items h =
    item_found c.next.new.self c.read_item.new.lexer _ _ c.in-Some.first c.read_item.new.nodes.items c.next.ensures.source c.read_item.ensures.source (c.next.ensures.position ∙ ap (place_after _) (c.in-Ok.is ∙ ap Ok c.in-Some.is)) (sym c.next.ensures.exact ∙ (c.in-Ok.is ∙ ap Ok c.in-Some.is))
    c.in_ok-read_item.ensures.item c.in_ok-read_item.ensures.behind items h

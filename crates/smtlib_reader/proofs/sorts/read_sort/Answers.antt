-- An opening bracket begins a list, and any other token is an item by itself.
use Rattle.std.proofs.Common.{◌∙◌, ap, Err}
use Rattle.smtlib_reader.proofs.SortItems.{list_left_out, token_behind, sort_read, on_ok}
use Rattle.smtlib_reader.proofs.sorts.read_sort.Goals as goal

pub returns-in-Open-clause-sort : goal.returns-in-Open-clause-sort
returns-in-Open-clause-sort c =
    λ i rest g. ap Err c.refused.ensures ∙ list_left_out c.args.symbols.now.sorts c.args.lexer.now c.args.first c.in-Open.is i rest g

pub returns-in_default-clause-sort : goal.returns-in_default-clause-sort
returns-in_default-clause-sort c =
    λ i rest g. sort_read c.args.symbols.now.sorts c.args.lexer.now c.args.first _ _ c.symbol_name.ensures c.sort_spelled.ensures c.in_default.not-Open i rest g

pub returns-in_default-clause-behind : goal.returns-in_default-clause-behind
returns-in_default-clause-behind c =
    λ i rest g. on_ok c.sort_spelled.result _ (token_behind c.args.lexer.now c.args.first c.in_default.not-Open i rest g)

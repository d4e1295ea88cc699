use Rattle.std.proofs.Common.{◌&&◌, sym, ap, ◌∙◌}
use Rattle.question_cells.specs.Definitions.{is_defining}
use Rattle.question_cells.proofs.TokensLeft.{begins, goes_on, defines_so, all_read}
use Rattle.question_cells.proofs.scanning.has_definitions.Goals as goal

pub tokens-init : goal.tokens-init
tokens-init c = begins _ _ c.new-lexer.ensures.whole c.new-lexer.ensures.start

pub returns-then-defines : goal.returns-then-defines
returns-then-defines c =
    let same = c.next_token.ensures.source ∙ c.tokens.invariant.same in
    defines_so _ _ _ c.in-Some.token c.tokens.invariant c.in-Some.ensures.some
    (sym c.if-defines.true ∙ c.defines.ensures ∙ ap (λ s. c.tokens.opened && is_defining s c.in-Some.token) same)

pub tokens-preserved : goal.tokens-preserved
tokens-preserved c =
    let same = c.next_token.ensures.source ∙ c.tokens.invariant.same in
    goes_on _ _ _ _ _ c.in-Some.token c.tokens.invariant c.in-Some.ensures.some c.next_token.ensures.source c.in-Some.ensures.behind
    (ap (λ s. c.tokens.opened && is_defining s c.in-Some.token) (sym same) ∙ sym c.defines.ensures ∙ c.if-defines.false)
    c.is_open-opened.ensures

pub returns : goal.returns
returns c = all_read _ _ _ c.tokens.invariant (rw c.in_default.is at c.next_token.ensures.none)

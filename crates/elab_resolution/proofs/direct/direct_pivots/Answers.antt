use Rattle.std.proofs.Common.{◌-◌, length}
use Rattle.std.proofs.lemmas.List.Elements.{All-weaker}
use Rattle.term_pool.specs.Views.{IsTerm}
use Rattle.elab_resolution.specs.Guessed.{IsPivotOfSome}
use Rattle.elab_resolution.proofs.DirectLemmas.{found_of, pivot_of_all, pivots_known}
use Rattle.elab_resolution.proofs.direct.direct_pivots.Goals as goal

pub meets-requires-clause-pivots : goal.meets-requires-clause-pivots
meets-requires-clause-pivots c =
    let s = c.args.symbols.now in
    let v = c.args.terms.now in
    let premises = c.args.premises.now in
    rw (c.deref.ensures.value, c.guessed_pivots.ensures.same)
    (All-weaker _ (λ p. IsTerm s v p.0)
    (λ p h. pivots_known s v premises c.requires.premises p.0 (pivot_of_all s v premises (length premises - 1) p.0 h)) c.in-Some.pivots.items
    (found_of c.in_ok-pivots.field-0 c.in-Some.pivots _ c.in-Some.is c.in_ok-pivots.ensures.pivots))

pub returns-in-Met-clause-pivots : goal.returns-in-Met-clause-pivots
returns-in-Met-clause-pivots c =
    let s = c.args.symbols.now in
    let v = c.args.terms.now in
    let premises = c.args.premises.now in
    All-weaker _ (λ p. IsPivotOfSome s v premises p.0) (λ p h. pivot_of_all s v premises (length premises - 1) p.0 h) c.in-Some.pivots.items
    (found_of c.in_ok-pivots.field-0 c.in-Some.pivots _ c.in-Some.is c.in_ok-pivots.ensures.pivots)

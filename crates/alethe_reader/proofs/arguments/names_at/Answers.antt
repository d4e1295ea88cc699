-- One node after another.
use Rattle.std.proofs.Common.{arith, sym, ◌∙◌}
use Rattle.term_pool.proofs.Keeping.{terms-refl, terms-trans}
use Rattle.term_reader.proofs.Staying.{adds_none, adds_then}
use Rattle.alethe_text.specs.ProofTerms.{place_in}
use Rattle.alethe_reader.proofs.LeftToRead.{hands_on, none_gone, more_gone, within_end}
use Rattle.alethe_reader.proofs.NamedArguments.{left_first, all_read, left_inside, no_term, left_behind}
use Rattle.alethe_reader.proofs.TermAnswers.{value_answers}
use Rattle.alethe_reader.proofs.arguments.names_at.Goals as goal

pub arguments-init : goal.arguments-init
arguments-init c = record {
  gone = none_gone _ _ _ _;
  left = λ settings nesting p h. left_first settings nesting p _ _ _ _ _ _ h;
}

pub value_at-requires-clause-reader : goal.value_at-requires-clause-reader
value_at-requires-clause-reader c =
    let (settings, nesting, p, reader) = c.requires.reader in
    let h = c.arguments.invariant.left settings nesting p reader in
    (h.state.script, place_in settings nesting, h.holds.behind.reader)

pub returns-in_err-value_at-clause-read : goal.returns-in_err-value_at-clause-read
returns-in_err-value_at-clause-read c settings nesting p h =
    let left = c.arguments.invariant.left settings nesting p h in
    hands_on c.from_residual.result c.from_residual.ensures.1
    (no_term left c.node-behind.ensures c.arguments-test.true c.requires.items.inside c.value_at.ensures.grow.symbols c.value_at.ensures.grow.terms (sym c.is_naming.ensures ∙ c.if-is_naming.true)
    (value_answers _ _ _ settings nesting _ _ left.state _ (c.in_err-value_at.ensures.read left.state.script (place_in settings nesting) left.holds.behind.reader)))

pub returns-in_err-value_at-clause-grow : goal.returns-in_err-value_at-clause-grow
returns-in_err-value_at-clause-grow c = record { symbols = adds_then _ _ _ c.arguments.invariant.gone.adds c.value_at.ensures.grow.symbols; terms = terms-trans _ _ _ c.arguments.invariant.gone.keeps c.value_at.ensures.grow.terms }

pub arguments-preserved-then-is_naming : goal.arguments-preserved-then-is_naming
arguments-preserved-then-is_naming c = record {
  gone = more_gone c.arguments.invariant.gone c.value_at.ensures.grow.symbols c.value_at.ensures.grow.terms c.node-behind.ensures.behind
      (within_end c.node-behind.ensures c.requires.items.nested c.arguments.invariant.gone c.arguments-test.true) (omega (arith, c.in_ok-value_at.ensures.spent, c.node-behind.ensures.next));
  left = λ settings nesting p h.
      let left = c.arguments.invariant.left settings nesting p h in
      left_behind left c.node-behind.ensures c.arguments-test.true c.requires.items.inside c.value_at.ensures.grow.symbols c.value_at.ensures.grow.terms (sym c.is_naming.ensures ∙ c.if-is_naming.true)
      (value_answers _ _ _ settings nesting _ _ left.state _ (c.in_ok-value_at.ensures.read left.state.script (place_in settings nesting) left.holds.behind.reader));
}

pub arguments-preserved : goal.arguments-preserved
arguments-preserved c = record {
  gone = more_gone c.arguments.invariant.gone (adds_none _) (terms-refl _) (omega arith) (omega (arith, c.arguments-test.true)) (omega arith);
  left = λ settings nesting p h. left_inside (c.arguments.invariant.left settings nesting p h) c.node-behind.ensures c.arguments-test.true c.requires.items.inside (sym c.is_naming.ensures ∙ c.if-is_naming.false)
      (within_end c.node-behind.ensures c.requires.items.nested c.arguments.invariant.gone c.arguments-test.true);
}

pub returns-clause-read : goal.returns-clause-read
returns-clause-read c settings nesting p h = all_read (c.arguments.invariant.left settings nesting p h) c.arguments-test.false

use Rattle.std.proofs.Common.{[], ◌∷◌, refl, sym}
use Rattle.term_model.specs.declared.symbols.Op.{Op}
use Rattle.term_model.specs.Terms.{not_of}
use Rattle.rule_model.specs.declared.letter.Letter.{Letter}
use Rattle.rules_simplify.proofs.OperandLemmas.{first_is_term}
use Rattle.rules_simplify.proofs.OverNegationLemmas.{no_implication, other_premise, both_refer}
use Rattle.rules_simplify.proofs.RowLemmas.{letter_refers}
use Rattle.rules_simplify.proofs.rewrites.over_negation.Goals as goal

pub operands-requires : goal.operands-requires
operands-requires c = record {
  means = c.requires.terms Letter.A;
  refers = letter_refers c.args.symbols.now c.args.terms.now c.args.letters.now c.requires.terms c.requires.agrees Letter.A c.in-Some.first (sym c.in-Some.ensures);
}

pub returns-in_default-operands-clause-ends : goal.returns-in_default-operands-clause-ends
returns-in_default-operands-clause-ends c f u agrees =
    no_implication c.args.symbols.now c.args.terms.now f u c.in-Some.first
    (letter_refers c.args.symbols.now c.args.terms.now c.args.letters.now f agrees Letter.A c.in-Some.first (sym c.in-Some.ensures)) c.in_default-operands.ensures.other

pub is_negation_of-requires : goal.is_negation_of-requires
is_negation_of-requires c =
    rw c.operands.ensures.same
    (first_is_term c.args.symbols.now c.args.terms.now Op.Implies c.in-Some.first _ c.in-Some-operands.ensures.operands
    (record {
      means = c.requires.terms Letter.A;
      refers = letter_refers c.args.symbols.now c.args.terms.now c.args.letters.now c.requires.terms c.requires.agrees Letter.A c.in-Some.first (sym c.in-Some.ensures);
    }))

pub returns-then-not-is_negation_of-clause-ends : goal.returns-then-not-is_negation_of-clause-ends
returns-then-not-is_negation_of-clause-ends c f u agrees =
    other_premise c.args.symbols.now c.args.terms.now f u c.in-Some.first
    (letter_refers c.args.symbols.now c.args.terms.now c.args.letters.now f agrees Letter.A c.in-Some.first (sym c.in-Some.ensures)) _ c.in-Some-get.second c.is_negation_of.result
    c.in-Some-operands.ensures.operands
    (letter_refers c.args.symbols.now c.args.terms.now c.args.letters.now f agrees Letter.B c.in-Some-get.second (sym c.in-Some-get.ensures))
    (rw c.operands.ensures.same at c.is_negation_of.ensures.negation) c.if-not-is_negation_of.true

pub returns-clause-next : goal.returns-clause-next
returns-clause-next c f agrees sorted = record {
  arguments = f Letter.A ∷ not_of (f Letter.B) ∷ [];
  is = refl;
  refer =
      both_refer c.args.symbols.now c.args.terms.now f c.in-Some.first c.in-Some-get.second _ c.is_negation_of.result _ _ _
      (letter_refers c.args.symbols.now c.args.terms.now c.args.letters.now f agrees Letter.A c.in-Some.first (sym c.in-Some.ensures))
      (letter_refers c.args.symbols.now c.args.terms.now c.args.letters.now f agrees Letter.B c.in-Some-get.second (sym c.in-Some-get.ensures))
      c.in-Some-operands.ensures.operands (rw c.operands.ensures.same at c.is_negation_of.ensures.negation) c.if-not-is_negation_of.false c.clear.ensures.items
      c.in_ok-push.ensures c.in_ok-push-2.ensures;
  sorted = sorted;
}

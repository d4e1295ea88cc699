use Rattle.std.proofs.Common.{sym, subst}
use Rattle.std.specs.List.{AllZip}
use Rattle.hole_fillers.specs.Questions.{naming_of}
use Rattle.hole_questions.specs.Declarations.{declared_of}
use Rattle.hole_questions.specs.States.{IsFunctionOf, IsVariableOf}
use Rattle.hole_questions.proofs.DeclarationTexts.{whole_text, is_free}
use Rattle.hole_questions.proofs.questions.declared.Goals as goal

pub write_functions-requires : goal.write_functions-requires
write_functions-requires c = record {
  functions = (naming_of c.requires.asserted).functions;
  are =
      subst (λ ks. AllZip (IsFunctionOf c.args.symbols.now) ks (naming_of c.requires.asserted).functions) (sym c.as_slice.ensures.keys)
      c.requires.written.functions;
}

pub write_constants-requires : goal.write_constants-requires
write_constants-requires c = record {
  variables = (naming_of c.requires.asserted).variables;
  are =
      subst (λ ks. AllZip (IsVariableOf c.args.symbols.now) ks (naming_of c.requires.asserted).variables) (sym c.as_slice-2.ensures.keys)
      c.requires.written.variables;
}

pub returns : goal.returns
returns c = λ asserted is.
    whole_text asserted (declared_of c.new-declarations.result) (declared_of c.write_functions.new.declarations)
    (declared_of c.write_constants.new.declarations) c.args.writer.now.text.items c.new-declarations.ensures
    (c.in_ok-write_functions.ensures (naming_of asserted).functions
    (subst (λ ks. AllZip (IsFunctionOf c.args.symbols.now) ks (naming_of asserted).functions) (sym c.as_slice.ensures.keys) is.functions))
    (c.in_ok-write_constants.ensures (is_free asserted) is.free (naming_of asserted).variables
    (subst (λ ks. AllZip (IsVariableOf c.args.symbols.now) ks (naming_of asserted).variables) (sym c.as_slice-2.ensures.keys) is.variables))
    is.text

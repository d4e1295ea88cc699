use Rattle.std.proofs.Common.{[], ◌∷◌, refl}
use Rattle.term_model.specs.declared.symbols.Op.{Op}
use Rattle.term_model.specs.declared.symbols.Sort.{Sort}
use Rattle.term_model.specs.Terms.{no_terms, term}
use Rattle.rule_model.specs.Scopes.{outermost}
use Rattle.readable_proofs.proofs.NewTerms.{operation_in, call_in, equality_in, put_in_of, images_of}
use Rattle.readable_proofs.proofs.ProofsStill.{items_in_still}
use Rattle.readable_proofs.proofs.Replaced.{still_of}
use Rattle.readable_proofs.proofs.laws.new_terms_are_over_their_names.Goals as goal

pub returns-clause-operations : goal.returns-clause-operations
returns-clause-operations c = operation_in

pub returns-clause-calls : goal.returns-clause-calls
returns-clause-calls c = call_in

pub returns-clause-negations : goal.returns-clause-negations
returns-clause-negations c = λ v nesting t h. operation_in v nesting Op.Not (term t no_terms) (Sort.Bool ∷ []) Sort.Bool (h, tt) refl

pub returns-clause-equalities : goal.returns-clause-equalities
returns-clause-equalities c = equality_in

pub returns-clause-put_in : goal.returns-clause-put_in
returns-clause-put_in c = λ v s t closed h k. put_in_of v t s closed h k

pub returns-clause-images : goal.returns-clause-images
returns-clause-images c = images_of

pub returns-clause-terms : goal.returns-clause-terms
returns-clause-terms c = λ v w t more h. still_of v w more t h

pub returns-clause-proofs : goal.returns-clause-proofs
returns-clause-proofs c = λ v w proof more h. items_in_still v w more outermost proof h

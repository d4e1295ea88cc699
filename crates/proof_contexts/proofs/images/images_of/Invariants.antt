use Rattle.std.proofs.Common.{◌≡◌, List, take}
use Rattle.std.specs.List.{AllZip}
use Rattle.contexts.specs.Kept.{IsRight, all_bindings, frames_of}
use Rattle.contexts.specs.PutIn.{StandForReplacement}
use Rattle.term_pool.specs.Bindings.{IsBindingOf}
use Rattle.rule_model.specs.Contexts.{put_in_each}
use Rattle.rule_model.specs.Replacement.{Replacement}
use Rattle.term_model.specs.Terms.{Var, Term}
use Rattle.term_pool.specs.Views.{KeepsTerms}
use Rattle.proof_contexts.specs.Images.{IsImageIn}
use Rattle.term_pool.specs.Placing.{PlacesCellsOf}
use Rattle.proof_contexts.proofs.images.images_of.Given as goal

abbrev pub invariant-bindings : goal.invariant-bindings
invariant-bindings l = record {
  keeps : KeepsTerms l.fn.terms l.terms;
  right : IsRight l.terms l.outer;
  same : frames_of l.outer ≡ frames_of l.fn.outer;
  images : (q : Replacement) (bound : List (Var × Term)) → StandForReplacement l.fn.symbols l.fn.terms (all_bindings l.fn.outer) q → AllZip (IsBindingOf l.fn.symbols l.fn.terms) l.anchor bound → AllZip (IsBindingOf l.fn.symbols l.terms) l.list.items (put_in_each q (take l.binding-index bound));
  placed : (q : Replacement) (bound : List (Var × Term)) → StandForReplacement l.fn.symbols l.fn.terms (all_bindings l.fn.outer) q → AllZip (IsBindingOf l.fn.symbols l.fn.terms) l.anchor bound → PlacesCellsOf l.fn.symbols l.fn.terms.pass l.terms.pass (IsImageIn q bound);
}

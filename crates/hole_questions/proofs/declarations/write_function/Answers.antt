use Rattle.std.proofs.Common.{◌≡◌, codes, sym, Some}
use Rattle.std.proofs.lemmas.Result.{on_ok_weaker}
use Rattle.sym_table.specs.Leaf.{target_of}
use Rattle.term_model.proofs.Basics.{same_some}
use Rattle.term_pool.specs.StandsFor.{function_leaf}
use Rattle.hole_fillers.specs.Questions.{name_with}
use Rattle.hole_questions.specs.Declarations.{declared_of}
use Rattle.hole_questions.proofs.DeclarationLists.{line_written}
use Rattle.hole_questions.proofs.Pieces.{of_leaf}
use Rattle.hole_questions.proofs.declarations.write_function.Goals as goal

pub returns : goal.returns
returns c =
    on_ok_weaker c.end.result (λ ended f is.
    line_written (declared_of c.args.declarations.now) (declared_of c.begin.new.self) (declared_of c.write_arguments.new.declarations)
    (declared_of c.end.new.self) (name_with (codes "f") c.args.place) f.arguments f.target c.result_sort.result c.in_ok-begin.ensures
    (c.in_ok-write_arguments.ensures f is)
    (sym (same_some (of_leaf c.args.symbols.now c.args.leaf (function_leaf f) (λ l. target_of l ≡ Some c.result_sort.result) c.result_sort.ensures is)))
    ended) c.end.ensures

use Rattle.std.proofs.Common.{◌≡◌, refl}
use Rattle.std.proofs.lemmas.Result.{on_ok_weaker}
use Rattle.hole_questions.specs.States.{after_leaf, state_of}
use Rattle.hole_questions.specs.Walks.{leaf_piece}
use Rattle.hole_questions.proofs.Pieces.{of_leaf}
use Rattle.hole_questions.proofs.Performed.{leaf_performs, application_performs, let_performs}
use Rattle.hole_questions.proofs.walk.write_term.Goals as goal

pub returns-in-Leaf-clause-performs : goal.returns-in-Leaf-clause-performs
returns-in-Leaf-clause-performs c =
    on_ok_weaker c.write_leaf.result (λ meets t refers.
    leaf_performs c.args.symbols.now c.leaves_differ.ensures.table c.args.terms.now c.args.tasks.now.items c.args.tasks.now.items
    c.args.writer.now c.write_leaf.new.writer c.in-Leaf.leaf refl
    (λ l there. of_leaf c.args.symbols.now c.in-Leaf.leaf l
    (λ l. state_of c.write_leaf.new.writer ≡ after_leaf (state_of c.args.writer.now) (leaf_piece c.in-Leaf.leaf l)) meets there)
    t (c.in-Leaf.ensures.top t refers).2) c.write_leaf.ensures

pub returns-in_ok-put-in-Application-clause-performs : goal.returns-in_ok-put-in-Application-clause-performs
returns-in_ok-put-in-Application-clause-performs c =
    on_ok_weaker c.write_leaf-in-Application.result (λ meets t refers.
    application_performs c.args.symbols.now c.leaves_differ.ensures.table c.args.terms.now c.args.tasks.now.items c.begin_application.new.tasks.items
    c.args.writer.now c.write_leaf-in-Application.new.writer c.put.new.self c.in-Application.head c.in-Application.list t
    (c.in-Application.ensures.top t refers) c.in_ok-put-in-Application.ensures
    (λ l there. of_leaf c.args.symbols.now c.in-Application.head l
    (λ l. state_of c.write_leaf-in-Application.new.writer ≡ after_leaf (state_of c.put.new.self) (leaf_piece c.in-Application.head l))
    meets there) c.in_ok-begin_application-in-Application.ensures) c.write_leaf-in-Application.ensures

pub returns-in_ok-begin_let-in-Let-clause-performs : goal.returns-in_ok-begin_let-in-Let-clause-performs
returns-in_ok-begin_let-in-Let-clause-performs c =
    on_ok_weaker c.put-in-Let.result (λ wrote t refers.
    let_performs c.args.symbols.now c.leaves_differ.ensures.table c.args.terms.now c.args.tasks.now.items c.begin_let.new.tasks.items
    c.args.writer.now c.put-in-Let.new.self c.in-Let.list c.in-Let.body t (c.in-Let.ensures.top t refers) wrote c.in_ok-begin_let-in-Let.ensures)
    c.put-in-Let.ensures

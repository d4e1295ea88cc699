use Rattle.std.proofs.Common.{[], ◌∷◌, zip}
use Rattle.rule_model.specs.Congruence.{applied, denials}
use Rattle.term_model.specs.Flips.{equality}
use Rattle.equality_steps.proofs.DeniedLemmas.{adds_then, lacks_left, lacks_right, placed_then, places_left}
use Rattle.equality_steps.proofs.Results.{err_more, handed_on, on_ok}
use Rattle.equality_steps.proofs.StepLemmas.{refers_later}
use Rattle.equality_steps.proofs.clauses.add_equation.Goals as goal

pub returns-in_err-add_arguments-clause-placed : goal.returns-in_err-add_arguments-clause-placed
returns-in_err-add_arguments-clause-placed c head ts us l r =
    places_left c.args.at.now.symbols.now c.args.terms.now.pass c.add_arguments.new.terms.pass (denials (zip ts us))
    (equality (applied head ts) (applied head us) ∷ [])
    (c.add_arguments.ensures.placed head ts us l r)

pub returns-in_err-add_arguments-clause-full : goal.returns-in_err-add_arguments-clause-full
returns-in_err-add_arguments-clause-full c =
    handed_on c.from_residual.result _ _ c.from_residual.ensures.1 (λ full head ts us l r.
    lacks_left c.args.at.now.symbols.now c.add_arguments.new.terms.pass (denials (zip ts us)) (equality (applied head ts) (applied head us) ∷ [])
    (c.in_err-add_arguments.ensures.full full head ts us l r))

pub returns-clause-added : goal.returns-clause-added
returns-clause-added c head ts us l r =
    let keeps = c.add_arguments.ensures.keeps in
    let left = refers_later c.args.at.now c.args.terms.now c.add_arguments.new.terms keeps c.args.a (applied head ts) l in
    let right = refers_later c.args.at.now c.args.terms.now c.add_arguments.new.terms keeps c.args.b (applied head us) r in
    on_ok c.add_equality.result _ _
    (adds_then c.args.at.now.symbols.now c.add_arguments.new.terms c.add_equality.new.terms c.add_equality.ensures.keeps c.args.clause.now.items
    c.add_arguments.new.clause.items c.add_equality.new.clause.items (denials (zip ts us)) (equality (applied head ts) (applied head us) ∷ [])
    (c.in_ok-add_arguments.ensures.added head ts us l r))
    (c.add_equality.ensures.added (applied head ts) (applied head us) left right)

pub returns-clause-placed : goal.returns-clause-placed
returns-clause-placed c head ts us l r =
    let keeps = c.add_arguments.ensures.keeps in
    let left = refers_later c.args.at.now c.args.terms.now c.add_arguments.new.terms keeps c.args.a (applied head ts) l in
    let right = refers_later c.args.at.now c.args.terms.now c.add_arguments.new.terms keeps c.args.b (applied head us) r in
    placed_then c.args.at.now.symbols.now c.args.terms.now c.add_arguments.new.terms c.add_equality.new.terms (denials (zip ts us))
    (equality (applied head ts) (applied head us) ∷ [])
    c.add_equality.ensures.keeps (c.add_arguments.ensures.placed head ts us l r)
    (c.add_equality.ensures.placed (applied head ts) (applied head us) left right)

pub returns-clause-full : goal.returns-clause-full
returns-clause-full c =
    err_more c.add_equality.result _ _ (λ e lacks is head ts us l r.
    let keeps = c.add_arguments.ensures.keeps in
    let left = refers_later c.args.at.now c.args.terms.now c.add_arguments.new.terms keeps c.args.a (applied head ts) l in
    let right = refers_later c.args.at.now c.args.terms.now c.add_arguments.new.terms keeps c.args.b (applied head us) r in
    lacks_right c.args.at.now.symbols.now c.add_equality.new.terms.pass (denials (zip ts us)) (equality (applied head ts) (applied head us) ∷ [])
    (lacks is (applied head ts) (applied head us) left right)) c.add_equality.ensures.full

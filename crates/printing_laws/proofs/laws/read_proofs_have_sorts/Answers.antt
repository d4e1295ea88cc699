use Rattle.std.proofs.Common.{subst}
use Rattle.std.specs.List.{AllByRecursion}
use Rattle.term_model.specs.Terms.{Var, Term}
use Rattle.printed_proofs.specs.Readable.{IsSortReadable}
use Rattle.printing_laws.proofs.SameFrames.{same_bindings}
use Rattle.printing_laws.proofs.laws.read_proofs_have_sorts.Goals as goal

pub returns-clause-read : goal.returns-clause-read
returns-clause-read c = λ problem replaces before source settings proof after s v refs h k same stand.
    let well = c.scripts_are_well_named.ensures.names problem replaces before h in
    let over = c.proofs_are_over_their_names.ensures.proof problem replaces before source settings proof after h k in
    c.readable_sorts_are_declared.ensures before s v refs proof same stand
    (λ n. c.anchors_have_readable_sorts.ensures before after.let_names proof n well over)

pub returns-clause-elaborated : goal.returns-clause-elaborated
returns-clause-elaborated c = λ problem replaces before source settings proof after s v refs check of h k same is stand.
    let well = c.scripts_are_well_named.ensures.names problem replaces before h in
    let over = c.proofs_are_over_their_names.ensures.proof problem replaces before source settings proof after h k in
    let kept = c.elaborations_keep_commands.ensures.scopes check proof of is in
    c.readable_sorts_are_declared.ensures before s v refs of same stand
    (λ n. subst (AllByRecursion (λ (b : Var × Term). IsSortReadable before b.0.sort)) (same_bindings of proof n kept)
    (c.anchors_have_readable_sorts.ensures before after.let_names proof n well over))

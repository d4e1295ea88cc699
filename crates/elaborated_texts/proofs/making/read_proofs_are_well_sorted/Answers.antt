use Rattle.std.proofs.Common.{◌≡◌, sym, subst}
use Rattle.std.specs.List.{AllByRecursion}
use Rattle.rule_model.specs.Scopes.{outermost}
use Rattle.rule_model.specs.Truth.{IsLiteralIn, IsWellSortedProof}
use Rattle.term_pool.proofs.OneTerm.{one_term}
use Rattle.elaboration_laws.proofs.Ones.{one_clause}
use Rattle.judged_texts.specs.Reading.{settings_of}
use Rattle.elaborated_texts.proofs.ClosedTruths.{closed_truths}
use Rattle.elaborated_texts.proofs.making.read_proofs_are_well_sorted.Goals as goal

-- there is one proof and one list of assertions for which the references stand: those that were read
pub returns : goal.returns
returns c = λ problem options text s v asserted refs table known is proof assertions stand refer.
    let settings = settings_of options in
    let script = is.script in
    let read = is.read in
    let sound = c.scripts_are_well_sorted.ensures problem options.replaces_lets script is.problem_text in
    let scoped = c.scripts_are_closed.ensures problem options.replaces_lets script is.problem_text in
    let sorted = c.proofs_have_scoped_terms.ensures text settings script read.proof read.after sound scoped read.stands in
    let same : read.proof ≡ proof = c.proofs_stand_for_one.ensures.one s v refs read.proof proof table known read.refer stand in
    let list : script.assertions ≡ assertions = one_clause s v known (one_term s table) asserted script.assertions assertions is.assertions refer in (
      subst IsWellSortedProof same sorted,
      subst (AllByRecursion (IsLiteralIn outermost)) list (closed_truths script.assertions sound.assertions scoped.assertions),
    )

-- A reply by the rows of assertions.
use Rattle.std.proofs.Common.{false, map, ap, ◌∙◌}
use Rattle.std.proofs.lemmas.List.Elements.{recursion_from_All}
use Rattle.term_model.specs.Terms.{not_of}
use Rattle.term_pool.proofs.References.{refer_by_recursion}
use Rattle.sort_check.specs.WellSorted.{IsWellSortedTerm}
use Rattle.proof_store.specs.Ratios.{fraction_of_ratio}
use Rattle.lia_rows.specs.Steps.{whole_fraction}
use Rattle.question_cells.specs.Definitions.{HasDefinitions}
use Rattle.question_reading.specs.Questions.{defining}
use Rattle.lia_answers.specs.Filling.{assumed_by}
use Rattle.lia_answers.proofs.Asserted.{assertions_read}
use Rattle.lia_answers.proofs.Replies.{no_reply, meant, may_infer, few_references, replied, never_full}
use Rattle.lia_answers.proofs.Room.{all_stay}
use Rattle.lia_answers.proofs.replying.reply_to.Goals as goal

pub returns-in_default : goal.returns-in_default
returns-in_default c = λ question script read.
    no_reply question script read.stands ((rw c.in_default.is at c.in_ok-found.ensures.found) script.assertions read.assertions)

pub negations_of-requires : goal.negations_of-requires
negations_of-requires c =
    let s = c.args.symbols.now in
    let v = c.args.terms.now in
    let (ts, refer) = meant s v c.args.assertions.now (recursion_from_All (IsWellSortedTerm s v) c.args.assertions.now c.requires) in
    let is = (rw c.in-Some.is at c.in_ok-found.ensures.found) ts refer in
    rw (c.deref.ensures.value, c.refute.ensures.same)
    (refer_by_recursion s v c.in-Some.refutation.assertions.items (assumed_by is.rows is.multipliers) is.assertions)

pub returns-in_default-negated : goal.returns-in_default-negated
returns-in_default-negated c = λ question script read.
    let is = (rw c.in-Some.is at c.in_ok-found.ensures.found) script.assertions read.assertions in
    let none : HasDefinitions question → ⊥ = λ h. read.not_left_out (defining h) in
    absurd (never_full question script c.args.symbols.now c.args.terms.now c.args.assertions.now read c.in-Some.refutation is
    c.rows_of_assertions.ensures.assertions c.some_assertions_are_used.ensures.few (assertions_read question false script read.stands)
    (c.plain_texts_are_small.ensures.cells question script read.stands none) c.negations_add_two_cells.ensures
    (rw (c.in_default-negated.is, c.deref.ensures.value, c.refute.ensures.same) at c.in_ok-negated.ensures.full))

pub reply-requires-clause-few : goal.reply-requires-clause-few
reply-requires-clause-few c =
    let s = c.args.symbols.now in
    let v = c.args.terms.now in
    let (ts, refer) = meant s v c.args.assertions.now (recursion_from_All (IsWellSortedTerm s v) c.args.assertions.now c.requires) in
    let is = (rw c.in-Some.is at c.in_ok-found.ensures.found) ts refer in
    rw c.deref-5.ensures.value (few_references is c.some_assertions_are_used.ensures.few)

pub reply-requires-clause-may : goal.reply-requires-clause-may
reply-requires-clause-may c =
    let s = c.args.symbols.now in
    let v = c.args.terms.now in
    let (ts, refer) = meant s v c.args.assertions.now (recursion_from_All (IsWellSortedTerm s v) c.args.assertions.now c.requires) in
    let is = (rw c.in-Some.is at c.in_ok-found.ensures.found) ts refer in
    may_infer is c.combinations_are_steps.ensures.lowest c.deref-3.result.now c.deref-4.result.now
    (ap (map fraction_of_ratio) c.deref-4.ensures.value ∙ c.in_ok-ratios.ensures ∙ ap (map whole_fraction) c.deref-2.ensures.value)

pub reply-requires-clause-assumed : goal.reply-requires-clause-assumed
reply-requires-clause-assumed c =
    let s = c.args.symbols.now in
    let v = c.args.terms.now in
    let (ts, refer) = meant s v c.args.assertions.now (recursion_from_All (IsWellSortedTerm s v) c.args.assertions.now c.requires) in
    let is = (rw c.in-Some.is at c.in_ok-found.ensures.found) ts refer in
    let refs = c.in-Some.refutation.assertions.items in
    let assumed = assumed_by is.rows is.multipliers in
    rw c.deref-5.ensures.value
    (refer_by_recursion s c.negations_of.new.terms refs assumed
    (all_stay s v c.negations_of.new.terms refs assumed (rw c.refute.ensures.same at c.in_ok-negated.ensures.keeps) is.assertions))

pub reply-requires-clause-clause : goal.reply-requires-clause-clause
reply-requires-clause-clause c =
    let s = c.args.symbols.now in
    let v = c.args.terms.now in
    let (ts, refer) = meant s v c.args.assertions.now (recursion_from_All (IsWellSortedTerm s v) c.args.assertions.now c.requires) in
    let is = (rw c.in-Some.is at c.in_ok-found.ensures.found) ts refer in
    let assumed = assumed_by is.rows is.multipliers in
    rw c.deref-3.ensures.value
    (refer_by_recursion s c.negations_of.new.terms c.in-Some-negated.clause.items (map not_of assumed)
    ((rw (c.in-Some-negated.is, c.deref.ensures.value, c.refute.ensures.same) at c.in_ok-negated.ensures.clause) assumed is.assertions))

pub returns : goal.returns
returns c = λ question script read.
    let s = c.args.symbols.now in
    let v = c.args.terms.now in
    let w = c.negations_of.new.terms in
    let is = (rw c.in-Some.is at c.in_ok-found.ensures.found) script.assertions read.assertions in
    replied question script s v c.args.assertions.now read c.in-Some.refutation is w (rw c.refute.ensures.same at c.in_ok-negated.ensures.keeps)
    c.deref-3.result.now
    (λ ts refer. rw c.deref-3.ensures.value
    ((rw (c.in-Some-negated.is, c.deref.ensures.value, c.refute.ensures.same) at c.in_ok-negated.ensures.clause) ts refer))
    c.deref-4.result.now
    (ap (map fraction_of_ratio) c.deref-4.ensures.value ∙ c.in_ok-ratios.ensures ∙ ap (map whole_fraction) c.deref-2.ensures.value)
    c.in_ok-text.text.items (rw c.deref-5.ensures.value at c.in_ok-text.ensures.text)

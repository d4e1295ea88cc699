use Rattle.std.proofs.Common.{sym, subst}
use Rattle.term_pool.specs.Placing.{PlacesCellsOf}
use Rattle.term_pool.specs.Views.{TermsView, KeepsTerms}
use Rattle.term_pool.proofs.ReadingLemmas.{keeps-same}
use Rattle.equality_blocks.specs.Commands.{IsToElaborate}
use Rattle.equality_blocks.specs.Made.{IsPlacedFor}
use Rattle.elab_equality.specs.Assuming.{IsAssumedBy}
use Rattle.elab_equality.proofs.AssumeFewLemmas.{assume_count, assume_few}
use Rattle.elab_equality.proofs.AssumeLemmas.{assume_is, assumed_later, may_be_asserted}
use Rattle.elab_equality.proofs.ReadingLemmas.{memory_full, none_placed}
use Rattle.elab_equality.proofs.WorkLemmas.{handed_on}
use Rattle.elab_equality.proofs.assuming.assume.Goals as goal

pub only_literal-assumed-requires-clause-one : goal.only_literal-assumed-requires-clause-one
only_literal-assumed-requires-clause-one c = (assume_is c.args.at.now c.args.terms.now c.requires.job c.requires.rule).one

pub returns-in_err-first-clause-placed : goal.returns-in_err-first-clause-placed
returns-in_err-first-clause-placed c = none_placed c.args.at.now c.args.terms.now c.first_asserted.new.terms _ c.first_asserted.ensures.same

pub returns-in_err-first-clause-full : goal.returns-in_err-first-clause-full
returns-in_err-first-clause-full c = memory_full _ c.from_residual.result c.from_residual.ensures.1

pub returns-in_err-first-clause-keeps : goal.returns-in_err-first-clause-keeps
returns-in_err-first-clause-keeps c = keeps-same c.args.terms.now c.first_asserted.new.terms c.first_asserted.ensures.same

pub asserted-requires-clause-work : goal.asserted-requires-clause-work
asserted-requires-clause-work c =
    let p = c.args.at.now in
    let v = c.first_asserted.new.terms in
    c.new-work.ensures.work p v (c.sites_of_commands.ensures p v (subst (IsToElaborate p) (sym c.first_asserted.ensures.same) c.requires.job))

pub asserted-requires-clause-asserted : goal.asserted-requires-clause-asserted
asserted-requires-clause-asserted c =
    let p = c.args.at.now in
    let v = c.first_asserted.new.terms in
    let back = sym c.first_asserted.ensures.same in
    may_be_asserted p v (subst (IsToElaborate p) back c.requires.job) c.requires.rule c.in_ok-first.first c.only_literal-assumed.result
    (subst (λ (x : TermsView). IsAssumedBy p x c.in_ok-first.first c.only_literal-assumed.result) back c.in_ok-first.ensures.first)

pub returns-in_err-given-clause-placed : goal.returns-in_err-given-clause-placed
returns-in_err-given-clause-placed c = none_placed c.args.at.now c.args.terms.now c.first_asserted.new.terms _ c.first_asserted.ensures.same

pub returns-in_err-given-clause-full : goal.returns-in_err-given-clause-full
returns-in_err-given-clause-full c = handed_on _ c.from_residual-in_err-given.result c.from_residual-in_err-given.ensures.1 c.in_err-given.ensures.done.full

pub returns-in_err-given-clause-keeps : goal.returns-in_err-given-clause-keeps
returns-in_err-given-clause-keeps c = keeps-same c.args.terms.now c.first_asserted.new.terms c.first_asserted.ensures.same

pub lead-requires-clause-job : goal.lead-requires-clause-job
lead-requires-clause-job c = subst (IsToElaborate c.args.at.now) (sym c.first_asserted.ensures.same) c.requires.job

pub lead-requires-clause-work : goal.lead-requires-clause-work
lead-requires-clause-work c = c.in_ok-given.ensures.done.moved.work

pub lead-requires-clause-assumed : goal.lead-requires-clause-assumed
lead-requires-clause-assumed c =
    subst (λ (x : TermsView). IsAssumedBy c.args.at.now x c.in_ok-first.first c.only_literal-assumed.result) (sym c.first_asserted.ensures.same) c.in_ok-first.ensures.first

pub returns-in_err-link-clause-placed : goal.returns-in_err-link-clause-placed
returns-in_err-link-clause-placed c =
    let p = c.args.at.now in
    let w = c.lead.new.terms in
    subst (λ (x : TermsView). PlacesCellsOf p.symbols.now x.pass w.pass (IsPlacedFor p w)) c.first_asserted.ensures.same c.in_err-link.ensures.done.placed

pub returns-in_err-link-clause-full : goal.returns-in_err-link-clause-full
returns-in_err-link-clause-full c = handed_on _ c.from_residual-in_err-link.result c.from_residual-in_err-link.ensures.1 c.in_err-link.ensures.done.full

pub returns-in_err-link-clause-keeps : goal.returns-in_err-link-clause-keeps
returns-in_err-link-clause-keeps c = subst (λ (x : TermsView). KeepsTerms x c.lead.new.terms) c.first_asserted.ensures.same c.in_err-link.ensures.done.keeps

pub finished-requires-clause-job : goal.finished-requires-clause-job
finished-requires-clause-job c =
    let p = c.args.at.now in
    c.commands_stay.ensures.command p c.first_asserted.new.terms c.lead.new.terms c.in_ok-link.ensures.done.keeps c.one_to_one.ensures
    (subst (IsToElaborate p) (sym c.first_asserted.ensures.same) c.requires.job)

pub finished-requires-clause-work : goal.finished-requires-clause-work
finished-requires-clause-work c = c.in_ok-link.ensures.done.moved.work

pub finished-requires-clause-few : goal.finished-requires-clause-few
finished-requires-clause-few c =
    let p = c.args.at.now in
    let u = c.first_asserted.new.terms in
    let w = c.lead.new.terms in
    let back = sym c.first_asserted.ensures.same in
    let keeps = c.in_ok-link.ensures.done.keeps in
    let first = c.in_ok-first.first in
    let assumed = c.only_literal-assumed.result in
    let job = c.commands_stay.ensures.command p u w keeps c.one_to_one.ensures (subst (IsToElaborate p) back c.requires.job) in
    assume_few p w job c.requires.rule first assumed
    (assumed_later p u w keeps first assumed (subst (λ (x : TermsView). IsAssumedBy p x first assumed) back c.in_ok-first.ensures.first)) c.lead.new.self _
    c.in_ok-link.ensures.done.moved.work
    (λ roots trees n met known counts. c.are_of_cells.ensures p.symbols.now w roots trees n job.table c.one_to_one.ensures c.parts_of_trees.ensures met known counts)
    (assume_count p u w c.new-work.result c.asserted.new.self c.lead.new.self c.in_ok-given.given c.in_ok-link.link c.new-work.ensures.block c.new-work.ensures.count
    c.in_ok-given.ensures.done c.in_ok-link.ensures.done)

pub returns-in_err-block-clause-placed : goal.returns-in_err-block-clause-placed
returns-in_err-block-clause-placed c =
    let p = c.args.at.now in
    let w = c.lead.new.terms in
    subst (λ (x : TermsView). PlacesCellsOf p.symbols.now x.pass w.pass (IsPlacedFor p w)) c.first_asserted.ensures.same c.in_ok-link.ensures.done.placed

pub returns-in_err-block-clause-full : goal.returns-in_err-block-clause-full
returns-in_err-block-clause-full c = memory_full _ c.from_residual-in_err-block.result c.from_residual-in_err-block.ensures.1

pub returns-in_err-block-clause-keeps : goal.returns-in_err-block-clause-keeps
returns-in_err-block-clause-keeps c = subst (λ (x : TermsView). KeepsTerms x c.lead.new.terms) c.first_asserted.ensures.same c.in_ok-link.ensures.done.keeps

pub returns-clause-placed : goal.returns-clause-placed
returns-clause-placed c =
    let p = c.args.at.now in
    let w = c.lead.new.terms in
    subst (λ (x : TermsView). PlacesCellsOf p.symbols.now x.pass w.pass (IsPlacedFor p w)) c.first_asserted.ensures.same c.in_ok-link.ensures.done.placed

pub returns-clause-keeps : goal.returns-clause-keeps
returns-clause-keeps c = subst (λ (x : TermsView). KeepsTerms x c.lead.new.terms) c.first_asserted.ensures.same c.in_ok-link.ensures.done.keeps

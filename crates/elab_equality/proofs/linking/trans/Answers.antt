use Rattle.std.proofs.Common.{sym, subst, arith, ◌+◌, length}
use Rattle.term_pool.specs.Placing.{PlacesCellsOf}
use Rattle.term_pool.specs.Views.{TermsView, KeepsTerms}
use Rattle.term_pool.proofs.ReadingLemmas.{keeps-same}
use Rattle.equality_blocks.specs.Commands.{IsToElaborate}
use Rattle.equality_blocks.specs.Made.{IsPlacedFor}
use Rattle.elab_equality.specs.Walking.{IsWalk}
use Rattle.elab_equality.proofs.EndingLemmas.{sides_later}
use Rattle.elab_equality.proofs.ReadingLemmas.{memory_full, none_placed}
use Rattle.elab_equality.proofs.TransLemmas.{trans_block}
use Rattle.elab_equality.proofs.WorkLemmas.{done_then, handed_on}
use Rattle.elab_equality.proofs.linking.trans.Goals as goal

pub returns-in_err-walk-clause-placed : goal.returns-in_err-walk-clause-placed
returns-in_err-walk-clause-placed c = none_placed c.args.at.now c.args.terms.now c.find_way.new.terms _ c.find_way.ensures.same

pub returns-in_err-walk-clause-full : goal.returns-in_err-walk-clause-full
returns-in_err-walk-clause-full c = memory_full _ c.from_residual.result c.from_residual.ensures.1

pub returns-in_err-walk-clause-keeps : goal.returns-in_err-walk-clause-keeps
returns-in_err-walk-clause-keeps c = keeps-same c.args.terms.now c.find_way.new.terms c.find_way.ensures.same

pub walk_all-requires-clause-work : goal.walk_all-requires-clause-work
walk_all-requires-clause-work c =
    let p = c.args.at.now in
    c.new-work.ensures.work p c.find_way.new.terms
    (c.sites_of_commands.ensures p c.find_way.new.terms (subst (IsToElaborate p) (sym c.find_way.ensures.same) c.requires.job))

pub walk_all-requires-clause-walk : goal.walk_all-requires-clause-walk
walk_all-requires-clause-walk c = subst (λ v. IsWalk c.args.at.now v c.in_ok-walk.walk) (sym c.find_way.ensures.same) c.in_ok-walk.ensures.walk

pub returns-in_err-links-clause-placed : goal.returns-in_err-links-clause-placed
returns-in_err-links-clause-placed c =
    let p = c.args.at.now in
    let w = c.walk_all.new.terms in
    subst (λ (x : TermsView). PlacesCellsOf p.symbols.now x.pass w.pass (IsPlacedFor p w)) c.find_way.ensures.same c.in_err-links.ensures.done.placed

pub returns-in_err-links-clause-full : goal.returns-in_err-links-clause-full
returns-in_err-links-clause-full c = handed_on _ c.from_residual-in_err-links.result c.from_residual-in_err-links.ensures.1 c.in_err-links.ensures.done.full

pub returns-in_err-links-clause-keeps : goal.returns-in_err-links-clause-keeps
returns-in_err-links-clause-keeps c = subst (λ (x : TermsView). KeepsTerms x c.walk_all.new.terms) c.find_way.ensures.same c.in_err-links.ensures.done.keeps

pub arrive-requires-clause-job : goal.arrive-requires-clause-job
arrive-requires-clause-job c =
    let p = c.args.at.now in
    c.commands_stay.ensures.command p c.find_way.new.terms c.walk_all.new.terms c.in_ok-links.ensures.done.keeps c.one_to_one.ensures
    (subst (IsToElaborate p) (sym c.find_way.ensures.same) c.requires.job)

pub arrive-requires-clause-work : goal.arrive-requires-clause-work
arrive-requires-clause-work c = c.in_ok-links.ensures.done.moved.work

pub arrive-requires-clause-sides : goal.arrive-requires-clause-sides
arrive-requires-clause-sides c =
    let p = c.args.at.now in
    let walk = c.in_ok-walk.walk in
    sides_later p c.find_way.new.terms c.walk_all.new.terms walk.from walk.to c.in_ok-links.ensures.done.keeps
    (subst (λ v. IsWalk p v walk) (sym c.find_way.ensures.same) c.in_ok-walk.ensures.walk).ends

pub arrive-requires-clause-linked : goal.arrive-requires-clause-linked
arrive-requires-clause-linked c = rw c.deref.ensures.value c.in_ok-links.ensures.linked

pub returns-in_err-_link-clause-placed : goal.returns-in_err-_link-clause-placed
returns-in_err-_link-clause-placed c =
    let p = c.args.at.now in
    let w = c.arrive.new.terms in
    let done = done_then (length c.in_ok-walk.walk.used.items + 1) (omega arith) c.in_ok-links.ensures.done c.in_err-_link.ensures.done in
    subst (λ (x : TermsView). PlacesCellsOf p.symbols.now x.pass w.pass (IsPlacedFor p w)) c.find_way.ensures.same done.placed

pub returns-in_err-_link-clause-full : goal.returns-in_err-_link-clause-full
returns-in_err-_link-clause-full c = handed_on _ c.from_residual-in_err-_link.result c.from_residual-in_err-_link.ensures.1 c.in_err-_link.ensures.done.full

pub returns-in_err-_link-clause-keeps : goal.returns-in_err-_link-clause-keeps
returns-in_err-_link-clause-keeps c =
    let done = done_then (length c.in_ok-walk.walk.used.items + 1) (omega arith) c.in_ok-links.ensures.done c.in_err-_link.ensures.done in
    subst (λ (x : TermsView). KeepsTerms x c.arrive.new.terms) c.find_way.ensures.same done.keeps

pub returns-clause-made : goal.returns-clause-made
returns-clause-made c =
    let p = c.args.at.now in
    let u = c.find_way.new.terms in
    let w = c.arrive.new.terms in
    let back = sym c.find_way.ensures.same in
    trans_block p u c.walk_all.new.terms w (subst (IsToElaborate p) back c.requires.job) c.one_to_one-2.ensures c.requires.rule c.in_ok-walk.walk
    (subst (λ v. IsWalk p v c.in_ok-walk.walk) back c.in_ok-walk.ensures.walk) c.new-work.result c.walk_all.new.self c.arrive.new.self c.in_ok-links.links
    c.in_ok-_link._link c.new-work.ensures.block c.new-work.ensures.count c.in_ok-links.ensures.done c.in_ok-_link.ensures.done c.in_ok-_link.ensures.ends
    c.in_ok-_link.ensures.by (λ roots trees n met known counts. c.are_of_cells.ensures p.symbols.now w roots trees n c.leaves_differ.ensures.table
    c.one_to_one-2.ensures c.parts_of_trees.ensures met known counts)

pub returns-clause-placed : goal.returns-clause-placed
returns-clause-placed c =
    let p = c.args.at.now in
    let w = c.arrive.new.terms in
    let done = done_then (length c.in_ok-walk.walk.used.items + 1) (omega arith) c.in_ok-links.ensures.done c.in_ok-_link.ensures.done in
    subst (λ (x : TermsView). PlacesCellsOf p.symbols.now x.pass w.pass (IsPlacedFor p w)) c.find_way.ensures.same done.placed

pub returns-clause-keeps : goal.returns-clause-keeps
returns-clause-keeps c =
    let done = done_then (length c.in_ok-walk.walk.used.items + 1) (omega arith) c.in_ok-links.ensures.done c.in_ok-_link.ensures.done in
    subst (λ (x : TermsView). KeepsTerms x c.arrive.new.terms) c.find_way.ensures.same done.keeps

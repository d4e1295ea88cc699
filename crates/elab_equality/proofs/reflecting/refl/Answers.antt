use Rattle.std.proofs.Common.{arith}
use Rattle.flip_steps.proofs.OrderLemmas.{keeps_then}
use Rattle.elab_equality.proofs.ReflectFewLemmas.{refl_block, reflected_later}
use Rattle.elab_equality.proofs.ScopeLemmas.{placed_then}
use Rattle.elab_equality.proofs.WorkLemmas.{done_then, handed_on}
use Rattle.elab_equality.proofs.reflecting.refl.Goals as goal

pub reflect-requires-clause-job : goal.reflect-requires-clause-job
reflect-requires-clause-job c =
    c.commands_stay.ensures.command c.args.at.now c.args.terms.now c.put_in_both.new.terms c.in_ok-x.ensures.keeps c.one_to_one.ensures c.requires.job

pub reflect-requires-clause-work : goal.reflect-requires-clause-work
reflect-requires-clause-work c =
    let p = c.args.at.now in
    let u = c.put_in_both.new.terms in
    c.new-work.ensures.work p u
    (c.sites_of_commands.ensures p u (c.commands_stay.ensures.command p c.args.terms.now u c.in_ok-x.ensures.keeps c.one_to_one.ensures c.requires.job))

pub returns-in_err-links-clause-placed : goal.returns-in_err-links-clause-placed
returns-in_err-links-clause-placed c =
    placed_then c.args.at.now c.args.terms.now c.put_in_both.new.terms c.reflect.new.terms c.in_err-links.ensures.done.keeps c.in_ok-x.ensures.placed
    c.in_err-links.ensures.done.placed

pub returns-in_err-links-clause-full : goal.returns-in_err-links-clause-full
returns-in_err-links-clause-full c = handed_on _ c.from_residual-in_err-links.result c.from_residual-in_err-links.ensures.1 c.in_err-links.ensures.done.full

pub returns-in_err-links-clause-keeps : goal.returns-in_err-links-clause-keeps
returns-in_err-links-clause-keeps c =
    keeps_then c.args.terms.now c.put_in_both.new.terms c.reflect.new.terms c.in_ok-x.ensures.keeps c.in_err-links.ensures.done.keeps

pub arrive-requires-clause-job : goal.arrive-requires-clause-job
arrive-requires-clause-job c =
    c.commands_stay.ensures.command c.args.at.now c.args.terms.now c.reflect.new.terms
    (keeps_then c.args.terms.now c.put_in_both.new.terms c.reflect.new.terms c.in_ok-x.ensures.keeps c.in_ok-links.ensures.done.keeps)
    c.one_to_one-2.ensures c.requires.job

pub arrive-requires-clause-work : goal.arrive-requires-clause-work
arrive-requires-clause-work c = c.in_ok-links.ensures.done.moved.work

pub arrive-requires-clause-sides : goal.arrive-requires-clause-sides
arrive-requires-clause-sides c =
    (reflected_later c.args.at.now c.put_in_both.new.terms c.reflect.new.terms c.in_ok-links.ensures.done.keeps c.in_ok-x.x c.in_ok-x.ensures.reflected).ends

pub arrive-requires-clause-linked : goal.arrive-requires-clause-linked
arrive-requires-clause-linked c = rw c.deref.ensures.value c.in_ok-links.ensures.linked

pub returns-in_err-_link-clause-placed : goal.returns-in_err-_link-clause-placed
returns-in_err-_link-clause-placed c =
    let done = done_then 5 (omega arith) c.in_ok-links.ensures.done c.in_err-_link.ensures.done in
    placed_then c.args.at.now c.args.terms.now c.put_in_both.new.terms c.arrive.new.terms done.keeps c.in_ok-x.ensures.placed done.placed

pub returns-in_err-_link-clause-full : goal.returns-in_err-_link-clause-full
returns-in_err-_link-clause-full c = handed_on _ c.from_residual-in_err-_link.result c.from_residual-in_err-_link.ensures.1 c.in_err-_link.ensures.done.full

pub returns-in_err-_link-clause-keeps : goal.returns-in_err-_link-clause-keeps
returns-in_err-_link-clause-keeps c =
    let done = done_then 5 (omega arith) c.in_ok-links.ensures.done c.in_err-_link.ensures.done in
    keeps_then c.args.terms.now c.put_in_both.new.terms c.arrive.new.terms c.in_ok-x.ensures.keeps done.keeps

pub returns-clause-made : goal.returns-clause-made
returns-clause-made c =
    let p = c.args.at.now in
    let u = c.put_in_both.new.terms in
    let w = c.arrive.new.terms in
    refl_block p u c.reflect.new.terms w (c.commands_stay.ensures.command p c.args.terms.now u c.in_ok-x.ensures.keeps c.one_to_one.ensures c.requires.job)
    c.one_to_one-3.ensures c.requires.rule c.in_ok-x.x c.in_ok-x.ensures.reflected c.new-work.result c.reflect.new.self c.arrive.new.self c.in_ok-links.links
    c.in_ok-_link._link c.new-work.ensures.block c.new-work.ensures.count c.in_ok-links.ensures.done c.in_ok-_link.ensures.done c.in_ok-_link.ensures.ends
    c.in_ok-_link.ensures.by (λ roots trees n met known counts. c.are_of_cells.ensures p.symbols.now w roots trees n c.leaves_differ.ensures.table
    c.one_to_one-3.ensures c.parts_of_trees.ensures met known counts)

pub returns-clause-placed : goal.returns-clause-placed
returns-clause-placed c =
    let done = done_then 5 (omega arith) c.in_ok-links.ensures.done c.in_ok-_link.ensures.done in
    placed_then c.args.at.now c.args.terms.now c.put_in_both.new.terms c.arrive.new.terms done.keeps c.in_ok-x.ensures.placed done.placed

pub returns-clause-keeps : goal.returns-clause-keeps
returns-clause-keeps c =
    let done = done_then 5 (omega arith) c.in_ok-links.ensures.done c.in_ok-_link.ensures.done in
    keeps_then c.args.terms.now c.put_in_both.new.terms c.arrive.new.terms c.in_ok-x.ensures.keeps done.keeps

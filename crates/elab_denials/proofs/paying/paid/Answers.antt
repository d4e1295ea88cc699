use Rattle.std.proofs.Common.{◌+◌, ◌≤◌, arith}
use Rattle.elab_denials.proofs.Results.{handed_on}
use Rattle.elab_denials.proofs.WorkLemmas.{done_more, done_then, equated_none, equated_some, place_later, went_then}
use Rattle.elab_denials.proofs.paying.paid.Goals as goal

pub returns-in-Some-clause-equates : goal.returns-in-Some-clause-equates
returns-in-Some-clause-equates c =
    equated_some c.args.at.now c.joined.new.terms c.joined.new.work.block c.in_ok-found.found c.in-Some.link c.args.a c.args.b c.in-Some.is
    c.in_ok-found.ensures.equated

pub returns-in-Some-clause-done : goal.returns-in-Some-clause-done
returns-in-Some-clause-done c =
    let low : 2 ≤ 3 = omega arith in
    done_more c.args.at.now c.joined.new.terms c.args.work.now c.joined.new.work 2 3 low c.in_ok-found.ensures.done

pub reflexive-requires-clause-work : goal.reflexive-requires-clause-work
reflexive-requires-clause-work c = c.in_ok-found.ensures.done.work

pub reflexive-requires-clause-place : goal.reflexive-requires-clause-place
reflexive-requires-clause-place c =
    place_later c.args.at.now c.args.terms.now c.joined.new.terms c.in_ok-found.ensures.went.keeps c.args.a c.args.b c.requires.place

pub reflexive-requires-clause-one : goal.reflexive-requires-clause-one
reflexive-requires-clause-one c =
    equated_none c.args.at.now c.joined.new.terms c.joined.new.work.block c.in_ok-found.found c.args.a c.args.b c.in-None.is c.in_ok-found.ensures.equated

pub returns-in_err-link-in-None-clause-went : goal.returns-in_err-link-in-None-clause-went
returns-in_err-link-in-None-clause-went c =
    went_then c.args.at.now c.args.terms.now c.joined.new.terms c.reflexive.new.terms c.in_ok-found.ensures.went c.in_err-link-in-None.ensures.went

pub returns-in_err-link-in-None-clause-full : goal.returns-in_err-link-in-None-clause-full
returns-in_err-link-in-None-clause-full c = handed_on c.from_residual-in_err-link-in-None.result _ _ c.from_residual-in_err-link-in-None.ensures.1 c.in_err-link-in-None.ensures.full

pub returns-in_ok-link-in-None-clause-done : goal.returns-in_ok-link-in-None-clause-done
returns-in_ok-link-in-None-clause-done c =
    let low : 2 + 1 ≤ 3 = omega arith in
    done_then c.args.at.now c.reflexive.new.terms c.joined.new.terms c.args.work.now c.joined.new.work c.reflexive.new.work 2 1 3 low
    c.in_ok-found.ensures.done c.in_ok-link-in-None.ensures.done

pub returns-in_ok-link-in-None-clause-went : goal.returns-in_ok-link-in-None-clause-went
returns-in_ok-link-in-None-clause-went c =
    went_then c.args.at.now c.args.terms.now c.joined.new.terms c.reflexive.new.terms c.in_ok-found.ensures.went c.in_ok-link-in-None.ensures.went

use Rattle.std.proofs.Common.{subst, arith, All}
use Rattle.std.proofs.lemmas.List.{length-map}
use Rattle.std.proofs.lemmas.List.Elements.{All-map}
use Rattle.rule_model.specs.Resolution.{as_clause}
use Rattle.clause_chain.specs.Chaining.{clauses_of}
use Rattle.chain_plan.specs.Towers.{IsLiteral, terms_of}
use Rattle.chain_plan.specs.Trails.{FollowsBy}
use Rattle.chain_plan.proofs.Starting.{nothing_sound, numbers_of, places_lead}
use Rattle.chain_plan.proofs.conflict.plan_steps.Goals as goal

pub from_conflict-requires-clause-places : goal.from_conflict-requires-clause-places
from_conflict-requires-clause-places c =
    let given = clauses_of c.args.given.now in
    let f = subst (FollowsBy c.args.spellings.now given c.args.goal.now c.args.units.now) c.in-Some.is c.requires.follows in
    (places_lead f.terms given (as_clause (terms_of f.terms c.args.goal.now)) c.args.units.now c.in-Some.place f.shown.1).0

pub from_conflict-requires-clause-last : goal.from_conflict-requires-clause-last
from_conflict-requires-clause-last c =
    let given = clauses_of c.args.given.now in
    let f = subst (FollowsBy c.args.spellings.now given c.args.goal.now c.args.units.now) c.in-Some.is c.requires.follows in
    let within = (places_lead f.terms given (as_clause (terms_of f.terms c.args.goal.now)) c.args.units.now c.in-Some.place f.shown.1).1 in
    let same = length-map c.args.given.now (λ v. v.items) in
    omega arith

pub from_conflict-requires-clause-follows : goal.from_conflict-requires-clause-follows
from_conflict-requires-clause-follows c =
    subst (FollowsBy c.args.spellings.now (clauses_of c.args.given.now) c.args.goal.now c.args.units.now) c.in-Some.is c.requires.follows

pub from_opposites-requires-clause-contradicts : goal.from_opposites-requires-clause-contradicts
from_opposites-requires-clause-contradicts c =
    let f = subst (FollowsBy c.args.spellings.now (clauses_of c.args.given.now) c.args.goal.now c.args.units.now) c.in-None.is c.requires.follows in
    record { terms = f.terms; named = f.named; contradicts = f.shown }

pub returns-in_ok-steps-in-Some-clause-numbers : goal.returns-in_ok-steps-in-Some-clause-numbers
returns-in_ok-steps-in-Some-clause-numbers c =
    numbers_of c.args.spellings.now (clauses_of c.args.given.now) c.in_ok-steps-in-Some.steps.items c.in_ok-steps-in-Some.ensures.sound

pub returns-in_ok-steps-in-None-clause-met : goal.returns-in_ok-steps-in-None-clause-met
returns-in_ok-steps-in-None-clause-met c terms named =
    let t = c.args.spellings.now in
    let given = clauses_of c.args.given.now in
    let literals = All-map (All (IsLiteral t)) (λ v. v.items) c.args.given.now c.requires.literals in
    (c.in_ok-steps-in-None.ensures.sound given (nothing_sound t given literals)).met terms named

pub returns-in_ok-steps-in-None-clause-numbers : goal.returns-in_ok-steps-in-None-clause-numbers
returns-in_ok-steps-in-None-clause-numbers c =
    let t = c.args.spellings.now in
    let given = clauses_of c.args.given.now in
    numbers_of t given c.in_ok-steps-in-None.steps.items
    (c.in_ok-steps-in-None.ensures.sound given (nothing_sound t given (All-map (All (IsLiteral t)) (λ v. v.items) c.args.given.now c.requires.literals)))

pub returns-in_ok-steps-in-Some-clause-rules : goal.returns-in_ok-steps-in-Some-clause-rules
returns-in_ok-steps-in-Some-clause-rules c = c.in_ok-steps-in-Some.ensures.sound.rules

pub returns-in_ok-steps-in-None-clause-rules : goal.returns-in_ok-steps-in-None-clause-rules
returns-in_ok-steps-in-None-clause-rules c =
    let t = c.args.spellings.now in
    let given = clauses_of c.args.given.now in
    (c.in_ok-steps-in-None.ensures.sound given (nothing_sound t given (All-map (All (IsLiteral t)) (λ v. v.items) c.args.given.now c.requires.literals))).rules

use Rattle.rule_model.specs.Reading.{clause_at}
use Rattle.elaboration_laws.proofs.Reading.{clause_stands}
use Rattle.elab_denials.proofs.OwnLemmas.{own_terms}
use Rattle.elab_denials.proofs.WalkLemmas.{denials_given}
use Rattle.elab_denials.proofs.reading.denials.Goals as goal

pub denied-requires : goal.denied-requires
denied-requires c = record { terms = rw c.clause.ensures (own_terms c.args.at.now c.args.terms.now c.requires.job) }

pub returns-clause-given : goal.returns-clause-given
returns-clause-given c =
    let p = c.args.at.now in
    let v = c.args.terms.now in
    let h = c.requires.job in
    let stands = clause_stands p.symbols.now v p.proof.now h.proof h.stand p.command in
    denials_given p v c.in_ok-sides.sides.items (clause_at h.proof p.command) stands
    ((rw c.clause.ensures at c.in_ok-sides.ensures.sides) (clause_at h.proof p.command) stands)

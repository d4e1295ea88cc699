use Rattle.elab_denials.proofs.EndLemmas.{has_each, whole_block}
use Rattle.elab_denials.proofs.ending.finished.Goals as goal

pub weakening-requires-clause-given : goal.weakening-requires-clause-given
weakening-requires-clause-given c =
    has_each c.args.at.now c.args.terms.now (c.equal_exactly_where_terms_are.ensures c.args.at.now.symbols.now c.leaves_differ.ensures.table)
    c.args.work.block c.args.link c.clause.result.now c.clause.ensures c.requires.literals c.requires.given

pub returns : goal.returns
returns c =
    let refer = Rattle.std.proofs.Common.subst (λ rs. Rattle.term_pool.specs.Views.ReferToAll c.args.at.now.symbols.now c.args.terms.now rs c.requires.literals.clause) (Rattle.std.proofs.Common.sym c.clause.ensures) c.requires.literals.refer in
    record {
      made = whole_block c.args.at.now c.args.terms.now (c.equal_exactly_where_terms_are.ensures c.args.at.now.symbols.now c.leaves_differ.ensures.table)
          c.forms_stay.ensures c.requires.job c.requires.opens c.requires.literals c.args.work c.weakening.new.block c.in_ok-_last._last c.requires.work
          c.in_ok-_last.ensures.block (c.in_ok-_last.ensures.added c.requires.literals.clause refer) c.in_ok-_last.ensures.by c.requires.few;
    }

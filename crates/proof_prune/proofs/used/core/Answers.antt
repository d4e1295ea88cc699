use Rattle.std.proofs.Common.{length, All, sym, subst, arith}
use Rattle.term_pool.specs.Views.{IsTerm}
use Rattle.proof_prune.specs.Firsts.{AreFirsts, AreNumbersTo}
use Rattle.proof_prune.proofs.Found.{wanted_terms, found_core, one_reference}
use Rattle.proof_prune.proofs.Marks.{if_ok_then}
use Rattle.proof_prune.proofs.used.core.Goals as goal

pub firsts-requires-clause-wanted : goal.firsts-requires-clause-wanted
firsts-requires-clause-wanted c =
    let s = c.args.symbols.now in
    let v = c.args.terms.now in
    let refs = c.args.proof.now in
    let of = c.requires.meant.means in
    let stand = c.requires.meant.stand in
    subst (All (IsTerm s v)) (sym c.deref.ensures.value)
    (wanted_terms s v refs of stand (λ i. c.commands_correspond.ensures.rule s v refs of i stand) (λ i. c.commands_correspond.ensures.scope s v refs of i stand)
    (λ i. c.terms_correspond.ensures.clause s v refs of i stand) c.args.kept.now c.in_ok-list.list.items c.in_ok-list.ensures)

pub numbers_of-requires : goal.numbers_of-requires
numbers_of-requires c =
    let few = c.requires.few in
    let count = c.in_ok-marks.ensures.count in
    rw c.deref-2.ensures.value (omega arith)

pub returns-clause-core : goal.returns-clause-core
returns-clause-core c =
    let s = c.args.symbols.now in
    let v = c.args.terms.now in
    let refs = c.args.proof.now in
    let list = c.in_ok-list.list.items in
    let marks = c.in_ok-marks.marks.items in
    if_ok_then c.numbers_of.result c.numbers_of.ensures
    (λ numbers are of ts stand refer asserted.
    found_core s v refs of stand (λ i. c.commands_correspond.ensures.rule s v refs of i stand) (λ i. c.commands_correspond.ensures.scope s v refs of i stand)
    (λ i. c.terms_correspond.ensures.clause s v refs of i stand) c.args.kept.now ts
    (one_reference s v c.one_to_one.ensures (λ a t u. c.trees_of_terms.ensures.one_term s a t u c.leaves_differ.ensures.table))
    list c.in_ok-list.ensures marks (subst (λ ws. AreFirsts s v ts ws marks) c.deref.ensures.value (c.in_ok-marks.ensures.firsts ts refer))
    asserted numbers.items
    (subst (λ ms. AreNumbersTo ms (length ms) numbers.items) c.deref-2.ensures.value are))

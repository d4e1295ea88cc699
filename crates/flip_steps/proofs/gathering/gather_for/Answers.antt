use Rattle.std.proofs.Common.{sym, subst}
use Rattle.std.proofs.lemmas.List.Elements.{All-from_recursion}
use Rattle.sym_table.specs.Table.{Table, IsTable}
use Rattle.term_model.specs.Terms.{Term}
use Rattle.term_pool.specs.Building.{IsAppliedLeaf}
use Rattle.term_pool.specs.Reading.{arguments_of}
use Rattle.term_pool.specs.Views.{RefersTo, ReferToAll}
use Rattle.flip_steps.specs.Remembering.{IsSettled}
use Rattle.flip_steps.proofs.MemoryLemmas.{arguments_settled, gathered_for}
use Rattle.flip_steps.proofs.Results.{some_where, was_some}
use Rattle.flip_steps.proofs.gathering.gather_for.Goals as goal

pub unwrap-head-requires : goal.unwrap-head-requires
unwrap-head-requires c =
    let app = c.requires.application in
    some_where c.head_of.result _ c.head_of.ensures.let_term
    (λ h. app.no_let (h c.args.at.now.symbols.now app.side.term c.leaves_differ.ensures.table app.side.refers))

pub gather-requires : goal.gather-requires
gather-requires c =
    let app = c.requires.application in
    let s = c.args.at.now.symbols.now in
    let same = c.head_of.ensures.same in
    let refer = subst (λ v. ReferToAll s v c.in_ok-args.args.items (arguments_of app.side.term)) same
    (c.in_ok-args.ensures.arguments s app.side.term (subst (λ v. RefersTo s v c.args.r app.side.term) (sym same) app.side.refers) app.no_let) in
    All-from_recursion (IsSettled c.args.forms.now) c.deref.result.now
    (arguments_settled c.args.at.now c.args.terms.now c.args.forms.now c.args.r c.deref.result.now app c.requires.arguments
    (subst (λ xs. ReferToAll s c.args.terms.now xs (arguments_of app.side.term)) (sym c.deref.ensures.value) refer))

pub returns-clause-gathered : goal.returns-clause-gathered
returns-clause-gathered c steps right =
    let app = c.requires.application in
    let s = c.args.at.now.symbols.now in
    let same = c.head_of.ensures.same in
    let refer = subst (λ v. ReferToAll s v c.in_ok-args.args.items (arguments_of app.side.term)) same
    (c.in_ok-args.ensures.arguments s app.side.term (subst (λ v. RefersTo s v c.args.r app.side.term) (sym same) app.side.refers) app.no_let) in
    let refer_all = subst (λ xs. ReferToAll s c.args.terms.now xs (arguments_of app.side.term)) (sym c.deref.ensures.value) refer in
    gathered_for c.args.at.now c.args.terms.now steps c.leaves_differ.ensures.table c.one_to_one.ensures c.parts_of_trees.ensures c.args.forms.now right
    c.args.r c.in_ok-gathered.gathered.head c.deref.result.now c.in_ok-gathered.gathered.forms.items c.in_ok-gathered.gathered.links.items app
    (subst (λ k. IsAppliedLeaf s k (arguments_of app.side.term) app.side.term) (sym c.in_ok-gathered.ensures.head)
    (was_some c.head_of.result c.unwrap-head.result
    (λ k. (z : Table) (t : Term) → IsTable z → RefersTo z c.args.terms.now c.args.r t → IsAppliedLeaf z k (arguments_of t) t) c.unwrap-head.ensures
    c.head_of.ensures.application s app.side.term c.leaves_differ.ensures.table app.side.refers)) refer_all
    (arguments_settled c.args.at.now c.args.terms.now c.args.forms.now c.args.r c.deref.result.now app c.requires.arguments refer_all)
    c.in_ok-gathered.ensures.forms c.in_ok-gathered.ensures.links

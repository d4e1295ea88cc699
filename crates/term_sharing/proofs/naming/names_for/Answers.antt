use Rattle.std.proofs.Common.{sym, subst, arith}
use Rattle.std.proofs.lemmas.List.Elements.{All-get_or}
use Rattle.term_sharing.specs.NamedTerms.{MayHaveName}
use Rattle.term_sharing.proofs.NameLists.{none_is_leaf}
use Rattle.term_sharing.proofs.Plans.{no_names, one_more, all_named}
use Rattle.term_sharing.proofs.naming.names_for.Goals as goal

pub terms-init : goal.terms-init
terms-init c = (omega arith, λ sc p. no_names _ _ sc.taken _ _ (c.new-names.ensures.none _ _ sc.taken) c.new-names.ensures.empty)

pub is_found-requires : goal.is_found-requires
is_found-requires c =
    (subst (MayHaveName c.args.symbols.now c.args.terms.now) (sym c.r-item.is)
    (All-get_or (MayHaveName c.args.symbols.now c.args.terms.now) c.args.closed.now c.terms.r-index c.r-item.result c.terms-test.true c.requires)).cell

pub terms-preserved : goal.terms-preserved
terms-preserved c =
    let s = c.args.symbols.now in
    let v = c.args.terms.now in
    let next = rw c.in-Some.is at c.in_ok-number.ensures in
    let few = next.few in (
      omega (arith, few),
      λ sc p. one_more s v sc.taken (c.equal_exactly_where_terms_are.ensures s c.leaves_differ.ensures.table) c.terms.names c.plan.new.self c.terms.next
          c.r-item.result c.in-Some.number (c.terms.invariant.1 sc p)
          (subst (MayHaveName s v) (sym c.r-item.is) (All-get_or (MayHaveName s v) c.args.closed.now c.terms.r-index c.r-item.result c.terms-test.true c.requires))
          next.behind next.few (next.free.untaken s v sc p)
          (none_is_leaf s _ c.in-Some.number c.in_ok-leaves.ensures next.free.no_leaf) c.in_ok-plan.ensures,
    )

pub returns-in_default : goal.returns-in_default
returns-in_default c = λ sc p. all_named c.args.symbols.now c.args.terms.now sc.taken c.terms.names c.terms.next c.terms.invariant.0 (c.terms.invariant.1 sc p)

pub returns : goal.returns
returns c = λ sc p. all_named c.args.symbols.now c.args.terms.now sc.taken c.terms.names c.terms.next c.terms.invariant.0 (c.terms.invariant.1 sc p)

use Rattle.std.proofs.Common.{◌<◌, Any, length, sym, subst}
use Rattle.term_model.specs.Flips.{EqualUpToFlips}
use Rattle.term_pool.specs.Views.{ReferToAll}
use Rattle.flip_keys.specs.Assertions.{references_of, IsFirstLike}
use Rattle.elab_equality.specs.Assuming.{IsAssumedBy}
use Rattle.elab_equality.proofs.AssumeLemmas.{assumed_term, first_found, some_alike, told_none, told_some}
use Rattle.elab_equality.proofs.assuming.first_asserted.Goals as goal

pub first_asserted-requires-clause-known : goal.first_asserted-requires-clause-known
first_asserted-requires-clause-known c =
    let t = assumed_term c.args.at.now c.args.terms.now c.requires.job c.requires.rule c.args.assumed c.requires.clause in
    record { tree = t.refers.tree; stands = t.refers.known }

pub returns-clause-first : goal.returns-clause-first
returns-clause-first c =
    let p = c.args.at.now in
    let v = c.args.terms.now in
    let h = c.requires.job in
    let place = c.in-Some.place in
    let q = c.index-at-place.result in
    let below = subst (λ rs. place < length rs) c.requires.asserted.are
    (told_some (λ n. n < length (references_of c.args.asserted.now)) c.in_ok-found.found place c.in-Some.is c.in_ok-found.ensures.within) in
    let refer = subst (λ rs. ReferToAll p.symbols.now v rs h.assertions) (sym c.requires.asserted.are) h.asserted in
    subst (λ x. IsAssumedBy p v x c.args.assumed) c.index-at-place.is
    (first_found p v h c.requires.rule c.args.assumed c.requires.clause place q below c.index-at-place.is
    (λ u refers. told_some (IsFirstLike h.assertions u) c.in_ok-found.found place c.in-Some.is (c.in_ok-found.ensures.first h.assertions u refer refers)))

pub unreachable-requires : goal.unreachable-requires
unreachable-requires c =
    let p = c.args.at.now in
    let v = c.args.terms.now in
    let h = c.requires.job in
    let refer = subst (λ rs. ReferToAll p.symbols.now v rs h.assertions) (sym c.requires.asserted.are) h.asserted in
    some_alike p v h c.requires.rule c.args.assumed c.requires.clause
    (λ u refers.
    told_none (¬ Any (λ a. EqualUpToFlips a u) h.assertions) c.in_ok-found.found c.in-None.is (c.in_ok-found.ensures.none h.assertions u refer refers))

use Rattle.std.proofs.Common.{sym, subst, take}
use Rattle.std.proofs.lemmas.List.{take_more, take_all}
use Rattle.std.specs.List.{AllZip}
use Rattle.term_model.proofs.Zips.{zip_push}
use Rattle.elab_resolution.specs.Loaded.{HasNumber, IsItemOf}
use Rattle.elab_resolution.proofs.clauses.items_of.Goals as goal

pub item_of-requires : goal.item_of-requires
item_of-requires c =
    subst (HasNumber c.args.numbering.now) (sym c.literal-item.is) (c.requires c.literals.literal-index c.literal-item.result c.literals-test.true)

pub literals-preserved : goal.literals-preserved
literals-preserved c =
    let i = c.literals.literal-index in
    let r = c.literal-item.result in
    rw (take_more c.args.clause.now i r c.literals-test.true, ← c.literal-item.is, c.in_ok-push.ensures.items)
    (zip_push (IsItemOf c.args.numbering.now) (take i c.args.clause.now) c.literals.items.items r c.item_of.result c.literals.invariant c.item_of.ensures)

pub returns : goal.returns
returns c =
    subst (λ rs. AllZip (IsItemOf c.args.numbering.now) rs c.literals.items.items)
    (take_all c.literals.literal-index c.args.clause.now c.literals-test.false) c.literals.invariant

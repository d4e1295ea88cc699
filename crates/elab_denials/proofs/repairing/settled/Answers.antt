use Rattle.std.proofs.Common.{◌≡◌, ◌∷◌, ℕ, drop, false, get_or, true}
use Rattle.elab_denials.proofs.SettleLemmas.{first_owing, first_owing_one, first_place, nothing_needed, paying_last, paying_needed, split_at, turning_last, turning_needed}
use Rattle.elab_denials.proofs.WorkLemmas.{done_none, went_none}
use Rattle.elab_denials.proofs.repairing.settled.Goals as goal

pub returns-in-Nothing-clause-owing : goal.returns-in-Nothing-clause-owing
returns-in-Nothing-clause-owing c =
    let p = c.args.at.now in
    let v = c.args.terms.now in
    let pairs = c.args.owed.pairs.now in
    let q = get_or pairs 0 c.index-owed-0.result in
    let is = split_at pairs c.index-owed-0.result c.requires.some in
    let r = c.requires.repairable in
    let n = c.in-Nothing.ensures.need r.sides r.is_table in
    let one = c.equal_exactly_where_terms_are.ensures p.symbols.now c.leaves_differ.ensures.table in
    nothing_needed p v c.args.owed.table.now pairs q is r one c.args.work.now.block c.args.link n c.requires.owing

pub returns-in-Nothing-clause-done : goal.returns-in-Nothing-clause-done
returns-in-Nothing-clause-done c = done_none c.args.at.now c.args.terms.now c.args.work.now 4 c.requires.work

pub returns-in-Nothing-clause-went : goal.returns-in-Nothing-clause-went
returns-in-Nothing-clause-went c = went_none c.args.at.now c.args.terms.now c.args.terms.now Rattle.std.proofs.Common.refl

pub replaced-requires-clause-place : goal.replaced-requires-clause-place
replaced-requires-clause-place c =
    let p = c.args.at.now in
    let v = c.args.terms.now in
    let pairs = c.args.owed.pairs.now in
    let q = get_or pairs 0 c.index-owed-0.result in
    let is = split_at pairs c.index-owed-0.result c.requires.some in
    let r = c.requires.repairable in
    let n = c.in-Turning.ensures.need r.sides r.is_table in
    first_place p v c.args.owed.table.now pairs q is r

pub replaced-requires-clause-freed : goal.replaced-requires-clause-freed
replaced-requires-clause-freed c =
    let p = c.args.at.now in
    let v = c.args.terms.now in
    let pairs = c.args.owed.pairs.now in
    let q = get_or pairs 0 c.index-owed-0.result in
    let is = split_at pairs c.index-owed-0.result c.requires.some in
    let r = c.requires.repairable in
    let n = c.in-Turning.ensures.need r.sides r.is_table in
    turning_needed p v c.args.owed.table.now pairs q is r n

pub replaced-requires-clause-owing : goal.replaced-requires-clause-owing
replaced-requires-clause-owing c =
    let p = c.args.at.now in
    let v = c.args.terms.now in
    let pairs = c.args.owed.pairs.now in
    let q = get_or pairs 0 c.index-owed-0.result in
    let is = split_at pairs c.index-owed-0.result c.requires.some in
    let r = c.requires.repairable in
    let n = c.in-Turning.ensures.need r.sides r.is_table in
    first_owing_one p v c.args.owed.table.now pairs q is r c.args.work.now.block c.args.link c.requires.owing

pub returns-in-Turning-clause-owing : goal.returns-in-Turning-clause-owing
returns-in-Turning-clause-owing c =
    let p = c.args.at.now in
    let v = c.args.terms.now in
    let pairs = c.args.owed.pairs.now in
    let q = get_or pairs 0 c.index-owed-0.result in
    let is = split_at pairs c.index-owed-0.result c.requires.some in
    let r = c.requires.repairable in
    let n = c.in-Turning.ensures.need r.sides r.is_table in
    c.replaced.ensures.owing (drop 1 pairs) (first_owing p v c.args.owed.table.now pairs q is r c.args.work.now.block c.args.link c.requires.owing)
    (turning_last p v c.args.owed.table.now pairs q is r n)

pub replaced-requires-in-Paying-clause-place : goal.replaced-requires-in-Paying-clause-place
replaced-requires-in-Paying-clause-place c =
    let p = c.args.at.now in
    let v = c.args.terms.now in
    let pairs = c.args.owed.pairs.now in
    let q = get_or pairs 0 c.index-owed-0.result in
    let is = split_at pairs c.index-owed-0.result c.requires.some in
    let r = c.requires.repairable in
    let n = c.in-Paying.ensures.need r.sides r.is_table in
    first_place p v c.args.owed.table.now pairs q is r

pub replaced-requires-in-Paying-clause-freed : goal.replaced-requires-in-Paying-clause-freed
replaced-requires-in-Paying-clause-freed c =
    let p = c.args.at.now in
    let v = c.args.terms.now in
    let pairs = c.args.owed.pairs.now in
    let q = get_or pairs 0 c.index-owed-0.result in
    let is = split_at pairs c.index-owed-0.result c.requires.some in
    let r = c.requires.repairable in
    let n = c.in-Paying.ensures.need r.sides r.is_table in
    paying_needed p v c.args.owed.table.now pairs q is r n

pub replaced-requires-in-Paying-clause-owing : goal.replaced-requires-in-Paying-clause-owing
replaced-requires-in-Paying-clause-owing c =
    let p = c.args.at.now in
    let v = c.args.terms.now in
    let pairs = c.args.owed.pairs.now in
    let q = get_or pairs 0 c.index-owed-0.result in
    let is = split_at pairs c.index-owed-0.result c.requires.some in
    let r = c.requires.repairable in
    let n = c.in-Paying.ensures.need r.sides r.is_table in
    first_owing_one p v c.args.owed.table.now pairs q is r c.args.work.now.block c.args.link c.requires.owing

pub returns-in-Paying-clause-owing : goal.returns-in-Paying-clause-owing
returns-in-Paying-clause-owing c =
    let p = c.args.at.now in
    let v = c.args.terms.now in
    let pairs = c.args.owed.pairs.now in
    let q = get_or pairs 0 c.index-owed-0.result in
    let is = split_at pairs c.index-owed-0.result c.requires.some in
    let r = c.requires.repairable in
    let n = c.in-Paying.ensures.need r.sides r.is_table in
    c.replaced-in-Paying.ensures.owing (drop 1 pairs) (first_owing p v c.args.owed.table.now pairs q is r c.args.work.now.block c.args.link c.requires.owing)
    (paying_last p v c.args.owed.table.now pairs q is r n)

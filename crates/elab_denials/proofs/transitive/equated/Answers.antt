use Rattle.std.proofs.Common.{refl, sym, ◌∙◌}
use Rattle.term_model.specs.Flips.{equality}
use Rattle.elab_denials.proofs.ConnectLemmas.{equates_ends, last_refers, transitive_met}
use Rattle.elab_denials.proofs.transitive.equated.Goals as goal

pub unreachable-requires : goal.unreachable-requires
unreachable-requires c =
    let m = transitive_met c.args.at.now c.args.terms.now c.requires.job c.requires.rule in
    c.in_default.ensures.other m.front m.literal (c.clause.ensures ∙ m.clause)

pub sides_of-requires : goal.sides_of-requires
sides_of-requires c =
    let p = c.args.at.now in
    let v = c.args.terms.now in
    let m = transitive_met p v c.requires.job c.requires.rule in
    record {
      means = equality m.left m.right;
      refers = last_refers p v m c.in-Some.split.0.now c.in-Some.split.1 (sym c.clause.ensures ∙ c.in-Some.ensures.split);
    }

pub unreachable-requires-in_default-sides_of : goal.unreachable-requires-in_default-sides_of
unreachable-requires-in_default-sides_of c =
    let p = c.args.at.now in
    let v = c.args.terms.now in
    let m = transitive_met p v c.requires.job c.requires.rule in
    c.in_default-sides_of.ensures.other (equality m.left m.right) m.left m.right
    (last_refers p v m c.in-Some.split.0.now c.in-Some.split.1 (sym c.clause.ensures ∙ c.in-Some.ensures.split)) refl

pub returns-clause-ends : goal.returns-clause-ends
returns-clause-ends c =
    let p = c.args.at.now in
    let v = c.args.terms.now in
    let m = transitive_met p v c.requires.job c.requires.rule in
    let refers = last_refers p v m c.in-Some.split.0.now c.in-Some.split.1 (sym c.clause.ensures ∙ c.in-Some.ensures.split) in
    rw c.new.ensures (equates_ends p v m c.in-Some-sides_of.sides (c.in-Some-sides_of.ensures.sides (equality m.left m.right) refers))

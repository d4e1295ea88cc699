use Rattle.std.proofs.Common.{refl, sym, subst}
use Rattle.term_model.specs.Flips.{equality}
use Rattle.term_model.specs.Terms.{not_of}
use Rattle.term_pool.specs.Views.{RefersTo}
use Rattle.equality_blocks.specs.Made.{IsMadeFor}
use Rattle.equality_blocks.proofs.StayLemmas.{made_later}
use Rattle.elab_denials.specs.Working.{IsMadeEquality}
use Rattle.elab_denials.proofs.Results.{handed_on}
use Rattle.elab_denials.proofs.WorkLemmas.{later, went_then}
use Rattle.elab_denials.proofs.resolving.pivot_of.Goals as goal

pub returns-in_err-negation-clause-went : goal.returns-in_err-negation-clause-went
returns-in_err-negation-clause-went c =
    went_then c.args.at.now c.args.terms.now c.equality.new.terms c.negation.new.terms c.in_ok-atom.ensures.went c.in_err-negation.ensures.went

pub returns-in_err-negation-clause-full : goal.returns-in_err-negation-clause-full
returns-in_err-negation-clause-full c =
    handed_on c.from_residual-in_err-negation.result _ _ c.from_residual-in_err-negation.ensures.1 c.in_err-negation.ensures.full

pub returns-clause-went : goal.returns-clause-went
returns-clause-went c =
    went_then c.args.at.now c.args.terms.now c.equality.new.terms c.negation.new.terms c.in_ok-atom.ensures.went c.in_ok-negation.ensures.went

pub equality-requires : goal.equality-requires
equality-requires c = record { made = subst (λ q. IsMadeEquality c.args.at.now c.args.terms.now q.0 q.1) (sym c.sides-a.ensures) c.requires.made }

pub negation-requires-clause-term : goal.negation-requires-clause-term
negation-requires-clause-term c =
    let s = c.args.at.now.symbols.now in
    let v = c.args.terms.now in
    let m = c.requires.made in
    record {
      means = equality m.left m.right;
      refers = c.in_ok-atom.ensures.refers m.left m.right (subst (λ q. RefersTo s v q.0 m.left) (sym c.sides-a.ensures) m.left_refers)
          (subst (λ q. RefersTo s v q.1 m.right) (sym c.sides-a.ensures) m.right_refers);
    }

pub negation-requires-clause-made : goal.negation-requires-clause-made
negation-requires-clause-made c t r =
    let p = c.args.at.now in
    let s = p.symbols.now in
    let v = c.args.terms.now in
    let w = c.equality.new.terms in
    let m = c.requires.made in
    let one = c.equal_exactly_where_terms_are.ensures s c.leaves_differ.ensures.table in
    let refers =
    c.in_ok-atom.ensures.refers m.left m.right (subst (λ q. RefersTo s v q.0 m.left) (sym c.sides-a.ensures) m.left_refers)
    (subst (λ q. RefersTo s v q.1 m.right) (sym c.sides-a.ensures) m.right_refers) in
    let same = (one c.in_ok-atom.atom c.in_ok-atom.atom (equality m.left m.right) t refers r).0 refl in
    subst (λ x. IsMadeFor p w (not_of x)) same
    (made_later p v w c.in_ok-atom.ensures.went.keeps (not_of (equality m.left m.right)) (c.requires.denied m.left m.right m.left_refers m.right_refers))

pub returns-clause-atom : goal.returns-clause-atom
returns-clause-atom c t u l r =
    let p = c.args.at.now in
    let s = p.symbols.now in
    let v = c.args.terms.now in
    later p c.equality.new.terms c.negation.new.terms c.in_ok-negation.ensures.went.keeps c.in_ok-atom.atom (equality t u)
    (c.in_ok-atom.ensures.refers t u (subst (λ q. RefersTo s v q.0 t) (sym c.sides-a.ensures) l) (subst (λ q. RefersTo s v q.1 u) (sym c.sides-a.ensures) r))

pub returns-clause-negation : goal.returns-clause-negation
returns-clause-negation c t u l r =
    let s = c.args.at.now.symbols.now in
    let v = c.args.terms.now in
    c.in_ok-negation.ensures.refers (equality t u)
    (c.in_ok-atom.ensures.refers t u (subst (λ q. RefersTo s v q.0 t) (sym c.sides-a.ensures) l) (subst (λ q. RefersTo s v q.1 u) (sym c.sides-a.ensures) r))

use Rattle.std.proofs.Common.{◌≡◌, ◌∷◌, [], ℕ, List, length, slice_index_or, ap, ◌∙◌, sym, arith}
use Rattle.rules_subproof.proofs.Discharged.{discharged_assumed}
use Rattle.rules_subproof.proofs.negations.assumed_term.Goals as goal

one_of : (xs : List ℕ) (x y : ℕ) → xs ≡ x ∷ [] → y ≡ slice_index_or xs 0 y → xs ≡ y ∷ []
one_of xs x y e f = e ∙ ap (λ z. z ∷ []) (sym (f ∙ ap (λ zs. slice_index_or zs 0 y) e))

pub clause-clause-requires : goal.clause-clause-requires
clause-clause-requires c =
    let before = (discharged_assumed c.args.proof.now c.count-commands.ensures.well_formed c.args.i c.args.assume c.requires.discharged).before in
    let within = c.requires.index in omega arith

pub bounds-clause-0 : goal.bounds-clause-0
bounds-clause-0 c =
    let is = (discharged_assumed c.args.proof.now c.count-commands.ensures.well_formed c.args.i c.args.assume c.requires.discharged).clause in
    let one = ap length (c.clause-clause.ensures ∙ is) in
    omega arith

pub returns : goal.returns
returns c =
    let is = (discharged_assumed c.args.proof.now c.count-commands.ensures.well_formed c.args.i c.args.assume c.requires.discharged).clause in
    one_of _ _ _ is (rw c.clause-clause.ensures at c.index-clause-0.is)

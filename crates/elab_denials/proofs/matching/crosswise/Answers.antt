use Rattle.std.proofs.Common.{◌≡◌, ◌∙◌, [], ◌∷◌, refl, zip}
use Rattle.std.specs.List.{AllZip}
use Rattle.term_model.specs.Flips.{equality}
use Rattle.term_model.specs.Terms.{Term}
use Rattle.term_pool.specs.Views.{RefersTo}
use Rattle.elab_denials.specs.Matching.{AreCrosswise, AreLinkedAt, AreLinkedTerms}
use Rattle.elab_denials.proofs.MatchLemmas.{crosswise_here, none_more, not_crosswise, some_more, two_terms}
use Rattle.elab_denials.proofs.matching.crosswise.Goals as goal

pub returns-in_default-clause-none : goal.returns-in_default-clause-none
returns-in_default-clause-none c sides table a b x y left right inner outer = c.in_default.ensures.other (equality a b) a b left refl

pub returns-in_default-sides_of-clause-none : goal.returns-in_default-sides_of-clause-none
returns-in_default-sides_of-clause-none c sides table a b x y left right inner outer =
    (rw c.in-Some.ensures.same at c.in_default-sides_of.ensures.other) (equality x y) x y right refl

pub linked_pairs-requires-clause-lefts : goal.linked_pairs-requires-clause-lefts
linked_pairs-requires-clause-lefts c =
    let s = c.args.at.now.symbols.now in
    let one = c.in-Some.ensures.sides c.requires.left.means c.requires.left.refers in
    let same = c.in-Some-sides_of.ensures.same ∙ c.in-Some.ensures.same in
    rw same (two_terms s c.args.terms.now c.in-Some.one.1 c.in-Some.one.0 one.right one.left one.right_refers one.left_refers)

pub linked_pairs-requires-clause-rights : goal.linked_pairs-requires-clause-rights
linked_pairs-requires-clause-rights c =
    let s = c.args.at.now.symbols.now in
    let other = (rw c.in-Some.ensures.same at c.in-Some-sides_of.ensures.sides) c.requires.right.means c.requires.right.refers in
    let same = c.in-Some-sides_of.ensures.same ∙ c.in-Some.ensures.same in
    rw same (two_terms s c.args.terms.now c.in-Some-sides_of.other.0 c.in-Some-sides_of.other.1 other.left other.right other.left_refers other.right_refers)

pub returns-clause-crosswise : goal.returns-clause-crosswise
returns-clause-crosswise c sides table =
    let p = c.args.at.now in
    let v = c.args.terms.now in
    let l = c.requires.left in
    let r = c.requires.right in
    let q = c.in-Some.one in
    let z = c.in-Some-sides_of.other in
    let same = c.in-Some-sides_of.ensures.same ∙ c.in-Some.ensures.same in
    some_more (λ pairs. pairs.items ≡ zip (q.1 ∷ q.0 ∷ []) (z.0 ∷ z.1 ∷ [])) (λ pairs. AllZip (AreLinkedAt p v sides) (q.1 ∷ q.0 ∷ []) (z.0 ∷ z.1 ∷ []))
    (λ pairs. AreCrosswise p v sides c.args.left c.args.right pairs.items) c.in_ok-found.found
    (λ pairs is linked. crosswise_here p v sides c.args.left c.args.right l.means r.means q z pairs.items l.refers r.refers
    (c.in-Some.ensures.sides l.means l.refers) ((rw c.in-Some.ensures.same at c.in-Some-sides_of.ensures.sides) r.means r.refers) is linked)
    c.in_ok-found.ensures.pairs ((rw same at c.in_ok-found.ensures.linked) sides table)

pub returns-clause-none : goal.returns-clause-none
returns-clause-none c sides table =
    let p = c.args.at.now in
    let v = c.args.terms.now in
    let q = c.in-Some.one in
    let z = c.in-Some-sides_of.other in
    let same = c.in-Some-sides_of.ensures.same ∙ c.in-Some.ensures.same in
    none_more (AllZip (AreLinkedAt p v sides) (q.1 ∷ q.0 ∷ []) (z.0 ∷ z.1 ∷ []) → ⊥)
    ((a b x y : Term) → RefersTo p.symbols.now v c.args.left (equality a b) → RefersTo p.symbols.now v c.args.right (equality x y) → AreLinkedTerms p v sides b x
    → AreLinkedTerms p v sides a y → ⊥) c.in_ok-found.found
    (λ none a b x y left right inner outer. none (not_crosswise p v sides c.args.left c.args.right a b x y q z (c.in-Some.ensures.sides (equality a b) left)
    ((rw c.in-Some.ensures.same at c.in-Some-sides_of.ensures.sides) (equality x y) right) inner outer))
    ((rw same at c.in_ok-found.ensures.none) sides table)

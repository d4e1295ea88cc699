use Rattle.std.proofs.Common.{◌≢◌, ◌+◌, ◌∷◌, List}
use Rattle.std.proofs.Common.{drop, get_or, sym, ◌∙◌, ap, subst, arith, inl, inr, Contains}
use Rattle.std.proofs.lemmas.List.{drop_more, drop_all}
use Rattle.std.proofs.lemmas.List.Elements.{Contains-get_or}
use Rattle.std.proofs.lemmas.List.Sums.{sum_by_more}
use Rattle.term_model.proofs.Lists.{contains_none, contains_cases}
use Rattle.clause_chain.specs.declared.signed_term.SignedTerm.{SignedTerm}
use Rattle.chain_plan.specs.Lowering.{IsPlainOfSome}
use Rattle.chain_plan.specs.Towers.{Towers, IsLiteral, item_of, nots_at, plain_of}
use Rattle.chain_plan.proofs.Towers.{item_is}
use Rattle.chain_plan.proofs.raising.raise_all.Goals as goal

-- what was the plain form of the literal, or of one behind it, and is not that of the literal
is_behind : (t : Towers) (lit : SignedTerm) (rest : List SignedTerm) (x : SignedTerm) → IsPlainOfSome t (lit ∷ rest) x
    → x ≢ item_of (plain_of t lit.term) → IsPlainOfSome t rest x
is_behind t lit rest x (g, there, is) other =
    elim (contains_cases lit g rest there) [
      | inl here ↦ absurd (other (is ∙ ap (λ (z : SignedTerm). item_of (plain_of t z.term)) (sym here)))
      | inr later ↦ (g, later, is)
    ]

pub literals-preserved : goal.literals-preserved
literals-preserved c =
    let t = c.args.spellings.now in
    let goals = c.args.goal.now in
    let i = c.literals.literal-index in
    let below = c.literals-test.true in
    let lit = get_or goals i (item_of 0) in
    let literal : IsLiteral t lit = c.requires.literals i (item_of 0) below in
    let l = c.in_ok-raise_to.ensures in
    let inv = c.literals.invariant in
    record {
      sound = λ given s. l.sound given (inv.sound given s);
      going = λ given g. l.going given (inv.going given g);
      within = λ plains x there.
          elim (l.was x there) [
            | inl before ↦
                elim (inv.within plains x before.0) [
                  | inl is ↦ inl is
                  | inr some ↦ inr (is_behind t lit (drop (i + 1) goals) x (rw (drop_more goals i (item_of 0) below) at some) before.1)
                ]
            | inr is ↦ inl (subst (Contains goals) (item_is lit literal.unsigned ∙ sym is) (Contains-get_or goals i (item_of 0) below))
          ];
      count =
          let more = sum_by_more (λ (x : SignedTerm). nots_at t x.term) goals i (item_of 0) below in
          let before = inv.count in
          let here = l.count in
          omega arith;
    }

pub returns-clause-within : goal.returns-clause-within
returns-clause-within c plains x there =
    elim (c.literals.invariant.within plains x there) [
      | inl is ↦ is
      | inr some ↦ absurd (contains_none some.0 (rw (drop_all c.literals.literal-index c.args.goal.now c.literals-test.false) at some.1))
    ]

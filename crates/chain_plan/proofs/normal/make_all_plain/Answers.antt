use Rattle.std.proofs.Common.{◌≡◌, ◌≤◌, ◌+◌, ◌⊎◌, ◌∷◌, List}
use Rattle.std.proofs.Common.{drop, get_or, refl, sym, ◌∙◌, ap, subst, arith, inl, inr, Contains}
use Rattle.std.proofs.lemmas.List.{drop_more, drop_all}
use Rattle.std.proofs.lemmas.List.Sums.{sum_by_more}
use Rattle.term_model.proofs.Lists.{contains_none, contains_cases}
use Rattle.clause_chain.specs.declared.signed_term.SignedTerm.{SignedTerm}
use Rattle.chain_plan.specs.Carried.{Carried}
use Rattle.chain_plan.specs.Lowering.{IsPlain}
use Rattle.chain_plan.specs.Towers.{Towers, AreTowers, IsLiteral, item_of, nots_at, plain_of}
use Rattle.chain_plan.proofs.Bridging.{alike_through}
use Rattle.chain_plan.proofs.Going.{keeps_through}
use Rattle.chain_plan.proofs.Towers.{item_is, less_than_two, plain_has_none, plain_most, room_within}
use Rattle.chain_plan.proofs.normal.make_all_plain.Goals as goal

-- an item is plain, or is one of the literals that are left
one_plain : (t : Towers) → AreTowers t → (lit : SignedTerm) → IsLiteral t lit → (old new rest : List SignedTerm)
    → ((x : SignedTerm) → Contains old x → IsPlain t x ⊎ Contains (lit ∷ rest) x)
    → (2 ≤ nots_at t lit.term → ¬ Contains new (item_of lit.term))
    → ((x : SignedTerm) → Contains new x → Contains old x ⊎ (x ≡ item_of (plain_of t lit.term)))
    → (x : SignedTerm) → Contains new x → IsPlain t x ⊎ Contains rest x
one_plain t towers lit literal old new rest plain gone was x there =
    elim (was x there) [
      | inl before ↦
          elim (plain x before) [
            | inl is ↦ inl is
            | inr left ↦
                elim (contains_cases lit x rest left) [
                  | inl here ↦
                      elim (less_than_two (nots_at t lit.term)) [
                        | inl few ↦ inl (subst (IsPlain t) here (record { item = room_within t lit literal; few = few }))
                        | inr many ↦ absurd (gone many (subst (Contains new) (sym here ∙ item_is lit literal.unsigned) there))
                      ]
                  | inr later ↦ inr later
                ]
          ]
      | inr is ↦
          let within = literal.room.one.within in
          let below = plain_most t lit.term in
          inl (subst (IsPlain t) (sym is) (record {
            item = record { unsigned = refl; within = omega arith };
            few = plain_has_none t towers lit.term lit.term (omega arith) (omega arith);
          }))
    ]

pub literals-preserved : goal.literals-preserved
literals-preserved c =
    let t = c.args.spellings.now in
    let clause = c.args.clause.now in
    let i = c.literals.literal-index in
    let below = c.literals-test.true in
    let lit = get_or clause i (item_of 0) in
    let l = c.in_ok-make_plain.ensures in
    let inv = c.literals.invariant in
    record {
      sound = λ given s. l.sound given (inv.sound given s);
      going = λ given g. l.going given (inv.going given g);
      alike = alike_through t c.args.carry.now.list c.literals.carry.list c.make_plain.new.carry.list inv.alike l.alike;
      plain = one_plain t c.requires.towers lit (c.requires.literals i (item_of 0) below) c.literals.carry.list c.make_plain.new.carry.list
          (drop (i + 1) clause)
          (λ x there. elim (inv.plain x there) [ inl is ↦ inl is | inr left ↦ inr (rw (drop_more clause i (item_of 0) below) at left) ])
          l.gone l.was;
      kept = keeps_through c.args.steps.now.items c.literals.steps.items c.make_plain.new.steps.items inv.kept l.kept;
      some =
          let more = sum_by_more (λ (x : SignedTerm). nots_at t x.term) clause i (item_of 0) below in
          elim l.some [
            | inl same ↦ elim inv.some [ inl before ↦ inl (same ∙ before) | inr pair ↦ inr (omega arith) ]
            | inr pair ↦ inr (omega arith)
          ];
      first = λ none. let same = l.first none in same ∙ inv.first (sym (ap (λ (k : Carried). k.pivots) same) ∙ none);
      count =
          let more = sum_by_more (λ (x : SignedTerm). nots_at t x.term) clause i (item_of 0) below in
          let before = inv.count in
          let here = l.count in
          omega arith;
    }

pub returns-clause-plain : goal.returns-clause-plain
returns-clause-plain c x there =
    elim (c.literals.invariant.plain x there) [
      | inl is ↦ is
      | inr left ↦ absurd (contains_none x (rw (drop_all c.literals.literal-index c.args.clause.now c.literals-test.false) at left))
    ]

use Rattle.std.proofs.Common.{◌≡◌, ◌++◌, ◌∷◌, [], ℕ, Option, length, inr, sym, ap, ◌∙◌, subst, rules, true≢false}
use Rattle.clause_chain.specs.declared.signed_term.SignedTerm.{SignedTerm}
use Rattle.clause_chain.specs.Places.{left_from, place_in, ArePlaces}
use Rattle.clause_chain.proofs.Keys.{differs, same_entries}
use Rattle.clause_chain.proofs.Leaving.{missing, left_pushed, pushed_places, unplaced_places}
use Rattle.clause_chain.proofs.chain.Chain.add.Goals as goal

pub invariant_of-self-in_err-insert : goal.invariant_of-self-in_err-insert
invariant_of-self-in_err-insert c =
    let none =
    missing (place_in c.self.inside.places) c.self.inside.added.items c.args.self.now c.args.item c.has.result c.self.invariant
    c.self.view_is c.has.ensures c.if-has.false in
    rw c.in_ok-push.ensures.items
    (subst (λ (places : SignedTerm → Option ℕ). ArePlaces places (c.self.inside.added.items ++ c.args.item ∷ []))
    (sym (same_entries c.self.inside.places c.insert.new.self c.in_err-insert.ensures.err))
    (unplaced_places (place_in c.self.inside.places) c.self.inside.added.items c.args.item c.self.invariant none))

pub invariant_of-self-2 : goal.invariant_of-self-2
invariant_of-self-2 c =
    let none =
    missing (place_in c.self.inside.places) c.self.inside.added.items c.args.self.now c.args.item c.has.result c.self.invariant
    c.self.view_is c.has.ensures c.if-has.false in
    let place : c.len-place.result ≡ length c.self.inside.added.items = search (rules, c.len-place.ensures) in
    rw c.in_ok-push.ensures.items
    (pushed_places (place_in c.self.inside.places) (place_in c.insert.new.self) c.self.inside.added.items c.args.item c.self.invariant none
    (rw place at c.in_ok-insert.ensures.updates.1) (λ y other. c.in_ok-insert.ensures.updates.2 y (differs c.args.item y other)))

pub returns : goal.returns
returns c =
    let none =
    missing (place_in c.self.inside.places) c.self.inside.added.items c.args.self.now c.args.item c.has.result c.self.invariant
    c.self.view_is c.has.ensures c.if-has.false in
    let place : c.len-place.result ≡ length c.self.inside.added.items = search (rules, c.len-place.ensures) in
    inr (
      λ has. true≢false (sym (c.has.ensures.1 has) ∙ c.if-has.false),
      ap (left_from (place_in c.insert.new.self) 0) c.in_ok-push.ensures.items
          ∙ left_pushed (place_in c.self.inside.places) (place_in c.insert.new.self) c.self.inside.added.items c.args.item c.self.invariant none
          (rw place at c.in_ok-insert.ensures.updates.1) (λ y other. c.in_ok-insert.ensures.updates.2 y (differs c.args.item y other))
          ∙ ap (λ l. l ++ c.args.item ∷ []) c.self.view_is,
    )

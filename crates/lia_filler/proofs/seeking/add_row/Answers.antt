-- One row more.
use Rattle.std.proofs.Common.{rules, ◌≡◌, ℤ, pos, neg_ℤ, List, [], ◌∷◌, ◌++◌, ◌+◌, All, sym, subst}
use Rattle.lia_filler.specs.Mixing.{unit}
use Rattle.lia_filler.specs.Elimination.{AreRowsOf, IsDerived}
use Rattle.lia_filler.proofs.Units.{one_derived_more, both_derived_more, inequality_added, equality_added}
use Rattle.lia_filler.proofs.seeking.add_row.Goals as goal

pub returns-else-rows-place-clause-derived : goal.returns-else-rows-place-clause-derived
returns-else-rows-place-clause-derived c =
    let first : c.push.new.self.items ≡ c.args.derived.now.items ++ unit c.args.place (pos 1) ∷ [] = search rules in
    subst (All (IsDerived c.args.rows.now 0)) (sym first)
    (one_derived_more c.args.rows.now c.args.derived.now.items c.args.place c.requires.fit c.requires.place c.requires.derived)

pub returns-else-rows-place-clause-rows : goal.returns-else-rows-place-clause-rows
returns-else-rows-place-clause-rows c =
    let first : c.push.new.self.items ≡ c.args.derived.now.items ++ unit c.args.place (pos 1) ∷ [] = search rules in
    subst (λ (xs : List (List ℤ)). AreRowsOf c.args.rows.now xs (c.args.place + 1)) (sym first)
    (inequality_added c.args.rows.now c.args.derived.now.items c.args.place _ c.requires.before c.if-rows-place.false c.requires.place)

pub returns-in_ok-push-2-clause-derived : goal.returns-in_ok-push-2-clause-derived
returns-in_ok-push-2-clause-derived c =
    let first : c.push.new.self.items ≡ c.args.derived.now.items ++ unit c.args.place (pos 1) ∷ [] = search rules in
    let second : c.push-then-rows-place.new.self.items
    ≡ (c.args.derived.now.items ++ unit c.args.place (pos 1) ∷ []) ++ unit c.args.place (neg_ℤ (pos 1)) ∷ [] =
    cc (first, c.in_ok-push-2.ensures.items, c.one_row-then-rows-place.ensures) in
    subst (All (IsDerived c.args.rows.now 0)) (sym second)
    (both_derived_more c.args.rows.now c.args.derived.now.items c.args.place _ c.requires.fit c.requires.place c.if-rows-place.true c.requires.derived)

pub returns-in_ok-push-2-clause-rows : goal.returns-in_ok-push-2-clause-rows
returns-in_ok-push-2-clause-rows c =
    let first : c.push.new.self.items ≡ c.args.derived.now.items ++ unit c.args.place (pos 1) ∷ [] = search rules in
    let second : c.push-then-rows-place.new.self.items
    ≡ (c.args.derived.now.items ++ unit c.args.place (pos 1) ∷ []) ++ unit c.args.place (neg_ℤ (pos 1)) ∷ [] =
    cc (first, c.in_ok-push-2.ensures.items, c.one_row-then-rows-place.ensures) in
    subst (λ (xs : List (List ℤ)). AreRowsOf c.args.rows.now xs (c.args.place + 1)) (sym second)
    (equality_added c.args.rows.now c.args.derived.now.items c.args.place c.requires.before c.requires.place)

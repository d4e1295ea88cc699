use Rattle.std.proofs.Common.{◌≡◌, ◌<◌, ◌+◌, ◌⊎◌, ℕ, zero, suc, [], ◌∷◌, Bool, true, false}
use Rattle.std.proofs.Common.{List, length, get_or, inl, inr, refl, sym, ◌∙◌, ap, subst, arith, true≢false}
use Rattle.std.proofs.lemmas.List.Elements.{All-contains}
use Rattle.chain_plan.specs.Contradicting.{AreMarks, IsMarkedPair, IsPlainNumberOf}
use Rattle.chain_plan.specs.Towers.{Towers, HasRoom, IsLiteral, item_of}
use Rattle.chain_plan.proofs.Contradictions.{HasOpposites, contradicts_by, plain_room}
use Rattle.chain_plan.proofs.opposites.begin.Goals as goal

-- what is at a place is what is there by another default
at_place : (marks : List Bool) (k : ℕ) (d : Bool) → k < length marks → get_or marks k d ≡ get_or marks k false
at_place [] k d within = absurd (omega arith)
at_place (x ∷ xs) zero d within = refl
at_place (x ∷ xs) (suc k) d within = at_place xs k d (omega arith)

pub returns-then-index-clause-plains : goal.returns-then-index-clause-plains
returns-then-index-clause-plains c x there =
    let t = c.args.spellings.now in
    let are = c.in_ok-marks.ensures in
    let marks = c.in_ok-marks.marks.items in
    let is = c.truth-truth.ensures in
    let room = c.requires.towers.truth_room.one.within in
    let long = are.long in
    let within : c.truth-truth.result < length marks = omega arith in
    let marked : get_or marks c.truth-truth.result false ≡ true =
    sym (at_place marks c.truth-truth.result c.index.result.now within) ∙ (sym c.index.ensures ∙ c.if-index.true) in
    let some = are.marked c.truth-truth.result marked in
    (some.0, some.1, c.in_ok-begin_with_truth.ensures.list x there ∙ ap item_of (sym is ∙ some.2))

pub returns-then-index-2-clause-plains : goal.returns-then-index-2-clause-plains
returns-then-index-2-clause-plains c x there =
    let t = c.args.spellings.now in
    let are = c.in_ok-marks.ensures in
    let marks = c.in_ok-marks.marks.items in
    let k = c.falsity-falsity.result + 1 in
    let is = c.falsity-falsity.ensures in
    let room = c.requires.towers.falsity_room.one.within in
    let long = are.long in
    let within : k < length marks = omega arith in
    let marked : get_or marks k false ≡ true = sym (at_place marks k c.index-2.result.now within) ∙ (sym c.index-2.ensures ∙ c.if-index-2.true) in
    let some = are.marked k marked in
    (some.0, some.1, c.in_ok-begin_with_denied_falsity.ensures.list x there ∙ ap item_of (sym (ap (λ n. n + 1) is) ∙ some.2))

pub begin_with_pair-requires-clause-room : goal.begin_with_pair-requires-clause-room
begin_with_pair-requires-clause-room c =
    let t = c.args.spellings.now in
    let pair = c.in-Some.ensures.some in
    let some = c.in_ok-marks.ensures.marked (c.in-Some.number + 1) (rw c.deref.ensures.value at pair.two) in
    subst (HasRoom t) (sym some.2)
    (plain_room t c.requires.towers some.0.term (All-contains (IsLiteral t) c.args.goal.now some.0 c.requires.literals some.1).room)

pub unreachable-requires : goal.unreachable-requires
unreachable-requires c = none (contradicts_by t c.requires.towers c.requires.contradicts.terms c.requires.contradicts.named c.args.goal.now c.requires.literals
    c.requires.contradicts.contradicts)
  where
    t : Towers
    t = c.args.spellings.now

    marks : List Bool
    marks = c.in_ok-marks.marks.items

    are : AreMarks t c.args.goal.now marks
    are = c.in_ok-marks.ensures

    marked : (k : ℕ) → IsPlainNumberOf t c.args.goal.now k → get_or marks k false ≡ true
    marked k (g, there, is) = subst (λ n. get_or marks n false ≡ true) (sym is) (are.all g there)

    none : IsPlainNumberOf t c.args.goal.now t.truth ⊎ (IsPlainNumberOf t c.args.goal.now (t.falsity + 1) ⊎ HasOpposites t c.args.goal.now) → ⊥
    none (inl some) =
        let is = c.truth-truth.ensures in
        let room = c.requires.towers.truth_room.one.within in
        let long = are.long in
        true≢false (sym (subst (λ n. get_or marks n false ≡ true) (sym is) (marked t.truth some))
        ∙ (sym (at_place marks c.truth-truth.result c.index.result.now (omega arith))
        ∙ (sym c.index.ensures ∙ c.if-index.false)))
    none (inr (inl some)) =
        let is = c.falsity-falsity.ensures in
        let room = c.requires.towers.falsity_room.one.within in
        let long = are.long in
        true≢false (sym (subst (λ n. get_or marks (n + 1) false ≡ true) (sym is) (marked (t.falsity + 1) some))
        ∙ (sym (at_place marks (c.falsity-falsity.result + 1) c.index-2.result.now (omega arith))
        ∙ (sym c.index-2.ensures ∙ c.if-index-2.false)))
    none (inr (inr pair)) =
        c.in-None.ensures.none pair.number
        (subst (λ ms. IsMarkedPair t ms pair.number) (sym c.deref.ensures.value) (record {
          above = pair.above;
          none = pair.none;
          one = marked pair.number pair.one;
          two = marked (pair.number + 1) pair.two;
        }))

pub returns-clause-plains : goal.returns-clause-plains
returns-clause-plains c x there =
    let pair = c.in-Some.ensures.some in
    let are = c.in_ok-marks.ensures in
    let one = are.marked c.in-Some.number (rw c.deref.ensures.value at pair.one) in
    let two = are.marked (c.in-Some.number + 1) (rw c.deref.ensures.value at pair.two) in
    elim (c.in_ok-begin_with_pair-in-Some.ensures.list x there) [
      | inl is ↦ (one.0, one.1, is ∙ ap item_of one.2)
      | inr is ↦ (two.0, two.1, is ∙ ap item_of two.2)
    ]

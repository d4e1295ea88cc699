use Rattle.std.proofs.Common.{◌≡◌, ◌<◌, ◌+◌, ◌-◌, ℕ, suc, inl, inr, ◌∷◌, [], length, refl, sym, ap, subst, ◌∙◌, arith}
use Rattle.std.proofs.lemmas.List.{get_or_push, length-append}
use Rattle.sym_table.specs.Table.{Table}
use Rattle.term_model.specs.Terms.{Term, not_of}
use Rattle.term_pool.specs.Nots.{negated}
use Rattle.term_pool.specs.Placing.{LacksCellOf, LacksRoomFor, PlacesCellsOf, PlacesTerm}
use Rattle.term_pool.specs.Views.{KeepsPass, RefersTo, TermsView}
use Rattle.term_pool.proofs.PlacedCells.{lacks_for_term, places_more_then, places_of_term}
use Rattle.term_pool.proofs.References.{AreOne}
use Rattle.elab_resolution.specs.Levels.{HasLevels, IsLevelAbove, IsNextLevel, nots_of_number}
use Rattle.elab_resolution.specs.Numbered.{AddsNumber, IsNumbering, reference_of}
use Rattle.elab_resolution.specs.declared.numbering.Numbering.{Numbering}
use Rattle.elab_resolution.proofs.LevelLemmas.{bare_next, below_or_last, nots_last, tower_stays}
use Rattle.elab_resolution.proofs.NumberLemmas.{keeps_one, keeps_then, not_numbered, numbering_more, numbers_few, reference_stays, refers_later, sizes}
use Rattle.elab_resolution.proofs.Results.{handed_on}
use Rattle.elab_resolution.proofs.TowerLemmas.{keeps_itself, keeps_through, tower_refers}
use Rattle.elab_resolution.proofs.towers.add_tower.Goals as goal

pub add-requires : goal.add-requires
add-requires c = record {
  few =
      let few = numbers_few c.args.symbols.now c.args.terms.now c.args.numbering.now c.one_to_one.ensures c.terms_at.ensures.lists c.requires.numbering in
      omega arith;
}

pub levels-init : goal.levels-init
levels-init c = record {
  numbering = numbering_more s v n c.add.new.self h c.args.bare 0 t c.requires.known.refers next c.requires.new adds;
  kept = keeps_one n c.add.new.self c.args.bare 0 adds;
  here = ap (λ rs. reference_of rs (length n.nots.items)) adds.refs ∙ get_or_push n.refs.items c.args.bare 0 (length n.nots.items) (sizes h);
  more = ap length adds.nots ∙ (length-append n.nots.items (0 ∷ []) ∙ omega arith);
  tower = tower;
  placed = λ t refers r a b placed. inl placed;
  keeps = keeps_itself v;
}
  where
    s : Table
    s = c.args.symbols.now

    v : TermsView
    v = c.args.terms.now

    n : Numbering
    n = c.args.numbering.now

    h : IsNumbering s v n
    h = c.requires.numbering

    t : Term
    t = c.requires.known.means

    adds : AddsNumber n c.add.new.self c.args.bare 0
    adds = c.in_ok-add.ensures

    one : AreOne s v
    one = c.equal_exactly_where_terms_are.ensures s c.leaves_differ.ensures.table

    next : IsNextLevel n.nots.items h.terms 0 t
    next =
        bare_next n.nots.items h.terms t (λ u. c.requires.bare t u c.requires.known.refers)
        (not_numbered h one c.args.bare t c.requires.known.refers c.requires.new)

    tower : HasLevels c.add.new.self.nots.items (length n.nots.items) 0
    tower j within =
        let zero : length n.nots.items ≡ length n.nots.items + j = omega arith in
        let long = ap length adds.nots ∙ length-append n.nots.items (0 ∷ []) in (
          omega arith,
          ap (nots_of_number c.add.new.self.nots.items) (sym zero)
              ∙ (ap (λ ns. nots_of_number ns (length n.nots.items)) adds.nots ∙ (nots_last n.nots.items 0 ∙ omega arith)),
        )

pub add_negation-requires-clause-numbering : goal.add_negation-requires-clause-numbering
add_negation-requires-clause-numbering c = c.levels.invariant.numbering

pub add_negation-requires-clause-some : goal.add_negation-requires-clause-some
add_negation-requires-clause-some c = let more = c.levels.invariant.more in omega arith

pub add_negation-requires-clause-level : goal.add_negation-requires-clause-level
add_negation-requires-clause-level c =
    let more = c.levels.invariant.more in
    let at : length c.levels.numbering.nots.items - 1 ≡ length c.args.numbering.now.nots.items + c.levels.level = omega arith in
    sym (ap (λ k. nots_of_number c.levels.numbering.nots.items k + 1) at ∙ ap (λ k. k + 1) (c.levels.invariant.tower c.levels.level (omega arith)).1)

-- what one more negation places, and for what there was no room
module _ (s : Table) (u v w : TermsView) (n : Numbering) (h : IsNumbering s v n) (one : AreOne s v) (k level bare height : ℕ) (t : Term)
    (tower : HasLevels n.nots.items k level) (is : reference_of n.refs.items k ≡ bare) (more : length n.nots.items ≡ k + level + 1)
    (within : level < height) (refers : RefersTo s v bare t) where
  last : RefersTo s v (reference_of n.refs.items (length n.refs.items - 1)) (negated level t)
  last =
      let at : k + level ≡ length n.refs.items - 1 = let z = sizes h in omega arith in
      subst (λ i. RefersTo s v (reference_of n.refs.items i) (negated level t)) at (tower_refers h one k level bare t tower is refers level (omega arith))

  wanted : IsLevelAbove t height (not_of (negated level t))
  wanted = record { nots = suc level; within = omega arith; is = refl }

  one_placed : KeepsPass v.pass w.pass → PlacesCellsOf s u.pass v.pass (IsLevelAbove t height)
      → ((x : Term) → RefersTo s v (reference_of n.refs.items (length n.refs.items - 1)) x → PlacesTerm s v.pass w.pass (not_of x))
      → PlacesCellsOf s u.pass w.pass (IsLevelAbove t height)
  one_placed keeps before placed =
      places_more_then s u.pass v.pass w.pass (IsLevelAbove t height) keeps before
      (places_of_term s v.pass w.pass (IsLevelAbove t height) (not_of (negated level t)) wanted (placed (negated level t) last))

  one_lacks : ((x : Term) → RefersTo s v (reference_of n.refs.items (length n.refs.items - 1)) x → LacksRoomFor s w.pass (not_of x))
      → LacksCellOf s w.pass (IsLevelAbove t height)
  one_lacks lacks = lacks_for_term s w.pass (IsLevelAbove t height) (not_of (negated level t)) wanted (lacks (negated level t) last)

pub returns-in_err-add_negation-clause-placed : goal.returns-in_err-add_negation-clause-placed
returns-in_err-add_negation-clause-placed c t refers =
    let s = c.args.symbols.now in
    let i = c.levels.invariant in
    one_placed s c.args.terms.now c.levels.terms c.add_negation.new.terms c.levels.numbering i.numbering
    (c.equal_exactly_where_terms_are-in-levels.ensures s c.leaves_differ.ensures.table) (length c.args.numbering.now.nots.items) c.levels.level c.args.bare
    c.args.height t i.tower i.here i.more c.levels-test.true (refers_later s c.args.terms.now c.levels.terms c.args.bare t i.keeps refers)
    c.in_err-add_negation.ensures.keeps.pass (i.placed t refers) c.in_err-add_negation.ensures.placed

pub returns-in_err-add_negation-clause-full : goal.returns-in_err-add_negation-clause-full
returns-in_err-add_negation-clause-full c =
    let s = c.args.symbols.now in
    let i = c.levels.invariant in
    handed_on c.from_residual-in_err-add_negation.result _ _ c.from_residual-in_err-add_negation.ensures.1
    (λ full t refers.
    one_lacks s c.args.terms.now c.levels.terms c.add_negation.new.terms c.levels.numbering i.numbering
    (c.equal_exactly_where_terms_are-in-levels.ensures s c.leaves_differ.ensures.table) (length c.args.numbering.now.nots.items) c.levels.level c.args.bare
    c.args.height t i.tower i.here i.more c.levels-test.true (refers_later s c.args.terms.now c.levels.terms c.args.bare t i.keeps refers)
    (c.in_err-add_negation.ensures.full full))

pub returns-in_err-add_negation-clause-keeps : goal.returns-in_err-add_negation-clause-keeps
returns-in_err-add_negation-clause-keeps c =
    keeps_through c.args.terms.now c.levels.terms c.add_negation.new.terms c.levels.invariant.keeps c.in_err-add_negation.ensures.keeps

pub levels-preserved : goal.levels-preserved
levels-preserved c = record {
  numbering = c.in_ok-add_negation.ensures.numbering;
  kept = keeps_then c.args.numbering.now n next c.levels.invariant.kept c.in_ok-add_negation.ensures.kept;
  here = reference_stays n next c.in_ok-add_negation.ensures.kept start
      (let z = sizes c.levels.invariant.numbering in let m = c.levels.invariant.more in omega arith) ∙ c.levels.invariant.here;
  more = let m = c.levels.invariant.more in let l = c.in_ok-add_negation.ensures.more in omega arith;
  tower = tower;
  placed = λ t refers.
      one_placed s c.args.terms.now c.levels.terms c.add_negation.new.terms n c.levels.invariant.numbering
      (c.equal_exactly_where_terms_are-in-levels.ensures s c.leaves_differ.ensures.table) start c.levels.level c.args.bare
      c.args.height t c.levels.invariant.tower c.levels.invariant.here c.levels.invariant.more c.levels-test.true
      (refers_later s c.args.terms.now c.levels.terms c.args.bare t c.levels.invariant.keeps refers)
      c.in_ok-add_negation.ensures.keeps.pass (c.levels.invariant.placed t refers) c.in_ok-add_negation.ensures.placed;
  keeps = keeps_through c.args.terms.now c.levels.terms c.add_negation.new.terms c.levels.invariant.keeps c.in_ok-add_negation.ensures.keeps;
}
  where
    s : Table
    s = c.args.symbols.now

    n : Numbering
    n = c.levels.numbering

    next : Numbering
    next = c.add_negation.new.numbering

    start : ℕ
    start = length c.args.numbering.now.nots.items

    tower : HasLevels next.nots.items start (c.levels.level + 1)
    tower j within = elim (below_or_last j (c.levels.level + 1) (omega arith)) [
      | inl less ↦
          subst (λ ns. HasLevels ns start c.levels.level) (sym c.in_ok-add_negation.ensures.kept.nots)
          (tower_stays n.nots.items c.in_ok-add_negation.ensures.kept.more_nots start c.levels.level c.levels.invariant.tower) j (omega arith)
      | inr same ↦
          let at : length n.nots.items ≡ start + j = let m = c.levels.invariant.more in omega arith in (
            let l = c.in_ok-add_negation.ensures.more in omega arith,
            ap (nots_of_number next.nots.items) (sym at) ∙
                (c.in_ok-add_negation.ensures.here ∙ sym same),
          )
    ]

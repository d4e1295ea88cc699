use Rattle.std.proofs.Common.{◌≡◌, ◌+◌, ℕ, List, [], ◌∷◌, ◌++◌, Option, length, take, inl, inr, refl, sym, ap, ◌∙◌, subst, arith, Contains}
use Rattle.std.proofs.lemmas.List.{take_more, take_all}
use Rattle.std.proofs.lemmas.List.Elements.{Contains-push_cases}
use Rattle.std.specs.HashMap.{get}
use Rattle.std.specs.Prelude.{nat_eq}
use Rattle.sym_table.specs.Table.{Table}
use Rattle.term_model.specs.Terms.{Term}
use Rattle.term_model.proofs.Lists.{contains_none}
use Rattle.term_pool.specs.Placing.{LacksCellOf, PlacesCellsOf}
use Rattle.term_pool.specs.Views.{KeepsPass, KeepsTerms, RefersTo, TermsView}
use Rattle.term_pool.proofs.PlacedCells.{lacks_more, places_more, places_more_then}
use Rattle.term_pool.proofs.References.{AreOne}
use Rattle.elab_resolution.specs.Counted.{IsBare, top_in}
use Rattle.elab_resolution.specs.Levels.{IsLevelAbove}
use Rattle.elab_resolution.specs.Numbered.{AreLevelsSpelled, HasTower}
use Rattle.elab_resolution.specs.Spellings.{IsNearTo}
use Rattle.elab_resolution.specs.declared.counting.Counted.{Counted}
use Rattle.elab_resolution.proofs.NumberLemmas.{refers_later}
use Rattle.elab_resolution.proofs.Results.{handed_on}
use Rattle.elab_resolution.proofs.TowerLemmas.{bare_later, keeps_itself, keeps_through, numbering_none, tower_kept}
use Rattle.elab_resolution.proofs.towers.number_all.Goals as goal

pub literals-init : goal.literals-init
literals-init c =
    let e = c.new-numbering.ensures in
    record {
      numbering = numbering_none c.args.symbols.now c.args.terms.now c.new-numbering.result e.nots e.refs e.numbers;
      towers = λ k below. absurd (omega (arith, ap length e.nots));
      tower = λ x there. absurd (contains_none x there);
      spelled = λ roots kinds k below. absurd (omega (arith, ap length e.refs));
      placed = λ roots kinds r a b placed. inl placed;
      keeps = keeps_itself c.args.terms.now;
    }

pub add_tower_for-requires-clause-bare : goal.add_tower_for-requires-clause-bare
add_tower_for-requires-clause-bare c t u refers =
    let s = c.args.symbols.now in
    let x = c.literal-item.result in
    let bare = subst (IsBare s c.args.terms.now) (sym c.literal-item.is) (c.requires.bare c.literals.literal-index x c.literals-test.true) in
    (bare_later s c.args.terms.now c.literals.terms x c.literals.invariant.keeps
    (c.equal_exactly_where_terms_are.ensures s c.leaves_differ.ensures.table) bare).none t u refers

-- what one tower more places, and for what there was no room
module _ (s : Table) (u v w : TermsView) (tops : ℕ → Option ℕ) (literals : List Counted) (x : Counted) (there : Contains literals x) (bare : IsBare s u x)
    (keeps : KeepsTerms u v) (roots : List Term) (kinds : AreLevelsSpelled s u tops literals roots) where
  kind : (y : Term) → IsLevelAbove bare.known.means (top_in tops x.bare + 3) y → IsNearTo roots y
  kind y above = kinds x there bare.known.means y bare.known.refers above

  later : RefersTo s v x.bare bare.known.means
  later = refers_later s u v x.bare bare.known.means keeps bare.known.refers

  one_placed : KeepsPass v.pass w.pass → PlacesCellsOf s u.pass v.pass (IsNearTo roots)
      → ((t : Term) → RefersTo s v x.bare t → PlacesCellsOf s v.pass w.pass (IsLevelAbove t (top_in tops x.bare + 3)))
      → PlacesCellsOf s u.pass w.pass (IsNearTo roots)
  one_placed grows before placed =
      places_more_then s u.pass v.pass w.pass (IsNearTo roots) grows before
      (places_more s v.pass w.pass (IsLevelAbove bare.known.means (top_in tops x.bare + 3)) (IsNearTo roots) kind (placed bare.known.means later))

  one_lacks : ((t : Term) → RefersTo s v x.bare t → LacksCellOf s w.pass (IsLevelAbove t (top_in tops x.bare + 3))) → LacksCellOf s w.pass (IsNearTo roots)
  one_lacks lacks = lacks_more s w.pass (IsLevelAbove bare.known.means (top_in tops x.bare + 3)) (IsNearTo roots) kind (lacks bare.known.means later)

pub returns-in_err-add_tower_for-clause-placed : goal.returns-in_err-add_tower_for-clause-placed
returns-in_err-add_tower_for-clause-placed c roots kinds =
    let s = c.args.symbols.now in
    let x = c.literal-item.result in
    let bare = subst (IsBare s c.args.terms.now) (sym c.literal-item.is) (c.requires.bare c.literals.literal-index x c.literals-test.true) in
    let e = c.in_err-add_tower_for.ensures in
    one_placed s c.args.terms.now c.literals.terms c.add_tower_for.new.terms (get nat_eq c.args.tops.now) c.args.literals.now x
    (c.literals.literal-index, c.literals-test.true, sym c.literal-item.is) bare c.literals.invariant.keeps roots kinds e.keeps.pass
    (c.literals.invariant.placed roots kinds) e.placed

pub returns-in_err-add_tower_for-clause-full : goal.returns-in_err-add_tower_for-clause-full
returns-in_err-add_tower_for-clause-full c =
    let s = c.args.symbols.now in
    let x = c.literal-item.result in
    let bare = subst (IsBare s c.args.terms.now) (sym c.literal-item.is) (c.requires.bare c.literals.literal-index x c.literals-test.true) in
    handed_on c.from_residual.result _ _ c.from_residual.ensures.1
    (λ full roots kinds.
    one_lacks s c.args.terms.now c.literals.terms c.add_tower_for.new.terms (get nat_eq c.args.tops.now) c.args.literals.now x
    (c.literals.literal-index, c.literals-test.true, sym c.literal-item.is) bare c.literals.invariant.keeps roots kinds
    (c.in_err-add_tower_for.ensures.full full))

pub literals-preserved : goal.literals-preserved
literals-preserved c = record {
  numbering = c.in_ok-add_tower_for.ensures.numbering;
  towers = c.in_ok-add_tower_for.ensures.towers;
  tower = tower;
  spelled = λ roots kinds.
      c.in_ok-add_tower_for.ensures.spelled roots (c.literals.invariant.spelled roots kinds)
      (λ t u refers above.
      let same : bare.known.means ≡ t = (one x.bare x.bare bare.known.means t
      (refers_later s c.args.terms.now c.literals.terms x.bare bare.known.means c.literals.invariant.keeps bare.known.refers) refers).0 refl in
      kinds x there bare.known.means u bare.known.refers (subst (λ y. IsLevelAbove y (top_in tops x.bare + 3) u) (sym same) above));
  placed = λ roots kinds.
      one_placed s c.args.terms.now c.literals.terms c.add_tower_for.new.terms tops c.args.literals.now x there bare c.literals.invariant.keeps roots kinds
      c.in_ok-add_tower_for.ensures.keeps.pass (c.literals.invariant.placed roots kinds) c.in_ok-add_tower_for.ensures.placed;
  keeps = keeps_through c.args.terms.now c.literals.terms c.add_tower_for.new.terms c.literals.invariant.keeps c.in_ok-add_tower_for.ensures.keeps;
}
  where
    s : Table
    s = c.args.symbols.now

    tops : ℕ → Option ℕ
    tops = get nat_eq c.args.tops.now

    x : Counted
    x = c.literal-item.result

    there : Contains c.args.literals.now x
    there = (c.literals.literal-index, c.literals-test.true, sym c.literal-item.is)

    bare : IsBare s c.args.terms.now x
    bare = subst (IsBare s c.args.terms.now) (sym c.literal-item.is) (c.requires.bare c.literals.literal-index x c.literals-test.true)

    one : AreOne s c.literals.terms
    one = c.equal_exactly_where_terms_are.ensures s c.leaves_differ.ensures.table

    more : take (c.literals.literal-index + 1) c.args.literals.now ≡ take c.literals.literal-index c.args.literals.now ++ x ∷ []
    more =
        take_more c.args.literals.now c.literals.literal-index x c.literals-test.true
        ∙ ap (λ z. take c.literals.literal-index c.args.literals.now ++ z ∷ []) (sym c.literal-item.is)

    tower : (y : Counted) → Contains (take (c.literals.literal-index + 1) c.args.literals.now) y
        → HasTower c.add_tower_for.new.numbering y.bare (top_in tops y.bare + 3)
    tower y at =
        elim (Contains-push_cases (take c.literals.literal-index c.args.literals.now) x y (subst (λ zs. Contains zs y) more at)) [
          | inl earlier ↦
              tower_kept s c.literals.terms c.literals.numbering c.add_tower_for.new.numbering c.literals.invariant.numbering c.in_ok-add_tower_for.ensures.kept
              y.bare (top_in tops y.bare + 3) (c.literals.invariant.tower y earlier)
          | inr same ↦
              subst (λ (z : Counted). HasTower c.add_tower_for.new.numbering z.bare (top_in tops z.bare + 3)) same c.in_ok-add_tower_for.ensures.tower
        ]

pub returns-clause-towers : goal.returns-clause-towers
returns-clause-towers c x there =
    c.literals.invariant.tower x
    (subst (λ xs. Contains xs x) (sym (take_all c.literals.literal-index c.args.literals.now c.literals-test.false)) there)

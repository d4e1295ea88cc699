use Rattle.std.proofs.Common.{◌≡◌, ◌+◌, ℕ, true, Option, Some, None, length, refl, sym, ap, ◌∙◌, subst}
use Rattle.std.specs.HashMap.{get}
use Rattle.std.specs.Option.{is_some}
use Rattle.std.specs.Prelude.{nat_eq}
use Rattle.term_pool.specs.Placing.{LacksCellOf, PlacesCellsOf}
use Rattle.elab_resolution.specs.Counted.{top_in}
use Rattle.elab_resolution.specs.Levels.{HasLevels, IsLevelAbove}
use Rattle.elab_resolution.proofs.NumberLemmas.{keeps_none}
use Rattle.elab_resolution.proofs.Results.{handed_on}
use Rattle.elab_resolution.proofs.TowerLemmas.{spelled_more, tower_found, towers_more}
use Rattle.elab_resolution.proofs.towers.add_tower_for.Goals as goal

some_number : (o : Option ℕ) → true ≡ is_some o → (k : ℕ) × (o ≡ Some k)
some_number None e = absurd (cc)
some_number (Some k) e = (k, refl)

pub returns-then-is_some-clause-kept : goal.returns-then-is_some-clause-kept
returns-then-is_some-clause-kept c = keeps_none c.args.numbering.now

pub returns-then-is_some-clause-tower : goal.returns-then-is_some-clause-tower
returns-then-is_some-clause-tower c =
    let found = some_number c.number_of.result c.if-is_some.ensures in
    tower_found c.requires.numbering (c.equal_exactly_where_terms_are.ensures c.args.symbols.now c.leaves_differ.ensures.table) (get nat_eq c.args.tops.now)
    c.requires.towers c.args.literal.bare c.requires.bare found.0 (sym c.number_of.ensures ∙ found.1)

pub returns-in_err-add_tower-clause-placed : goal.returns-in_err-add_tower-clause-placed
returns-in_err-add_tower-clause-placed c t refers =
    subst (λ h. PlacesCellsOf c.args.symbols.now c.args.terms.now.pass c.add_tower.new.terms.pass (IsLevelAbove t h))
    (ap (λ n. n + 3) (c.top-height.ensures ∙ ap (top_in (get nat_eq c.args.tops.now)) c.number.ensures.number))
    (c.in_err-add_tower.ensures.placed t refers)

pub returns-in_err-add_tower-clause-full : goal.returns-in_err-add_tower-clause-full
returns-in_err-add_tower-clause-full c =
    handed_on c.from_residual.result _ _ c.from_residual.ensures.1
    (λ full t refers.
    subst (λ h. LacksCellOf c.args.symbols.now c.add_tower.new.terms.pass (IsLevelAbove t h))
    (ap (λ n. n + 3) (c.top-height.ensures ∙ ap (top_in (get nat_eq c.args.tops.now)) c.number.ensures.number))
    (c.in_err-add_tower.ensures.full full t refers))

pub returns-clause-towers : goal.returns-clause-towers
returns-clause-towers c =
    let e = c.in_ok-add_tower.ensures in
    towers_more c.args.symbols.now c.args.terms.now c.add_tower.new.terms c.args.numbering.now c.add_tower.new.numbering c.requires.numbering e.numbering e.kept
    e.keeps c.args.literal.bare (c.top-height.result + 3) e.here e.more e.levels (get nat_eq c.args.tops.now)
    (ap (λ n. n + 3) (c.top-height.ensures ∙ ap (top_in (get nat_eq c.args.tops.now)) c.number.ensures.number)) c.requires.towers

pub returns-clause-tower : goal.returns-clause-tower
returns-clause-tower c =
    let e = c.in_ok-add_tower.ensures in
    record {
      number = length c.args.numbering.now.nots.items;
      is = e.here;
      levels =
          subst (HasLevels c.add_tower.new.numbering.nots.items (length c.args.numbering.now.nots.items))
          (ap (λ n. n + 3) (c.top-height.ensures ∙ ap (top_in (get nat_eq c.args.tops.now)) c.number.ensures.number)) e.levels;
    }

pub returns-clause-spelled : goal.returns-clause-spelled
returns-clause-spelled c roots spelled kinds =
    let e = c.in_ok-add_tower.ensures in
    let t = c.requires.known.means in
    spelled_more c.args.symbols.now c.args.terms.now c.add_tower.new.terms
    c.args.numbering.now c.add_tower.new.numbering c.requires.numbering e.numbering e.kept
    e.keeps c.args.literal.bare (c.top-height.result + 3) e.here e.more e.levels roots t
    (c.equal_exactly_where_terms_are-2.ensures c.args.symbols.now c.leaves_differ.ensures.table) c.requires.known.refers spelled
    (λ u above.
    kinds t u c.requires.known.refers
    (subst (λ h. IsLevelAbove t h u) (ap (λ n. n + 3) (c.top-height.ensures ∙ ap (top_in (get nat_eq c.args.tops.now)) c.number.ensures.number)) above))

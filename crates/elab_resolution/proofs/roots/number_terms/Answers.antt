use Rattle.std.proofs.Common.{◌≡◌, ℕ, List, Option, sym, subst, All, Contains}
use Rattle.std.specs.HashMap.{get}
use Rattle.std.specs.List.{AllZip}
use Rattle.std.specs.Prelude.{nat_eq}
use Rattle.sym_table.specs.Table.{Table}
use Rattle.term_model.specs.Terms.{Term}
use Rattle.term_pool.specs.Placing.{PlacesCellsOf}
use Rattle.term_pool.specs.Views.{KeepsTerms, ReferToAll, TermsView}
use Rattle.term_pool.proofs.References.{AreOne}
use Rattle.elab_resolution.specs.Counted.{AreTops, IsBare, IsCountOf}
use Rattle.elab_resolution.specs.Numbered.{AreLevelsSpelled}
use Rattle.elab_resolution.specs.Spellings.{IsNearTo}
use Rattle.elab_resolution.specs.declared.counting.Counted.{Counted}
use Rattle.elab_resolution.proofs.Results.{handed_on}
use Rattle.elab_resolution.proofs.RootLemmas.{all_bare, all_roomy, levels_spelled, tops_few}
use Rattle.elab_resolution.proofs.roots.number_terms.Goals as goal

-- what is known at the call, of the lists as they are handed on
module _ (s : Table) (v z : TermsView) (same : z ≡ v) (roots : List ℕ) (literals for_tops for_numbers : List Counted) (first : for_tops ≡ literals)
    (second : for_numbers ≡ literals) (counts : AllZip (IsCountOf s v) roots literals) (tops : ℕ → Option ℕ) (is : AreTops for_tops tops)
    (one : AreOne s v) where
  tops_are : AreTops literals tops
  tops_are = subst (λ ls. AreTops ls tops) first is

  spelled_there : (ts : List Term) → ReferToAll s v roots ts → AreLevelsSpelled s z tops for_numbers ts
  spelled_there ts refer =
      subst (λ y. AreLevelsSpelled s y tops for_numbers ts) (sym same)
      (subst (λ ls. AreLevelsSpelled s v tops ls ts) (sym second) (levels_spelled s v roots literals counts one tops tops_are ts refer))

pub number_all-requires-clause-bare : goal.number_all-requires-clause-bare
number_all-requires-clause-bare c =
    let s = c.args.symbols.now in
    subst (λ z. All (IsBare s z) c.deref-2.result.now) (sym c.in_ok-literals.ensures.same)
    (subst (All (IsBare s c.args.terms.now)) (sym c.deref-2.ensures.value)
    (all_bare s c.args.terms.now c.args.roots.now c.in_ok-literals.literals.items c.in_ok-literals.ensures.counted
    (c.equal_exactly_where_terms_are.ensures s c.leaves_differ.ensures.table) c.requires))

pub number_all-requires-clause-few : goal.number_all-requires-clause-few
number_all-requires-clause-few c =
    tops_few c.args.symbols.now c.args.terms.now c.args.roots.now c.in_ok-literals.literals.items c.in_ok-literals.ensures.counted
    (get nat_eq c.in_ok-tops.tops) (subst (λ ls. AreTops ls (get nat_eq c.in_ok-tops.tops)) c.deref.ensures.value c.in_ok-tops.ensures)

pub returns-in_err-numbering-clause-placed : goal.returns-in_err-numbering-clause-placed
returns-in_err-numbering-clause-placed c ts refer =
    let s = c.args.symbols.now in
    subst (λ y. PlacesCellsOf s y.pass c.number_all.new.terms.pass (IsNearTo ts)) c.in_ok-literals.ensures.same
    (c.in_err-numbering.ensures.placed ts
    (spelled_there s c.args.terms.now c.count_all.new.terms c.in_ok-literals.ensures.same c.args.roots.now c.in_ok-literals.literals.items c.deref.result.now
    c.deref-2.result.now c.deref.ensures.value c.deref-2.ensures.value c.in_ok-literals.ensures.counted (get nat_eq c.in_ok-tops.tops) c.in_ok-tops.ensures
    (c.equal_exactly_where_terms_are.ensures s c.leaves_differ.ensures.table) ts refer))

pub returns-in_err-numbering-clause-full : goal.returns-in_err-numbering-clause-full
returns-in_err-numbering-clause-full c =
    let s = c.args.symbols.now in
    handed_on c.from_residual-in_err-numbering.result _ _ c.from_residual-in_err-numbering.ensures.1
    (λ full ts refer.
    c.in_err-numbering.ensures.full full ts
    (spelled_there s c.args.terms.now c.count_all.new.terms c.in_ok-literals.ensures.same c.args.roots.now c.in_ok-literals.literals.items c.deref.result.now
    c.deref-2.result.now c.deref.ensures.value c.deref-2.ensures.value c.in_ok-literals.ensures.counted (get nat_eq c.in_ok-tops.tops) c.in_ok-tops.ensures
    (c.equal_exactly_where_terms_are.ensures s c.leaves_differ.ensures.table) ts refer))

pub returns-clause-rooms : goal.returns-clause-rooms
returns-clause-rooms c =
    let s = c.args.symbols.now in
    let tops = get nat_eq c.in_ok-tops.tops in
    let keeps : KeepsTerms c.args.terms.now c.number_all.new.terms =
    subst (λ y. KeepsTerms y c.number_all.new.terms) c.in_ok-literals.ensures.same c.in_ok-numbering.ensures.keeps in
    all_roomy s c.args.terms.now c.args.roots.now c.in_ok-literals.literals.items c.in_ok-literals.ensures.counted c.number_all.new.terms
    c.in_ok-numbering.numbering keeps c.in_ok-numbering.ensures.numbering
    (c.equal_exactly_where_terms_are-2.ensures s c.leaves_differ.ensures.table) c.requires tops
    (subst (λ ls. AreTops ls tops) c.deref.ensures.value c.in_ok-tops.ensures)
    (λ x there. c.in_ok-numbering.ensures.towers x (subst (λ ls. Contains ls x) (sym c.deref-2.ensures.value) there))

pub returns-clause-spelled : goal.returns-clause-spelled
returns-clause-spelled c ts refer =
    let s = c.args.symbols.now in
    c.in_ok-numbering.ensures.spelled ts
    (spelled_there s c.args.terms.now c.count_all.new.terms c.in_ok-literals.ensures.same c.args.roots.now c.in_ok-literals.literals.items c.deref.result.now
    c.deref-2.result.now c.deref.ensures.value c.deref-2.ensures.value c.in_ok-literals.ensures.counted (get nat_eq c.in_ok-tops.tops) c.in_ok-tops.ensures
    (c.equal_exactly_where_terms_are.ensures s c.leaves_differ.ensures.table) ts refer)

pub returns-clause-placed : goal.returns-clause-placed
returns-clause-placed c ts refer =
    let s = c.args.symbols.now in
    subst (λ y. PlacesCellsOf s y.pass c.number_all.new.terms.pass (IsNearTo ts)) c.in_ok-literals.ensures.same
    (c.in_ok-numbering.ensures.placed ts
    (spelled_there s c.args.terms.now c.count_all.new.terms c.in_ok-literals.ensures.same c.args.roots.now c.in_ok-literals.literals.items c.deref.result.now
    c.deref-2.result.now c.deref.ensures.value c.deref-2.ensures.value c.in_ok-literals.ensures.counted (get nat_eq c.in_ok-tops.tops) c.in_ok-tops.ensures
    (c.equal_exactly_where_terms_are.ensures s c.leaves_differ.ensures.table) ts refer))

use Rattle.std.proofs.Common.{◌≡◌, ◌<◌, ℕ, List, length, map, All, sym, ◌∙◌, ap, subst, arith}
use Rattle.std.specs.Borrow.{Bor}
use Rattle.sym_table.specs.Table.{Table}
use Rattle.term_model.specs.declared.symbols.Op.{Op}
use Rattle.term_pool.specs.Views.{KeepsTerms, RefersTo, ReferToAll, TermsView}
use Rattle.term_pool.proofs.References.{AreOne, refer_are_terms}
use Rattle.chain_plan.specs.Towers.{Towers}
use Rattle.clause_chain.specs.declared.signed_term.SignedTerm.{SignedTerm}
use Rattle.elab_resolution.specs.Levels.{falsity_term, nots_of_number, numbered, truth_term}
use Rattle.elab_resolution.specs.Loaded.{reference_or}
use Rattle.elab_resolution.specs.Numbered.{HasRoomyNumber, IsNumbering, root_references}
use Rattle.elab_resolution.specs.Spellings.{leading_nots, roots_of}
use Rattle.elab_resolution.specs.declared.numbering.Numbering.{Numbering}
use Rattle.elab_resolution.proofs.LoadLemmas.{all_spelled, are_numbered, are_towers, clause_numbered, clause_roomy, clauses_later, clauses_literals}
use Rattle.elab_resolution.proofs.LoadLemmas.{clauses_terms, constant_refers, falsity_roomy, has_number, items_literals, items_refs, items_terms, nots_are}
use Rattle.elab_resolution.proofs.LoadLemmas.{premises_numbered, premises_roomy, roots_there, truth_roomy}
use Rattle.elab_resolution.proofs.NumberLemmas.{all_refer_later, numbers_few, sizes}
use Rattle.elab_resolution.proofs.Results.{handed_on}
use Rattle.elab_resolution.proofs.loading.load.Goals as goal

pub number_terms-requires : goal.number_terms-requires
number_terms-requires c =
    let s = c.args.symbols.now in
    let v = c.args.terms.now in
    refer_are_terms s v c.deref.result.now (roots_of c.requires.given c.requires.goal)
    (roots_there s v c.args.premises.now c.args.clause.now c.deref.result.now c.leaf-truth.result c.leaf-falsity.result c.operator.result c.operator-2.result
    (c.deref.ensures.value ∙ c.in_ok-roots.ensures) (c.leaf-truth.ensures.stands v.pass) c.operator.ensures.leaf (c.leaf-falsity.ensures.stands v.pass)
    c.operator-2.ensures.leaf c.requires.given c.requires.goal c.requires.given_refer c.requires.goal_refer)

pub returns-in_err-numbering-clause-placed : goal.returns-in_err-numbering-clause-placed
returns-in_err-numbering-clause-placed c ps ts h k =
    let s = c.args.symbols.now in
    let v = c.args.terms.now in
    c.in_err-numbering.ensures.placed (roots_of ps ts)
    (roots_there s v c.args.premises.now c.args.clause.now c.deref.result.now c.leaf-truth.result c.leaf-falsity.result c.operator.result c.operator-2.result
    (c.deref.ensures.value ∙ c.in_ok-roots.ensures) (c.leaf-truth.ensures.stands v.pass) c.operator.ensures.leaf (c.leaf-falsity.ensures.stands v.pass)
    c.operator-2.ensures.leaf ps ts h k)

pub returns-in_err-numbering-clause-full : goal.returns-in_err-numbering-clause-full
returns-in_err-numbering-clause-full c =
    let s = c.args.symbols.now in
    let v = c.args.terms.now in
    handed_on c.from_residual-in_err-numbering.result _ _ c.from_residual-in_err-numbering.ensures.1
    (λ full ps ts h k.
    c.in_err-numbering.ensures.full full (roots_of ps ts)
    (roots_there s v c.args.premises.now c.args.clause.now c.deref.result.now c.leaf-truth.result c.leaf-falsity.result c.operator.result c.operator-2.result
    (c.deref.ensures.value ∙ c.in_ok-roots.ensures) (c.leaf-truth.ensures.stands v.pass) c.operator.ensures.leaf (c.leaf-falsity.ensures.stands v.pass)
    c.operator-2.ensures.leaf ps ts h k))

pub all_items_of-requires : goal.all_items_of-requires
all_items_of-requires c =
    premises_numbered c.in_ok-numbering.numbering c.args.premises.now c.args.clause.now c.deref.result.now c.leaf-truth.result c.leaf-falsity.result
    (c.deref.ensures.value ∙ c.in_ok-roots.ensures) c.in_ok-numbering.ensures.rooms

pub returns-in_err-given-clause-placed : goal.returns-in_err-given-clause-placed
returns-in_err-given-clause-placed c ps ts h k =
    let s = c.args.symbols.now in
    let v = c.args.terms.now in
    c.in_ok-numbering.ensures.placed (roots_of ps ts)
    (roots_there s v c.args.premises.now c.args.clause.now c.deref.result.now c.leaf-truth.result c.leaf-falsity.result c.operator.result c.operator-2.result
    (c.deref.ensures.value ∙ c.in_ok-roots.ensures) (c.leaf-truth.ensures.stands v.pass) c.operator.ensures.leaf (c.leaf-falsity.ensures.stands v.pass)
    c.operator-2.ensures.leaf ps ts h k)

pub items_of-requires : goal.items_of-requires
items_of-requires c =
    clause_numbered c.in_ok-numbering.numbering c.args.premises.now c.args.clause.now c.deref.result.now c.leaf-truth.result c.leaf-falsity.result
    (c.deref.ensures.value ∙ c.in_ok-roots.ensures) c.in_ok-numbering.ensures.rooms

pub returns-in_err-goal-clause-placed : goal.returns-in_err-goal-clause-placed
returns-in_err-goal-clause-placed c ps ts h k =
    let s = c.args.symbols.now in
    let v = c.args.terms.now in
    c.in_ok-numbering.ensures.placed (roots_of ps ts)
    (roots_there s v c.args.premises.now c.args.clause.now c.deref.result.now c.leaf-truth.result c.leaf-falsity.result c.operator.result c.operator-2.result
    (c.deref.ensures.value ∙ c.in_ok-roots.ensures) (c.leaf-truth.ensures.stands v.pass) c.operator.ensures.leaf (c.leaf-falsity.ensures.stands v.pass)
    c.operator-2.ensures.leaf ps ts h k)

pub returns-clause-placed : goal.returns-clause-placed
returns-clause-placed c ps ts h k =
    let s = c.args.symbols.now in
    let v = c.args.terms.now in
    c.in_ok-numbering.ensures.placed (roots_of ps ts)
    (roots_there s v c.args.premises.now c.args.clause.now c.deref.result.now c.leaf-truth.result c.leaf-falsity.result c.operator.result c.operator-2.result
    (c.deref.ensures.value ∙ c.in_ok-roots.ensures) (c.leaf-truth.ensures.stands v.pass) c.operator.ensures.leaf (c.leaf-falsity.ensures.stands v.pass)
    c.operator-2.ensures.leaf ps ts h k)

pub known_number-truth_number-requires : goal.known_number-truth_number-requires
known_number-truth_number-requires c =
    has_number c.in_ok-numbering.numbering c.leaf-truth.result
    (truth_roomy c.in_ok-numbering.numbering c.args.premises.now c.args.clause.now c.deref.result.now c.leaf-truth.result c.leaf-falsity.result
    (c.deref.ensures.value ∙ c.in_ok-roots.ensures) c.in_ok-numbering.ensures.rooms)

pub known_number-falsity_number-requires : goal.known_number-falsity_number-requires
known_number-falsity_number-requires c =
    has_number c.in_ok-numbering.numbering c.leaf-falsity.result
    (falsity_roomy c.in_ok-numbering.numbering c.args.premises.now c.args.clause.now c.deref.result.now c.leaf-truth.result c.leaf-falsity.result
    (c.deref.ensures.value ∙ c.in_ok-roots.ensures) c.in_ok-numbering.ensures.rooms)

pub returns-clause-loaded : goal.returns-clause-loaded
returns-clause-loaded c ps ts a b = record {
  terms = h.terms;
  refer = subst (λ rs. ReferToAll s w rs h.terms) (sym c.into_parts-nots.ensures.refs) h.refer;
  truth = truth_refers;
  towers = are_towers s w n h one t same c.leaf-truth.result c.leaf-falsity.result truth_refers falsity_refers c.known_number-truth_number.ensures
      c.known_number-falsity_number.ensures (truth_roomy n premises clause roots c.leaf-truth.result c.leaf-falsity.result is rooms)
      (falsity_roomy n premises clause roots c.leaf-truth.result c.leaf-falsity.result is rooms);
  named = are_numbered s w n h one t same c.leaf-truth.result c.leaf-falsity.result truth_refers falsity_refers c.known_number-truth_number.ensures
      c.known_number-falsity_number.ensures;
  few =
      let most = numbers_few s w n c.one_to_one.ensures c.terms_at.ensures.lists h in
      let z = sizes h in
      let e = ap length same in
      omega arith;
  given = clauses_terms s w n h one premises c.in_ok-given.given.items ps c.in_ok-given.ensures (clauses_later s v w keeps premises ps a);
  goal = items_terms s w n h one clause c.in_ok-goal.goal.items ts c.in_ok-goal.ensures (all_refer_later s v w keeps clause ts b);
  clause_is =
      subst (λ rs. map (λ (x : SignedTerm). reference_or rs c.leaf-truth.result x.term) c.in_ok-goal.goal.items ≡ clause) (sym c.into_parts-nots.ensures.refs)
      (items_refs s w n h one c.leaf-truth.result clause c.in_ok-goal.goal.items c.in_ok-goal.ensures);
  literals = clauses_literals t n premises c.in_ok-given.given.items same c.in_ok-given.ensures
      (premises_roomy n premises clause roots c.leaf-truth.result c.leaf-falsity.result is rooms);
  goal_literals = items_literals t n clause c.in_ok-goal.goal.items same c.in_ok-goal.ensures
      (clause_roomy n premises clause roots c.leaf-truth.result c.leaf-falsity.result is rooms);
  nots =
      subst (λ ns. (k : ℕ) → k < length ns → leading_nots (numbered h.terms k) ≡ nots_of_number ns k) (sym same) (nots_are s w n h one);
  spelled = all_spelled s w n h one (roots_of ps ts)
      (c.in_ok-numbering.ensures.spelled (roots_of ps ts)
      (roots_there s v premises clause roots c.leaf-truth.result c.leaf-falsity.result c.operator.result c.operator-2.result
      is (c.leaf-truth.ensures.stands v.pass) c.operator.ensures.leaf (c.leaf-falsity.ensures.stands v.pass) c.operator-2.ensures.leaf ps ts a b));
}
  where
    s : Table
    s = c.args.symbols.now

    v : TermsView
    v = c.args.terms.now

    w : TermsView
    w = c.number_terms.new.terms

    n : Numbering
    n = c.in_ok-numbering.numbering

    h : IsNumbering s w n
    h = c.in_ok-numbering.ensures.numbering

    keeps : KeepsTerms v w
    keeps = c.in_ok-numbering.ensures.keeps

    one : AreOne s w
    one = c.equal_exactly_where_terms_are.ensures s c.leaves_differ.ensures.table

    premises : List (Bor (List ℕ))
    premises = c.args.premises.now

    clause : List ℕ
    clause = c.args.clause.now

    roots : List ℕ
    roots = c.deref.result.now

    is : roots ≡ root_references premises clause c.leaf-truth.result c.leaf-falsity.result
    is = c.deref.ensures.value ∙ c.in_ok-roots.ensures

    rooms : All (HasRoomyNumber n) roots
    rooms = c.in_ok-numbering.ensures.rooms

    t : Towers
    t = record { nots = c.into_parts-nots.result.0.items; truth = c.known_number-truth_number.result; falsity = c.known_number-falsity_number.result }

    same : t.nots ≡ n.nots.items
    same = c.into_parts-nots.ensures.nots

    truth_refers : RefersTo s w c.leaf-truth.result truth_term
    truth_refers = constant_refers s w c.leaf-truth.result c.operator.result Op.True (c.leaf-truth.ensures.stands w.pass) c.operator.ensures.leaf

    falsity_refers : RefersTo s w c.leaf-falsity.result falsity_term
    falsity_refers = constant_refers s w c.leaf-falsity.result c.operator-2.result Op.False (c.leaf-falsity.ensures.stands w.pass) c.operator-2.ensures.leaf

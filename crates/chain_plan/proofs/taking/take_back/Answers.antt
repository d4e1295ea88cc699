use Rattle.std.proofs.Common.{◌≡◌, ◌<◌, ◌+◌, ◌-◌, ◌∷◌, ◌++◌, [], inl, ℕ, List}
use Rattle.std.proofs.Common.{length, take, get_or, sym, ◌∙◌, ap, subst, arith, All, Contains}
use Rattle.std.proofs.lemmas.List.{take_all, take_more}
use Rattle.std.proofs.lemmas.List.Elements.{All-get_or, All-map, Contains-get_or}
use Rattle.rule_model.specs.Chaining.{AreFalse, LeavesOnly}
use Rattle.rule_model.specs.Consequence.{literal_of}
use Rattle.rule_model.specs.Literals.{negation_of}
use Rattle.rule_model.specs.Resolution.{as_literal}
use Rattle.clause_chain.specs.Chaining.{clauses_of}
use Rattle.clause_chain.specs.declared.signed_term.SignedTerm.{SignedTerm}
use Rattle.chain_plan.specs.Normals.{NormalClause, ArePlainForms, IsPlainForm}
use Rattle.chain_plan.specs.Towers.{Towers, IsLiteral, item_of, plain_of, terms_of}
use Rattle.chain_plan.specs.Trails.{IsPlace, falses_after, literals_of}
use Rattle.chain_plan.proofs.Trails.{falses_more, form_has, form_leaves, literal_is, unit_at}
use Rattle.chain_plan.proofs.taking.take_back.Goals as goal

form_at : (t : Towers) (given : List (List SignedTerm)) (ns : List NormalClause) (i : ℕ) (n : NormalClause) → ArePlainForms t given ns
    → i < length given → n ≡ get_or ns i n → IsPlainForm t (get_or given i []) n
form_at t given ns i n forms within is =
    subst (IsPlainForm t (get_or given i [])) (sym is) (forms.each i n (let e = forms.count in omega arith))

-- the literal of a given clause, by its places
literal_at_place : (t : Towers) (given : List (List SignedTerm)) → All (All (IsLiteral t)) given → (u : ℕ × ℕ) → IsPlace given u
    → IsLiteral t (get_or (get_or given u.0 []) u.1 (item_of 0))
literal_at_place t given literals u place =
    All-get_or (IsLiteral t) (get_or given u.0 []) u.1 (item_of 0) place.literal (All-get_or (All (IsLiteral t)) given u.0 [] place.clause literals)

pub units-init : goal.units-init
units-init c = record {
  within = omega arith;
  going = λ steps standing g. g;
  plain = c.requires.plain;
  back = λ terms named falses last leads all.
      subst (λ us. AreFalse (falses_after (literals_of terms (clauses_of c.args.given.now)) falses us) (terms_of terms c.args.carry.now.list))
      (sym (take_all (length c.args.units.now) c.args.units.now (omega arith))) all;
}

pub number_at-number-requires : goal.number_at-number-requires
number_at-number-requires c = c.requires.places (c.units.left - 1) (0, 0) (let w = c.units.invariant.within in let some = c.units-test.true in omega arith)

pub bounds-normals-premise : goal.bounds-normals-premise
bounds-normals-premise c =
    let place = c.requires.places (c.units.left - 1) (0, 0) (let w = c.units.invariant.within in let some = c.units-test.true in omega arith) in
    let within = place.clause in
    let count = c.requires.forms.count in
    omega arith

pub take_one_back-requires-clause-above : goal.take_one_back-requires-clause-above
take_one_back-requires-clause-above c =
    let t = c.args.spellings.now in
    let u = get_or c.args.units.now (c.units.left - 1) (0, 0) in
    let place = c.requires.places (c.units.left - 1) (0, 0) (let w = c.units.invariant.within in let some = c.units-test.true in omega arith) in
    let literals = All-map (All (IsLiteral t)) (λ v. v.items) c.args.given.now c.requires.literals in
    rw c.number_at-number.ensures (literal_at_place t (clauses_of c.args.given.now) literals u place).room.one

pub take_one_back-requires-clause-there : goal.take_one_back-requires-clause-there
take_one_back-requires-clause-there c =
    let t = c.args.spellings.now in
    let given = clauses_of c.args.given.now in
    let u = get_or c.args.units.now (c.units.left - 1) (0, 0) in
    let place = c.requires.places (c.units.left - 1) (0, 0) (let w = c.units.invariant.within in let some = c.units-test.true in omega arith) in
    let n = c.index-normals-premise.result in
    let form = form_at t given c.args.normals.now u.0 n c.requires.forms place.clause c.index-normals-premise.is in
    subst (λ k. Contains n.clause (item_of (plain_of t k))) (sym c.number_at-number.ensures)
    (form_has t (get_or given u.0 []) n form (get_or (get_or given u.0 []) u.1 (item_of 0))
    (Contains-get_or (get_or given u.0 []) u.1 (item_of 0) place.literal))

pub take_one_back-requires-clause-right : goal.take_one_back-requires-clause-right
take_one_back-requires-clause-right c =
    let u = get_or c.args.units.now (c.units.left - 1) (0, 0) in
    let place = c.requires.places (c.units.left - 1) (0, 0) (let w = c.units.invariant.within in let some = c.units-test.true in omega arith) in
    (form_at c.args.spellings.now (clauses_of c.args.given.now) c.args.normals.now u.0 c.index-normals-premise.result c.requires.forms place.clause
    c.index-normals-premise.is).plain

pub units-preserved : goal.units-preserved
units-preserved c =
    let t = c.args.spellings.now in
    let given = clauses_of c.args.given.now in
    let units = c.args.units.now in
    let k = c.units.left - 1 in
    let some = c.units-test.true in
    let w = c.units.invariant.within in
    let below : k < length units = omega arith in
    let up : c.units.left ≡ k + 1 = omega arith in
    let u = get_or units k (0, 0) in
    let place = c.requires.places k (0, 0) below in
    let n = c.index-normals-premise.result in
    let number = c.number_at-number.result in
    let form = form_at t given c.args.normals.now u.0 n c.requires.forms place.clause c.index-normals-premise.is in
    let literals = All-map (All (IsLiteral t)) (λ v. v.items) c.args.given.now c.requires.literals in
    let clause_literals = All-get_or (All (IsLiteral t)) given u.0 [] place.clause literals in
    let inv = c.units.invariant in
    let l = c.in_ok-take_one_back.ensures in
    let count = c.requires.forms.count in
    let in_normals : u.0 < length c.args.normals.now = let p = place.clause in omega arith in
    record {
      within = omega arith;
      going = λ steps standing g.
          l.going given steps (rw c.index-normals-premise.is (standing u.0 n in_normals)) (inv.going steps standing g);
      plain = l.plain;
      back = λ terms named falses last leads all.
          let premises = literals_of terms given in
          let before = falses_after premises falses (take k units) in
          let unit = unit_at premises falses units last leads k (0, 0) below in
          let lit : literal_of premises u ≡ as_literal (terms number) =
          literal_is t c.requires.towers terms named given u place ∙ ap (λ m. as_literal (terms m)) (sym c.number_at-number.ensures) in
          let more : take c.units.left units ≡ take k units ++ u ∷ [] = ap (λ m. take m units) up ∙ take_more units k (0, 0) below in
          let same : falses_after premises falses (take c.units.left units) ≡ before ++ negation_of (as_literal (terms number)) ∷ [] =
          ap (falses_after premises falses) more
          ∙ (falses_more premises falses (take k units) u ∙ ap (λ m. before ++ negation_of m ∷ []) lit) in
          l.back terms named before (λ e. unit.only.not_false (inl (lit ∙ e)))
          (subst (λ fs. AreFalse fs (terms_of terms c.units.carry.list)) same (inv.back terms named falses last leads all))
          (subst (λ m. LeavesOnly before m (terms_of terms n.clause)) lit
          (form_leaves t c.requires.towers terms named given before u n place form clause_literals unit));
    }

pub returns-clause-back : goal.returns-clause-back
returns-clause-back c terms named falses last leads all =
    let none : c.units.left ≡ 0 = let past = c.units-test.false in omega arith in
    subst (λ m. AreFalse (falses_after (literals_of terms (clauses_of c.args.given.now)) falses (take m c.args.units.now)) (terms_of terms c.units.carry.list))
    none (c.units.invariant.back terms named falses last leads all)

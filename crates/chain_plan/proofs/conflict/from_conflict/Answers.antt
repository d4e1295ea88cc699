use Rattle.std.proofs.Common.{◌≡◌, ◌<◌, ◌∷◌, [], ℕ, List, length}
use Rattle.std.proofs.Common.{get_or, sym, ◌∙◌, ap, subst, arith, All, Contains}
use Rattle.std.proofs.lemmas.List.{length-map}
use Rattle.std.proofs.lemmas.List.Elements.{All-get_or, All-map, All-weaker}
use Rattle.term_model.specs.Terms.{Term}
use Rattle.rule_model.specs.declared.literal.Literal.{Literal}
use Rattle.rule_model.specs.Chaining.{AreFalse}
use Rattle.rule_model.specs.Consequence.{Leads}
use Rattle.rule_model.specs.Resolution.{IsFirstsOf, as_clause}
use Rattle.clause_chain.specs.Chaining.{clauses_of}
use Rattle.clause_chain.specs.declared.signed_term.SignedTerm.{SignedTerm}
use Rattle.chain_plan.specs.Carried.{AreSound, IsGoing, IsItem}
use Rattle.chain_plan.specs.Lowering.{ArePlainsOf}
use Rattle.chain_plan.specs.Normals.{NormalClause, ArePlainForms, IsPlainForm, IsStanding}
use Rattle.chain_plan.specs.Towers.{Towers, IsLiteral, term_of, terms_of}
use Rattle.chain_plan.specs.Trails.{falses_after, literals_of}
use Rattle.chain_plan.proofs.Contradictions.{plains_of_false}
use Rattle.chain_plan.proofs.Going.{going_started}
use Rattle.chain_plan.proofs.Joining.{firsts_had, image_in, image_of}
use Rattle.chain_plan.proofs.Starting.{nothing_sound}
use Rattle.chain_plan.proofs.Towers.{room_within}
use Rattle.chain_plan.proofs.Trails.{conflict_at, form_false}
use Rattle.chain_plan.proofs.conflict.from_conflict.Goals as goal

form_at : (t : Towers) (given : List (List SignedTerm)) (ns : List NormalClause) (i : ℕ) (n : NormalClause) → ArePlainForms t given ns
    → i < length given → n ≡ get_or ns i n → IsPlainForm t (get_or given i []) n
form_at t given ns i n forms within is =
    subst (IsPlainForm t (get_or given i [])) (sym is) (forms.each i n (let e = forms.count in omega arith))

stands_at : (given : List (List SignedTerm)) (P : NormalClause → Type 0) (ns : List NormalClause) (i : ℕ) (n : NormalClause) → All P ns
    → i < length ns → n ≡ get_or ns i n → P n
stands_at given P ns i n all within is = subst P (sym is) (all i n within)

-- what is false of a clause is false of it without its repeats
firsts_false : (terms : ℕ → Term) (falses : List (Literal Term)) (clause list : List SignedTerm) → IsFirstsOf [] clause list
    → AreFalse falses (terms_of terms clause) → AreFalse falses (terms_of terms list)
firsts_false terms falses clause list firsts all u there =
    let i = image_of (term_of terms) list u there in
    all u (subst (Contains (terms_of terms clause)) i.2 (image_in (term_of terms) clause i.0 (firsts_had clause list i.0 firsts i.1)))

pub take_back-requires-clause-plain : goal.take_back-requires-clause-plain
take_back-requires-clause-plain c x there =
    let t = c.args.spellings.now in
    let given = clauses_of c.args.given.now in
    let long : c.args.last < length given = let e = length-map c.args.given.now (λ v. v.items) in let l = c.requires.last in omega arith in
    let form = form_at t given c.in_ok-normals.normals.items c.args.last c.index-first.result.now c.in_ok-normals.ensures.forms long c.index-first.ensures in
    form.plain x (subst (λ xs. Contains xs x) c.clause.ensures (firsts_had c.clause.result.now c.start.new.self.list x c.in_ok-start.ensures.list there))

pub finish-requires : goal.finish-requires
finish-requires c x there = c.in_ok-raise_all.ensures.within plains x there
  where
    t : Towers
    t = c.args.spellings.now

    given : List (List SignedTerm)
    given = clauses_of c.args.given.now

    terms : ℕ → Term
    terms = c.requires.follows.terms

    falses : List (Literal Term)
    falses = as_clause (terms_of terms c.args.goal.now)

    after : List (Literal Term)
    after = falses_after (literals_of terms given) falses c.args.units.now

    leads : Leads (literals_of terms given) falses c.args.units.now c.args.last
    leads = c.requires.follows.shown.1

    long : c.args.last < length given
    long = let e = length-map c.args.given.now (λ v. v.items) in let l = c.requires.last in omega arith

    form : IsPlainForm t (get_or given c.args.last []) c.index-first.result.now
    form = form_at t given c.in_ok-normals.normals.items c.args.last c.index-first.result.now c.in_ok-normals.ensures.forms long c.index-first.ensures

    literals : All (IsLiteral t) (get_or given c.args.last [])
    literals = All-get_or (All (IsLiteral t)) given c.args.last [] long
        (All-map (All (IsLiteral t)) (λ v. v.items) c.args.given.now c.requires.literals)

    begun : AreFalse after (terms_of terms c.start.new.self.list)
    begun =
        firsts_false terms after c.index-first.result.now.clause c.start.new.self.list
        (subst (λ xs. IsFirstsOf [] xs c.start.new.self.list) c.clause.ensures c.in_ok-start.ensures.list)
        (form_false t c.requires.towers terms c.requires.follows.named given after c.args.last c.index-first.result.now long form literals
        (conflict_at (literals_of terms given) falses c.args.units.now c.args.last leads))

    ended : AreFalse falses (terms_of terms c.take_back.new.carry.list)
    ended = c.in_ok-take_back.ensures.back terms c.requires.follows.named falses c.args.last leads begun

    plains : ArePlainsOf t c.drop_denied_truth.new.carry.list c.args.goal.now
    plains z z_there =
        let second = c.in_ok-drop_denied_truth.ensures.was z z_there in
        let first = c.in_ok-drop_falsity.ensures.was z second.0 in
        plains_of_false t c.requires.towers terms c.requires.follows.named c.args.goal.now c.requires.goal_literals c.requires.follows.shown.0 z
        (c.in_ok-take_back.ensures.plain z first.0) first.1 second.1
        (ended (terms z.term) (image_in (term_of terms) c.take_back.new.carry.list z first.0))

pub returns : goal.returns
returns c = record {
  sound = c.in_ok-finish.ensures.sound t given raised going
      (All-weaker (IsLiteral t) (IsItem t) (λ x l. room_within t x l) c.args.goal.now c.requires.goal_literals);
  ends = c.in_ok-finish.ensures.ends t given going;
  count =
      let none = ap length c.new-steps.ensures.items in
      let a = c.in_ok-normals.ensures.count in
      let b = c.in_ok-drop_falsity.ensures.count in
      let d = c.in_ok-drop_denied_truth.ensures.count in
      let e = c.in_ok-raise_all.ensures.count in
      let f = c.in_ok-finish.ensures.count in
      omega arith;
}
  where
    t : Towers
    t = c.args.spellings.now

    given : List (List SignedTerm)
    given = clauses_of c.args.given.now

    long : c.args.last < length given
    long = let e = length-map c.args.given.now (λ v. v.items) in let l = c.requires.last in omega arith

    normal : AreSound t given c.make_all_normal.new.steps.items
    normal =
        c.in_ok-normals.ensures.sound
        (rw c.new-steps.ensures.items (nothing_sound t given (All-map (All (IsLiteral t)) (λ v. v.items) c.args.given.now c.requires.literals)))

    raised : AreSound t given c.raise_all.new.steps.items
    raised =
        c.in_ok-raise_all.ensures.sound given
        (c.in_ok-drop_denied_truth.ensures.sound given (c.in_ok-drop_falsity.ensures.sound given normal))

    standing : IsStanding given c.make_all_normal.new.steps.items c.index-first.result.now
    standing =
        stands_at given (IsStanding given c.make_all_normal.new.steps.items) c.in_ok-normals.normals.items c.args.last c.index-first.result.now
        c.in_ok-normals.ensures.stand (let e = c.in_ok-normals.ensures.forms.count in let l = long in omega arith) c.index-first.ensures

    begun : IsGoing t given c.make_all_normal.new.steps.items c.start.new.self
    begun =
        going_started t given c.make_all_normal.new.steps.items c.index-first.result.now.source c.start.new.self standing.source
        (normal.items c.index-first.result.now.source standing.source)
        (subst (λ xs. IsFirstsOf [] xs c.start.new.self.list) (c.clause.ensures ∙ sym standing.same) c.in_ok-start.ensures.list)
        (c.in_ok-start.ensures.sources ∙ ap (λ s. s ∷ []) c.source.ensures) c.in_ok-start.ensures.pivots

    going : IsGoing t given c.raise_all.new.steps.items c.raise_all.new.carry
    going =
        c.in_ok-raise_all.ensures.going given
        (c.in_ok-drop_denied_truth.ensures.going given
        (c.in_ok-drop_falsity.ensures.going given
        (c.in_ok-take_back.ensures.going c.make_all_normal.new.steps.items
        (subst (All (IsStanding given c.make_all_normal.new.steps.items)) (sym c.deref.ensures.value) c.in_ok-normals.ensures.stand) begun)))

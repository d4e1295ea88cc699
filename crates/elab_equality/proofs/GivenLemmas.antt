-- Private. The premises of a command, and when two arguments are linked by them.
use Rattle.std.proofs.Common.{◌≡◌, inl, inr, ℕ, Bool, true, false, List, [], ◌∷◌, map, Option, Some, Contains, Result, Ok, Err, IfOk, refl, ap, subst}
use Rattle.std.specs.Bool.{OnFalse, OnTrue}
use Rattle.std.specs.List.{AllZip}
use Rattle.pair_pool.specs.Views.{IsOneToOne}
use Rattle.sym_table.specs.Table.{IsTable}
use Rattle.term_model.specs.Flips.{equality}
use Rattle.term_model.specs.Terms.{Term}
use Rattle.term_pool.specs.Views.{TermsView, RefersTo, ReferToAll}
use Rattle.term_pool.proofs.TermLemmas.{equal_where}
use Rattle.rule_model.specs.Congruence.{AreSides as AreSidesOfPremise}
use Rattle.rule_model.specs.Reading.{clause_at, premises_at, premise_clauses}
use Rattle.elaboration_laws.proofs.Reading.{clause_stands, premises_same}
use Rattle.equality_steps.specs.declared.site.Site.{Site}
use Rattle.equality_ways.specs.declared.pairs.Used.{Used}
use Rattle.equality_ways.specs.declared.table.Table.{Table as WayTable}
use Rattle.equality_ways.specs.Sides.{AreSidesOfUnit, AreSidesOfUnits}
use Rattle.equality_ways.specs.Tables.{IsTableOf}
use Rattle.equality_ways.specs.Ways.{AreEnds, LeadsTo, turned_if}
use Rattle.equality_ways.proofs.Places.{contains_of_get, zip_get}
use Rattle.equality_blocks.specs.Commands.{IsToElaborate}
use Rattle.elab_equality.specs.Linked.{ArePremises, IsGiven}
use Rattle.elab_equality.proofs.LinkLemmas.{clauses_once, unit_ends}

module _ (p : Site) (v : TermsView) (h : IsToElaborate p v) where
  clauses_stand : (js : List ℕ) → AllZip (ReferToAll p.symbols.now v) (map (clause_at p.proof.now) js) (map (clause_at h.proof) js)
  clauses_stand [] = tt
  clauses_stand (j ∷ js) = (clause_stands p.symbols.now v p.proof.now h.proof h.stand j, clauses_stand js)

  pub premises_stand : ArePremises p v (premise_clauses h.proof p.command)
  premises_stand =
      subst (λ js. AllZip (ReferToAll p.symbols.now v) (map (clause_at p.proof.now) (premises_at p.proof.now p.command)) (map (clause_at h.proof) js))
      (premises_same p.symbols.now v p.proof.now h.proof h.stand p.command) (clauses_stand (premises_at p.proof.now p.command))

  pub given_of : (sides : List (Option (ℕ × ℕ))) (table : WayTable) → AreSidesOfUnits p.symbols.now v sides (premise_clauses h.proof p.command)
      → IsTableOf sides table → IsGiven p v table
  given_of sides table are is = record {
    within = h.within;
    premises = premise_clauses h.proof p.command;
    are = premises_stand;
    sides = sides;
    sides_are = are;
    table_is = is;
  }

-- what leads from one reference to another is a premise
module _ (p : Site) (v : TermsView) (table : WayTable) (is_table : IsTable p.symbols.now) (one : IsOneToOne v.pass) (given : IsGiven p v table) where
  same_sides : (a b : ℕ) (t u : Term) (q : ℕ × ℕ) (e : Term × Term) → q ≡ (a, b) → RefersTo p.symbols.now v q.0 e.0 × RefersTo p.symbols.now v q.1 e.1
      → RefersTo p.symbols.now v a t → RefersTo p.symbols.now v b u → (e.0 ≡ t) × (e.1 ≡ u)
  same_sides a b t u q e is both left right = (
    (equal_where p.symbols.now v is_table one a a e.0 t (subst (λ z. RefersTo p.symbols.now v z.0 e.0) is both.0) left).0 refl,
    (equal_where p.symbols.now v is_table one b b e.1 u (subst (λ z. RefersTo p.symbols.now v z.1 e.1) is both.1) right).0 refl,
  )

  leads_sides : (used : Used) (a b : ℕ) (t u : Term) → LeadsTo given.sides used a b → RefersTo p.symbols.now v a t → RefersTo p.symbols.now v b u
      → AreSidesOfPremise given.premises t u
  leads_sides used a b t u leads left right =
      let found = zip_get (AreSidesOfUnit p.symbols.now v) given.sides given.premises used.place (Some (turned_if used.turned (a, b))) given.sides_are leads in
      let there = contains_of_get given.premises used.place found.0 found.1 in
      go used.turned refl found.2.0 found.2.1 (subst (Contains given.premises) found.2.2 there)
    where
      go : (turned : Bool) → used.turned ≡ turned → (e : Term × Term)
          → RefersTo p.symbols.now v (turned_if used.turned (a, b)).0 e.0 × RefersTo p.symbols.now v (turned_if used.turned (a, b)).1 e.1
          → Contains given.premises (equality e.0 e.1 ∷ []) → AreSidesOfPremise given.premises t u
      go false is e both there =
          let same = same_sides a b t u (turned_if used.turned (a, b)) e (ap (λ x. turned_if x (a, b)) is) both left right in
          inl (subst (λ x. Contains given.premises (equality x u ∷ [])) same.0 (subst (λ x. Contains given.premises (equality e.0 x ∷ [])) same.1 there))
      go true is e both there =
          let same = same_sides b a u t (turned_if used.turned (a, b)) e (ap (λ x. turned_if x (a, b)) is) both right left in
          inr (subst (λ x. Contains given.premises (equality x t ∷ [])) same.0 (subst (λ x. Contains given.premises (equality e.0 x ∷ [])) same.1 there))

  pub found_sides : (used : Used) (a b : ℕ) → LeadsTo given.sides used a b → (ps : List (List Term)) (t u : Term) → ArePremises p v ps → RefersTo p.symbols.now v a t
      → RefersTo p.symbols.now v b u → AreSidesOfPremise ps t u
  found_sides used a b leads ps t u are left right =
      subst (λ xs. AreSidesOfPremise xs t u) (clauses_once p v is_table one (premise_clauses p.proof.now p.command) given.premises ps given.are are)
      (leads_sides used a b t u leads left right)

  pub none_sides : (a b : ℕ) → ¬ AreEnds given.sides a b → (ps : List (List Term)) (t u : Term) → ArePremises p v ps → RefersTo p.symbols.now v a t
      → RefersTo p.symbols.now v b u → ¬ AreSidesOfPremise ps t u
  none_sides a b none ps t u are left right h =
      go (subst (λ xs. AreSidesOfPremise xs t u) (clauses_once p v is_table one (premise_clauses p.proof.now p.command) ps given.premises are given.are) h)
    where
      go : AreSidesOfPremise given.premises t u → ⊥
      go (inl there) = none (inl (unit_ends p v table is_table one given a b t u left right there))
      go (inr there) = none (inr (unit_ends p v table is_table one given b a u t right left there))

-- the table that is made of the sides
pub given_found : {E : Type 0} (p : Site) (v : TermsView) (h : IsToElaborate p v) (r : Result WayTable E) (sides : List (Option (ℕ × ℕ)))
    → AreSidesOfUnits p.symbols.now v sides (premise_clauses h.proof p.command) → IfOk r (IsTableOf sides) → IfOk r (IsGiven p v)
given_found p v h (Ok table) sides are is = given_of p v h sides table are is
given_found p v h (Err e) sides are is = tt

-- what a test says
pub true_then : (b : Bool) (P : Type 0) → b ≡ true → OnTrue b P → P
true_then b P e h = subst (λ x. OnTrue x P) e h

pub false_then : (b : Bool) (P : Type 0) → b ≡ false → OnFalse b P → P
false_then b P e h = subst (λ x. OnFalse x P) e h

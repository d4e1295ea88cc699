-- A step that closes a scope of the assembled proof meets what the step in whose place it stands does.
use Rattle.std.proofs.Common.{◌≡◌, ◌++◌, ℕ, zero, suc, List, [], ◌∷◌, map, flat_map, slice_get, Option, Some, None, Contains, refl, sym, ◌∙◌, ap, subst, arith}
use Rattle.std.specs.List.{AllZip}
use Rattle.term_model.proofs.Basics.{same_some}
use Rattle.term_model.specs.FreeVariables.{bound_terms}
use Rattle.term_model.specs.Terms.{Var, Term}
use Rattle.rule_model.specs.declared.rules.Mode.{Mode}
use Rattle.rule_model.specs.Proofs.{ProofItems}
use Rattle.rule_model.specs.Reading.{clause_at, premises_at, premise_clauses, discharged_at, bindings_at}
use Rattle.rule_model.specs.Subproof.{IsAssumeIn, EndsIn, negations, IsSubproof, AreLinkedTo, IsLetClosing}
use Rattle.elaborator.specs.Sources.{IsAt, AreAt}

-- what the scope of a closing step has, and that of the step in whose place it stands
pub record ClosesAlike (proof new : ProofItems Var Term) (i j k : ℕ) : Type 0 where
  pub bindings : bindings_at new k ≡ bindings_at proof k
  pub clause : clause_at new j ≡ clause_at proof i
  pub ends : (clause : List Term) → EndsIn proof k clause → EndsIn new k clause
  pub assume : (m : ℕ) → IsAssumeIn new j k m → (n : ℕ) × IsAssumeIn proof i k n × (Contains (discharged_at proof i) n → Contains (discharged_at new j) m)
  pub negated : negations new j ≡ negations proof i

module _ (proof new : ProofItems Var Term) (i j k : ℕ) (h : ClosesAlike proof new i j k) where
  pub subproof_alike : premises_at new j ≡ [] → IsSubproof proof i k → IsSubproof new j k
  subproof_alike none g = record {
    no_bindings = h.bindings ∙ g.no_bindings;
    no_premises = none;
    discharged = λ m is. let n = h.assume m is in n.2 (g.discharged n.0 n.1);
    inner = g.inner;
    ends = h.ends g.inner g.ends;
    end = g.end;
    ending = g.ending;
    clause = h.clause ∙ (g.clause ∙ ap (λ ts. ts ++ g.end) (sym h.negated));
  }

  pub let_alike : (mode : Mode) (g : IsLetClosing mode proof i k)
      → AreLinkedTo Mode.Strict (premise_clauses new j) (bound_terms g.bindings) (map (λ (b : Var × Term). b.1) (bindings_at proof k)) → IsLetClosing Mode.Strict new j k
  let_alike mode g linked = record {
    bindings = g.bindings;
    body = g.body;
    result = g.result;
    clause = h.clause ∙ g.clause;
    no_assumes = λ m is. let n = h.assume m is in g.no_assumes n.0 n.1;
    ends = h.ends _ g.ends;
    variables = ap (map (λ (b : Var × Term). b.0)) h.bindings ∙ g.variables;
    hidden = g.hidden;
    linked = subst (λ bs. AreLinkedTo Mode.Strict (premise_clauses new j) (bound_terms g.bindings) (map (λ (b : Var × Term). b.1) bs)) (sym h.bindings) linked;
  }

-- lists of commands and of their new indices
pub discharged_there : (places ds ps : List ℕ) (d p : ℕ) → AllZip (IsAt places) ds ps → IsAt places d p → Contains ds d → Contains ps p
discharged_there places [] ps d p zip at (n, less, e) = absurd (omega arith)
discharged_there places (x ∷ ds) [] d p zip at has = absurd zip
discharged_there places (x ∷ ds) (q ∷ ps) d p zip at (zero, less, e) =
    let same : q ≡ p = same_some (sym (subst (λ y. slice_get places y ≡ Some q) e zip.0) ∙ at) in
    (zero, omega arith, same)
discharged_there places (x ∷ ds) (q ∷ ps) d p zip at (suc n, less, e) =
    let rest = discharged_there places ds ps d p zip.1 at (n, omega arith, e) in
    (suc rest.0, let below = rest.1 in omega arith, rest.2)

pub clauses_joined : (proof new : ProofItems Var Term) (places ds ps : List ℕ) → ((d p : ℕ) → IsAt places d p → clause_at new p ≡ clause_at proof d) → AllZip (IsAt places) ds ps
    → flat_map (clause_at new) ps ≡ flat_map (clause_at proof) ds
clauses_joined proof new places [] [] same zip = refl
clauses_joined proof new places [] (p ∷ ps) same zip = absurd zip
clauses_joined proof new places (d ∷ ds) [] same zip = absurd zip
clauses_joined proof new places (d ∷ ds) (p ∷ ps) same zip =
    let first = same d p zip.0 in
    let rest = clauses_joined proof new places ds ps same zip.1 in
    λ i. first i ++ rest i

-- the last command of a scope, by its new index
pub ends_there : (places : List ℕ) (o q : Option ℕ) (last : ℕ) → AreAt places o q → o ≡ Some last → (p : ℕ) × (q ≡ Some p) × IsAt places last p
ends_there places None q last at e = absurd (cc)
ends_there places (Some i) None last at e = absurd at
ends_there places (Some i) (Some p) last at e = (p, refl, subst (λ n. IsAt places n p) (same_some e) at)

pub no_items : {X Y : Type 0} (f : X → Y) (xs : List X) → map f xs ≡ [] → xs ≡ []
no_items f [] e = refl
no_items f (x ∷ xs) e = absurd (cc)

-- Private. What holds of no steps, and what is seen of a plan.
use Rattle.std.proofs.Common.{◌≡◌, ◌<◌, ℕ, zero, suc, false, List, [], ◌∷◌, ◌++◌, length}
use Rattle.std.proofs.Common.{get_or, slice_get, Some, ◌∙◌, ap, subst, arith, All}
use Rattle.std.specs.Option.{option_map_or}
use Rattle.std.proofs.lemmas.List.{get_or-map, length-map}
use Rattle.std.proofs.lemmas.List.Elements.{All-nil, All-cons, All-get_or, All-weaker}
use Rattle.term_model.specs.Terms.{Term}
use Rattle.rule_model.specs.declared.literal.Literal.{Literal}
use Rattle.rule_model.specs.Consequence.{IsUnit, Leads, literal_of, premise_at}
use Rattle.rule_model.specs.Literals.{negation_of}
use Rattle.rule_model.specs.Resolution.{as_clause, as_literal}
use Rattle.clause_chain.specs.declared.signed_term.SignedTerm.{SignedTerm}
use Rattle.chain_plan.specs.declared.plan.Source.TheVariants.{Given, Added}
use Rattle.chain_plan.specs.Carried.{IsItem, AreAllItems, AreSound}
use Rattle.chain_plan.specs.Plans.{PlannedStep, AreNumbers}
use Rattle.chain_plan.specs.Towers.{Towers, IsLiteral, term_of, terms_of}
use Rattle.chain_plan.specs.Trails.{IsPlace, literals_of}
use Rattle.chain_plan.proofs.Towers.{room_within}

nothing_there : {X : Type 0} (k : ℕ) (x : X) → slice_get [] k ≡ Some x → ⊥
nothing_there k x e = cc

pub nothing_sound : (t : Towers) (given : List (List SignedTerm)) → All (All (IsLiteral t)) given → AreSound t given []
nothing_sound t given literals = record {
  met = λ terms named k s at. absurd (nothing_there k s at);
  items = items;
  rules = λ k s at. absurd (nothing_there k s at);
}
  where
    items : AreAllItems t given []
    items (Given i) is =
        All-weaker (IsLiteral t) (IsItem t) (λ x l. room_within t x l) (get_or given i []) (All-get_or (All (IsLiteral t)) given i [] is literals)
    items (Added k) is = absurd (omega arith)

there_within : {X : Type 0} (xs : List X) (k : ℕ) (x : X) → slice_get xs k ≡ Some x → k < length xs
there_within [] k x e = absurd (nothing_there k x e)
there_within (y ∷ xs) zero x e = omega arith
there_within (y ∷ xs) (suc k) x e = let more = there_within xs k x e in omega arith

pub numbers_of : (t : Towers) (given : List (List SignedTerm)) (steps : List PlannedStep) → AreSound t given steps → AreNumbers t steps
numbers_of t given steps sound =
    record {
      unsigned = λ k s at. All-weaker (IsItem t) (λ x. x.negative ≡ false) (λ x i. i.unsigned) s.clause (items k s at);
      within = λ k s at. All-weaker (IsItem t) (λ x. x.term < length t.nots) (λ x i. i.within) s.clause (items k s at);
    }
  where
    items : (k : ℕ) (s : PlannedStep) → slice_get steps k ≡ Some s → All (IsItem t) s.clause
    items k s at =
        subst (All (IsItem t)) (ap (λ o. option_map_or (λ (p : PlannedStep). p.clause) o []) at) (sound.items (Added k) (there_within steps k s at))

-- the units of a trail are literals of the clauses, and the last clause is one of them
pub places_lead : (terms : ℕ → Term) (given : List (List SignedTerm)) (falses : List (Literal Term)) (units : List (ℕ × ℕ)) (last : ℕ)
    → Leads (literals_of terms given) falses units last → All (IsPlace given) units × (last < length given)
places_lead terms given falses [] last leads =
    (All-nil (IsPlace given), let place = leads.place in let same = length-map given (λ c. as_clause (terms_of terms c)) in omega arith)
places_lead terms given falses (u ∷ units) last leads =
    let more = places_lead terms given (falses ++ negation_of (literal_of (literals_of terms given) u) ∷ []) units last leads.1 in
    (All-cons (IsPlace given) u units (place_of leads.0) more.0, more.1)
  where
    place_of : IsUnit (literals_of terms given) falses u.0 u.1 → IsPlace given u
    place_of unit =
        let within : u.0 < length given =
        let place = unit.place in let same = length-map given (λ c. as_clause (terms_of terms c)) in omega arith in
        let clause = get_or given u.0 [] in
        let is : premise_at (literals_of terms given) u.0 ≡ as_clause (terms_of terms clause) =
        get_or-map (λ c. as_clause (terms_of terms c)) given u.0 [] [] within in
        let long = ap length is ∙ (length-map (terms_of terms clause) as_literal ∙ length-map clause (term_of terms)) in
        record { clause = within; literal = let place = unit.only.place in omega arith }

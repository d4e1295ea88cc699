-- Private. What is false after some units, and how a premise's literals are those of its plain form.
use Rattle.std.proofs.Common.{◌≡◌, ◌<◌, ◌⊎◌, ℕ, zero, suc, List, [], ◌∷◌, ◌++◌, length, take, get_or}
use Rattle.std.proofs.Common.{refl, sym, ◌∙◌, ap, subst, arith, All, Contains}
use Rattle.std.proofs.lemmas.List.{get_or-map, length-map}
use Rattle.std.proofs.lemmas.List.Elements.{All-contains}
use Rattle.term_model.specs.Terms.{Term}
use Rattle.rule_model.specs.declared.literal.Literal.{Literal}
use Rattle.rule_model.specs.declared.literal.Literal.TheVariants.{Never}
use Rattle.rule_model.specs.Chaining.{AreFalse, LeavesOnly}
use Rattle.rule_model.specs.Consequence.{IsFalse, IsUnit, IsConflict, Leads, literal_at, literal_of, premise_at}
use Rattle.rule_model.specs.Literals.{negation_of}
use Rattle.rule_model.specs.Resolution.{as_clause, as_literal}
use Rattle.clause_chain.specs.declared.signed_term.SignedTerm.{SignedTerm}
use Rattle.chain_plan.specs.Normals.{NormalClause, IsPlainForm}
use Rattle.chain_plan.specs.Towers.{Towers, AreTowers, AreNumbered, IsLiteral, item_of, plain_of, term_of, terms_of}
use Rattle.chain_plan.specs.Trails.{literals_of, falses_after, IsPlace}
use Rattle.chain_plan.proofs.Joining.{image_in, image_of}
use Rattle.chain_plan.proofs.Literals.{plain_literal}
use Rattle.chain_plan.proofs.Towers.{room_within, item_is, plain_is}

module _ {A : Type 0} (premises : List (List (Literal A))) where
  pub falses_more : (falses : List (Literal A)) (units : List (ℕ × ℕ)) (u : ℕ × ℕ)
      → falses_after premises falses (units ++ u ∷ []) ≡ falses_after premises falses units ++ negation_of (literal_of premises u) ∷ []
  falses_more falses [] u = refl
  falses_more falses (v ∷ units) u = falses_more (falses ++ negation_of (literal_of premises v) ∷ []) units u

  pub unit_at : (falses : List (Literal A)) (units : List (ℕ × ℕ)) (last : ℕ) → Leads premises falses units last → (k : ℕ) (d : ℕ × ℕ)
      → k < length units → IsUnit premises (falses_after premises falses (take k units)) (get_or units k d).0 (get_or units k d).1
  unit_at falses [] last leads k d within = absurd (omega arith)
  unit_at falses (u ∷ units) last leads zero d within = leads.0
  unit_at falses (u ∷ units) last leads (suc k) d within =
      unit_at (falses ++ negation_of (literal_of premises u) ∷ []) units last leads.1 k d (omega arith)

  pub conflict_at : (falses : List (Literal A)) (units : List (ℕ × ℕ)) (last : ℕ) → Leads premises falses units last
      → IsConflict premises (falses_after premises falses units) last
  conflict_at falses [] last leads = leads
  conflict_at falses (u ∷ units) last leads = conflict_at (falses ++ negation_of (literal_of premises u) ∷ []) units last leads.1

module _ (t : Towers) (towers : AreTowers t) (terms : ℕ → Term) (named : AreNumbered t terms) (given : List (List SignedTerm)) where
  abbrev pub premises_of : List (List (Literal Term))
  premises_of = literals_of terms given

  pub premise_is : (i : ℕ) → i < length given → premise_at premises_of i ≡ as_clause (terms_of terms (get_or given i []))
  premise_is i within = get_or-map (λ c. as_clause (terms_of terms c)) given i [] [] within

  pub literal_is : (u : ℕ × ℕ) → IsPlace given u → literal_of premises_of u ≡ as_literal (terms (get_or (get_or given u.0 []) u.1 (item_of 0)).term)
  literal_is u place =
      let clause = get_or given u.0 [] in
      let long = place.literal in
      let same = length-map clause (term_of terms) in
      ap (λ c. literal_at c u.1) (premise_is u.0 place.clause)
      ∙ (get_or-map as_literal (terms_of terms clause) u.1 (terms 0) Never (omega arith)
      ∙ ap as_literal (get_or-map (term_of terms) clause u.1 (item_of 0) (terms 0) long))

  -- literals of the plain form have literals of the clause
  pub form_was : (clause : List SignedTerm) (n : NormalClause) → IsPlainForm t clause n → All (IsLiteral t) clause → (u : Term)
      → Contains (terms_of terms n.clause) u → Contains (as_clause (terms_of terms clause)) (as_literal u)
  form_was clause n form literals u there =
      let i = image_of (term_of terms) n.clause u there in
      let z = form.alike.was i.0 i.1 in
      let is_literal = room_within t z.0 (All-contains (IsLiteral t) clause z.0 literals z.1) in
      let plain = form.plain i.0 i.1 in
      let same : as_literal (terms z.0.term) ≡ as_literal u =
      sym (plain_literal t towers terms named z.0.term z.0.term (omega arith) is_literal.within)
      ∙ (ap (λ k. as_literal (terms k)) z.2
      ∙ (plain_literal t towers terms named i.0.term i.0.term (omega arith) plain.item.within ∙ ap as_literal i.2)) in
      subst (Contains (as_clause (terms_of terms clause))) same
      (image_in as_literal (terms_of terms clause) (terms z.0.term) (image_in (term_of terms) clause z.0 z.1))

  -- where the unit is the only literal that is not false, so it is in the plain form
  pub form_leaves : (falses : List (Literal Term)) (u : ℕ × ℕ) (n : NormalClause) → IsPlace given u
      → IsPlainForm t (get_or given u.0 []) n → All (IsLiteral t) (get_or given u.0 []) → IsUnit premises_of falses u.0 u.1
      → LeavesOnly falses (literal_of premises_of u) (terms_of terms n.clause)
  form_leaves falses u n place form literals unit v there =
      let clause = get_or given u.0 [] in
      All-contains (λ l. IsFalse falses l ⊎ (l ≡ literal_of premises_of u)) (premise_at premises_of u.0) (as_literal v) unit.only.others
      (subst (λ c. Contains c (as_literal v)) (sym (premise_is u.0 place.clause)) (form_was clause n form literals v there))

  pub form_false : (falses : List (Literal Term)) (i : ℕ) (n : NormalClause) → i < length given
      → IsPlainForm t (get_or given i []) n → All (IsLiteral t) (get_or given i []) → IsConflict premises_of falses i
      → AreFalse falses (terms_of terms n.clause)
  form_false falses i n within form literals conflict v there =
      All-contains (IsFalse falses) (premise_at premises_of i) (as_literal v) conflict.all_false
      (subst (λ c. Contains c (as_literal v)) (sym (premise_is i within)) (form_was (get_or given i []) n form literals v there))

-- the literal of a unit stands in the plain form without its pairs of `not`
pub form_has : (t : Towers) (clause : List SignedTerm) (n : NormalClause) → IsPlainForm t clause n → (x : SignedTerm) → Contains clause x
    → Contains n.clause (item_of (plain_of t x.term))
form_has t clause n form x there =
    let y = form.alike.stays x there in
    let plain = form.plain y.0 y.1 in
    subst (Contains n.clause) (item_is y.0 plain.item.unsigned ∙ ap item_of (sym (plain_is t y.0.term plain.few) ∙ y.2)) y.1

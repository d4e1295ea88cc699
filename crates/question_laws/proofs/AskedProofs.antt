-- Private. What the question about a step of a proof that was read asserts may be asked about.
use Rattle.std.proofs.Common.{◌≡◌, refl, ap, arith, ℕ, zero, suc, ◌≤◌, nat_le, Bool, true, false, ◌&&◌, List, [], ◌∷◌, ◌++◌, map, length}
use Rattle.std.proofs.Common.{slice_get, Some, None, if◌then◌else◌}
use Rattle.std.proofs.lemmas.Bool.Decides.{nat_tests}
use Rattle.std.specs.List.{AllByRecursion, list_all}
use Rattle.std.specs.Option.{option_map_or}
use Rattle.term_model.specs.declared.symbols.Op.{Op}
use Rattle.term_model.specs.declared.symbols.Sort.{Sort}
use Rattle.term_model.specs.Sorts.{when, application_sort, AreOf}
use Rattle.term_model.specs.Terms.{Var, sort_eq, Term, numeral, variable, operation, call, let_in, Terms, no_terms, term, Bindings, no_bindings, binding}
use Rattle.term_model.specs.Terms.{terms_of, not_of}
use Rattle.term_model.proofs.Lists.{all_joined}
use Rattle.rule_model.specs.Commands.{Line, Entry, entry_of, lines_in}
use Rattle.rule_model.specs.Proofs.{ProofItems, no_items, with_assume, with_step, with_subproof}
use Rattle.rule_model.specs.Reading.{clause_of, clause_at, premises_at, premise_clauses}
use Rattle.rule_model.specs.Scopes.{Nesting, outermost, inner}
use Rattle.readable_proofs.specs.Names.{Vocabulary}
use Rattle.readable_proofs.specs.ProofsOver.{IsTermIn, AreIn, IsProofOver}
use Rattle.readable_proofs.specs.TermsOver.{BindOnce, IsTermOver, AreTermsOver, AreBoundOver}
use Rattle.hole_fillers.specs.Questions.{clause_term, asserted_at, most_bytes, within}
use Rattle.question_texts.specs.Askable.{IsAskable, AreAskable, AreBoundAskable, IsAskedFormula, AreAskedFormulas}

-- TERMS

module _ (v : Vocabulary) where
  mutual
    askable : (t : Term) → IsTermOver v t → IsAskable t
    askable (numeral n) h = h
    askable (variable x) h = tt
    askable (operation op ts) h = all_askable ts h
    askable (call f ts) h = all_askable ts h.1
    askable (let_in bs t) h = (h.0.some, bound_askable [] bs h.0.once h.1, askable t h.2)

    all_askable : (ts : Terms) → AreTermsOver v ts → AreAskable ts
    all_askable no_terms h = tt
    all_askable (term t ts) h = (askable t h.0, all_askable ts h.1)

    bound_askable : (earlier : List (List ℕ)) (bs : Bindings) → BindOnce earlier bs → AreBoundOver v bs → AreBoundAskable earlier bs
    bound_askable earlier no_bindings once h = tt
    bound_askable earlier (binding x t bs) once h = (once.0, askable t h.1, bound_askable (x.name ∷ earlier) bs once.1 h.2)

  formula : (nesting : Nesting Var Term) (t : Term) → IsTermIn v nesting t Sort.Bool → IsAskedFormula t
  formula nesting t h = record { askable = askable t h.of; formula = h.sorted }

  formulas : (nesting : Nesting Var Term) (ts : List Term) → AllByRecursion (λ t. IsTermIn v nesting t Sort.Bool) ts → AreAskedFormulas ts
  formulas nesting [] h = tt
  formulas nesting (t ∷ ts) h = (formula nesting t h.0, formulas nesting ts h.1)

  -- CLAUSES

  abbrev HasFormulas : Line Var Term → Type 0
  HasFormulas l = AreAskedFormulas (clause_of l.command)

  lines_good : (nesting : Nesting Var Term) (items : ProofItems Var Term) → AreIn v nesting items → AllByRecursion HasFormulas (lines_in nesting items)
  lines_good nesting no_items h = tt
  lines_good nesting (with_assume items id t) h =
      all_joined HasFormulas (lines_in nesting items) _ (lines_good nesting items h.0) ((formula nesting t h.1, tt), tt)
  lines_good nesting (with_step items s) h =
      all_joined HasFormulas (lines_in nesting items) _ (lines_good nesting items h.0) (formulas nesting s.clause h.1.clause, tt)
  lines_good nesting (with_subproof items bindings proof s) h =
      all_joined HasFormulas (lines_in nesting items ++ lines_in (inner nesting items bindings s) proof) _
      (all_joined HasFormulas (lines_in nesting items) _ (lines_good nesting items h.0) (lines_good (inner nesting items bindings s) proof h.2))
      (formulas nesting s.clause h.3.clause, tt)

abbrev clause_in : List (Entry Term) → ℕ → List Term
clause_in es i = option_map_or (λ e. clause_of e.command) (slice_get es i) []

entry_good : (ls : List (Line Var Term)) (i : ℕ) → AllByRecursion (λ l. AreAskedFormulas (clause_of l.command)) ls →
    AreAskedFormulas (clause_in (map entry_of ls) i)
entry_good [] zero h = tt
entry_good [] (suc i) h = tt
entry_good (l ∷ ls) zero h = h.0
entry_good (l ∷ ls) (suc i) h = entry_good ls i h.1

-- A clause as one term.
abbrev all_bools : List Term → List Sort
all_bools [] = []
all_bools (t ∷ ts) = Sort.Bool ∷ all_bools ts

bools_pass : (ts : List Term) → list_all (sort_eq Sort.Bool) (all_bools ts) ≡ true
bools_pass [] = refl
bools_pass (t ∷ ts) = bools_pass ts

terms_askable : (ts : List Term) → AreAskedFormulas ts → AreAskable (terms_of ts)
terms_askable [] h = tt
terms_askable (t ∷ ts) h = (h.0.askable, terms_askable ts h.1)

terms_bool : (ts : List Term) → AreAskedFormulas ts → AreOf (terms_of ts) (all_bools ts)
terms_bool [] h = tt
terms_bool (t ∷ ts) h = (h.0.formula, terms_bool ts h.1)

both_true : (a b : Bool) → a ≡ true → b ≡ true → (a && b) ≡ true
both_true true b e f = f
both_true false b e f = absurd cc

as_many : (ts : List Term) → length (all_bools ts) ≡ length ts
as_many [] = refl
as_many (t ∷ ts) = ap suc (as_many ts)

or_fits : (ts : List Term) → 1 ≤ length ts → application_sort Op.Or (all_bools ts) ≡ Some Sort.Bool
or_fits ts some =
    let long : 1 ≤ length (all_bools ts) = omega (arith, some, as_many ts) in
    let many : nat_le 1 (length (all_bools ts)) ≡ true = grind (arith, nat_tests, long) in
    ap (λ b. when b Sort.Bool) (both_true (nat_le 1 (length (all_bools ts))) (list_all (sort_eq Sort.Bool) (all_bools ts)) many (bools_pass ts))

clause_good : (ts : List Term) → AreAskedFormulas ts → IsAskedFormula (clause_term ts)
clause_good [] h = record { askable = tt; formula = record { sorts = []; arguments = tt; is = refl } }
clause_good (t ∷ []) h = h.0
clause_good (t ∷ u ∷ ts) h = record {
  askable = terms_askable (t ∷ u ∷ ts) h;
  formula = record { sorts = all_bools (t ∷ u ∷ ts); arguments = terms_bool (t ∷ u ∷ ts) h; is = or_fits (t ∷ u ∷ ts) (omega arith) };
}

clauses_good : (ps : List (List Term)) → AllByRecursion AreAskedFormulas ps → AreAskedFormulas (map clause_term ps)
clauses_good [] h = tt
clauses_good (p ∷ ps) h = (clause_good p h.0, clauses_good ps h.1)

denials_good : (ts : List Term) → AreAskedFormulas ts → AreAskedFormulas (map not_of ts)
denials_good [] h = tt
denials_good (t ∷ ts) h = (
  record { askable = (h.0.askable, tt); formula = record { sorts = Sort.Bool ∷ []; arguments = (h.0.formula, tt); is = refl } },
  denials_good ts h.1,
)

pub asked_good : (v : Vocabulary) (proof : ProofItems Var Term) (i : ℕ) → IsProofOver v proof → AreAskedFormulas (asserted_at proof i)
asked_good v proof i h =
    all_joined IsAskedFormula (map clause_term (premise_clauses proof i)) (map not_of (clause_at proof i))
    (clauses_good (premise_clauses proof i) (premises (premises_at proof i))) (denials_good (clause_at proof i) (at i))
  where
    at : (k : ℕ) → AreAskedFormulas (clause_at proof k)
    at k = entry_good (lines_in outermost proof) k (lines_good v outermost proof h)

    premises : (ks : List ℕ) → AllByRecursion AreAskedFormulas (map (clause_at proof) ks)
    premises [] = tt
    premises (k ∷ ks) = (at k, premises ks)

-- a text that is within the limit
pub record IsWithin (whole text : List ℕ) : Type 0 where
  pub short : length whole ≤ most_bytes
  pub is : whole ≡ text

pub within_is : (whole text : List ℕ) → within whole ≡ Some text → IsWithin whole text
within_is whole text e = go (nat_le (length whole) most_bytes) refl e
  where
    go : (b : Bool) → nat_le (length whole) most_bytes ≡ b → (if b then Some whole else None) ≡ Some text → IsWithin whole text
    go true f h = record { short = grind (arith, nat_tests, f); is = cc }
    go false f h = absurd cc

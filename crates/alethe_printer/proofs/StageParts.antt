-- What a stage does, part by part.
use Rattle.std.proofs.Common.{◌≡◌, ◌<◌, ◌≤◌, ℕ, ◌+◌, suc, Bool, List, [], ◌∷◌, ◌++◌, codes, map, length, get_or, drop, refl, sym, ap, ◌∙◌, subst, arith}
use Rattle.std.proofs.lemmas.List.{append_assoc, append-nil}
use Rattle.std.specs.List.{AllZip}
use Rattle.sexpr.specs.Items.{Items, no_items, item}
use Rattle.sexpr.specs.Printed.{symbol_item, printed, printed_all}
use Rattle.sym_table.specs.Table.{Table, IsLeaf}
use Rattle.term_model.specs.Terms.{Var, Term}
use Rattle.term_pool.specs.Bindings.{IsBindingOf}
use Rattle.term_pool.specs.StandsFor.{variable_leaf}
use Rattle.term_pool.specs.Views.{TermsView, RefersTo}
use Rattle.rule_model.specs.Proofs.{Step, ProofItems}
use Rattle.rule_model.specs.Reading.{clause_at, pivots_at, bindings_at}
use Rattle.rule_model.specs.Scopes.{Nesting, commands_in, subproofs_in}
use Rattle.proof_store.specs.Meaning.{IsPivotOf}
use Rattle.problem_text.specs.Scripts.{Script, with_let_name}
use Rattle.alethe_text.specs.Anchors.{image_of}
use Rattle.alethe_text.specs.PrintedCommands.{symbol_items, with_list}
use Rattle.printed_proofs.specs.Numbered.{printed_id}
use Rattle.printed_proofs.specs.Parts.{Part, close, literals, pivots, truth, discharged, variables}
use Rattle.printed_proofs.specs.Parts.{parts_text, listed_text, rule_text, GoesOn}
use Rattle.printed_proofs.specs.PrintedProof.{sort_item}
use Rattle.printed_proofs.proofs.PartByPart.{literals_next, pivots_next, pivots_end}
use Rattle.printed_proofs.proofs.PartByPart.{variables_next, variables_end}
use Rattle.printed_proofs.specs.Shared.{Plan, shared_item, behind_term}
use Rattle.term_printer.specs.Names.{AreGiven}
use Rattle.term_printer.specs.Pages.{ComesTo}
use Rattle.term_printer.specs.declared.page.Page.{Page}
use Rattle.alethe_printer.specs.declared.stages.Stage.{Stage}
use Rattle.alethe_printer.specs.Printed.{IsDeclared, HaveSorts}
use Rattle.alethe_printer.specs.Stages.{IsStepAt, space_before, IsStage}
use Rattle.alethe_printer.specs.Steps.{DoesIn}
use Rattle.alethe_printer.proofs.Doing.{IsUntouched, none_left, does_bytes, does_term}
use Rattle.alethe_printer.proofs.InStep.{no_more, one_more}

-- the space before an item that is not the first
pub space_again : (k : ℕ) → 32 ∷ [] ≡ space_before (k + 1)
space_again k = let e : k + 1 ≡ suc k = omega arith in ap space_before (sym e)

-- what a step discharges, and the end of its line
discharged_is : (keyword : List ℕ) (is : Items) → printed_all (32 ∷ []) (with_list keyword is no_items) ≡ listed_text keyword is
discharged_is keyword no_items = refl
discharged_is keyword (item i is) = simp (append_assoc, append-nil)

pub discharged_next : (plan : Plan) (s : Script) (ps : List Part) (step : Step Term) (js : List ℕ) → js ≡ step.discharged
    → GoesOn plan s (discharged step ∷ ps) (listed_text (codes ":discharge") (symbol_items (map printed_id js)) ++ 41 ∷ 10 ∷ []) s ps
discharged_next plan s ps step js e = record {
  text =
      ap (λ x. (x ++ 41 ∷ 10 ∷ []) ++ parts_text plan s ps)
      (discharged_is (codes ":discharge") (symbol_items (map printed_id step.discharged))
      ∙ ap (λ xs. listed_text (codes ":discharge") (symbol_items (map printed_id xs))) (sym e));
  behind = refl;
}

-- the rule of a step, by what is kept of it
pub rule_bytes : (step : Step Term) (name : List ℕ) (js : List ℕ) → name ≡ step.rule_name → js ≡ step.premises
    → codes ") :rule " ++ (printed (symbol_item name) ++ listed_text (codes ":premises") (symbol_items (map printed_id js))) ≡ rule_text step
rule_bytes step name js e f =
    ap (λ n. codes ") :rule " ++ (printed (symbol_item n) ++ listed_text (codes ":premises") (symbol_items (map printed_id js)))) e
    ∙ ap (λ xs. codes ") :rule " ++ (printed (symbol_item step.rule_name) ++ listed_text (codes ":premises") (symbol_items (map printed_id xs)))) f

-- the bytes of a part that goes on
pub by_bytes : (plan : Plan) (s u : Script) (ps qs : List Part) (a b : List ℕ) → b ≡ a → GoesOn plan s ps a u qs → GoesOn plan s ps b u qs
by_bytes plan s u ps qs a b e h = record { text = h.text ∙ ap (λ x. x ++ parts_text plan u qs) (sym e); behind = h.behind }

module _ (plan : Plan) (s : Table) (v : TermsView) (refs : ProofItems ℕ ℕ) (i k : ℕ) where
  -- the parts that a stage can be
  pub record AreLiterals (p : Part) : Type 0 where
    pub step : Step Term
    pub terms : List Term
    pub part : p ≡ literals step terms
    pub at : IsStepAt s v refs i step
    pub are : AllZip (RefersTo s v) (drop k (clause_at refs i)) terms

  pub literals_of : (p : Part) → IsStage s v refs (Stage.Literals i k) p → AreLiterals p
  literals_of (literals step ts) h = record { step = step; terms = ts; part = refl; at = h.0; are = h.1 }
  literals_of _ h = absurd h

  pub record ArePivots (p : Part) : Type 0 where
    pub pairs : List (Term × Bool)
    pub part : p ≡ pivots (space_before k) pairs
    pub are : AllZip (IsPivotOf s v) (drop k (pivots_at refs i)) pairs

  pub pivots_of : (p : Part) → IsStage s v refs (Stage.Pivots i k) p → ArePivots p
  pivots_of (pivots before ps) h = record { pairs = ps; part = ap (λ b. pivots b ps) h.0; are = h.1 }
  pivots_of _ h = absurd h

  pub record AreVariables (p : Part) : Type 0 where
    pub nesting : Nesting Var Term
    pub bound : List (Var × Term)
    pub part : p ≡ variables nesting (space_before k) bound
    pub are : AllZip (IsBindingOf s v) (drop k (bindings_at refs i)) bound

  pub variables_of : (p : Part) → IsStage s v refs (Stage.Variables i k) p → AreVariables p
  variables_of (variables nesting before bs) h = record { nesting = nesting; bound = bs; part = ap (λ b. variables nesting b bs) h.0; are = h.1 }
  variables_of _ h = absurd h

  module _ (old new : Page) (before after : List Stage) where
    -- the next literal
    pub literal_does : (mid : Page) (r d : ℕ) (p : Part) (u : Script) → i < commands_in refs → IsStage s v refs (Stage.Literals i k) p
        → k < length (clause_at refs i) → r ≡ get_or (clause_at refs i) k d → mid.text.items ≡ old.text.items ++ 32 ∷ []
        → after ≡ before ++ Stage.Literals i (k + 1) ∷ []
        → ((t : Term) → RefersTo s v r t → ComesTo plan s v new (mid.text.items ++ printed (shared_item plan u t)) (behind_term plan u t))
        → DoesIn plan s v refs old new before after p u
    literal_does mid r d p u within h further read text left begun =
        let l = literals_of p h in
        let n = one_more (RefersTo s v) (clause_at refs i) k d l.terms further l.are in
        subst (λ q. DoesIn plan s v refs old new before after q u) (sym (l.part ∙ ap (literals l.step) n.is))
        (does_term plan s v refs old new before after (Stage.Literals i (k + 1) ∷ []) (literals l.step n.others ∷ []) left ((within, (l.at, n.rest)), tt)
        mid (32 ∷ []) n.first u (begun n.first (subst (λ x. RefersTo s v x n.first) (sym read) n.fits)) text (literals l.step (n.first ∷ n.others)) u refl
        (λ ps. literals_next plan u ps l.step n.first n.others))

    -- the end of a clause
    pub literals_end : (p : Part) (u : Script) → IsStage s v refs (Stage.Literals i k) p → length (clause_at refs i) ≤ k
        → ((step : Step Term) → IsStepAt s v refs i step → DoesIn plan s v refs old new before after (literals step []) u)
        → DoesIn plan s v refs old new before after p u
    literals_end p u h end f =
        let l = literals_of p h in
        let none = no_more (RefersTo s v) (clause_at refs i) k l.terms end l.are in
        subst (λ q. DoesIn plan s v refs old new before after q u) (sym (l.part ∙ ap (literals l.step) none)) (f l.step l.at)

    -- the next pivot
    pub pivot_does : (mid : Page) (x : ℕ × Bool) (p : Part) (u : Script) → i < commands_in refs → IsStage s v refs (Stage.Pivots i k) p
        → k < length (pivots_at refs i) → (d : ℕ × Bool) → x ≡ get_or (pivots_at refs i) k d → mid.text.items ≡ old.text.items ++ space_before k
        → after ≡ before ++ (Stage.Pivots i (k + 1) ∷ Stage.Truth x.1 ∷ [])
        → ((t : Term) → RefersTo s v x.0 t → ComesTo plan s v new (mid.text.items ++ printed (shared_item plan u t)) (behind_term plan u t))
        → DoesIn plan s v refs old new before after p u
    pivot_does mid x p u within h further d read text left begun =
        let l = pivots_of p h in
        let n = one_more (IsPivotOf s v) (pivots_at refs i) k d l.pairs further l.are in
        let fits : IsPivotOf s v x n.first = subst (λ y. IsPivotOf s v y n.first) (sym read) n.fits in
        subst (λ q. DoesIn plan s v refs old new before after q u) (sym (l.part ∙ ap (pivots (space_before k)) n.is))
        (does_term plan s v refs old new before after (Stage.Pivots i (k + 1) ∷ Stage.Truth x.1 ∷ []) (pivots (32 ∷ []) n.others ∷ truth n.first.1 ∷ []) left
        ((within, (space_again k, n.rest)), ((tt, fits.truth), tt)) mid (space_before k) n.first.0 u (begun n.first.0 fits.term) text
        (pivots (space_before k) (n.first ∷ n.others)) u refl (λ ps. pivots_next plan u ps (space_before k) n.first n.others))

    -- the next variable
    pub variable_does : (mid : Page) (x : ℕ × ℕ) (p : Part) (u : Script) → i ≤ subproofs_in refs → IsStage s v refs (Stage.Variables i k) p
        → k < length (bindings_at refs i) → (d : ℕ × ℕ) → x ≡ get_or (bindings_at refs i) k d → u.sorts ≡ s.sorts
        → ((y : Var) → IsLeaf s x.0 (variable_leaf y) → mid.text.items ≡ old.text.items
        ++ (space_before k ++ (codes "(:= (" ++ (printed (symbol_item y.name) ++ (32 ∷ (printed (sort_item s.sorts y.sort) ++ codes ") "))))))
        → after ≡ before ++ (Stage.Variables i (k + 1) ∷ Stage.Close ∷ [])
        → ((t : Term) (name : List ℕ) → RefersTo s v x.1 t → ComesTo plan s v new (mid.text.items ++ printed (shared_item plan (with_let_name name u) t))
        (behind_term plan (with_let_name name u) t))
        → DoesIn plan s v refs old new before after p u
    variable_does mid x p u within h further d read sorts text left begun =
        let l = variables_of p h in
        let n = one_more (IsBindingOf s v) (bindings_at refs i) k d l.bound further l.are in
        let fits : IsBindingOf s v x n.first = subst (λ y. IsBindingOf s v y n.first) (sym read) n.fits in
        let name : List ℕ = n.first.0.name in
        subst (λ q. DoesIn plan s v refs old new before after q u) (sym (l.part ∙ ap (variables l.nesting (space_before k)) n.is))
        (does_term plan s v refs old new before after (Stage.Variables i (k + 1) ∷ Stage.Close ∷ [])
        (variables l.nesting (32 ∷ []) n.others ∷ close (image_of l.nesting n.first.1) ∷ []) left ((within, (space_again k, n.rest)), ((tt, tt), tt)) mid
        (space_before k ++ (codes "(:= (" ++ (printed (symbol_item name) ++ (32 ∷ (printed (sort_item s.sorts n.first.0.sort) ++ codes ") ")))))
        n.first.1 (with_let_name name u) (begun n.first.1 name fits.term) (text n.first.0 fits.variable)
        (variables l.nesting (space_before k) (n.first ∷ n.others)) u refl
        (λ ps. by_bytes plan u (with_let_name name u) (variables l.nesting (space_before k) (n.first ∷ n.others) ∷ ps) _ _ _
        (ap (λ xs. space_before k ++ (codes "(:= (" ++ (printed (symbol_item name) ++ (32 ∷ (printed (sort_item xs n.first.0.sort) ++ codes ") ")))))
        (sym sorts))
        (variables_next plan u ps l.nesting (space_before k) n.first n.others)))

    -- the bracket behind pivots and behind variables
    module _ (untouched : IsUntouched old new) (same : after ≡ before) (text : new.text.items ≡ old.text.items ++ 41 ∷ []) where
      pub pivots_done : (p : Part) (u : Script) → AreGiven plan s v old.names u.taken → IsStage s v refs (Stage.Pivots i k) p → length (pivots_at refs i) ≤ k
          → DoesIn plan s v refs old new before after p u
      pivots_done p u given h end =
          let l = pivots_of p h in
          let e = no_more (IsPivotOf s v) (pivots_at refs i) k l.pairs end l.are in
          subst (λ q. DoesIn plan s v refs old new before after q u) (sym (l.part ∙ ap (pivots (space_before k)) e))
          (does_bytes plan s v refs old new before after [] [] (none_left before after same) tt (pivots (space_before k) [])
          (41 ∷ []) u u untouched given text refl
          (λ ps. pivots_end plan u ps (space_before k)))

      pub variables_done : (p : Part) (u : Script) → AreGiven plan s v old.names u.taken → IsStage s v refs (Stage.Variables i k) p → length
          (bindings_at refs i) ≤ k
          → DoesIn plan s v refs old new before after p u
      variables_done p u given h end =
          let l = variables_of p h in
          let e = no_more (IsBindingOf s v) (bindings_at refs i) k l.bound end l.are in
          subst (λ q. DoesIn plan s v refs old new before after q u) (sym (l.part ∙ ap (variables l.nesting (space_before k)) e))
          (does_bytes plan s v refs old new before after [] [] (none_left before after same) tt (variables l.nesting (space_before k) [])
          (41 ∷ []) u u untouched given
          text refl (λ ps. variables_end plan u ps l.nesting (space_before k)))

-- the variable that is bound at a place has a sort
pub variable_there : (s : Table) (v : TermsView) (refs : ProofItems ℕ ℕ) (i k : ℕ) (bs : List (Var × Term)) (x : ℕ × ℕ) → HaveSorts s refs
    → AllZip (IsBindingOf s v) (drop k (bindings_at refs i)) bs → k < length (bindings_at refs i) → x ≡ get_or (bindings_at refs i) k x
    → (y : Var) × IsLeaf s x.0 (variable_leaf y) × IsDeclared s y.sort
variable_there s v refs i k bs x have zip further read =
    let n = one_more (IsBindingOf s v) (bindings_at refs i) k x bs further zip in
    let leaf : IsLeaf s x.0 (variable_leaf n.first.0) = subst (λ y. IsLeaf s y.0 (variable_leaf n.first.0)) (sym read) n.fits.variable in
    (n.first.0, leaf, have i x n.first.0 (k, further, sym read) leaf)

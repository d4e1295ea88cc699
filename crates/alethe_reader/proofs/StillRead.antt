-- The terms that were read stay read.
use Rattle.std.proofs.Common.{◌≡◌, ℕ, Bool, true, false, List, [], ◌∷◌, Option, Some, None, Result, sym, subst, find, if◌then◌else◌}
use Rattle.std.specs.Prelude.{Contains, bytes_eq}
use Rattle.sexpr.specs.declared.causes.Cause.{Cause}
use Rattle.sexpr.specs.declared.causes.Cause.TheVariants.{NoStep, SortMismatch}
use Rattle.sexpr.specs.declared.causes.Refusal.{Refusal}
use Rattle.sexpr.specs.Items.{Item, Items, no_items, item, place_of}
use Rattle.term_model.specs.declared.symbols.Sort.{Sort}
use Rattle.term_model.specs.Terms.{Var, Term, sort_eq}
use Rattle.rule_model.specs.Scopes.{Nesting}
use Rattle.rule_model.specs.Visibility.{Sight}
use Rattle.text_items.specs.ItemShapes.{Name}
use Rattle.problem_text.specs.Forms.{form_of}
use Rattle.problem_text.proofs.Growing as growing
use Rattle.term_reader.proofs.Coming.{part_then}
use Rattle.alethe_text.specs.States.{ProofSettings, ProofState, Reading, ◌>>=◌, give, refuse, demand, given, found, seen_in, changed}
use Rattle.alethe_text.specs.Ids.{indices_of}
use Rattle.alethe_text.specs.ProofTerms.{place_in, term_in, formula_in, formulas_in}
use Rattle.alethe_reader.specs.Answers.{terms_in}
use Rattle.alethe_reader.specs.KeptReads.{KeepsRead}

pub keeps_give : {A : Type 0} (a : A) → KeepsRead (give a)
keeps_give a = record { keeps = λ x p h. h }

pub keeps_refuse : {A : Type 0} (cause : Cause) (place : ℕ) → KeepsRead {A = A} (refuse cause place)
keeps_refuse cause place = record { keeps = λ x p h. h }

pub keeps_given : {A : Type 0} (r : Result A Refusal) → KeepsRead (given r)
keeps_given r = record { keeps = λ x p h. h }

pub keeps_demand : (b : Bool) (cause : Cause) (place : ℕ) → KeepsRead (demand b cause place)
keeps_demand true cause place = record { keeps = λ x p h. h }
keeps_demand false cause place = record { keeps = λ x p h. h }

pub keeps_found : {A : Type 0} (o : Option A) (cause : Cause) (place : ℕ) → KeepsRead (found o cause place)
keeps_found (Some a) cause place = record { keeps = λ x p h. h }
keeps_found None cause place = record { keeps = λ x p h. h }

pub keeps_seen : {A : Type 0} (look : ProofState → A) → KeepsRead (seen_in look)
keeps_seen look = record { keeps = λ x p h. h }

pub keeps_then : {A B : Type 0} (reading : Reading A) (next : A → Reading B) → KeepsRead reading → ((a : A) → KeepsRead (next a)) → KeepsRead (reading >>= next)
unfolding ◌>>=◌
keeps_then reading next h k = record { keeps = λ x p r. (part_then terms_in (reading p) next (λ a. (k a).keeps)).reads x (h.keeps x p r) }

pub keeps_either : {A : Type 0} (b : Bool) (one other : Reading A) → KeepsRead one → KeepsRead other → KeepsRead (if b then one else other)
keeps_either true one other h k = h
keeps_either false one other h k = k

-- a change that leaves the terms that were read
pub keeps_changed : (change : ProofState → ProofState) → ((p : ProofState) → (change p).script.terms ≡ p.script.terms) → KeepsRead (changed change)
keeps_changed change same = record { keeps = λ x p h. subst (λ ts. Contains ts x) (sym (same p)) h }

module _ (settings : ProofSettings) (nesting : Nesting Var Term) where
  pub keeps_term : (i : Item) → KeepsRead (term_in settings nesting i)
  unfolding term_in
  keeps_term i = record { keeps = λ x p h. (growing.by_term x (form_of i) (place_in settings nesting) p.script h).0 }

  pub keeps_formula : (i : Item) → KeepsRead (formula_in settings nesting i)
  unfolding formula_in
  keeps_formula i =
      keeps_then (term_in settings nesting i) _ (keeps_term i)
      (λ t. keeps_then (demand (sort_eq t.sort Sort.Bool) SortMismatch (place_of i)) _ (keeps_demand _ _ _) (λ _. keeps_give t.tree))

  pub keeps_formulas : (items : Items) → KeepsRead (formulas_in settings nesting items)
  unfolding formulas_in
  keeps_formulas no_items = keeps_give []
  keeps_formulas (item i rest) =
      keeps_then (formula_in settings nesting i) _ (keeps_formula i)
      (λ t. keeps_then (formulas_in settings nesting rest) _ (keeps_formulas rest) (λ ts. keeps_give (t ∷ ts)))

pub keeps_indices : (sights : List Sight) (ns : List Name) → KeepsRead (indices_of sights ns)
unfolding indices_of
keeps_indices sights [] = keeps_give []
keeps_indices sights (n ∷ ns) =
    keeps_then (found (find (λ c. bytes_eq c.id n.name) sights) NoStep n.place) _ (keeps_found _ _ _)
    (λ c. keeps_then (indices_of sights ns) _ (keeps_indices sights ns) (λ indices. keeps_give (c.index ∷ indices)))

-- Public. Anchors (Alethe, "Subproofs", and "The Proof Format": contexts).
use Rattle.std.specs.Prelude.{ℕ, true, not, ◌||◌, List, [], ◌∷◌, ◌++◌, map, Option, Some, None, Result, Ok, Err, ⊤}
use Rattle.std.specs.Option.{option_map_or}
use Rattle.sexpr.specs.declared.causes.Cause.TheVariants.{Repeated, SortMismatch, LeftOut, TooHigh, BadAnchor}
use Rattle.sexpr.specs.declared.causes.Refusal.{Refusal}
use Rattle.sexpr.specs.Items.{Item}
use Rattle.term_model.specs.declared.symbols.Sort.{Sort}
use Rattle.term_model.specs.Terms.{Var, sort_eq, Term}
use Rattle.term_model.specs.Heights.{height}
use Rattle.rule_model.specs.Contexts.{images}
use Rattle.rule_model.specs.Judged.{open_anchors}
use Rattle.rule_model.specs.Scopes.{Nesting}
use Rattle.rule_model.specs.Substitution.{put_in}
use Rattle.rule_model.specs.Visibility.{open_bindings}
use Rattle.rule_model.specs.Writing.{open_anchor}
use Rattle.text_items.specs.ItemShapes.{Name}
use Rattle.problem_text.specs.Limits.{is_low}
use Rattle.problem_text.specs.Scripts.{Script, with_term, with_let_name}
use Rattle.problem_text.specs.Sorts.{sort_from}
use Rattle.problem_text.specs.Words.{is_among, is_built_in}
use Rattle.alethe_text.specs.Commands.{Argument, variable_alone, assigned}
use Rattle.alethe_text.specs.States.{ProofSettings, ProofState, Reading, ◌>>=◌, give, refuse, demand, given, seen_in, changed}
use Rattle.alethe_text.specs.Ids.{id_judged}
use Rattle.alethe_text.specs.ProofTerms.{term_in}

-- the names that the open anchors bind
abbrev pub bound_names : Nesting Var Term → List (List ℕ)
bound_names nesting = map (λ b. b.0.name) (open_bindings nesting)

-- the sort that the text gives the variable
abbrev pub sort_given : List (List ℕ) → Option Item → Result (Option Sort) Refusal
sort_given sorts None = Ok None
sort_given sorts (Some i) = elim (sort_from sorts i) [ Ok s ↦ Ok (Some s) | Err refusal ↦ Err refusal ]

-- The image of the variable: its term with the images of the outer anchors put in. It counts as read.
abbrev pub image_of : Nesting Var Term → Term → Term
image_of nesting t = put_in (images (open_anchors nesting)) t

-- a change of the script alone
abbrev pub script_changed : (Script → Script) → Reading ⊤
script_changed change = changed (λ s. record s { script = change s.script })

-- A variable and its term, which is read outside the anchor's variables. These are the names of the variables before it.
unfoldable pub argument_read : ProofSettings → List (List ℕ) → Argument → Reading (Var × Term)
argument_read settings earlier (variable_alone place) = refuse LeftOut place
argument_read settings earlier (assigned place x sort i) = do
  state ← seen_in (λ s. s)
  _ ← demand (not (is_built_in x.name)) Repeated x.place
  _ ← demand (not (is_among earlier x.name || is_among (bound_names state.scope.nesting) x.name)) BadAnchor x.place
  _ ← script_changed (with_let_name x.name)
  wanted ← given (sort_given state.script.sorts sort)
  t ← term_in settings state.scope.nesting i
  _ ← demand (option_map_or (λ s. sort_eq t.sort s) wanted true) SortMismatch place
  _ ← script_changed (with_term (image_of state.scope.nesting t.tree))
  _ ← demand (is_low settings.limit (height (image_of state.scope.nesting t.tree))) TooHigh place
  give (record { name = x.name; sort = t.sort }, t.tree)

unfoldable pub arguments_read : ProofSettings → List (List ℕ) → List Argument → Reading (List (Var × Term))
arguments_read settings earlier [] = give []
arguments_read settings earlier (argument ∷ others) = do
  b ← argument_read settings earlier argument
  bs ← arguments_read settings (b.0.name ∷ earlier) others
  give (b ∷ bs)

abbrev pub with_anchor : ℕ → List ℕ → List (Var × Term) → ProofState → ProofState
with_anchor place id bindings s = record s {
  scope = open_anchor s.scope (record { id = id; bindings = bindings });
  anchors = s.anchors ++ place ∷ [];
}

-- the id, then the arguments
unfoldable pub anchor_read : ProofSettings → ℕ → Name → List Argument → Reading ⊤
anchor_read settings place n arguments = do
  _ ← id_judged Repeated n
  bindings ← arguments_read settings [] arguments
  changed (with_anchor place n.name bindings)

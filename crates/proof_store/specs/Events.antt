-- Private. A proof as its text has it: its commands and anchors in file order.
use Rattle.std.proofs.Common.{◌≡◌, ◌∙◌, ap, ℕ, List, [], ◌∷◌, ◌++◌, fold, refl}
use Rattle.rule_model.specs.Proofs.{Step, ProofItems, no_items, with_assume, with_step, with_subproof}
use Rattle.rule_model.specs.Scopes.{Anchor, Nesting, outermost, inside, Scope, at}
use Rattle.rule_model.specs.Writing.{unwritten, add_assume, add_step, open_anchor, close_scope}

pub data Event : Type 0 where
  assumed : List ℕ → ℕ → Event
  stepped : Step ℕ → Event
  opened : Anchor ℕ ℕ → Event
  closed : Step ℕ → Event

-- the step has the id of the anchor that it closes
abbrev pub anchor_id : Nesting ℕ ℕ → List ℕ
anchor_id outermost = []
anchor_id (inside around before anchor) = anchor.id

abbrev pub apply : Scope ℕ ℕ → Event → Scope ℕ ℕ
apply scope (assumed id t) = add_assume scope id t
apply scope (stepped s) = add_step scope s
apply scope (opened anchor) = open_anchor scope anchor
apply scope (closed s) = close_scope scope.nesting scope.items (record s { id = anchor_id scope.nesting })

-- the proof that events write
abbrev pub written : List Event → Scope ℕ ℕ
written events = fold apply unwritten events

-- the events that write items
abbrev pub events_in : ProofItems ℕ ℕ → List Event
events_in no_items = []
events_in (with_assume items id t) = events_in items ++ assumed id t ∷ []
events_in (with_step items s) = events_in items ++ stepped s ∷ []
events_in (with_subproof items bindings proof s) =
    events_in items ++ (opened (record { id = s.id; bindings = bindings }) ∷ (events_in proof ++ closed s ∷ []))

abbrev pub events_around : Nesting ℕ ℕ → List Event
events_around outermost = []
events_around (inside around before anchor) = events_around around ++ (events_in before ++ opened anchor ∷ [])

abbrev pub events_of : Scope ℕ ℕ → List Event
events_of scope = events_around scope.nesting ++ events_in scope.items

-- the events of what is written write it
pub fold_append : (scope : Scope ℕ ℕ) (es fs : List Event) → fold apply scope (es ++ fs) ≡ fold apply (fold apply scope es) fs
fold_append scope [] fs = refl
fold_append scope (e ∷ es) fs = fold_append (apply scope e) es fs

pub items_back : (nesting : Nesting ℕ ℕ) (items : ProofItems ℕ ℕ) → fold apply (at nesting no_items) (events_in items) ≡ at nesting items
items_back nesting no_items = refl
items_back nesting (with_assume items id t) =
    fold_append (at nesting no_items) (events_in items) (assumed id t ∷ []) ∙ ap (λ s. apply s (assumed id t)) (items_back nesting items)
items_back nesting (with_step items s) =
    fold_append (at nesting no_items) (events_in items) (stepped s ∷ []) ∙ ap (λ s'. apply s' (stepped s)) (items_back nesting items)
items_back nesting (with_subproof items bindings proof s) =
    fold_append (at nesting no_items) (events_in items) _
    ∙ (ap (λ s'. fold apply s' (opened (record { id = s.id; bindings = bindings }) ∷ (events_in proof ++ closed s ∷ []))) (items_back nesting items)
    ∙ (fold_append (at (inside nesting items (record { id = s.id; bindings = bindings })) no_items) (events_in proof) (closed s ∷ [])
    ∙ ap (λ s'. apply s' (closed s)) (items_back (inside nesting items (record { id = s.id; bindings = bindings })) proof)))

nesting_back : (nesting : Nesting ℕ ℕ) → written (events_around nesting) ≡ at nesting no_items
nesting_back outermost = refl
nesting_back (inside around before anchor) =
    fold_append unwritten (events_around around) _
    ∙ (ap (λ s. fold apply s (events_in before ++ opened anchor ∷ [])) (nesting_back around)
    ∙ (fold_append (at around no_items) (events_in before) (opened anchor ∷ [])
    ∙ ap (λ s. apply s (opened anchor)) (items_back around before)))

pub scope_back : (scope : Scope ℕ ℕ) → written (events_of scope) ≡ scope
scope_back scope =
    fold_append unwritten (events_around scope.nesting) (events_in scope.items)
    ∙ (ap (λ s. fold apply s (events_in scope.items)) (nesting_back scope.nesting) ∙ items_back scope.nesting scope.items)

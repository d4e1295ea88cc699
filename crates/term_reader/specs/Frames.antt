-- Private. The forms that are open, as the code holds them, and what waits for the term that is read now.
use Rattle.std.specs.Prelude.{◌≡◌, ◌≤◌, ◌<◌, ◌+◌, ℕ, List, [], ◌∷◌, ◌++◌, length, take, drop}
use Rattle.problem_text.specs.Forms.{LetBinds}
use Rattle.term_names.specs.InScope.{IsScope, AreValuesBound}
use Rattle.term_names.specs.Known.{KnownView}
use Rattle.text_items.specs.Stepping.{name_in, IsSymbolAt}
use Rattle.term_reader.specs.Layers.{IsRange, form_at, forms_at, AreBinds, names_at, AreTermAttributes}
use Rattle.problem_text.specs.Names.{Bound, Place, Meaning, place_inside}
use Rattle.term_reader.specs.Resuming.{Waiting, arguments, bindings, body_of, naming}
use Rattle.term_names.specs.Scope.{Scoped}
use Rattle.problem_text.specs.TypedTerms.{Typed}
use Rattle.problem_text.specs.Scripts.{Script}
use Rattle.problem_text.specs.Outcomes.{Outcome}
use Rattle.term_reader.specs.Shapes.{IsFirstRepeat}
use Rattle.term_expansion.specs.Values.{AreValues}
use Rattle.term_reader.specs.declared.frames.Frame.{Frame}
use Rattle.term_names.specs.declared.heads.Head.{Head}
use Rattle.text_items.specs.ItemsAt.{ItemsView, end_at}
use Rattle.term_expansion.specs.declared.values.Value.{Value}
use Rattle.term_names.specs.Heads.{HeadMeans}
use Rattle.term_expansion.specs.SymbolsAndTerms.{SymbolsAndTerms}

-- the terms that were read are the values from place `from` on, and the arguments that are left stand from node n on
pub record HasArgumentsSoFar (items : ItemsView) (w : SymbolsAndTerms) (k : KnownView) (head : Head) (from end n : ℕ) (values : List Value) (m : Meaning)
    (read : List Typed) : Type 0 where
  pub applies : HeadMeans w k head m
  pub within : from ≤ length values
  pub read_values : AreValues w (drop from values) read
  pub left_here : IsRange items n end

-- The variables and values that were read are the leaves from place `first` and the values from place `from` on. The
-- variable of the term that is read now stands at node `name`, and the pairs that are left from node n on.
pub record HasBindings (items : ItemsView) (w : SymbolsAndTerms) (from first name repeat body n : ℕ) (values : List Value) (leaves : List ℕ)
    (read : List Bound) (earlier : List (List ℕ)) (left : LetBinds) : Type 0 where
  pub within : from ≤ length values
  pub leaves_within : first ≤ length leaves
  pub read_bound : AreValuesBound w (drop first leaves) (drop from values) read
  pub variable : IsSymbolAt items name
  pub left_here : AreBinds items n left body
  pub first_faulty : IsFirstRepeat items n ((name_in items name).name ∷ earlier) left repeat body
  pub body_here : body < length items.nodes

-- The variables that a let binds, of which there is one or more, stand inside the others.
pub record HasBody (w : SymbolsAndTerms) (from first : ℕ) (values : List Value) (leaves : List ℕ) (scope : List Scoped) (p : Place) (bound : List Bound)
    (around : List Scoped) (outer : Place) : Type 0 where
  pub within : from ≤ length values
  pub leaves_within : first < length leaves
  pub bound_here : AreValuesBound w (drop first leaves) (drop from values) bound
  pub same_place : p ≡ place_inside bound outer
  pub inner : List Scoped
  pub split : scope ≡ inner ++ around
  pub one_each : first + length inner ≡ length leaves
  pub around_here : IsScope w around outer.scope

-- What a whole term is read for: the node after it, the variables in scope around it, its place, and what comes of it.
pub record WholeReading : Type 0 where
  pub last : ℕ
  pub around : List Scoped
  pub place : Place
  pub whole : Outcome Script Typed

-- By recursion from the innermost: the open forms, with the values and leaves that each owns, are these that wait. The term
-- that is read now stands at place p and ends before node n.
abbrev pub AreFrames : ItemsView → WholeReading → SymbolsAndTerms → KnownView → List Frame → List Value → List ℕ → List Scoped → Place → ℕ → List Waiting →
    Type 0
AreFrames items g w k [] values leaves scope p n ws =
    (ws ≡ []) × (values ≡ []) × (leaves ≡ []) × (scope ≡ g.around) × (p ≡ g.place) × (n ≡ g.last)
AreFrames items g w k (Frame.Arguments opened ∷ fs) values leaves scope p n ws =
    (m : Meaning) × (read : List Typed) × (rest : List Waiting) × (ws ≡ arguments opened.place m read (forms_at items n opened.end) p ∷ rest)
    × HasArgumentsSoFar items w k opened.head opened.from opened.end n values m read
    × AreFrames items g w k fs (take opened.from values) leaves scope p opened.end rest
AreFrames items g w k (Frame.Bindings opened ∷ fs) values leaves scope p n ws =
    (read : List Bound) × (earlier : List (List ℕ)) × (left : LetBinds) × (rest : List Waiting)
    × (ws ≡ bindings opened.place read (name_in items opened.name) earlier left (form_at items opened.body) p ∷ rest)
    × HasBindings items w opened.from opened.leaves opened.name opened.repeat opened.body n values leaves read earlier left
    × AreFrames items g w k fs (take opened.from values) (take opened.leaves leaves) scope p (end_at items opened.body) rest
AreFrames items g w k (Frame.Body opened ∷ fs) values leaves scope p n ws =
    (bound : List Bound) × (around : List Scoped) × (outer : Place) × (rest : List Waiting) × (ws ≡ body_of opened.place bound outer ∷ rest)
    × HasBody w opened.from opened.leaves values leaves scope p bound around outer
    × AreFrames items g w k fs (take opened.from values) (take opened.leaves leaves) around outer n rest
AreFrames items g w k (Frame.Names end ∷ fs) values leaves scope p n ws =
    (rest : List Waiting) × (ws ≡ naming (names_at items n end) ∷ rest)
    × AreTermAttributes items n end
    × AreFrames items g w k fs values leaves scope p end rest

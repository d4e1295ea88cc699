-- Each term that is read of a form without attributes has few cells beside those of the terms that were read before.
use Rattle.std.proofs.Common.{◌≡◌, ℕ, suc, ◌+◌, ◌≤◌, Bool, true, false, ◌||◌, List, [], ◌∷◌, ◌++◌, map, length, Contains, Option, Some, None, IfSome, Ok, Err}
use Rattle.std.proofs.Common.{Result, IfOk, find, option_map, option_and_then, bytes_eq, if◌then◌else◌, refl, sym, subst, arith}
use Rattle.std.specs.Prelude.{⊤}
use Rattle.std.specs.List.{AllByRecursion}
use Rattle.sexpr.specs.declared.causes.Cause.{Cause}
use Rattle.sexpr.specs.declared.causes.Cause.TheVariants.{Repeated, TooHigh, SortMismatch}
use Rattle.sexpr.specs.declared.causes.Refusal.{Refusal}
use Rattle.sym_table.specs.Leaf.{Leaf}
use Rattle.term_model.specs.declared.symbols.Op.{Op}
use Rattle.term_model.specs.declared.symbols.Sort.{Sort}
use Rattle.term_model.specs.Heights.{height}
use Rattle.term_model.specs.Sorts.{operation_sort, call_sort}
use Rattle.term_model.specs.Terms.{Fun, numeral, operation, call, let_in}
use Rattle.term_model.proofs.Lists.{contains_head, contains_later, all_joined, all_at_end}
use Rattle.problem_text.specs.Words.{is_among, is_built_in, operator_named}
use Rattle.problem_text.specs.Forms.{Form, faulty, number, symbol, application, let_form, annotated, Forms, no_forms, form, LetBinds, no_binds, bind}
use Rattle.problem_text.specs.Limits.{is_low}
use Rattle.problem_text.specs.TypedTerms.{Typed}
use Rattle.problem_text.specs.Outcomes.{Outcome, done, refuse, going_on, and_then}
use Rattle.problem_text.specs.Scripts.{Script, with_term, with_let_name}
use Rattle.problem_text.specs.Names.{Bound, Place, itself, innermost, Meaning, value, macro, function, operator, meaning_of_bound, meaning_of_named, meaning_of}
use Rattle.problem_text.specs.Names.{trees, sorts_of, meaning_applied, refusal_of, let_bindings_of, place_inside, let_term}
use Rattle.problem_text.specs.Terms.{settled, with_meaning, term_from, terms_from, bounds_from}
use Rattle.problem_text.proofs.Outcomes.{if_found, if_some-or, if_some-map, if_some-and_then}
use Rattle.question_cells.specs.SymbolTrees.{SymbolTree, symbol as symbol_leaf, pair, tree_of, application_tree, list_tree, bindings_tree, cells_of, HasCells}
use Rattle.question_cells.proofs.PlainForms.{weight, weights, bind_weights, IsPlainForm, ArePlainForms, ArePlainBinds}

pub all_more : {X : Type 0} (P Q : X → Type 0) → ((x : X) → P x → Q x) → (xs : List X) → AllByRecursion P xs → AllByRecursion Q xs
all_more P Q f [] h = tt
all_more P Q f (x ∷ xs) h = (f x h.0, all_more P Q f xs h.1)

-- all cells of these are cells of those
abbrev pub Within : List SymbolTree → List SymbolTree → Type 0
Within old new = (c : SymbolTree) → Contains old c → Contains new c

pub has_more : (old new : List SymbolTree) (tree : SymbolTree) → Within old new → HasCells old tree → HasCells new tree
has_more old new tree w h = all_more (λ c. Contains old c) (λ c. Contains new c) w (cells_of tree) h

one_more : (cells : List SymbolTree) (c : SymbolTree) → Within cells (c ∷ cells)
one_more cells c d h = contains_later c d cells h

-- the cells of a pair: itself, and those of its parts
pub pair_cells : (cells : List SymbolTree) (a b : SymbolTree) → HasCells cells a → HasCells cells b → HasCells (pair a b ∷ cells) (pair a b)
pair_cells cells a b h k = (
  contains_head (pair a b) cells,
  all_joined (λ c. Contains (pair a b ∷ cells) c) (cells_of a) (cells_of b) (has_more cells (pair a b ∷ cells) a (one_more cells (pair a b)) h)
      (has_more cells (pair a b ∷ cells) b (one_more cells (pair a b)) k),
)

-- without macros and named terms
pub record IsBare (s : Script) : Type 0 where
  pub macros : s.macros ≡ []
  pub named : s.named ≡ []

-- the cells of all terms that were read are among these
pub record AreAmong (cells : List SymbolTree) (s : Script) : Type 0 where
  pub each : AllByRecursion (λ t. HasCells cells (tree_of t)) s.terms
  pub bare : IsBare s

-- at most n cells were added, and of these the claim holds
pub record Adds (old : List SymbolTree) (n : ℕ) (Is : List SymbolTree → Type 0) (s : Script) : Type 0 where
  pub cells : List SymbolTree
  pub few : length cells ≤ n + length old
  pub more : Within old cells
  pub among : AreAmong cells s
  pub is : Is cells

-- what is so of a result that is no fault
abbrev pub Gives : {A : Type 0} → (A → Script → Type 0) → Outcome Script A → Type 0
Gives Q o = IfOk o.result (λ a. Q a o.state)

pub gives-going_on : {A B : Type 0} (Q : A → Script → Type 0) (R : B → Script → Type 0) (r : Result A Refusal) (s : Script) (next : A → Script
    → Outcome Script B)
    → IfOk r (λ a. Q a s) → ((a : A) → Q a s → Gives R (next a s)) → Gives R (going_on r s next)
gives-going_on Q R (Ok a) s next h k = k a h
gives-going_on Q R (Err refusal) s next h k = tt

pub gives-and_then : {A B : Type 0} (Q : A → Script → Type 0) (R : B → Script → Type 0) (o : Outcome Script A) (next : A → Script → Outcome Script B)
    → Gives Q o → ((a : A) (s : Script) → Q a s → Gives R (next a s)) → Gives R (and_then o next)
gives-and_then Q R o next h k = gives-going_on Q R o.result o.state next h (λ a q. k a o.state q)

pub gives-more : {A : Type 0} (Q R : A → Script → Type 0) (o : Outcome Script A) → ((a : A) (s : Script) → Q a s → R a s) → Gives Q o → Gives R o
gives-more {A = A} Q R o f h = go o.result h
  where
    go : (r : Result A Refusal) → IfOk r (λ a. Q a o.state) → IfOk r (λ a. R a o.state)
    go (Ok a) h = f a o.state h
    go (Err refusal) h = tt

pub gives-unless : {A : Type 0} (Q : A → Script → Type 0) (b : Bool) (cause : Cause) (place : ℕ) (s : Script) (o : Outcome Script A) → Gives Q o
    → Gives Q (if b then refuse cause place s else o)
gives-unless Q true cause place s o h = tt
gives-unless Q false cause place s o h = h

-- nothing was added
none_added : (cells : List SymbolTree) (Is : List SymbolTree → Type 0) (s : Script) → AreAmong cells s → Is cells → Adds cells 0 Is s
none_added cells Is s among is = record { cells = cells; few = omega arith; more = λ c h. h; among = among; is = is }

among_more : (old new : List SymbolTree) (s : Script) → Within old new → AreAmong old s → AreAmong new s
among_more old new s w among = record {
  each = all_more (λ t. HasCells old (tree_of t)) (λ t. HasCells new (tree_of t)) (λ t h. has_more old new (tree_of t) w h) s.terms among.each;
  bare = among.bare;
}

-- one cell more
one_added : (old : List SymbolTree) (n : ℕ) (Is Now : List SymbolTree → Type 0) (s : Script) (c : SymbolTree) → Adds old n Is s
    → ((cells : List SymbolTree) → Is cells → Now (c ∷ cells)) → Adds old (suc n) Now s
one_added old n Is Now s c adds now = record {
  cells = c ∷ adds.cells;
  few = let h = adds.few in omega (arith, h);
  more = λ d h. contains_later c d adds.cells (adds.more d h);
  among = among_more adds.cells (c ∷ adds.cells) s (one_more adds.cells c) adds.among;
  is = now adds.cells adds.is;
}

-- one reading and then another
then_added : (old : List SymbolTree) (m n : ℕ) (Is Also Both : List SymbolTree → Type 0) (s last : Script) (first : Adds old m Is s)
    → Adds first.cells n Also last → ((new : List SymbolTree) → Within first.cells new → Also new → Both new) → Adds old (m + n) Both last
then_added old m n Is Also Both s last first second both = record {
  cells = second.cells;
  few = let h = first.few in let k = second.few in omega (arith, h, k);
  more = λ c h. second.more c (first.more c h);
  among = second.among;
  is = both second.cells second.more second.is;
}

-- at most so many, which are fewer
fewer_added : (old : List SymbolTree) (m n : ℕ) (Is Now : List SymbolTree → Type 0) (s : Script) → m ≤ n → Adds old m Is s
    → ((cells : List SymbolTree) → Is cells → Now cells) → Adds old n Now s
fewer_added old m n Is Now s less adds now = record {
  cells = adds.cells;
  few = let h = adds.few in omega (arith, h, less);
  more = adds.more;
  among = adds.among;
  is = now adds.cells adds.is;
}

-- lets are kept, and what is in scope stands for a variable
pub record IsPlainPlace (p : Place) : Type 0 where
  pub keeps : p.settings.replaces_lets ≡ false
  pub alone : AllByRecursion (λ b. cells_of (tree_of b.stands_for) ≡ []) p.scope

abbrev IsBareMeaning : Meaning → Type 0
IsBareMeaning (value t) = cells_of (tree_of t.tree) ≡ []
IsBareMeaning (macro m) = ⊥
IsBareMeaning (function f) = ⊤
IsBareMeaning (operator op) = ⊤

functions-bare : (o : Option Fun) → IfSome (option_map function o) IsBareMeaning
functions-bare None = tt
functions-bare (Some f) = tt

operators-bare : (o : Option Op) → IfSome (option_map operator o) IsBareMeaning
operators-bare None = tt
operators-bare (Some op) = tt

meaning-bare : (p : Place) (s : Script) (name : List ℕ) → IsPlainPlace p → IsBare s → IfSome (meaning_of p s name) IsBareMeaning
unfolding meaning_of
meaning-bare p s name plain bare =
    let named = find (λ n. bytes_eq n.name name) s.named in
    let macros = find (λ m. bytes_eq m.name name) s.macros in
    let functions = find (λ f. bytes_eq f.name name) s.functions in
    if_some-or IsBareMeaning (option_map meaning_of_bound (innermost p.scope name)) _
    (if_some-map (λ b. cells_of (tree_of b.stands_for) ≡ []) IsBareMeaning meaning_of_bound (innermost p.scope name)
    (if_found (λ b. cells_of (tree_of b.stands_for) ≡ []) (λ b. bytes_eq b.variable.name name) p.scope plain.alone) (λ b e. e))
    (if_some-or IsBareMeaning (option_and_then (λ n. meaning_of_named p n.meant) named) _
    (if_some-and_then (λ n. ⊥) IsBareMeaning (λ n. meaning_of_named p n.meant) named
    (if_found (λ n. ⊥) (λ n. bytes_eq n.name name) s.named (subst (AllByRecursion (λ n. ⊥)) (sym bare.named) tt)) (λ n e. absurd e))
    (if_some-or IsBareMeaning (option_map macro macros) _
    (if_some-map (λ m. ⊥) IsBareMeaning macro macros
    (if_found (λ m. ⊥) (λ m. bytes_eq m.name name) s.macros (subst (AllByRecursion (λ m. ⊥)) (sym bare.macros) tt)) (λ m e. absurd e))
    (if_some-or IsBareMeaning (option_map function functions) (option_map operator (operator_named name))
    (functions-bare functions) (operators-bare (operator_named name)))))

-- a term without cells
no_cells : (cells : List SymbolTree) (tree : SymbolTree) → cells_of tree ≡ [] → HasCells cells tree
no_cells cells tree e = subst (AllByRecursion (λ c. Contains cells c)) (sym e) tt

-- an application of a symbol adds its own cell to those of the list of its arguments
application-cells : (cells : List SymbolTree) (l : Leaf) (ts : List Typed) → HasCells cells (list_tree (trees ts))
    → HasCells (application_tree l (trees ts) ∷ cells) (application_tree l (trees ts))
application-cells cells l [] h = tt
application-cells cells l (t ∷ ts) h = pair_cells cells (symbol_leaf l) (list_tree (trees (t ∷ ts))) tt h

-- the tree of what was found, and nothing where there is none
abbrev own_tree : Option Typed → SymbolTree
own_tree None = symbol_leaf Leaf.nil
own_tree (Some t) = tree_of t.tree

-- an application that has a sort, where one is found
abbrev call_with : Fun → List Typed → Option Sort → Option Typed
call_with f ts o = option_map (λ s. record { tree = call f (trees ts); sort = s }) o

abbrev operation_with : Op → List Typed → Option Sort → Option Typed
operation_with op ts o = option_map (λ s. record { tree = operation op (trees ts); sort = s }) o

-- the cells of what is found are these, or these and its own
abbrev HasFound : List SymbolTree → Option Typed → Type 0
HasFound cells o = IfSome o (λ t. HasCells cells (tree_of t.tree))

abbrev HasFoundNew : List SymbolTree → Option Typed → Type 0
HasFoundNew cells o = HasFound (own_tree o ∷ cells) o

applied-cells : (m : Meaning) (ts : List Typed) (cells : List SymbolTree) → IsBareMeaning m → HasCells cells (list_tree (trees ts))
    → HasFoundNew cells (meaning_applied m ts)
unfolding meaning_applied
applied-cells (value t) [] cells bare h = no_cells (tree_of t.tree ∷ cells) (tree_of t.tree) bare
applied-cells (value t) (a ∷ ts) cells bare h = tt
applied-cells (macro m) ts cells bare h = absurd bare
applied-cells (function f) ts cells bare h = go (call_sort f (sorts_of ts))
  where
    go : (o : Option Sort) → HasFoundNew cells (call_with f ts o)
    go None = tt
    go (Some s) = application-cells cells (Leaf.function f.name f.arguments f.target) ts h
applied-cells (operator op) ts cells bare h = go (operation_sort op (trees ts) (sorts_of ts))
  where
    go : (o : Option Sort) → HasFoundNew cells (operation_with op ts o)
    go None = tt
    go (Some s) = application-cells cells (Leaf.operator op) ts h

-- a symbol alone has no cells
alone-cells : (m : Meaning) (cells : List SymbolTree) → IsBareMeaning m → HasFound cells (meaning_applied m [])
unfolding meaning_applied
alone-cells (value t) cells bare = no_cells cells (tree_of t.tree) bare
alone-cells (macro m) cells bare = absurd bare
alone-cells (function f) cells bare = go (call_sort f [])
  where
    go : (o : Option Sort) → HasFound cells (call_with f [] o)
    go None = tt
    go (Some s) = tt
alone-cells (operator op) cells bare = go (operation_sort op (trees []) [])
  where
    go : (o : Option Sort) → HasFound cells (operation_with op [] o)
    go None = tt
    go (Some s) = tt

abbrev pub HasTerm : Typed → List SymbolTree → Type 0
HasTerm t cells = HasCells cells (tree_of t.tree)

settled-adds : (old : List SymbolTree) (n : ℕ) (cause : Cause) (limit : Option ℕ) (place : ℕ) (o : Option Typed) (s : Script)
    → Adds old n (λ cells. IfSome o (λ t. HasCells cells (tree_of t.tree))) s → Gives (λ t after. Adds old n (HasTerm t) after) (settled cause limit place o s)
settled-adds old n cause limit place None s adds = tt
settled-adds old n cause limit place (Some t) s adds = go (is_low limit (height t.tree))
  where
    go : (b : Bool) → Gives (λ t after. Adds old n (HasTerm t) after) (if b then done t (with_term t.tree s) else refuse TooHigh place (with_term t.tree s))
    go false = tt
    go true = record {
      cells = adds.cells;
      few = adds.few;
      more = adds.more;
      among = record {
        each = all_at_end (λ t. HasCells adds.cells (tree_of t)) s.terms t.tree adds.among.each adds.is;
        bare = record { macros = adds.among.bare.macros; named = adds.among.bare.named };
      };
      is = adds.is;
    }

with_meaning-gives : {A : Type 0} (Q : A → Script → Type 0) (place : ℕ) (o : Option Meaning) (s : Script) (next : Meaning → Outcome Script A)
    → IfSome o IsBareMeaning → ((m : Meaning) → IsBareMeaning m → Gives Q (next m)) → Gives Q (with_meaning place o s next)
with_meaning-gives Q place (Some m) s next bare k = k m bare
with_meaning-gives Q place None s next bare k = tt

inside-plain : (p : Place) (bs : List Bound) → IsPlainPlace p → IsPlainPlace (place_inside bs p)
inside-plain p bs plain = record { keeps = plain.keeps; alone = go p.settings.replaces_lets plain.keeps }
  where
    themselves : (bs : List Bound) → AllByRecursion (λ b. cells_of (tree_of b.stands_for) ≡ []) (map (λ b. itself b.variable) bs)
    themselves [] = tt
    themselves (b ∷ bs) = (refl, themselves bs)

    go : (b : Bool) → b ≡ false → AllByRecursion (λ b. cells_of (tree_of b.stands_for) ≡ []) ((if b then bs else map (λ b. itself b.variable) bs) ++ p.scope)
    go true e = absurd cc
    go false e = all_joined (λ b. cells_of (tree_of b.stands_for) ≡ []) (map (λ b. itself b.variable) bs) p.scope (themselves bs) plain.alone

abbrev pub HasBounds : List Bound → List SymbolTree → Type 0
HasBounds bs cells = HasCells cells (bindings_tree (let_bindings_of bs))

abbrev pub HasTerms : List Typed → List SymbolTree → Type 0
HasTerms ts cells = HasCells cells (list_tree (trees ts))

abbrev let_rest : List Bound → Typed → SymbolTree
let_rest bound t = pair (bindings_tree (let_bindings_of bound)) (tree_of t.tree)

abbrev let_so : Bool → List Bound → Typed → Typed
let_so b bound t = if b then t else record { tree = let_in (let_bindings_of bound) t.tree; sort = t.sort }

let-adds : (old : List SymbolTree) (n : ℕ) (bound : List Bound) (t : Typed) (s : Script) (replaces : Bool) → replaces ≡ false
    → Adds old n (λ cells. HasBounds bound cells × HasTerm t cells) s → Adds old (suc (suc n)) (HasTerm (let_so replaces bound t)) s
let-adds old n bound t s true e adds = absurd cc
let-adds old n bound t s false e adds =
    one_added old (suc n) (λ cells. HasCells cells (let_rest bound t)) (HasTerm (let_so false bound t)) s (pair (symbol_leaf Leaf.let_head) (let_rest bound t))
    (one_added old n (λ cells. HasBounds bound cells × HasTerm t cells) (λ cells. HasCells cells (let_rest bound t)) s (let_rest bound t) adds
    (λ cells is. pair_cells cells (bindings_tree (let_bindings_of bound)) (tree_of t.tree) is.0 is.1))
    (λ cells is. pair_cells cells (symbol_leaf Leaf.let_head) (let_rest bound t) tt is)

abbrev AddsTerm : List SymbolTree → ℕ → Typed → Script → Type 0
AddsTerm old n t after = Adds old n (HasTerm t) after

abbrev AddsTerms : List SymbolTree → ℕ → List Typed → Script → Type 0
AddsTerms old n ts after = Adds old n (HasTerms ts) after

abbrev AddsBounds : List SymbolTree → ℕ → List Bound → Script → Type 0
AddsBounds old n bs after = Adds old n (HasBounds bs) after

-- a binding adds the pair of its variable and its term, and the cell of the list of bindings
bound-added : (old : List SymbolTree) (m n all : ℕ) (name : List ℕ) (t : Typed) (bound : List Bound) (s : Script) → suc (suc (m + n)) ≤ all
    → Adds old (m + n) (λ cells. HasTerm t cells × HasBounds bound cells) s
    → AddsBounds old all (record { variable = record { name = name; sort = t.sort }; stands_for = t.tree } ∷ bound) s
bound-added old m n all name t bound s less adds =
    let x = symbol_leaf (Leaf.variable name t.sort) in
    let list = bindings_tree (let_bindings_of bound) in
    let one = pair x (tree_of t.tree) in
    fewer_added old (suc (suc (m + n))) all (λ cells. HasCells cells (pair one list)) _ s less
    (one_added old (suc (m + n)) (λ cells. HasCells cells one × HasCells cells list) (λ cells. HasCells cells (pair one list)) s (pair one list)
    (one_added old (m + n) (λ cells. HasTerm t cells × HasBounds bound cells) (λ cells. HasCells cells one × HasCells cells list) s one adds
    (λ cells is. (pair_cells cells x (tree_of t.tree) tt is.0, has_more cells (one ∷ cells) list (one_more cells one) is.1)))
    (λ cells is. pair_cells cells one list is.0 is.1)) (λ cells is. is)

mutual
  unfolding term_from

  pub term-adds : (f : Form) (p : Place) (s : Script) (old : List SymbolTree) → IsPlainForm f → IsPlainPlace p → AreAmong old s
      → Gives (AddsTerm old (weight f)) (term_from f p s)
  term-adds (faulty cause place) p s old plain at among = tt
  term-adds (number place n) p s old plain at among =
      settled-adds old 0 SortMismatch p.settings.limit place (Some (record { tree = numeral n; sort = Sort.Int })) s
      (none_added old (HasTerm (record { tree = numeral n; sort = Sort.Int })) s among tt)
  term-adds (symbol n) p s old plain at among =
      with_meaning-gives (AddsTerm old 0) n.place (meaning_of p s n.name) s _ (meaning-bare p s n.name at among.bare)
      (λ m bare. settled-adds old 0 SortMismatch p.settings.limit n.place (meaning_applied m []) s
      (none_added old (λ cells. IfSome (meaning_applied m []) (λ t. HasTerm t cells)) s among (alone-cells m old bare)))
  term-adds (application place head fs) p s old plain at among =
      with_meaning-gives (AddsTerm old (1 + weights fs)) head.place (meaning_of p s head.name) s _ (meaning-bare p s head.name at among.bare)
      (λ m bare. gives-and_then (AddsTerms old (weights fs)) (AddsTerm old (1 + weights fs)) (terms_from fs p s) _ (terms-add fs p s old plain at among)
      (λ ts after adds. settled-adds old (1 + weights fs) (refusal_of m ts) p.settings.limit place (meaning_applied m ts) after
      (fewer_added old (suc (weights fs)) (1 + weights fs) _ _ after (omega arith)
      (one_added old (weights fs) (HasTerms ts) (λ cells. IfSome (meaning_applied m ts) (λ t. HasTerm t cells)) after (own_tree (meaning_applied m ts)) adds
      (λ cells is. applied-cells m ts cells bare is)) (λ cells is. is))))
  term-adds (let_form place bs body) p s old plain at among =
      gives-and_then (AddsBounds old (bind_weights bs)) (AddsTerm old (weight (let_form place bs body))) (bounds_from bs [] p s) _
      (bounds-add bs [] p s old plain.0 at among)
      (λ bound after first. gives-and_then (AddsTerm first.cells (weight body)) (AddsTerm old (weight (let_form place bs body)))
      (term_from body (place_inside bound p) after) _ (term-adds body (place_inside bound p) after first.cells plain.1 (inside-plain p bound at) first.among)
      (λ t last second. settled-adds old (weight (let_form place bs body)) SortMismatch p.settings.limit place (Some (let_term p bound t)) last
      (fewer_added old (suc (suc (bind_weights bs + weight body))) (weight (let_form place bs body)) (HasTerm
      (let_so p.settings.replaces_lets bound t)) _ last (omega arith)
      (let-adds old (bind_weights bs + weight body) bound t last p.settings.replaces_lets at.keeps
      (then_added old (bind_weights bs) (weight body) (HasBounds bound) (HasTerm t) (λ cells. HasBounds bound cells × HasTerm t cells) after last first second
      (λ new w is. (has_more first.cells new (bindings_tree (let_bindings_of bound)) w first.is, is)))) (λ cells is. is))))
  term-adds (annotated place f names) p s old plain at among = absurd plain

  terms-add : (fs : Forms) (p : Place) (s : Script) (old : List SymbolTree) → ArePlainForms fs → IsPlainPlace p → AreAmong old s
      → Gives (AddsTerms old (weights fs)) (terms_from fs p s)
  terms-add no_forms p s old plain at among = none_added old (HasTerms []) s among tt
  terms-add (form f fs) p s old plain at among =
      gives-and_then (AddsTerm old (weight f)) (AddsTerms old (weights (form f fs))) (term_from f p s) _ (term-adds f p s old plain.0 at among)
      (λ t after first. gives-and_then (AddsTerms first.cells (weights fs)) (AddsTerms old (weights (form f fs))) (terms_from fs p after) _
      (terms-add fs p after first.cells plain.1 at first.among)
      (λ ts last second. fewer_added old (suc (weight f + weights fs)) (weights (form f fs)) (HasTerms (t ∷ ts)) (HasTerms (t ∷ ts)) last (omega arith)
      (one_added old (weight f + weights fs) (λ cells. HasTerm t cells × HasTerms ts cells) (HasTerms (t ∷ ts)) last (pair (tree_of t.tree) (list_tree
      (trees ts)))
      (then_added old (weight f) (weights fs) (HasTerm t) (HasTerms ts) (λ cells. HasTerm t cells × HasTerms ts cells) after last first second
      (λ new w is. (has_more first.cells new (tree_of t.tree) w first.is, is)))
      (λ cells is. pair_cells cells (tree_of t.tree) (list_tree (trees ts)) is.0 is.1)) (λ cells is. is)))

  bounds-add : (bs : LetBinds) (earlier : List (List ℕ)) (p : Place) (s : Script) (old : List SymbolTree) → ArePlainBinds bs → IsPlainPlace p → AreAmong old s
      → Gives (AddsBounds old (bind_weights bs)) (bounds_from bs earlier p s)
  bounds-add no_binds earlier p s old plain at among = none_added old (HasBounds []) s among tt
  bounds-add (bind n f bs) earlier p s old plain at among =
      gives-unless (AddsBounds old (bind_weights (bind n f bs))) (is_built_in n.name || is_among earlier n.name) Repeated n.place s _
      (gives-and_then (AddsTerm old (weight f)) (AddsBounds old (bind_weights (bind n f bs))) (term_from f p (with_let_name n.name s)) _
      (term-adds f p (with_let_name n.name s) old plain.0 at
      (record { each = among.each; bare = record { macros = among.bare.macros; named = among.bare.named } }))
      (λ t after first. gives-and_then (AddsBounds first.cells (bind_weights bs)) (AddsBounds old (bind_weights (bind n f bs))) (bounds_from bs
      (n.name ∷ earlier) p after) _
      (bounds-add bs (n.name ∷ earlier) p after first.cells plain.1 at first.among)
      (λ bound last second. bound-added old (weight f) (bind_weights bs) (bind_weights (bind n f bs)) n.name t bound last (omega arith)
      (then_added old (weight f) (bind_weights bs) (HasTerm t) (HasBounds bound) (λ cells. HasTerm t cells × HasBounds bound cells) after last first second
      (λ new w is. (has_more first.cells new (tree_of t.tree) w first.is, is))))))

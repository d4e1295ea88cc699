-- Applications on stacks, and rows that are tried on them.
use Rattle.std.proofs.Common.{◌≡◌, ◌≢◌, ◌↔◌, inl, inr, ◌≤◌, ◌<◌, ◌+◌, ◌++◌, ℕ, suc, List, [], ◌∷◌, length, drop, take, get_or, map, reverse, Bool, true, false, IsTrue, Any, Option, Some, None, sym, ap, ◌∙◌, subst, add-one}
use Rattle.std.proofs.lemmas.List.{map-append, take_more}
use Rattle.std.proofs.lemmas.List.Elements.{Contains-get_or}
use Rattle.sym_table.specs.Table.{Table}
use Rattle.term_model.specs.Sorts.{IsWellSorted}
use Rattle.term_model.specs.Terms.{Term, operation, terms_of}
use Rattle.term_pool.specs.Views.{TermsView, IsTerm, RefersTo, ReferToAll}
use Rattle.rule_model.specs.declared.letter.Letter.{Letter}
use Rattle.rule_model.specs.Rewriting.{RewriteRow, PassesGuard, Rewrites, FitsRow, IsFirstFit}
use Rattle.rule_model.specs.Schemas.{Pattern, letter, nullary, unary, binary, ternary, fill}
use Rattle.schema_match.specs.Letters.{slot, Agrees}
use Rattle.schema_match.specs.Matching.{parts_of, Fits, Matches}
use Rattle.schema_match.specs.Stack.{StackOf, IsStack}
use Rattle.schema_match.specs.declared.letters.Letters.{Letters}
use Rattle.schema_match.proofs.ReferLemmas.{stack_push}
use Rattle.schema_match.proofs.InstanceLemmas.{clause_stack}
use Rattle.rules_simplify.specs.declared.rewrites.Application.{Application}
use Rattle.rules_simplify.specs.declared.rewrites.Fit.{Fit}
use Rattle.rules_simplify.specs.declared.tables.RowParts.{RowParts}
use Rattle.rules_simplify.specs.Asking.{letters_asked, IsAsAsked, AreSortedLetters}
use Rattle.rules_simplify.specs.Chains.{StandsForApplication, IsSomeAt, IsMissing, FitsBy, IsFirstRow}
use Rattle.rules_simplify.specs.Tables.{root_of, patterns_in, IsRow, IsSomeRow, AreRows}
use Rattle.rules_simplify.proofs.ChainLemmas.{row_at, rows_end, first_here, first_later, any_at, any_not_here}
use Rattle.rules_simplify.proofs.AskingLemmas.{asked_is, sorted_letters}
use Rattle.rules_simplify.proofs.RowLemmas.{arguments_are, from_arguments, filled_is, other_op, no_arguments, fit_is, made_is, does_fit, rewrite_is}
use Rattle.term_model.proofs.Basics.{any_here, any_cases, any_none}

pub some_stack : (s : Table) (v : TermsView) (at : Application) (items : List ℕ) → items ≡ reverse at.arguments.items → IsSomeAt s v at → IsStack s v items
some_stack s v at items e some = record { terms = some.is.arguments; refer = clause_stack s v items at.arguments.items some.is.arguments e some.is.refer }

pub stack_under : (s : Table) (v : TermsView) (items new list : List ℕ) (r : ℕ) (u : Term) (ts : List Term) → items ≡ reverse list → new ≡ items ++ r ∷ [] → RefersTo s v r u → ReferToAll s v list ts → StackOf s v new (u ∷ ts)
stack_under s v items new list r u ts e pushed refers refer =
    subst (λ rs. StackOf s v rs (u ∷ ts)) (sym pushed) (stack_push s v items r u ts refers (clause_stack s v items list ts e refer))

pub some_stack_under : (s : Table) (v : TermsView) (at : Application) (items new : List ℕ) (r : ℕ) → items ≡ reverse at.arguments.items → new ≡ items ++ r ∷ [] → IsTerm s v r → IsSomeAt s v at → IsStack s v new
some_stack_under s v at items new r e pushed term some =
    record { terms = term.means ∷ some.is.arguments; refer = stack_under s v items new at.arguments.items r term.means some.is.arguments e pushed term.refers some.is.refer }

module _ (s : Table) (v : TermsView) (table : List RewriteRow) (of : RewriteRow) (row : RowParts) (at : Application) (t : Term) (is : IsRow table of row) (here : StandsForApplication s v at t) where
  pub op_differs : (row.op ≡ at.op → ⊥) → ¬ FitsRow of t
  op_differs other = other_op of row.op at.op here.arguments t is.0 here.is other

  row_passes : (f : Letter → Term) → t ≡ fill f of.left → IsAsAsked f row.asked ↔ PassesGuard f of.guard
  row_passes f e = asked_is of.left of.guard row.asked f is.3.0 (subst IsWellSorted e here.sorted)

  module _ (letters : Letters) (items : List ℕ) (e : items ≡ reverse at.arguments.items) (test : (ps : List Pattern) (ts : List Term) → row.left.now ≡ parts_of ps → StackOf s v items ts → Matches s v letters ps ts) where
    matched : Matches s v letters (patterns_in of.left) here.arguments
    matched = test (patterns_in of.left) here.arguments is.1 (clause_stack s v items at.arguments.items here.arguments e here.refer)

    agreed : (f : Letter → Term) → t ≡ fill f of.left → Agrees s v letters f
    agreed f fits = (matched.give f).0 (arguments_are of row.op at.op here.arguments t is.0 here.is f fits)

    pub row_letters : row.op ≡ at.op → AreSortedLetters s v letters row.asked
    row_letters same =
        sorted_letters s v letters of.left t matched.terms matched.agrees
        (λ f agrees. from_arguments of row.op at.op here.arguments t is.0 here.is same f ((matched.give f).1 agrees)) here.sorted (letters_asked row.asked) is.3.1

    pub row_fits : row.op ≡ at.op → ((f : Letter → Term) → Agrees s v letters f → IsAsAsked f row.asked) → FitsBy s v letters of t
    row_fits same asked =
        fit_is of row.op at.op here.arguments t is.0 here.is s v letters same here.sorted (λ f fits. (row_passes f fits).0 (asked f (agreed f fits))) matched

    pub row_denied : ((f : Letter → Term) → Agrees s v letters f → ¬ IsAsAsked f row.asked) → ¬ FitsRow of t
    row_denied none (u, r) = none r.terms (agreed r.terms r.from) ((row_passes r.terms r.from).1 r.passes)

  pub row_other : (items : List ℕ) → items ≡ reverse at.arguments.items → ((ps : List Pattern) (ts : List Term) → row.left.now ≡ parts_of ps → StackOf s v items ts → ¬ Fits ps ts) → ¬ FitsRow of t
  row_other items e test =
      no_arguments of row.op at.op here.arguments t is.0 here.is (test _ here.arguments is.1 (clause_stack s v items at.arguments.items here.arguments e here.refer))

  pub row_makes : (b : Bool) (items new : List ℕ) (r : ℕ) (u : Term) (f : Letter → Term) → items ≡ reverse at.arguments.items → new ≡ items ++ r ∷ [] → RefersTo s v r u → ((ps : List Pattern) (ts : List Term) → row.both.now ≡ parts_of ps → StackOf s v new ts → IsTrue b ↔ Fits ps ts) → t ≡ fill f of.left → IsTrue b ↔ (u ≡ fill f of.right)
  row_makes b items new r u f e pushed refers test fits =
      made_is of row.op at.op here.arguments t is.0 here.is b u is.4 (test (of.right ∷ patterns_in of.left) (u ∷ here.arguments) is.2 (stack_under s v items new at.arguments.items r u here.arguments e pushed refers here.refer)) f fits

  pub row_rewrites : (b : Bool) (u : Term) (letters : Letters) → FitsBy s v letters of t → ((f : Letter → Term) → t ≡ fill f of.left → IsTrue b ↔ (u ≡ fill f of.right)) → IsTrue b ↔ Rewrites of t u
  row_rewrites b u letters fits test =
      let told = test fits.terms ((fits.gives fits.terms).1 fits.agrees) in
      let made = rewrite_is s v letters of t u is.4 fits in
      (λ e. made.1 (told.0 e), λ r. told.1 (made.0 r))

  pub row_fits_not : (u : Term) → (¬ FitsRow of t) → IsTrue false ↔ Rewrites of t u
  row_fits_not u none = (λ e. absurd cc, λ r. absurd (none (u, r)))

-- a row of a table is one
pub some_row_at : (rows : List RewriteRow) (parts : List RowParts) → AreRows rows parts → (i : ℕ) (d : RowParts) → i < length parts → IsSomeRow (get_or parts i d)
some_row_at rows parts are i d below = let here = row_at rows i rows parts d are below in record { rows = rows; row = here.row; is = here.parts_are }

-- the rows of a table are tried for one that rewrites
module _ (rows : List RewriteRow) (parts : List RowParts) (are : AreRows rows parts) (i : ℕ) (t u : Term) where
  pub any_found : (d : RowParts) (b : Bool) → i < length parts → b ≡ true → ((of : RewriteRow) → IsRow rows of (get_or parts i d) → IsTrue b ↔ Rewrites of t u) → Any (λ row. Rewrites row t u) rows
  any_found d b below holds test =
      let here = row_at rows i rows parts d are below in
      any_at (λ row. Rewrites row t u) i rows
      (subst (Any (λ row. Rewrites row t u)) (sym here.is) (any_here (λ row. Rewrites row t u) here.row (drop (suc i) rows) ((test here.row here.parts_are).0 holds)))

  pub any_not_yet : (d : RowParts) (b : Bool) → i < length parts → b ≡ false → ((of : RewriteRow) → IsRow rows of (get_or parts i d) → IsTrue b ↔ Rewrites of t u) → Any (λ row. Rewrites row t u) (drop i rows) → Any (λ row. Rewrites row t u) (drop (i + 1) rows)
  any_not_yet d b below fails test h =
      let here = row_at rows i rows parts d are below in
      rw (add-one)
      (any_not_here here.row (drop (suc i) rows) t u (λ r. let holds = (test here.row here.parts_are).1 r in absurd cc) (subst (Any (λ row. Rewrites row t u)) here.is h))

  pub any_never : length parts ≤ i → (Any (λ row. Rewrites row t u) rows → Any (λ row. Rewrites row t u) (drop i rows)) → IsTrue false ↔ Any (λ row. Rewrites row t u) rows
  any_never end left = (
    λ e. absurd cc,
    λ h. absurd (any_none (λ row. Rewrites row t u) (subst (Any (λ row. Rewrites row t u)) (rows_end rows i rows parts are end) (left h))),
  )

-- and for the first that fits
module _ (rows : List RewriteRow) (parts : List RowParts) (are : AreRows rows parts) (i : ℕ) (t : Term) where
  pub first_found : (d : RowParts) (s : Table) (v : TermsView) (fit : Fit) → i < length parts → fit.row ≡ get_or parts i d → ((u : Term) → IsFirstFit (drop i rows) t u ↔ IsFirstFit rows t u) → ((of : RewriteRow) → IsRow rows of (get_or parts i d) → FitsBy s v fit.letters of t) → IsFirstRow s v rows fit t
  first_found d s v fit below is so_far test =
      let here = row_at rows i rows parts d are below in
      let fits = test here.row here.parts_are in
      record {
        row = here.row;
        there = here.there;
        parts = subst (IsRow rows here.row) (sym is) here.parts_are;
        fits = fits;
        first = λ u.
            (let one = first_here here.row (drop (suc i) rows) t u (does_fit s v fit.letters here.row t fits) in
            let whole = subst (λ rest. IsFirstFit rest t u ↔ IsFirstFit rows t u) here.is (so_far u) in
            (λ r. whole.0 (one.0 r), λ h. one.1 (whole.1 h)));
      }

  pub first_not_yet : (d : RowParts) → i < length parts → ((of : RewriteRow) → IsRow rows of (get_or parts i d) → ¬ FitsRow of t) → ((u : Term) → IsFirstFit (drop i rows) t u ↔ IsFirstFit rows t u) → (u : Term) → IsFirstFit (drop (i + 1) rows) t u ↔ IsFirstFit rows t u
  first_not_yet d below test so_far u =
      let here = row_at rows i rows parts d are below in
      let later = first_later here.row (drop (suc i) rows) t u (test here.row here.parts_are) in
      let whole = subst (λ rest. IsFirstFit rest t u ↔ IsFirstFit rows t u) here.is (so_far u) in
      rw (add-one) (λ h. whole.0 (later.0 h), λ h. later.1 (whole.1 h))

  pub first_never : length parts ≤ i → ((u : Term) → IsFirstFit (drop i rows) t u ↔ IsFirstFit rows t u) → (u : Term) → ¬ IsFirstFit rows t u
  first_never end so_far u h = subst (λ rest. IsFirstFit rest t u) (rows_end rows i rows parts are end) ((so_far u).1 h)

-- a term that is no application of the row's operator
pub opened_not : (table : List RewriteRow) (of : RewriteRow) (row : RowParts) (t : Term) → IsRow table of row → ((first : Term) (others : List Term) → t ≢ operation row.op (terms_of (first ∷ others))) → ¬ FitsRow of t
opened_not table of row t is other (u, r) = go of.left is.0 r.from
  where
    go : (p : Pattern) → root_of p ≡ Some row.op → t ≡ fill r.terms p → ⊥
    go (letter l) root e = absurd cc
    go (nullary op) root e = absurd cc
    go (unary op p) root e = other (fill r.terms p) [] (e ∙ filled_is r.terms (unary op p) row.op root)
    go (binary op p q) root e = other (fill r.terms p) (fill r.terms q ∷ []) (e ∙ filled_is r.terms (binary op p q) row.op root)
    go (ternary op p q o) root e =
        other (fill r.terms p) (fill r.terms q ∷ fill r.terms o ∷ []) (e ∙ filled_is r.terms (ternary op p q o) row.op root)

module _ (rows : List RewriteRow) (parts : List RowParts) (are : AreRows rows parts) (i : ℕ) (t : Term) where
  pub open_not_yet : (d : RowParts) → i < length parts → ((of : RewriteRow) → IsRow rows of (get_or parts i d) → ¬ FitsRow of t) → Any (λ row. FitsRow row t) (drop i rows) → Any (λ row. FitsRow row t) (drop (i + 1) rows)
  open_not_yet d below test h =
      let here = row_at rows i rows parts d are below in
      rw (add-one)
      (elim (any_cases (λ row. FitsRow row t) here.row (drop (suc i) rows) (subst (Any (λ row. FitsRow row t)) here.is h)) [
        | inl fits ↦ absurd (test here.row here.parts_are fits)
        | inr later ↦ later
      ])

  pub open_never : length parts ≤ i → (Any (λ row. FitsRow row t) rows → Any (λ row. FitsRow row t) (drop i rows)) → ¬ Any (λ row. FitsRow row t) rows
  open_never end left h = any_none (λ row. FitsRow row t) (subst (Any (λ row. FitsRow row t)) (rows_end rows i rows parts are end) (left h))

-- letters that are loaded one after the other
pub missing_at : (letters : Letters) (of : List Letter) (i : ℕ) (d : Letter) → i < length of → None ≡ slot letters (get_or of i d) → IsMissing letters of
missing_at letters of i d below none = record { letter = get_or of i d; there = Contains-get_or of i d below; none = sym none }

pub loaded_more : (letters : Letters) (of : List Letter) (i : ℕ) (d : Letter) (items new : List ℕ) (r : ℕ) → i < length of → Some r ≡ slot letters (get_or of i d) → new ≡ items ++ r ∷ [] → map (slot letters) (take i of) ≡ map Some items → map (slot letters) (take (i + 1) of) ≡ map Some new
loaded_more letters of i d items new r below there pushed so_far =
    ap (map (slot letters)) (take_more of i d below)
    ∙ (map-append (slot letters) (take i of) (get_or of i d ∷ [])
    ∙ (ap (λ (xs : List (Option ℕ)). xs ++ slot letters (get_or of i d) ∷ []) so_far
    ∙ (ap (λ (x : Option ℕ). map Some items ++ x ∷ []) (sym there)
    ∙ (sym (map-append Some items (r ∷ [])) ∙ ap (map Some) (sym pushed)))))

-- What a name means behind a script whose terms are over its vocabulary, and what a meaning applied to such terms is.
use Rattle.std.proofs.Common.{◌≡◌, ◌⊎◌, inl, inr, ℕ, Bool, true, false, ◌&&◌, Option, Some, None, IfSome, List, [], ◌∷◌, map, zip, bytes_eq, find}
use Rattle.std.proofs.Common.{if◌then◌else◌, option_map, option_and_then, refl, sym, ap, ◌∙◌, subst}
use Rattle.std.specs.Prelude.{⊤, Contains}
use Rattle.std.specs.List.{AllByRecursion, list_all}
use Rattle.std.specs.Option.{option_map_or}
use Rattle.term_model.specs.declared.symbols.Sort.{Sort}
use Rattle.term_model.specs.declared.symbols.Op.{Op}
use Rattle.term_model.specs.FreeVariables.{IsFree, IsFreeAmong}
use Rattle.term_model.specs.Sorts.{sorts_eq, operation_sort, call_sort}
use Rattle.term_model.specs.Terms.{Var, var_eq, sort_eq, Fun, variable, operation, call}
use Rattle.term_model.proofs.Lists.{contains_cases, contains_none}
use Rattle.term_model.proofs.Tests.{var_eq_decides, sort_eq_decides, sorts_eq_decides}
use Rattle.rule_model.specs.Replacement.{replaced_by, replaced, free_variables}
use Rattle.rule_model.proofs.Freedom.{IsIn, free-listed}
use Rattle.problem_text.specs.Names.{Bound, Place, innermost, is_bound, replacement, Meaning, value, macro, function, operator, meaning_of_bound}
use Rattle.problem_text.specs.Names.{meaning_of_named, meaning_of, trees, sorts_of, expansion, meaning_applied}
use Rattle.problem_text.specs.Scripts.{Script}
use Rattle.problem_text.specs.TypedTerms.{Typed}
use Rattle.problem_text.specs.Words.{operator_named}
use Rattle.problem_text.proofs.Outcomes.{if_found, if_some-or, if_some-map, if_some-and_then}
use Rattle.problem_text.proofs.ScopedTerms.{IsOver, replaced-over}
use Rattle.readable_proofs.specs.TermsOver.{IsTermOver, AreTermsOver}
use Rattle.readable_proofs.proofs.Names.{found_is, found_named_so, all_in}
use Rattle.readable_proofs.proofs.ReadNames.{words_of, IsOwnMacro, HasOwnTerms, Grows, still_read, macro_still, IsFreeBoundIn, IsOwnPlace}
use Rattle.readable_proofs.proofs.Replaced.{ArePutOf, replaced_of}

abbrev pub IsOwnMeaning : Place → Script → Meaning → Type 0
IsOwnMeaning p s (value t) = IsTermOver (words_of s) t.tree × IsFreeBoundIn p t.tree
IsOwnMeaning p s (macro m) = IsOwnMacro (words_of s) m
IsOwnMeaning p s (function f) = Contains s.functions f
IsOwnMeaning p s (operator op) = ⊤

pub meaning_still : (p : Place) (s u : Script) (m : Meaning) → Grows s u → IsOwnMeaning p s m → IsOwnMeaning p u m
meaning_still p s u (value t) g h = (still_read s u t.tree g h.0, h.1)
meaning_still p s u (macro m) g h = macro_still s u m g h
meaning_still p s u (function f) g h = subst (λ (fs : List Fun). Contains fs f) g.functions h
meaning_still p s u (operator op) g h = tt

-- a variable that is found is bound
pub bound_where_found : (scope : List Bound) (x : Var) (b : Bound) → innermost scope x.name ≡ Some b → b.variable ≡ x → is_bound scope x ≡ true
bound_where_found scope x b found same =
    ap (λ o. option_map_or (λ (c : Bound). sort_eq c.variable.sort x.sort) o false) found
    ∙ (sort_eq_decides b.variable.sort x.sort).1 (ap (λ (z : Var). z.sort) same)

bound_own : (p : Place) (s : Script) (name : List ℕ) → IsOwnPlace s p → (o : Option Bound) → innermost p.scope name ≡ o
    → IfSome (option_map meaning_of_bound o) (IsOwnMeaning p s)
bound_own p s name here None e = tt
bound_own p s name here (Some b) e = (
  found_is (λ b. IsTermOver (words_of s) b.stands_for) p.scope name b here.of e,
  λ kept x free.
      let stands : b.stands_for ≡ variable b.variable =
      found_is (λ b. b.stands_for ≡ variable b.variable) p.scope name b (here.themselves kept) e in
      let same : b.variable ≡ x = subst (IsFree x) stands free in
      let named : name ≡ x.name = sym (found_named_so p.scope name b e) ∙ ap (λ (z : Var). z.name) same in
      bound_where_found p.scope x b (subst (λ n. innermost p.scope n ≡ Some b) named e) same,
)

all_pass : (test : Var → Bool) (ys : List Var) (y : Var) → list_all test ys ≡ true → IsIn y ys → test y ≡ true
all_pass test [] y e h = absurd h
all_pass test (z ∷ ys) y e h = go (test z) refl e h (all_pass test ys y)
  where
    go : (b : Bool) → test z ≡ b → (b && list_all test ys) ≡ true → (z ≡ y) ⊎ IsIn y ys → (list_all test ys ≡ true → IsIn y ys → test y ≡ true)
        → test y ≡ true
    go true f e (inl same) rest = subst (λ x. test x ≡ true) same f
    go true f e (inr later) rest = rest e later
    go false f e h rest = absurd (cc)

scope_put : (s : Script) (scope : List Bound) → AllByRecursion (λ b. IsTermOver (words_of s) b.stands_for) scope → ArePutOf (words_of s) (replacement scope)
scope_put s [] h = tt
scope_put s (b ∷ scope) h = (h.0, scope_put s scope h.1)

named_own : (p : Place) (s : Script) (t : Typed) → IsOwnPlace s p → IsTermOver (words_of s) t.tree → IfSome (meaning_of_named p t) (IsOwnMeaning p s)
named_own p s t here h = go (list_all (is_bound p.scope) (free_variables t.tree)) p.settings.replaces_lets refl refl
  where
    go : (b c : Bool) → list_all (is_bound p.scope) (free_variables t.tree) ≡ b → p.settings.replaces_lets ≡ c
        → IfSome (if b then Some (value (if c then record { tree = replaced (replacement p.scope) t.tree; sort = t.sort } else t)) else None) (IsOwnMeaning p s)
    go true true e f = (replaced_of (words_of s) t.tree (replacement p.scope) (scope_put s p.scope here.of) h, λ kept. absurd (cc))
    go true false e f = (h, λ kept x free. all_pass (is_bound p.scope) (free_variables t.tree) x e (free-listed t.tree x free))
    go false c e f = tt

operators_own : (p : Place) (s : Script) (o : Option Op) → IfSome (option_map operator o) (IsOwnMeaning p s)
operators_own p s None = tt
operators_own p s (Some op) = tt

pub meaning_own : (p : Place) (s : Script) (name : List ℕ) → HasOwnTerms s → IsOwnPlace s p → IfSome (meaning_of p s name) (IsOwnMeaning p s)
unfolding meaning_of
meaning_own p s name own here =
    let M : Meaning → Type 0 = IsOwnMeaning p s in
    let named = find (λ n. bytes_eq n.name name) s.named in
    let defined = find (λ m. bytes_eq m.name name) s.macros in
    let functions = find (λ f. bytes_eq f.name name) s.functions in
    if_some-or M (option_map meaning_of_bound (innermost p.scope name)) _ (bound_own p s name here (innermost p.scope name) refl)
    (if_some-or M (option_and_then (λ n. meaning_of_named p n.meant) named) _
    (if_some-and_then (λ n. IsTermOver (words_of s) n.meant.tree) M (λ n. meaning_of_named p n.meant) named
    (if_found (λ n. IsTermOver (words_of s) n.meant.tree) (λ n. bytes_eq n.name name) s.named own.named) (λ n h. named_own p s n.meant here h))
    (if_some-or M (option_map macro defined) _
    (if_some-map (IsOwnMacro (words_of s)) M macro defined (if_found (IsOwnMacro (words_of s)) (λ m. bytes_eq m.name name) s.macros own.macros) (λ m h. h))
    (if_some-or M (option_map function functions) (option_map operator (operator_named name))
    (if_some-map (Contains s.functions) M function functions
    (if_found (Contains s.functions) (λ f. bytes_eq f.name name) s.functions (all_in s.functions s.functions (λ f there. there))) (λ f h. h))
    (operators_own p s (operator_named name)))))

-- terms that are applied to
abbrev pub IsOwnTerm : Place → Script → Typed → Type 0
IsOwnTerm p u t = IsTermOver (words_of u) t.tree × IsFreeBoundIn p t.tree

abbrev pub AreOwnTerms : Place → Script → List Typed → Type 0
AreOwnTerms p u ts = AllByRecursion (IsOwnTerm p u) ts

arguments_of : (p : Place) (u : Script) (ts : List Typed) → AreOwnTerms p u ts → AreTermsOver (words_of u) (trees ts)
arguments_of p u [] h = tt
arguments_of p u (t ∷ ts) h = (h.0.0, arguments_of p u ts h.1)

arguments_bound : (p : Place) (u : Script) (ts : List Typed) → AreOwnTerms p u ts → p.settings.replaces_lets ≡ false → (x : Var)
    → IsFreeAmong x (trees ts) → is_bound p.scope x ≡ true
arguments_bound p u [] h kept x free = absurd free
arguments_bound p u (t ∷ ts) h kept x (inl free) = h.0.1 kept x free
arguments_bound p u (t ∷ ts) h kept x (inr free) = arguments_bound p u ts h.1 kept x free

zip_put : (p : Place) (u : Script) (xs : List Var) (ts : List Typed) → AreOwnTerms p u ts → ArePutOf (words_of u) (zip xs (map (λ t. t.tree) ts))
zip_put p u [] ts h = tt
zip_put p u (x ∷ xs) [] h = tt
zip_put p u (x ∷ xs) (t ∷ ts) h = (h.0.0, zip_put p u xs ts h.1)

zip_bound : (p : Place) (u : Script) (xs : List Var) (ts : List Typed) (y : Var) → map (λ x. x.sort) xs ≡ sorts_of ts → AreOwnTerms p u ts
    → p.settings.replaces_lets ≡ false → Contains xs y → IsOver (λ x. is_bound p.scope x ≡ true) (replaced_by (zip xs (map (λ t. t.tree) ts)) y)
zip_bound p u [] ts y e h kept there = absurd (contains_none y there)
zip_bound p u (x ∷ xs) [] y e h kept there = absurd (cc)
zip_bound p u (x ∷ xs) (t ∷ ts) y e h kept there = go (var_eq x y) refl (contains_cases x y xs there) (zip_bound p u xs ts y (rest e) h.1 kept)
  where
    rest : x.sort ∷ map (λ x. x.sort) xs ≡ t.sort ∷ sorts_of ts → map (λ x. x.sort) xs ≡ sorts_of ts
    rest e = cc

    go : (b : Bool) → var_eq x y ≡ b → (x ≡ y) ⊎ Contains xs y
        → (Contains xs y → IsOver (λ x. is_bound p.scope x ≡ true) (replaced_by (zip xs (map (λ t. t.tree) ts)) y))
        → IsOver (λ x. is_bound p.scope x ≡ true) (if b then t.tree else replaced_by (zip xs (map (λ t. t.tree) ts)) y)
    go true f c k = h.0.1 kept
    go false f (inl same) k = absurd (let g = (var_eq_decides x y).1 same in cc)
    go false f (inr later) k = k later

pub applied_own : (p : Place) (u : Script) (m : Meaning) (ts : List Typed) → IsOwnMeaning p u m → AreOwnTerms p u ts
    → IfSome (meaning_applied m ts) (IsOwnTerm p u)
unfolding meaning_applied
applied_own p u (value t) [] fit h = fit
applied_own p u (value t) (a ∷ ts) fit h = tt
applied_own p u (macro m) ts fit h = go (sorts_eq (map (λ x. x.sort) m.parameters) (sorts_of ts)) refl
  where
    go : (b : Bool) → sorts_eq (map (λ x. x.sort) m.parameters) (sorts_of ts) ≡ b
        → IfSome {T = Typed} (if b then Some (record { tree = expansion m ts; sort = m.target }) else None) (IsOwnTerm p u)
    go true e = (
      replaced_of (words_of u) m.body (zip m.parameters (map (λ t. t.tree) ts)) (zip_put p u m.parameters ts h) fit.of,
      λ kept. replaced-over (λ x. is_bound p.scope x ≡ true) m.body (zip m.parameters (map (λ t. t.tree) ts))
          (λ y free. zip_bound p u m.parameters ts y ((sorts_eq_decides (map (λ x. x.sort) m.parameters) (sorts_of ts)).0 e) h kept (fit.scoped y free)),
    )
    go false e = tt
applied_own p u (function f) ts fit h = go (call_sort f (sorts_of ts))
  where
    go : (o : Option Sort) → IfSome {T = Typed} (option_map (λ s. record { tree = call f (trees ts); sort = s }) o) (IsOwnTerm p u)
    go None = tt
    go (Some s) = ((fit, arguments_of p u ts h), λ kept x free. arguments_bound p u ts h kept x free)
applied_own p u (operator op) ts fit h = go (operation_sort op (trees ts) (sorts_of ts))
  where
    go : (o : Option Sort) → IfSome {T = Typed} (option_map (λ s. record { tree = operation op (trees ts); sort = s }) o) (IsOwnTerm p u)
    go None = tt
    go (Some s) = (arguments_of p u ts h, λ kept x free. arguments_bound p u ts h kept x free)

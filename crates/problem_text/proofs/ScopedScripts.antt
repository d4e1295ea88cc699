-- The free variables of a macro's body are its parameters, and an assertion has none.
use Rattle.std.proofs.Common.{◌≡◌, ℕ, List, [], ◌∷◌, map, Bool, IfOk, Contains, sym, refl, subst, arith, true}
use Rattle.std.specs.List.{AllByRecursion}
use Rattle.sexpr.specs.Items.{Item}
use Rattle.term_model.specs.FreeVariables.{IsFree, IsClosed}
use Rattle.term_model.specs.Terms.{Var}
use Rattle.term_model.specs.declared.symbols.Sort.{Sort}
use Rattle.term_model.proofs.Lists.{contains_later, all_at_end}
use Rattle.problem_text.specs.Forms.{form_of}
use Rattle.problem_text.specs.Limits.{limited}
use Rattle.problem_text.specs.TypedTerms.{Typed}
use Rattle.problem_text.specs.Scripts.{Macro, Script, with_macro, with_assertion}
use Rattle.problem_text.specs.Names.{Bound, Place, itself}
use Rattle.problem_text.specs.Terms.{read_term}
use Rattle.problem_text.specs.Problems.{StandsForProblem}
use Rattle.problem_text.specs.Soundness.{IsScoped, AreThemselves, HasScopedTerms}
use Rattle.problem_text.proofs.Outcomes.{Ends}
use Rattle.problem_text.proofs.ScopedTerms.{IsOver, AreOver, AreScoped, term-over}
use Rattle.problem_text.proofs.KeptByCommands.{problem-kept}

parameters-over : (W : Var → Type 0) (xs : List Var) → ((x : Var) → Contains xs x → W x) → AreOver W (map itself xs)
parameters-over W [] w = tt
parameters-over W (x ∷ xs) w = (λ y e. w y (0, omega arith, e), parameters-over W xs (λ y there. w y (contains_later x y xs there)))

same_scoped : (s after : Script) → s.named ≡ after.named → s.macros ≡ after.macros → s.assertions ≡ after.assertions → AreScoped s → AreScoped after
same_scoped s after e f g h = (subst (AllByRecursion (λ m. IsOver (Contains m.parameters) m.body)) f h.0, subst (AllByRecursion IsClosed) g h.1)

body-over : (xs : List Var) (i : Item) (s : Script) → AreScoped s → Ends AreScoped (λ t. IsOver (Contains xs) t.tree) (read_term i (record { scope = map itself xs; settings = limited true }) s)
body-over xs i s h = term-over (form_of i) (Contains xs) (record { scope = map itself xs; settings = limited true }) s (parameters-over (Contains xs) xs (λ x there. there)) (λ e. absurd cc) h

formula-closed : (replaces : Bool) (i : Item) (s : Script) → AreScoped s → Ends AreScoped (λ t. IsClosed t.tree) (read_term i (record { scope = []; settings = limited replaces }) s)
formula-closed replaces i s h = term-over (form_of i) (λ x. ⊥) (record { scope = []; settings = limited replaces }) s tt (λ _. tt) h

macro_added : (m : Macro) (t : Typed) (s : Script) → AreScoped s → IsOver (Contains m.parameters) t.tree → m.body ≡ t.tree → t.sort ≡ m.target → AreScoped (with_macro m s)
macro_added m t s h over same sort = (all_at_end (λ m. IsOver (Contains m.parameters) m.body) s.macros m h.0 (subst (IsOver (Contains m.parameters)) (sym same) over), h.1)

assertion_added : (t : Typed) (s : Script) → AreScoped s → IsClosed t.tree → t.sort ≡ Sort.Bool → AreScoped (with_assertion t.tree s)
assertion_added t s h closed sort = (h.0, all_at_end IsClosed s.assertions t.tree h.1 closed)

pub problem-scoped : (source : List ℕ) (replaces : Bool) (s : Script) → StandsForProblem source replaces s → HasScopedTerms s
problem-scoped source replaces s h =
    let scoped = problem-kept AreScoped replaces same_scoped (λ xs t. IsOver (Contains xs) t.tree) (λ t. IsClosed t.tree) body-over (formula-closed replaces) macro_added assertion_added source s h (tt, tt) in
    record { macros = scoped.0; assertions = scoped.1 }

-- each variable in scope is one
scope-over : (scope all : List Bound) → ((b : Bound) → Contains scope b → Contains all b) → AreOver (λ x. (b : Bound) × Contains all b × IsFree x b.stands_for) scope
scope-over [] all there = tt
scope-over (b ∷ scope) all there = (λ x free. (b, there b (0, omega arith, refl), free), scope-over scope all (λ c k. there c (contains_later b c scope k)))

read-over : (i : Item) (p : Place) (s : Script) → AreThemselves p → HasScopedTerms s → Ends AreScoped (λ t. IsScoped p.scope t.tree) (read_term i p s)
read-over i p s themselves h =
    term-over (form_of i) (λ x. (b : Bound) × Contains p.scope b × IsFree x b.stands_for) p s (scope-over p.scope p.scope (λ b there. there)) themselves (h.macros, h.assertions)

pub term-scoped : (i : Item) (p : Place) (s : Script) → AreThemselves p → HasScopedTerms s → IfOk (read_term i p s).result (λ t. IsScoped p.scope t.tree)
term-scoped i p s themselves h = (read-over i p s themselves h).1

pub script-scoped : (i : Item) (p : Place) (s : Script) → AreThemselves p → HasScopedTerms s → HasScopedTerms (read_term i p s).state
script-scoped i p s themselves h = let scoped = (read-over i p s themselves h).0 in record { macros = scoped.0; assertions = scoped.1 }

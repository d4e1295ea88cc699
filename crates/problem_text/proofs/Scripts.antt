-- The scripts that texts stand for are sound.
use Rattle.std.proofs.Common.{◌≡◌, ℕ, List, [], ◌∷◌, map, Bool, true, refl, sym, subst}
use Rattle.std.specs.List.{AllByRecursion}
use Rattle.sexpr.specs.Items.{Item}
use Rattle.term_model.specs.declared.symbols.Sort.{Sort}
use Rattle.term_model.specs.Terms.{Var}
use Rattle.term_model.specs.Sorts.{IsOf}
use Rattle.term_model.proofs.Lists.{all_at_end}
use Rattle.problem_text.specs.Forms.{form_of}
use Rattle.problem_text.specs.TypedTerms.{Typed}
use Rattle.problem_text.specs.Scripts.{Macro, Script, with_macro, with_assertion}
use Rattle.problem_text.specs.Limits.{limited}
use Rattle.problem_text.specs.Names.{Place, itself}
use Rattle.problem_text.specs.Terms.{read_term}
use Rattle.problem_text.specs.Problems.{StandsForProblem}
use Rattle.problem_text.specs.Soundness.{IsReadWithin, IsRead, AreBoundSorted, IsSound}
use Rattle.problem_text.proofs.Outcomes.{Ends}
use Rattle.problem_text.proofs.Readings.{term-sound}
use Rattle.problem_text.proofs.KeptByCommands.{problem-kept}

-- the script has the same named terms, macros and assertions
same_terms : (s after : Script) → s.named ≡ after.named → s.macros ≡ after.macros → s.assertions ≡ after.assertions → IsSound s → IsSound after
same_terms s after e f g sound = record {
  named = subst (AllByRecursion (λ n. IsOf n.meant.tree n.meant.sort)) e sound.named;
  macros = subst (AllByRecursion (λ m. IsOf m.body m.target)) f sound.macros;
  assertions = subst (AllByRecursion (λ t. IsRead (record { tree = t; sort = Sort.Bool }))) g sound.assertions;
}

parameters-sorted : (xs : List Var) → AreBoundSorted (map itself xs)
parameters-sorted [] = tt
parameters-sorted (x ∷ xs) = (refl, parameters-sorted xs)

pub read-sound : (i : Item) (p : Place) (s : Script) → AreBoundSorted p.scope → IsSound s → Ends IsSound (IsReadWithin p.settings.limit) (read_term i p s)
read-sound i p s sorted sound = term-sound (form_of i) p s sorted sound

macro_added : (m : Macro) (t : Typed) (s : Script) → IsSound s → IsRead t → m.body ≡ t.tree → t.sort ≡ m.target → IsSound (with_macro m s)
macro_added m t s sound read same sort = record {
  named = sound.named;
  assertions = sound.assertions;
  macros = all_at_end (λ m. IsOf m.body m.target) s.macros m sound.macros (subst (λ b. IsOf b m.target) (sym same) (subst (IsOf t.tree) sort read.sorted));
}

assertion_added : (t : Typed) (s : Script) → IsSound s → IsRead t → t.sort ≡ Sort.Bool → IsSound (with_assertion t.tree s)
assertion_added t s sound read sort = record {
  named = sound.named;
  macros = sound.macros;
  assertions = all_at_end (λ t. IsRead (record { tree = t; sort = Sort.Bool })) s.assertions t.tree sound.assertions (record { sorted = subst (IsOf t.tree) sort read.sorted; low = read.low });
}

pub problem-sound : (source : List ℕ) (replaces : Bool) (s : Script) → StandsForProblem source replaces s → IsSound s
problem-sound source replaces s h =
    problem-kept IsSound replaces same_terms (λ xs t. IsRead t) IsRead (λ xs i s sound. read-sound i (record { scope = map itself xs; settings = limited true }) s (parameters-sorted xs) sound)
    (λ i s sound. read-sound i (record { scope = []; settings = limited replaces }) s tt sound) macro_added assertion_added source s h (record { named = tt; macros = tt; assertions = tt })

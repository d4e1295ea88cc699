-- Where lets are replaced, no assertion has one, and no body of a macro ever has one.
use Rattle.std.proofs.Common.{◌≡◌, ℕ, List, [], map, Bool, true, IfSome, find, bytes_eq, refl, sym, subst}
use Rattle.std.specs.List.{AllByRecursion}
use Rattle.sexpr.specs.Items.{Item}
use Rattle.term_model.specs.declared.symbols.Sort.{Sort}
use Rattle.term_model.proofs.Lists.{all_at_end}
use Rattle.problem_text.specs.Forms.{form_of}
use Rattle.rule_model.specs.Replacement.{HasNoLet}
use Rattle.problem_text.specs.TypedTerms.{Typed}
use Rattle.problem_text.specs.Scripts.{Macro, Script, with_macro, with_assertion}
use Rattle.problem_text.specs.Limits.{limited}
use Rattle.problem_text.specs.Names.{Place, itself}
use Rattle.problem_text.specs.Terms.{read_term}
use Rattle.problem_text.specs.Problems.{StandsForProblem}
use Rattle.problem_text.specs.Soundness.{HasNoLets}
use Rattle.problem_text.proofs.Outcomes.{Ends, if_found}
use Rattle.problem_text.proofs.LetFreeTerms.{IsFreeIn, AreBoundFree, parameters-free, term-free}
use Rattle.problem_text.proofs.KeptByCommands.{problem-kept}

module _ (replaces : Bool) where
  -- No body of a macro has a let, nor has an assertion where lets are replaced.
  abbrev ArePlain : Script → Type 0
  ArePlain s = AllByRecursion (λ m. HasNoLet m.body) s.macros × (replaces ≡ true → AllByRecursion HasNoLet s.assertions)

  plain_found : (s : Script) (name : List ℕ) → ArePlain s → IfSome (find (λ m. bytes_eq m.name name) s.macros) (λ m. HasNoLet m.body)
  plain_found s name plain = if_found (λ m. HasNoLet m.body) (λ m. bytes_eq m.name name) s.macros plain.0

  read-free : (i : Item) (p : Place) (s : Script) → AreBoundFree p p.scope → ArePlain s → Ends ArePlain (IsFreeIn p) (read_term i p s)
  read-free i p s h plain = term-free ArePlain plain_found (λ t s h. h) (λ n s h. h) (λ n s h. h) (form_of i) p s h plain

  same_plain : (s after : Script) → s.named ≡ after.named → s.macros ≡ after.macros → s.assertions ≡ after.assertions → ArePlain s → ArePlain after
  same_plain s after e f g h = (subst (AllByRecursion (λ m. HasNoLet m.body)) f h.0, λ so. subst (AllByRecursion HasNoLet) g (h.1 so))

  macro_added : (m : Macro) (t : Typed) (s : Script) → ArePlain s → (true ≡ true → HasNoLet t.tree) → m.body ≡ t.tree → t.sort ≡ m.target → ArePlain (with_macro m s)
  macro_added m t s plain free same sort = (all_at_end (λ m. HasNoLet m.body) s.macros m plain.0 (subst HasNoLet (sym same) (free refl)), plain.1)

  assertion_added : (t : Typed) (s : Script) → ArePlain s → (replaces ≡ true → HasNoLet t.tree) → t.sort ≡ Sort.Bool → ArePlain (with_assertion t.tree s)
  assertion_added t s plain free sort = (plain.0, λ so. all_at_end HasNoLet s.assertions t.tree (plain.1 so) (free so))

  pub problem-free : (source : List ℕ) (s : Script) → StandsForProblem source replaces s → HasNoLets replaces s
  problem-free source s h =
      let plain = problem-kept ArePlain replaces same_plain (λ xs t. true ≡ true → HasNoLet t.tree) (λ t. replaces ≡ true → HasNoLet t.tree)
      (λ xs i s plain. read-free i (record { scope = map itself xs; settings = limited true }) s (λ _. parameters-free xs) plain)
      (λ i s plain. read-free i (record { scope = []; settings = limited replaces }) s (λ _. tt) plain) macro_added assertion_added source s h (tt, λ _. tt) in
      record { macros = plain.0; assertions = plain.1 }

-- Where each command of a proof is met or a hole, each step by la_generic has a list of coefficients.
use Rattle.std.proofs.Common.{◌≡◌, ℕ, suc, ◌<◌, true, Option, Some, None, List, [], ◌∷◌, ◌++◌, length, slice_get, option_map, All, refl, sym, ap, ◌∙◌, subst}
use Rattle.std.specs.List.{AllByRecursion}
use Rattle.std.specs.Option.{option_map_or}
use Rattle.std.proofs.lemmas.Option.{slice_get-map, slice_get_within, get_or_from_slice_get}
use Rattle.term_model.specs.Terms.{Var, Term}
use Rattle.term_model.proofs.Lists.{all_last, nth_there}
use Rattle.rule_model.specs.declared.kinds.Family.{Family}
use Rattle.rule_model.specs.declared.kinds.Kind.{Kind}
use Rattle.rule_model.specs.declared.rules.Mode.{Mode}
use Rattle.rule_model.specs.declared.rules.Rule.{Rule}
use Rattle.rule_model.specs.declared.statuses.Status.{Status}
use Rattle.rule_model.specs.Arith.{MeetsLaGeneric}
use Rattle.rule_model.specs.Commands.{Line, lines_in, Entry, entry_of, entries}
use Rattle.rule_model.specs.Conditions.{row_of, MeetsRule, MeetsWhere}
use Rattle.rule_model.specs.Judged.{Judged, judged_at}
use Rattle.rule_model.specs.Proofs.{ProofItems, no_items, with_assume, with_step, with_subproof}
use Rattle.rule_model.specs.Reading.{step_of, rule_of, ratios_of, rule_at, ratios_at}
use Rattle.rule_model.specs.Scopes.{Nesting, outermost, inner}
use Rattle.rule_model.specs.Statuses.{Checking, kind_of_rule, IsStatusBy, AreStatuses, Passes}
use Rattle.rule_model.proofs.Numbers.{lines_in_count}
use Rattle.alethe_text.specs.Arguments.{takes_coefficients}
use Rattle.readable_proofs.specs.ProofsOver.{HasRatios, HaveRatios}

is_la_generic : (r : Rule) → takes_coefficients r ≡ true → r ≡ Rule.LaGeneric
is_la_generic Rule.LaGeneric e = refl
is_la_generic _ e = absurd (cc)

-- the condition has them
met_given : (mode : Mode) (proof : ProofItems Var Term) (i : ℕ) (closes : Option ℕ) → MeetsWhere mode proof i closes → rule_at proof i ≡ Rule.LaGeneric
    → ratios_at proof i ≡ None → ⊥
met_given mode proof i None h e none =
    let j : Judged = judged_at mode proof i in
    let met : MeetsLaGeneric j.ratios j.premises j.clause = subst (λ r. MeetsRule r j) e h in
    let given = met.form.given in absurd (cc)
met_given mode proof i (Some k) h e none = subst (λ r. (row_of r).closes mode proof i k) e h

status_given : (c : Checking) (proof : ProofItems Var Term) (i : ℕ) (status : Status) → Passes status
    → IsStatusBy (Kind.Judged Family.Arith) c proof i status → rule_at proof i ≡ Rule.LaGeneric → ratios_at proof i ≡ None → ⊥
status_given c proof i Status.Ok pass h e none = met_given c.mode proof i _ h.1 e none
status_given c proof i Status.Hole pass h e none = h
status_given c proof i Status.Wide pass h e none = pass
status_given c proof i (Status.Faulty cause) pass h e none = pass

module _ (c : Checking) (proof : ProofItems Var Term) (statuses : List Status) (are : AreStatuses c proof statuses) (pass : All Passes statuses) where
  line_given : (i : ℕ) (l : Line Var Term) → slice_get (lines_in outermost proof) i ≡ Some l → HasRatios (step_of l.command)
  line_given i l here takes none =
      let entry : slice_get (entries proof) i ≡ Some (entry_of l) =
      slice_get-map entry_of (lines_in outermost proof) i ∙ ap (option_map entry_of) here in
      let rule_is : rule_at proof i ≡ Rule.LaGeneric =
      ap (λ o. option_map_or (λ (e : Entry Term). rule_of e.command) o Rule.Unknown) entry ∙ is_la_generic (rule_of l.command) takes in
      let ratios_are : ratios_at proof i ≡ None = ap (λ o. option_map_or (λ (e : Entry Term). ratios_of e.command) o None) entry ∙ none in
      let many : length statuses ≡ length (lines_in outermost proof) = are.count ∙ sym (lines_in_count outermost proof) in
      let low : i < length statuses = subst (λ n. i < n) (sym many) (slice_get_within (lines_in outermost proof) i l here) in
      let (status, there) = nth_there statuses i low in
      let passes : Passes status = subst Passes (get_or_from_slice_get statuses i status status there) (pass i status low) in
      let is = subst (λ r. IsStatusBy (kind_of_rule c r) c proof i status) rule_is (are.each i status there) in
      status_given c proof i status passes is rule_is ratios_are

all_by_index : {X : Type 0} (P : X → Type 0) (xs : List X) → ((i : ℕ) (x : X) → slice_get xs i ≡ Some x → P x) → AllByRecursion P xs
all_by_index P [] h = tt
all_by_index P (x ∷ xs) h = (h 0 x refl, all_by_index P xs (λ i y e. h (suc i) y e))

all_front : {X : Type 0} (P : X → Type 0) (xs ys : List X) → AllByRecursion P (xs ++ ys) → AllByRecursion P xs
all_front P [] ys h = tt
all_front P (x ∷ xs) ys h = (h.0, all_front P xs ys h.1)

all_back : {X : Type 0} (P : X → Type 0) (xs ys : List X) → AllByRecursion P (xs ++ ys) → AllByRecursion P ys
all_back P [] ys h = h
all_back P (x ∷ xs) ys h = all_back P xs ys h.1

abbrev IsGiven : Line Var Term → Type 0
IsGiven l = HasRatios (step_of l.command)

items_given : (nesting : Nesting Var Term) (items : ProofItems Var Term) → AllByRecursion IsGiven (lines_in nesting items) → HaveRatios items
items_given nesting no_items h = tt
items_given nesting (with_assume items id t) h = items_given nesting items (all_front IsGiven (lines_in nesting items) _ h)
items_given nesting (with_step items s) h =
    (items_given nesting items (all_front IsGiven (lines_in nesting items) _ h), all_last IsGiven (lines_in nesting items) _ h)
items_given nesting (with_subproof items bindings proof s) h =
    let inside = lines_in (inner nesting items bindings s) proof in
    let both = all_front IsGiven (lines_in nesting items ++ inside) _ h in (
      items_given nesting items (all_front IsGiven (lines_in nesting items) inside both),
      items_given (inner nesting items bindings s) proof (all_back IsGiven (lines_in nesting items) inside both),
      all_last IsGiven (lines_in nesting items ++ inside) _ h,
    )

pub proof_given : (c : Checking) (proof : ProofItems Var Term) (statuses : List Status) → AreStatuses c proof statuses → All Passes statuses
    → HaveRatios proof
proof_given c proof statuses are pass =
    items_given outermost proof (all_by_index IsGiven (lines_in outermost proof) (λ i l here. line_given c proof statuses are pass i l here))

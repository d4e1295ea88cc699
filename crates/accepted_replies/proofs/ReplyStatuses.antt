-- Private. Each command of a reply is Ok, where what it assumes is asserted and the step is met.
use Rattle.std.proofs.Common.{◌≡◌, ◌⊎◌, inl, inr, ℕ, zero, suc, ◌+◌, ◌<◌, ◌≤◌, ◌-◌, Bool, Option, Some, None, List, [], ◌∷◌, ◌++◌, map, length, All, Contains}
use Rattle.std.proofs.Common.{slice_get, replicate, refl, sym, ap, ◌∙◌, subst, arith}
use Rattle.std.specs.Prelude.{Any}
use Rattle.std.specs.List.{AllByRecursion}
use Rattle.std.specs.Option.{option_map, option_map_or}
use Rattle.std.proofs.lemmas.List.Elements.{All-from_recursion}
use Rattle.std.proofs.lemmas.Option.{slice_get-map, slice_get_within}
use Rattle.term_model.specs.Flips.{EqualUpToFlips, same}
use Rattle.term_model.specs.Terms.{Var, Term}
use Rattle.term_model.proofs.Lists.{nth_there}
use Rattle.rule_model.specs.declared.kinds.Family.{Family}
use Rattle.rule_model.specs.declared.kinds.Kind.{Kind}
use Rattle.rule_model.specs.declared.rules.Mode.{Mode}
use Rattle.rule_model.specs.declared.rules.Rule.{Rule}
use Rattle.rule_model.specs.declared.statuses.Status.{Status}
use Rattle.rule_model.specs.Commands.{Line, Entry, assume, step, lines_in, entries, entry_of, closed_scope}
use Rattle.rule_model.specs.Conditions.{Met, IsTooWide, IsTooWideWhere, MeetsWhere, IsTooWideAt, IsMetAt}
use Rattle.rule_model.specs.Judged.{Judged, judged_at, open_anchors}
use Rattle.rule_model.specs.Proofs.{Fraction, Step, ProofItems, no_items}
use Rattle.rule_model.specs.Reading.{rule_of, clause_of, premises_of, pivots_of, ratios_of, rule_at, clause_at, premises_at, pivots_at, ratios_at, closes_at}
use Rattle.rule_model.specs.RuleNames.{kind_of, IsJudged}
use Rattle.rule_model.specs.Scopes.{outermost, commands_in}
use Rattle.rule_model.specs.Statuses.{Checking, IsAsserted, kind_under, kind_of_rule, IsStatusBy, IsStatusAt, AreStatuses, ReachesEmpty}
use Rattle.rule_model.proofs.LineReading.{rule_is, clause_is, premises_are, closes_is, anchors_are, scope_is}
use Rattle.rule_model.proofs.Lines.{get_append, get_one}
use Rattle.rule_model.proofs.Numbers.{lines_in_count}
use Rattle.rule_model.proofs.Standing.{all_at}
use Rattle.accepted_replies.specs.Replies.{Inference, numbers_from, assumes_behind, inferring, resolving, reply_of, judged_inference, MayInfer, IsNegation}
use Rattle.accepted_replies.proofs.ReplyLines.{lines_assumed, IsAssumeOf, lines_are, clauses_assumed, step_line, last_line, count_before}
use Rattle.accepted_replies.proofs.ReplyLines.{assume_at, step_at, last_at, count}
use Rattle.accepted_replies.proofs.UnitResolution.{units_of, empty_follows}

-- what the rule of a step of the outermost scope looks at
abbrev judged_step : ProofItems Var Term → Step Term → Judged
judged_step proof s = record {
  mode = Mode.Check;
  rule = s.rule;
  clause = s.clause;
  premises = map (clause_at proof) s.premises;
  pivots = s.pivots;
  ratios = s.ratios;
  anchors = [];
}

abbrev looked_at : Rule → List Term → List (List Term) → List (Term × Bool) → Option (List Fraction) → List (List (Var × Term)) → Judged
looked_at rule clause premises pivots ratios anchors = record {
  mode = Mode.Check;
  rule = rule;
  clause = clause;
  premises = premises;
  pivots = pivots;
  ratios = ratios;
  anchors = anchors;
}

module _ (unknown : Bool) (assertions : List Term) where
  abbrev in_check : Checking
  in_check = record { mode = Mode.Check; unknown_are_holes = unknown; assertions = assertions }

  module _ (proof : ProofItems Var Term) (i : ℕ) (l : Line Var Term) (here : slice_get (lines_in outermost proof) i ≡ Some l)
      (outer : l.scope.nesting ≡ outermost) where
    assume_ok : (id : List ℕ) (t : Term) → l.command ≡ assume id t → Contains assertions t → IsStatusAt in_check proof i Status.Ok
    assume_ok id t is there =
        let rule : rule_at proof i ≡ Rule.Assume = rule_is proof i l here ∙ ap rule_of is in
        let clause : clause_at proof i ≡ t ∷ [] = clause_is proof i l here ∙ ap clause_of is in
        let found : Any (λ a. EqualUpToFlips a t) assertions = (there.0, t, there.1, there.2, same t) in
        subst (λ r. IsStatusBy (kind_of_rule in_check r) in_check proof i Status.Ok) (sym rule)
        (λ outermost_here. subst (All (IsAsserted Mode.Check assertions)) (sym clause)
        (All-from_recursion (IsAsserted Mode.Check assertions) (t ∷ []) (found, tt)))

    entry_here : slice_get (entries proof) i ≡ Some (entry_of l)
    entry_here = slice_get-map entry_of (lines_in outermost proof) i ∙ ap (option_map entry_of) here

    looks_at : (s : Step Term) → l.command ≡ step s → judged_at Mode.Check proof i ≡ judged_step proof s
    looks_at s is =
        let rule : rule_at proof i ≡ s.rule = rule_is proof i l here ∙ ap rule_of is in
        let clause : clause_at proof i ≡ s.clause = clause_is proof i l here ∙ ap clause_of is in
        let premises : premises_at proof i ≡ s.premises = premises_are proof i l here ∙ ap premises_of is in
        let pivots : pivots_at proof i ≡ s.pivots =
        ap (λ e. option_map_or (λ (e : Entry Term). pivots_of e.command) e []) entry_here ∙ ap pivots_of is in
        let ratios : ratios_at proof i ≡ s.ratios =
        ap (λ e. option_map_or (λ (e : Entry Term). ratios_of e.command) e None) entry_here ∙ ap ratios_of is in
        let judged = judged_at Mode.Check proof i in
        ap (λ r. looked_at r judged.clause judged.premises judged.pivots judged.ratios judged.anchors) rule
        ∙ (ap (λ c. looked_at s.rule c judged.premises judged.pivots judged.ratios judged.anchors) clause
        ∙ (ap (λ ps. looked_at s.rule s.clause (map (clause_at proof) ps) judged.pivots judged.ratios judged.anchors) premises
        ∙ (ap (λ ps. looked_at s.rule s.clause (map (clause_at proof) s.premises) ps judged.ratios judged.anchors) pivots
        ∙ (ap (λ qs. looked_at s.rule s.clause (map (clause_at proof) s.premises) s.pivots qs judged.anchors) ratios
        ∙ ap (λ xs. looked_at s.rule s.clause (map (clause_at proof) s.premises) s.pivots s.ratios xs)
        (anchors_are proof i l here ∙ ap open_anchors outer)))))

    step_ok : (s : Step Term) → l.command ≡ step s → IsJudged (kind_of s.rule) → Met (judged_step proof s) → ¬ IsTooWide (judged_step proof s)
        → IsStatusAt in_check proof i Status.Ok
    step_ok s is judged met narrow =
        let rule : rule_at proof i ≡ s.rule = rule_is proof i l here ∙ ap rule_of is in
        let kind : kind_of_rule in_check (rule_at proof i) ≡ Kind.Judged judged.family =
        ap (λ r. kind_under unknown (kind_of r)) rule ∙ ap (kind_under unknown) judged.is in
        let closes : closes_at proof i ≡ None = closes_is proof i l here ∙ ap (closed_scope l.scope.nesting) is in
        let looks = looks_at s is in
        let met_here : IsMetAt Mode.Check proof i =
        subst (MeetsWhere Mode.Check proof i) (sym closes) (subst Met (sym looks) met) in
        let narrow_here : ¬ IsTooWideAt Mode.Check proof i =
        λ wide. narrow (subst IsTooWide looks (subst (IsTooWideWhere Mode.Check proof i) closes wide)) in
        subst (λ k. IsStatusBy k in_check proof i Status.Ok) (sym kind) (narrow_here, met_here)

-- which command stands at an index
module _ (assumed : List Term) (x : Inference Term) where
  abbrev whole : ProofItems Var Term
  whole = reply_of assumed x

  abbrev before : ProofItems Var Term
  before = assumes_behind no_items assumed

  abbrev IsKnownAt : ℕ → Line Var Term → Type 0
  IsKnownAt i l = IsAssumeOf assumed l ⊎ (((i ≡ length assumed) × (step_line Var assumed x ≡ l)) ⊎ ((i ≡ suc (length assumed)) × (last_line Var assumed x ≡ l)))

  before_are : AllByRecursion (IsAssumeOf assumed) (lines_in outermost before)
  before_are = subst (AllByRecursion (IsAssumeOf assumed)) (sym (lines_assumed no_items assumed)) (lines_are no_items assumed)

  before_count : length (lines_in outermost before) ≡ length assumed
  before_count = lines_in_count outermost before ∙ count_before Var assumed x

  two_count : (xs : List (Line Var Term)) (y : Line Var Term) → length (xs ++ y ∷ []) ≡ suc (length xs)
  two_count [] y = refl
  two_count (x ∷ xs) y = ap suc (two_count xs y)

  known : (i : ℕ) (l : Line Var Term) → slice_get (lines_in outermost whole) i ≡ Some l → IsKnownAt i l
  known i l e = outer (get_append (lines_in outermost before ++ step_line Var assumed x ∷ []) (last_line Var assumed x ∷ []) i l e)
    where
      counted : length (lines_in outermost before ++ step_line Var assumed x ∷ []) ≡ suc (length (lines_in outermost before))
      counted = two_count (lines_in outermost before) (step_line Var assumed x)

      inner : i < length (lines_in outermost before ++ step_line Var assumed x ∷ [])
          → ((i < length (lines_in outermost before)) × (slice_get (lines_in outermost before) i ≡ Some l))
          ⊎ ((length (lines_in outermost before) ≤ i) × (slice_get (step_line Var assumed x ∷ []) (i - length (lines_in outermost before)) ≡ Some l)) →
          IsKnownAt i l
      inner less (inl p) = inl (all_at (IsAssumeOf assumed) (lines_in outermost before) i l before_are p.1)
      inner less (inr p) =
          let here = get_one (step_line Var assumed x) (i - length (lines_in outermost before)) l p.1 in
          let first = p.0 in let many = before_count in let all = counted in
          inr (inl (omega (arith, first, many, all, less), here.1))

      outer : ((i < length (lines_in outermost before ++ step_line Var assumed x ∷ []))
          × (slice_get (lines_in outermost before ++ step_line Var assumed x ∷ []) i ≡ Some l))
          ⊎ ((length (lines_in outermost before ++ step_line Var assumed x ∷ []) ≤ i)
          × (slice_get (last_line Var assumed x ∷ []) (i - length (lines_in outermost before ++ step_line Var assumed x ∷ [])) ≡ Some l)) → IsKnownAt i l
      outer (inl p) = inner p.0 (get_append (lines_in outermost before) (step_line Var assumed x ∷ []) i l p.1)
      outer (inr p) =
          let here = get_one (last_line Var assumed x) (i - length (lines_in outermost before ++ step_line Var assumed x ∷ [])) l p.1 in
          let first = p.0 in let zero_here = here.0 in let many = before_count in let all = counted in
          inr (inr (omega (arith, first, zero_here, many, all), here.1))

  -- the clauses of the premises of the last step
  premises_given : map (clause_at whole) (resolving {T = Term} (length assumed)).premises ≡ x.clause ∷ units_of assumed
  premises_given =
      ap (λ c. c ∷ map (clause_at whole) (numbers_from 0 (length assumed))) (clause_is whole (length assumed) (step_line Var assumed x) (step_at Var assumed x))
      ∙ ap (λ cs. x.clause ∷ cs) (clauses_assumed whole no_items assumed 0
      (λ j l e. let same : j ≡ 0 + j = omega arith in
      subst (λ n. slice_get (lines_in outermost whole) n ≡ Some l) same (assume_at Var assumed x j l e)))

  only_ok : (n i : ℕ) (status : Status) → slice_get (replicate n Status.Ok) i ≡ Some status → Status.Ok ≡ status
  only_ok zero i status e = absurd (cc)
  only_ok (suc n) zero status e = cc
  only_ok (suc n) (suc i) status e = only_ok n i status e

  replicated : (n : ℕ) → length (replicate n Status.Ok) ≡ n
  replicated zero = refl
  replicated (suc n) = ap suc (replicated n)

  module _ (unknown : Bool) (assertions : List Term) (asserted : (t : Term) → Contains assumed t → Contains assertions t)
      (denied : AllByRecursion (λ l. Any (λ t. IsNegation t l) assumed) x.clause) (may : MayInfer x) (met : Met (judged_inference x))
      (narrow : ¬ IsTooWide (judged_inference x)) where
    ok_at : (i : ℕ) (l : Line Var Term) → slice_get (lines_in outermost whole) i ≡ Some l → IsStatusAt (in_check unknown assertions) whole i Status.Ok
    ok_at i l here = go (known i l here)
      where
        go : IsKnownAt i l → IsStatusAt (in_check unknown assertions) whole i Status.Ok
        go (inl is) = assume_ok unknown assertions whole i l here is.outer is.id is.term is.is (asserted is.term is.among)
        go (inr (inl (e, is))) =
            let there = subst (λ m. slice_get (lines_in outermost whole) i ≡ Some m) (sym is) here in
            step_ok unknown assertions whole i (step_line Var assumed x) there refl (inferring (length assumed) x) refl may.judged met narrow
        go (inr (inr (e, is))) =
            let there = subst (λ m. slice_get (lines_in outermost whole) i ≡ Some m) (sym is) here in
            step_ok unknown assertions whole i (last_line Var assumed x) there refl (resolving (length assumed)) refl
            (record { family = Family.Resolution; is = refl })
            (subst (λ ps. Met (looked_at Rule.Resolution [] ps [] None [])) (sym premises_given) (empty_follows x.clause assumed denied)) (λ wide. wide)

    pub all_ok : AreStatuses (in_check unknown assertions) whole (replicate (commands_in whole) Status.Ok)
    all_ok = record {
      count = replicated (commands_in whole);
      each = λ i status e.
          let less : i < length (replicate (commands_in whole) Status.Ok) = slice_get_within (replicate (commands_in whole) Status.Ok) i status e in
          let many = replicated (commands_in whole) in
          let lines = lines_in_count outermost whole in
          let there = nth_there (lines_in outermost whole) i (omega (arith, less, many, lines)) in
          subst (IsStatusAt (in_check unknown assertions) whole i) (only_ok (commands_in whole) i status e) (ok_at i there.0 there.1);
    }

  pub reaches : ReachesEmpty whole
  reaches = record {
    index = suc (length assumed);
    within = let all = count Var assumed x in omega (arith, all);
    scope = scope_is whole (suc (length assumed)) (last_line Var assumed x) (last_at Var assumed x);
    empty = clause_is whole (suc (length assumed)) (last_line Var assumed x) (last_at Var assumed x);
  }

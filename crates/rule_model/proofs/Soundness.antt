-- Soundness over nesting, by induction on the place in the file. A step that closes a scope leaves it: what was true there
-- is true outside, where its condition is met.
use Rattle.std.proofs.Common.{◌≡◌, ◌<◌, ◌⊎◌, inl, inr, ℕ, zero, suc, Bool, true, false, List, [], ◌∷◌, ◌++◌, map, flat_map, take, slice_get, Option, Some, None, IfSome, All, Contains, refl, sym, ◌∙◌, ap, subst, arith}
use Rattle.std.specs.List.{AllByRecursion}
use Rattle.std.proofs.lemmas.List.Elements.{All-contains, All-contains_itself, All-map, All-from_recursion}
use Rattle.std.proofs.lemmas.Option.{slice_get_within}
use Rattle.term_model.specs.Flips.{equality}
use Rattle.term_model.specs.FreeVariables.{variables_of, bound_terms}
use Rattle.term_model.specs.Interpretations.{Interpretation}
use Rattle.term_model.specs.Meaning.{value}
use Rattle.term_model.specs.Terms.{Var, Term, let_in}
use Rattle.term_model.specs.Unsatisfiable.{MakesTrue, MakesAllTrue}
use Rattle.term_model.proofs.Basics.{any_here}
use Rattle.term_model.proofs.Flips.{flips_value}
use Rattle.term_model.proofs.Meanings.{equality_is}
use Rattle.term_model.proofs.Lists.{slice_get-left, all_joined, all_last}
use Rattle.rule_model.specs.declared.kinds.Kind.{Kind}
use Rattle.rule_model.specs.declared.rules.Mode.{Mode}
use Rattle.rule_model.specs.declared.rules.Rule.{Rule}
use Rattle.rule_model.specs.declared.statuses.Status.{Status}
use Rattle.rule_model.specs.Clauses.{MakesClauseTrue}
use Rattle.rule_model.specs.Subproof.{AreLinkedTo, IsAssumeIn, IsSubproof, IsLetClosing, EndsIn}
use Rattle.rule_model.specs.Commands.{IndexedCommand, assume, step, closing, Line, lines_in, lines_around, lines_to, own_scope}
use Rattle.rule_model.specs.Conditions.{Met, MeetsClosing, MeetsWhere, IsMetAt, IsClauseOfTruths}
use Rattle.rule_model.specs.Contexts.{context_values, IsInContext}
use Rattle.rule_model.specs.Judged.{judged_at, open_anchors, anchors_at}
use Rattle.rule_model.specs.Proofs.{Step, ProofItems, no_items, with_assume, with_step, with_subproof}
use Rattle.rule_model.specs.Reading.{rule_of, clause_of, premises_of, rule_at, clause_at, premises_at, discharged_at, is_assume}
use Rattle.rule_model.specs.RuleNames.{kind_of}
use Rattle.rule_model.specs.Scopes.{Anchor, Nesting, outermost, inside, Scope, at, inner, scope_number}
use Rattle.rule_model.specs.Soundness.{IsJustified, AreJustifiedTo}
use Rattle.rule_model.specs.Statuses.{Checking, IsAsserted, kind_under, kind_of_rule, IsStatusBy, IsStatusAt}
use Rattle.rule_model.specs.Truth.{assumed_in, open_assumes, IsTrueWhere, IsTrueCommand, IsTrueAt, FollowsWhere, FollowsAt, IsLiteralIn, AreWellSorted, IsWellSortedProof}
use Rattle.rule_model.specs.Visibility.{visible}
use Rattle.rule_model.specs.WellFormed.{HasRule, AreWellFormed, IsWellFormed}
use Rattle.rule_model.specs.Writing.{add_command, MayAddHere}
use Rattle.rule_model.proofs.Subproof.{subproof_keeps, let_value, not_replaced, unit_true}
use Rattle.rule_model.proofs.ConditionLaws.{met_keeps}
use Rattle.rule_model.proofs.ContextLaws.{anchor_binds, anchor_keeps_others}
use Rattle.rule_model.proofs.LineReading.{rule_is, clause_is, premises_are, scope_is, closes_is, anchors_are, bindings_are, last_is}
use Rattle.rule_model.proofs.Lines.{lines_before}
use Rattle.rule_model.proofs.RuleWords.{named_no_assume}
use Rattle.rule_model.proofs.ScopedTruth.{IsGood, good_nested, context_fits, values_in, Holds, holds_inside, holds_front, true_inside, all_changed, all_back}
use Rattle.rule_model.proofs.Sights.{whole, step_more, subproof_more, Opens, IsSeen, Assumes, visible_seen, last_seen, assumed_seen}
use Rattle.rule_model.proofs.Standing.{all_at, command_may, slice_get_taken, taken_few}

-- what is well formed and well sorted around a line, and its literals
record GoodLine (l : Line Var Term) : Type 0 where
  around : IsGood l.scope.nesting
  literals : AllByRecursion (IsLiteralIn (add_command l.scope l.command).nesting) (clause_of l.command)

lines_good : (nesting : Nesting Var Term) (items : ProofItems Var Term) → IsGood nesting → AreWellFormed nesting items → AreWellSorted nesting items → AllByRecursion GoodLine (lines_in nesting items)
lines_good nesting no_items good formed sorted = tt
lines_good nesting (with_assume items id t) good formed sorted =
    all_joined _ (lines_in nesting items) _ (lines_good nesting items good formed.0 sorted.0) (record { around = good; literals = (sorted.1, tt) }, tt)
lines_good nesting (with_step items s) good formed sorted =
    all_joined _ (lines_in nesting items) _ (lines_good nesting items good formed.0 sorted.0) (record { around = good; literals = sorted.1 }, tt)
lines_good nesting (with_subproof items bindings proof s) good formed sorted =
    let deep : IsGood (inner nesting items bindings s) = (good, sorted.0, sorted.1, formed.1) in
    all_joined _ (lines_in nesting items ++ lines_in (inner nesting items bindings s) proof) _
    (all_joined _ (lines_in nesting items) _ (lines_good nesting items good formed.0 sorted.0) (lines_good (inner nesting items bindings s) proof deep formed.2 sorted.2))
    (record { around = deep; literals = sorted.3 }, tt)

-- a status Ok of a step is that its condition is met
not_assumed : (c : Checking) (rule : Rule) → is_assume rule ≡ false → kind_of_rule c rule ≡ Kind.Assumed → ⊥
not_assumed c rule n e = only rule n (never c.unknown_are_holes (kind_of rule) e)
  where
    never : (b : Bool) (kind : Kind) → kind_under b kind ≡ Kind.Assumed → kind ≡ Kind.Assumed
    never b Kind.Assumed e = refl
    never true Kind.Unknown e = absurd cc
    never false Kind.Unknown e = absurd cc
    never b Kind.Hole e = absurd cc
    never b (Kind.Judged family) e = absurd cc

    only : (rule : Rule) → is_assume rule ≡ false → kind_of rule ≡ Kind.Assumed → ⊥
    only Rule.Assume n e = absurd cc
    only rule n e = absurd cc

ok_met : (k : Kind) (c : Checking) (proof : ProofItems Var Term) (i : ℕ) → ¬ (k ≡ Kind.Assumed) → IsStatusBy k c proof i Status.Ok → IsMetAt c.mode proof i
ok_met Kind.Assumed c proof i n h = absurd (n refl)
ok_met Kind.Hole c proof i n h = absurd h
ok_met Kind.Unknown c proof i n h = absurd h
ok_met (Kind.Judged family) c proof i n h = h.1

-- what is asserted is true where the assertions are
asserted_true : (I : Interpretation) (mode : Mode) (assertions : List Term) (t : Term) → MakesAllTrue I assertions → IsAsserted mode assertions t → MakesTrue I [] t
asserted_true I Mode.Check assertions t all (k, a, below, same, flips) =
    sym (flips_value I [] a t flips)
    ∙ All-contains (MakesTrue I []) assertions a (All-from_recursion (MakesTrue I []) assertions all) (k, below, same)
asserted_true I Mode.Strict assertions t all has =
    All-contains (MakesTrue I []) assertions t (All-from_recursion (MakesTrue I []) assertions all) has

all_of_part : {X : Type 0} (P : X → Type 0) (f : ℕ → List X) (ds : List ℕ) (j : ℕ) → AllByRecursion P (flat_map f ds) → Contains ds j → AllByRecursion P (f j)
all_of_part P f [] j h (k, below, e) = absurd (omega arith)
all_of_part P f (d ∷ ds) j h (zero, below, e) = subst (λ x. AllByRecursion P (f x)) e (front (f d) h)
  where
    front : (xs : List _) → AllByRecursion P (xs ++ flat_map f ds) → AllByRecursion P xs
    front [] h = tt
    front (x ∷ xs) h = (h.0, front xs h.1)
all_of_part P f (d ∷ ds) j h (suc k, below, e) = all_of_part P f ds j (all_back P (f d) (flat_map f ds) h) (k, omega arith, e)

module _ (c : Checking) (proof : ProofItems Var Term) (formed : IsWellFormed proof) (sorted : IsWellSortedProof proof) where
  abbrev lines : List (Line Var Term)
  lines = lines_in outermost proof

  line_good : (i : ℕ) (l : Line Var Term) → slice_get lines i ≡ Some l → GoodLine l
  line_good i l here = all_at GoodLine lines i l (lines_good outermost proof tt formed sorted) here

  -- the commands before an index are true in their scopes
  abbrev TrueBelow : ℕ → Type 0
  TrueBelow i = (j : ℕ) (m : Line Var Term) → j < i → slice_get lines j ≡ Some m → IsTrueCommand c.assertions m

  module _ (i : ℕ) (l : Line Var Term) (here : slice_get lines i ≡ Some l) (below : TrueBelow i) where
    abbrev nesting : Nesting Var Term
    nesting = l.scope.nesting

    earlier : (j : ℕ) (m : Line Var Term) → slice_get (lines_to l.scope) j ≡ Some m → (j < i) × (slice_get lines j ≡ Some m)
    earlier j m there =
        let taken = subst (λ ls. slice_get ls j ≡ Some m) (lines_before outermost proof i l here) there in
        let within = slice_get_within (take i lines) j m taken in
        let few = taken_few i lines in
        (omega arith, slice_get_taken i lines j m taken)

    -- what can be seen is true where a scope is open
    seen_true : (I : Interpretation) (place : Nesting Var Term) (items : ProofItems Var Term) (j : ℕ) → IsGood place → MakesAllTrue I c.assertions → Holds I place items → IsSeen (Opens place items) (lines_to l.scope) j → MakesClauseTrue I (values_in I place) (clause_at proof j)
    seen_true I place items j good asserted holds (m, there, opens) =
        let before = earlier j m there in
        subst (MakesClauseTrue I (values_in I place)) (sym (clause_is proof j m before.1))
        (true_inside c.assertions I (add_command m.scope m.command) place items (clause_of m.command) opens good asserted holds
        (line_good j m before.1).literals (below j m before.0 before.1))

    -- so are premises
    premises_true : (I : Interpretation) (place : Nesting Var Term) (items : ProofItems Var Term) (premises : List ℕ) → IsGood place → MakesAllTrue I c.assertions → Holds I place items → ((j : ℕ) → Contains premises j → IsSeen (Opens place items) (lines_to l.scope) j) → All (MakesClauseTrue I (values_in I place)) (map (clause_at proof) premises)
    premises_true I place items premises good asserted holds sees =
        All-map (MakesClauseTrue I (values_in I place)) (clause_at proof) premises
        (λ k d within. seen_true I place items _ good asserted holds (sees _ (All-contains_itself premises k d within)))

    -- literals of what can be seen are of Bool
    seen_sorted : (place : Nesting Var Term) (items : ProofItems Var Term) (premises : List ℕ) → ((j : ℕ) → Contains premises j → IsSeen (Opens place items) (lines_to l.scope) j) → All IsClauseOfTruths (map (clause_at proof) premises)
    seen_sorted place items premises sees =
        All-map IsClauseOfTruths (clause_at proof) premises (λ k d within. one _ (sees _ (All-contains_itself premises k d within)))
      where
        one : (j : ℕ) → IsSeen (Opens place items) (lines_to l.scope) j → IsClauseOfTruths (clause_at proof j)
        one j (m, there, opens) =
            let before = earlier j m there in
            subst IsClauseOfTruths (sym (clause_is proof j m before.1))
            (All-from_recursion _ (clause_of m.command) (all_changed _ _ (λ t literal. literal.sort) (clause_of m.command) (line_good j m before.1).literals))

    -- a status Ok is that the condition is met, where the rule is no assume's
    met_of : (s : Step Term) → rule_of l.command ≡ s.rule → HasRule s → IsStatusAt c proof i Status.Ok → IsMetAt c.mode proof i
    met_of s is has ok =
        let no_assume : is_assume (rule_at proof i) ≡ false = ap is_assume (rule_is proof i l here ∙ (is ∙ has.named)) ∙ named_no_assume s.rule_name in
        ok_met (kind_of_rule c (rule_at proof i)) c proof i (not_assumed c (rule_at proof i) no_assume) ok

    -- a command that follows from its premises wherever they are true
    follows_true : FollowsAt c.assertions proof i → (items : ProofItems Var Term) → ((I : Interpretation) → Holds I (add_command l.scope l.command).nesting (add_command l.scope l.command).items → Holds I (add_command l.scope l.command).nesting items) → IsGood (add_command l.scope l.command).nesting → ((j : ℕ) → Contains (premises_of l.command) j → IsSeen (Opens (add_command l.scope l.command).nesting items) (lines_to l.scope) j) → IsTrueCommand c.assertions l
    follows_true follows items narrower good sees I asserted holds =
        let at_line : FollowsWhere c.assertions (add_command l.scope l.command) (map (clause_at proof) (premises_of l.command)) (clause_of l.command) =
        subst (λ o. IfSome o (λ (m : Line Var Term). FollowsWhere c.assertions (add_command m.scope m.command) (map (clause_at proof) (premises_of m.command)) (clause_of m.command))) here follows in
        at_line I asserted holds (premises_true I _ items (premises_of l.command) good asserted (narrower I holds) sees)

    -- a step that closes nothing and meets its rule's condition
    step_met : Met (judged_at c.mode proof i) → (items : ProofItems Var Term) → ((I : Interpretation) → Holds I (add_command l.scope l.command).nesting (add_command l.scope l.command).items → Holds I (add_command l.scope l.command).nesting items) → (add_command l.scope l.command).nesting ≡ l.scope.nesting → ((j : ℕ) → Contains (premises_of l.command) j → IsSeen (Opens (add_command l.scope l.command).nesting items) (lines_to l.scope) j) → IsTrueCommand c.assertions l
    step_met met items narrower own sees I asserted holds =
        let good = subst IsGood (sym own) (line_good i l here).around in
        let place = (add_command l.scope l.command).nesting in
        let anchors : anchors_at proof i ≡ open_anchors place = anchors_are proof i l here ∙ ap open_anchors (sym own) in
        let sees_at : (j : ℕ) → Contains (premises_at proof i) j → IsSeen (Opens place items) (lines_to l.scope) j = λ j has. sees j (subst (λ ps. Contains ps j) (premises_are proof i l here) has) in
        let literals = All-from_recursion _ (clause_of l.command) (all_changed _ _ (λ t literal. literal.sort) (clause_of l.command) (line_good i l here).literals) in
        let nested = good_nested place good in
        subst (MakesClauseTrue I (values_in I place)) (clause_is proof i l here)
        (met_keeps I (values_in I place) (judged_at c.mode proof i) met
        (record {
          clause = subst IsClauseOfTruths (sym (clause_is proof i l here)) literals;
          premises = seen_sorted place items (premises_at proof i) sees_at;
          values = context_fits I place good;
        })
        (λ looks. subst (IsInContext I (values_in I place)) (sym anchors) (record { nested = nested; values = λ x bound. refl }))
        (premises_true I place items (premises_at proof i) good asserted (narrower I holds) sees_at))

  -- a step that closes a scope
  module _ (i : ℕ) (around : Nesting Var Term) (before : ProofItems Var Term) (anchor : Anchor Var Term) (items : ProofItems Var Term) (s : Step Term) (here : slice_get lines i ≡ Some (record { scope = at (inside around before anchor) items; command = closing s })) (below : TrueBelow i) where
    abbrev deep : Nesting Var Term
    deep = inside around before anchor

    abbrev line : Line Var Term
    line = record { scope = at (inside around before anchor) items; command = closing s }

    abbrev closed : ℕ
    closed = scope_number (inside around before anchor)

    good : IsGood (inside around before anchor)
    good = (line_good i line here).around

    -- the clause in which the scope ends is true in it
    end_true : (clause : List Term) → EndsIn proof closed clause → (I : Interpretation) → MakesAllTrue I c.assertions → Holds I deep items → MakesClauseTrue I (values_in I deep) clause
    end_true clause ends I asserted holds =
        subst (MakesClauseTrue I (values_in I deep)) ends.clause_is
        (seen_true i line here below I deep items ends.last good asserted holds
        (last_seen deep items ends.last (sym (last_is proof i line s here refl) ∙ ends.is_last)))

    -- what is assumed directly inside has an index
    abbrev HasIndex : Term → Type 0
    HasIndex t = (j : ℕ) × IsAssumeIn proof i closed j × (clause_at proof j ≡ t ∷ [])

    has_index : (t : Term) (j : ℕ) (m : Line Var Term) → slice_get (lines_to (at deep items)) j ≡ Some m → Assumes deep t m → HasIndex t
    has_index t j m there assumes =
        let place = earlier i line here below j m there in (
          j,
          record {
            before = place.0;
            scope = scope_is proof j m place.1 ∙ (ap (own_scope m.scope.nesting) assumes.is ∙ ap scope_number assumes.own);
            assume = ap is_assume (rule_is proof j m place.1 ∙ ap rule_of assumes.is);
          },
          clause_is proof j m place.1 ∙ ap clause_of assumes.is,
        )

    assumes_have_indices : AllByRecursion HasIndex (assumed_in items)
    assumes_have_indices =
        all_changed _ HasIndex (λ t h. has_index t h.0 h.1.0 h.1.1 h.1.2) (assumed_in items) (assumed_seen deep items)

    -- the step's premises are seen outside
    premise_outside : (j : ℕ) → Contains s.premises j → IsSeen (Opens around before) (lines_to (at deep items)) j
    premise_outside j has =
        let may = command_may proof i line formed here in
        let out = visible_seen around before j (All-contains (Contains (visible around before)) s.premises j may.premises has) in
        (out.0, slice_get-left (lines_around around ++ lines_in around before) (lines_in deep items) j out.0 out.1, out.2)

    -- subproof
    subproof_true : IsSubproof proof i closed → (I : Interpretation) → MakesAllTrue I c.assertions → Holds I around before → MakesClauseTrue I (values_in I around) s.clause
    subproof_true met I asserted holds =
        let nothing : anchor.bindings ≡ [] = sym (bindings_are proof i line s here refl) ∙ met.no_bindings in
        let same : values_in I deep ≡ values_in I around = ap (λ b. context_values I (b ∷ open_anchors around)) nothing in
        subst (MakesClauseTrue I (values_in I around)) (sym met.clause ∙ clause_is proof i line here)
        (subproof_keeps I (values_in I around) (flat_map (clause_at proof) (discharged_at proof i)) met.inner met.end met.ending
        (λ all. subst (λ r. MakesClauseTrue I r met.inner) same
        (end_true met.inner met.ends I asserted
        (holds_inside I around before anchor items good holds
        (all_changed HasIndex (MakesTrue I (values_in I deep))
        (λ t h. subst (λ r. MakesTrue I r t) (sym same)
        (one t h.0 h.2 (all_of_part (MakesTrue I (values_in I around)) (clause_at proof) (discharged_at proof i) h.0 all (met.discharged h.0 h.1))))
        (assumed_in items) assumes_have_indices)))))
      where
        one : (t : Term) (j : ℕ) → clause_at proof j ≡ t ∷ [] → AllByRecursion (MakesTrue I (values_in I around)) (clause_at proof j) → MakesTrue I (values_in I around) t
        one t j e h = (subst (AllByRecursion (MakesTrue I (values_in I around))) e h).0

    -- let
    let_true : IsLetClosing c.mode proof i closed → (I : Interpretation) → MakesAllTrue I c.assertions → Holds I around before → MakesClauseTrue I (values_in I around) s.clause
    let_true met I asserted holds =
        let r = values_in I around in
        let own = bindings_are proof i line s here refl in
        let names : map (λ (b : Var × Term). b.0) anchor.bindings ≡ variables_of met.bindings = ap (map (λ (b : Var × Term). b.0)) (sym own) ∙ met.variables in
        let linked = subst (λ (b : List (Var × Term)). AreLinkedTo c.mode (map (clause_at proof) (premises_at proof i)) (bound_terms met.bindings) (map (λ (b : Var × Term). b.1) b)) own met.linked in
        let premises = premises_true i line here below I around before (premises_at proof i) good.0 asserted holds (λ j has. premise_outside j (subst (λ ps. Contains ps j) (premises_are proof i line here) has)) in
        let none : AllByRecursion (MakesTrue I (values_in I deep)) (assumed_in items) = all_changed HasIndex _ (λ t h. absurd (met.no_assumes h.0 h.1)) (assumed_in items) assumes_have_indices in
        let end = unit_true I (values_in I deep) (equality met.body met.result) (end_true (equality met.body met.result ∷ []) met.ends I asserted (holds_inside I around before anchor items good holds none)) in
        let outer = let_value I r c.mode (map (clause_at proof) (premises_at proof i)) met.bindings met.body anchor.bindings names premises linked in
        let entered = ap (λ v. value I v met.body) (sym (anchor_binds I anchor.bindings (open_anchors around) (good_nested deep good))) in
        let left = anchor_keeps_others I anchor.bindings (open_anchors around) met.result (λ x free. not_replaced anchor.bindings (variables_of met.bindings) met.result x names met.hidden free) in
        subst (MakesClauseTrue I r) (sym met.clause ∙ clause_is proof i line here)
        (any_here (MakesTrue I r) (equality (let_in met.bindings met.body) met.result) []
        ((equality_is I r (let_in met.bindings met.body) met.result).1
        (outer ∙ (entered ∙ ((equality_is I (values_in I deep) met.body met.result).0 end ∙ left)))))

    closing_true : (rule : Rule) → MeetsClosing c.mode rule proof i closed → (I : Interpretation) → MakesAllTrue I c.assertions → Holds I around before → MakesClauseTrue I (values_in I around) s.clause
    closing_true Rule.Subproof met = subproof_true met
    closing_true Rule.Let met = let_true met
    closing_true rule met = absurd met

  -- the step that closes a scope is true outside
  close_true : (i : ℕ) (nesting : Nesting Var Term) (items : ProofItems Var Term) (s : Step Term) → slice_get lines i ≡ Some (record { scope = at nesting items; command = closing s }) → TrueBelow i → MayAddHere (at nesting items) (closing s) → IsJustified c proof i → IsTrueCommand c.assertions (record { scope = at nesting items; command = closing s })
  close_true i outermost items s here below may justified = absurd may
  close_true i (inside around before anchor) items s here below may (inr other) =
      absurd (none (sym (closes_is proof i _ here) ∙ other.0))
    where
      none : {k : ℕ} → Some k ≡ None → ⊥
      none e = cc
  close_true i (inside around before anchor) items s here below may (inl ok) =
      λ I asserted holds.
      closing_true i around before anchor items s here below (rule_at proof i)
      (subst (MeetsWhere c.mode proof i) (closes_is proof i _ here) (met_of i _ here below s refl may.rule ok))
      I asserted (holds_front I around before (with_subproof before anchor.bindings items s) (subproof_more before before anchor.bindings items s (whole before)) holds)

  -- an assume is true where it counts, and outside where it is asserted
  assume_true : (i : ℕ) (nesting : Nesting Var Term) (items : ProofItems Var Term) (id : List ℕ) (t : Term) → slice_get lines i ≡ Some (record { scope = at nesting items; command = assume id t }) → TrueBelow i → IsJustified c proof i → IsTrueWhere c.assertions (at nesting (with_assume items id t)) (t ∷ [])
  assume_true i outermost items id t here below (inl ok) =
      λ I asserted holds.
      let may = subst (λ rule. IsStatusBy (kind_of_rule c rule) c proof i Status.Ok) (rule_is proof i _ here) ok in
      let all = subst (All (IsAsserted c.mode c.assertions)) (clause_is proof i _ here) (may (scope_is proof i _ here)) in
      any_here (MakesTrue I []) t [] (asserted_true I c.mode c.assertions t asserted (all 0 t (omega arith)))
  assume_true i outermost items id t here below (inr other) =
      follows_true i (record { scope = at outermost items; command = assume id t }) here below other.1 items (λ I h. h) tt (λ j has. absurd (let none = has.1 in omega arith))
  assume_true i (inside around before anchor) items id t here below justified =
      λ I asserted holds.
      any_here (MakesTrue I (values_in I (inside around before anchor))) t []
      (all_last _ (assumed_in items) t (all_back _ (open_assumes around before) _ holds))

  -- the command of a line is true in its scope where it is justified
  justified_true : (i : ℕ) (scope : Scope Var Term) (command : IndexedCommand Term) → slice_get lines i ≡ Some (record { scope = scope; command = command }) → TrueBelow i → IsJustified c proof i → IsTrueCommand c.assertions (record { scope = scope; command = command })
  justified_true i scope (assume id t) here below justified = assume_true i scope.nesting scope.items id t here below justified
  justified_true i scope (step s) here below justified =
      let l : Line Var Term = record { scope = scope; command = step s } in
      let may = command_may proof i l formed here in
      let sees : (j : ℕ) → Contains s.premises j → IsSeen (Opens scope.nesting scope.items) (lines_to scope) j = λ j has. visible_seen scope.nesting scope.items j (All-contains (Contains (visible scope.nesting scope.items)) s.premises j may.premises has) in
      let narrower : (I : Interpretation) → Holds I scope.nesting (with_step scope.items s) → Holds I scope.nesting scope.items = λ I holds. holds_front I scope.nesting scope.items (with_step scope.items s) (step_more scope.items scope.items s (whole scope.items)) holds in
      elim justified [
        | inl ok ↦ step_met i l here below (subst (MeetsWhere c.mode proof i) (closes_is proof i l here) (met_of i l here below s refl may.rule ok)) scope.items narrower refl sees
        | inr other ↦ follows_true i l here below other.1 scope.items narrower (line_good i l here).around sees
      ]
  justified_true i scope (closing s) here below justified =
      close_true i scope.nesting scope.items s here below (command_may proof i _ formed here) justified

  -- up to an index, by induction
  true_below : (n : ℕ) → ((j : ℕ) → j < n → IsJustified c proof j) → TrueBelow n
  true_below zero just j m less there = absurd (omega arith)
  true_below (suc n) just j m less there = go (below_or_last j n less) (true_below n (λ k h. just k (omega arith)))
    where
      below_or_last : (j n : ℕ) → j < suc n → (j < n) ⊎ (j ≡ n)
      below_or_last zero zero h = inr refl
      below_or_last zero (suc n) h = inl (omega arith)
      below_or_last (suc j) zero h = absurd (omega arith)
      below_or_last (suc j) (suc n) h = elim (below_or_last j n (omega arith)) [ inl k ↦ inl (omega arith) | inr e ↦ inr (ap suc e) ]

      go : (j < n) ⊎ (j ≡ n) → TrueBelow n → IsTrueCommand c.assertions m
      go (inl h) below = below j m h there
      go (inr e) below = justified_true n m.scope m.command (subst (λ k. slice_get lines k ≡ Some m) e there) below (just n (omega arith))

  pub justified_are_true : (i : ℕ) → AreJustifiedTo c proof i → IsTrueAt c.assertions proof i
  justified_are_true i just = go (slice_get lines i) refl
    where
      go : (o : Option (Line Var Term)) → slice_get lines i ≡ o → IfSome o (IsTrueCommand c.assertions)
      go None e = tt
      go (Some l) e = true_below (suc i) (λ j h. just j (omega arith)) i l (omega arith) e

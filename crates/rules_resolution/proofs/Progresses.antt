-- Propagation goes on, from one premise that is looked at to the next.
use Rattle.std.proofs.Common.{◌≡◌, ◌⊎◌, inl, inr, ⊎_elim, ℕ, ◌+◌, ◌<◌, ◌≤◌, Bool, true, false, List, [], ◌∷◌, ◌++◌, length, get_or, map, refl, sym, ◌∙◌, ap, subst, arith, All, Contains, append_assoc, take, length-append}
use Rattle.std.specs.List.{Any, list_any}
use Rattle.std.proofs.lemmas.List.{append-nil, map-append, get_or_default, get_or_append_left, take_more}
use Rattle.std.proofs.lemmas.List.Elements.{All-contains, Contains-push, Contains-push_cases}
use Rattle.rule_model.specs.Consequence.{literal_at, premise_at, literal_of, IsOnly, IsConflict, IsUnit, Leads, Contradicts}
use Rattle.rule_model.specs.Literals.{negation_of, Entails}
use Rattle.rule_model.specs.declared.literal.Literal.TheVariants.{Plain, Always, Never}
use Rattle.clause_chain.specs.Chaining.{clauses_of}
use Rattle.rules_resolution.specs.Falsity.{same_literal, is_false_in}
use Rattle.rules_resolution.specs.Literal.{Lit}
use Rattle.rules_resolution.specs.declared.occurrence.Occurrence.{Occurrence}
use Rattle.rules_resolution.specs.declared.standing.Standing.{Standing}
use Rattle.rules_resolution.specs.Idle.{IsIdle, IsSettled, AllIdleBelow}
use Rattle.rules_resolution.specs.Occurrence.{literal_in}
use Rattle.rules_resolution.specs.Table.{HasGoal}
use Rattle.rules_resolution.specs.Standing.{open_at, places_at, Advances, AreReady}
use Rattle.rules_resolution.specs.Work.{IsState, falses_of, FalsifiesAll, Falsifies}
use Rattle.rules_resolution.specs.Progress.{PremiseIsDone, IsReadyOr, LeadsOn, IsProgress}
use Rattle.std.specs.Global.{Vec}
use Rattle.std.specs.Prelude.{Option, Some, None, Result, Ok, Err, MatchOption, IfOk, IfSome, OnSome}
use Rattle.pair_pool.specs.declared.stops.Memory.{Memory}
use Rattle.rules_resolution.specs.Trace.{Trace}
use Rattle.rules_resolution.specs.Shows.{Shows}
use Rattle.std.proofs.lemmas.Bool.{cases_lt, or_cases, cases_Bool}
use Rattle.rules_resolution.proofs.Premises.{length-clauses_of, premise_here}
use Rattle.rules_resolution.proofs.Literals.{push_new, push_kept, push_cases, among_place, false_from_test, test_of_false, only-others}
use Rattle.rule_model.proofs.Consequence.{negation_of-negation_of, consequence_sound}
use Rattle.rules_resolution.proofs.Renamings.{shown_follows}
use Rattle.rules_resolution.proofs.Stuck.{nothing_leads}
use Rattle.rules_resolution.proofs.Counts.{conflict_from_none, unit_from_one, idle_from_two, idle_from_settled}

pub advances_trans : (first second third : List Standing) (r s t : List ℕ) → Advances first second r s → Advances second third s t → Advances first third r t
advances_trans first second third r s t a b =
    record {
      size = b.size ∙ a.size;
      each = λ p h. each p h (b.each p (let e = a.size in omega arith));
      kept = λ p c. b.kept p (a.kept p c);
      in_range = λ all. subst (λ (n : ℕ). All (λ p. p < n) t) a.size (b.in_range (subst (λ (n : ℕ). All (λ p. p < n) s) (sym a.size) (a.in_range all)));
      work = (let x = a.work in let y = b.work in omega arith);
    }
  where
    each : (p : ℕ) → p < length first → (2 ≤ open_at third p) ⊎ (Contains t p ⊎ (open_at third p ≡ open_at second p)) → (2 ≤ open_at third p) ⊎ (Contains t p ⊎ (open_at third p ≡ open_at first p))
    each p h (inl two) = inl two
    each p h (inr (inl c)) = inr (inl c)
    each p h (inr (inr same)) =
        ⊎_elim (λ (two : 2 ≤ open_at second p). inl (omega arith))
        (λ other. ⊎_elim (λ c. inr (inl (b.kept p c))) (λ (before : open_at second p ≡ open_at first p). inr (inr (same ∙ before))) other)
        (a.each p h)

-- what is ready stays so
pub ready_advances : (old new : List Standing) (r s : List ℕ) → AreReady old r → Advances old new r s → AreReady new s
ready_advances old new r s ready adv =
    record {
      each = λ p h. (let l : p < length old = (let e = adv.size in omega arith) in each p l (ready.each p l) (adv.each p l));
      in_range = subst (λ (n : ℕ). All (λ p. p < n) s) (sym adv.size) (adv.in_range ready.in_range);
    }
  where
    each : (p : ℕ) → p < length old → (2 ≤ open_at old p) ⊎ Contains r p → (2 ≤ open_at new p) ⊎ (Contains s p ⊎ (open_at new p ≡ open_at old p)) → (2 ≤ open_at new p) ⊎ Contains s p
    each p h before (inl two) = inl two
    each p h before (inr (inl c)) = inr c
    each p h (inl two) (inr (inr same)) = inl (omega arith)
    each p h (inr c) (inr (inr same)) = inr (adv.kept p c)

pub falsifies_more : (goal : List Lit) (i : ℕ) (d : Lit) (table : List Occurrence) (m0 m1 m2 : List Bool) (s0 s1 s2 : List Standing) → i < length goal → FalsifiesAll (take i goal) table m0 s0 m1 s1 → Falsifies (get_or goal i d) table m1 s1 m2 s2 → FalsifiesAll (take (i + 1) goal) table m0 s0 m2 s2
falsifies_more goal i d table m0 m1 m2 s0 s1 s2 h first second premises conclusion falses state =
    subst (λ (ls : List Lit). IsState premises conclusion ls table m2 s2)
    (append_assoc falses (take i goal) (get_or goal i d ∷ []) ∙ ap (λ (ls : List Lit). falses ++ ls) (sym (take_more goal i d h)))
    (second premises conclusion (falses ++ take i goal) (first premises conclusion falses state))

pub falsifies_none : (table : List Occurrence) (m : List Bool) (s : List Standing) → FalsifiesAll [] table m s m s
falsifies_none table m s premises conclusion falses state = subst (λ (ls : List Lit). IsState premises conclusion ls table m s) (sym (append-nil falses)) state

-- a literal of the conclusion that isn't false with its opposite
abbrev pub IsAlone : List Lit → Lit → Type 0
IsAlone goal l = (l ≡ Never) ⊎ (is_false_in goal (negation_of l) ≡ false)

pub alone_from_answer : (goal : List Lit) (table : List Occurrence) (k : ℕ) (d : Lit) → HasGoal goal table → k < length goal → ((negation_of (get_or goal k d) ≡ Never) ⊎ Any (λ o. literal_in o ≡ negation_of (get_or goal k d)) table → is_false_in goal (negation_of (get_or goal k d)) ≡ false) → IsAlone goal (get_or goal k d)
alone_from_answer goal table k d has h stays = go (get_or goal k d) stays
  where
    occurs : (a : ℕ) (s : Bool) → is_false_in goal (Plain a s) ≡ true → Any (λ o. literal_in o ≡ Plain a s) table
    occurs a s e =
        ⊎_elim (λ (never : same_literal (Plain a s) Never ≡ true). absurd (let x : false ≡ true = never in cc))
        (λ among. (let p = among_place (Plain a s) goal among in has p.0 a s p.1 p.2))
        (or_cases (same_literal (Plain a s) Never) (list_any (same_literal (Plain a s)) goal) e)

    plain : (a : ℕ) (s : Bool) → (Any (λ o. literal_in o ≡ Plain a s) table → is_false_in goal (Plain a s) ≡ false) → is_false_in goal (Plain a s) ≡ false
    plain a s stays =
        ⊎_elim (λ (gone : is_false_in goal (Plain a s) ≡ true). stays (occurs a s gone)) (λ f. f) (cases_Bool (is_false_in goal (Plain a s)))

    go : (l : Lit) → ((negation_of l ≡ Never) ⊎ Any (λ o. literal_in o ≡ negation_of l) table → is_false_in goal (negation_of l) ≡ false) → IsAlone goal l
    go (Plain a true) stays = inr (plain a false (λ some. stays (inr some)))
    go (Plain a false) stays = inr (plain a true (λ some. stays (inr some)))
    go Always stays = inr (stays (inl refl))
    go Never stays = inl refl

pub no_contradiction_found : (goal : List Lit) → ((k : ℕ) → k < length goal → IsAlone goal (literal_at goal k)) → Contradicts goal → ⊥
no_contradiction_found goal alone (l, (k, below, here), gone) =
    let at : literal_at goal k ≡ l = get_or_default goal k Never l below ∙ here in
    let me : IsAlone goal l = subst (λ (m : Lit). IsAlone goal m) at (alone k below) in
    ⊎_elim
    (λ (never : l ≡ Never).
    (let always : is_false_in goal Always ≡ true = sym (ap (λ (m : Lit). is_false_in goal (negation_of m)) never) ∙ test_of_false goal (negation_of l) gone in
    with_always always))
    (λ (stays : is_false_in goal (negation_of l) ≡ false). (let x : true ≡ false = sym (test_of_false goal (negation_of l) gone) ∙ stays in cc)) me
  where
    with_always : is_false_in goal Always ≡ true → ⊥
    with_always e =
        let p = among_place Always goal e in
        let other : IsAlone goal Always = subst (λ (m : Lit). IsAlone goal m) p.2 (alone p.0 p.1) in
        ⊎_elim (λ (never : Always ≡ Never). (let x = ap (same_literal Always) never in cc)) (λ (stays : true ≡ false). cc) other

pub contradiction_found : (goal : List Lit) (k : ℕ) (d : Lit) → k < length goal → is_false_in goal (negation_of (get_or goal k d)) ≡ true → Contradicts goal
contradiction_found goal k d h e = (get_or goal k d, (k, h, get_or_default goal k (get_or goal k d) d h), false_from_test goal (negation_of (get_or goal k d)) e)

-- the conclusion has no constant `true` where it doesn't contradict itself
no_always : (goal : List Lit) → (Contradicts goal → ⊥) → is_false_in goal Always ≡ false
no_always goal alone =
    ⊎_elim
    (λ (gone : is_false_in goal Always ≡ true).
    (let p = among_place Always goal gone in absurd (alone (Always, (p.0, p.1, get_or_default goal p.0 Always Never p.1 ∙ p.2), inl refl))))
    (λ f. f) (cases_Bool (is_false_in goal Always))

falses_of-push : (premises : List (List Lit)) (goal : List Lit) (units : List (ℕ × ℕ)) (u : ℕ × ℕ) → falses_of premises goal (units ++ u ∷ []) ≡ falses_of premises goal units ++ negation_of (literal_of premises u) ∷ []
falses_of-push premises goal units u =
    ap (λ (ls : List Lit). goal ++ ls) (map-append (λ u. negation_of (literal_of premises u)) units (u ∷ []))
    ∙ sym (append_assoc goal (map (λ u. negation_of (literal_of premises u)) units) (negation_of (literal_of premises u) ∷ []))

-- the first look at all premises that are ready
pub progress_at_start : (premises : List (List Lit)) (goal : List Lit) (table : List Occurrence) (marks : List Bool) (standings : List Standing) (ready : List ℕ) → IsState premises goal goal table marks standings → (Contradicts goal → ⊥) → AreReady standings ready → IsProgress premises goal [] table marks standings ready (length premises)
progress_at_start premises goal table marks standings ready state alone are_ready =
    record {
      state = subst (λ (ls : List Lit). IsState premises goal ls table marks standings) (sym (append-nil goal)) state;
      leads_on = λ us last leads. subst (λ (ls : List Lit). Leads premises ls us last) (append-nil goal) leads;
      more = λ l e. ap (λ (ls : List Lit). is_false_in ls l) (append-nil goal) ∙ e;
      always_open = ap (λ (ls : List Lit). is_false_in ls Always) (append-nil goal) ∙ no_always goal alone;
      in_range = are_ready.in_range;
      each = λ p h. (let size = state.tallied.size in inr (⊎_elim (λ two. inr (inl two)) (λ c. inl c) (are_ready.each p (omega arith))));
    }

settled_from_unit : (falses new clause : List Lit) (j : ℕ) → ((l : Lit) → is_false_in falses l ≡ true → is_false_in new l ≡ true) → IsOnly falses clause j → is_false_in new (negation_of (literal_at clause j)) ≡ true → IsSettled new clause
settled_from_unit falses new clause j more only e =
    record {
      literal = literal_at clause j;
      is_true = e;
      others = λ k h. ⊎_elim (λ gone. inl (more (literal_at clause k) gone)) (λ same. inr same) (only-others falses clause j only k h);
    }

settled_more : (falses new clause : List Lit) → ((l : Lit) → is_false_in falses l ≡ true → is_false_in new l ≡ true) → IsSettled falses clause → IsSettled new clause
settled_more falses new clause more settled =
    record {
      literal = settled.literal;
      is_true = more (negation_of settled.literal) settled.is_true;
      others = λ k h. ⊎_elim (λ gone. inl (more (literal_at clause k) gone)) (λ same. inr same) (settled.others k h);
    }

-- the premise is taken from those that are ready
pub progress_popped : (premises : List (List Lit)) (goal : List Lit) (units : List (ℕ × ℕ)) (table : List Occurrence) (marks : List Bool) (standings : List Standing) (ready rest : List ℕ) (p : ℕ) → ready ≡ rest ++ p ∷ [] → IsProgress premises goal units table marks standings ready (length premises) → IsProgress premises goal units table marks standings rest p
progress_popped premises goal units table marks standings ready rest p e progress =
    record {
      state = progress.state;
      leads_on = progress.leads_on;
      more = progress.more;
      always_open = progress.always_open;
      in_range = λ k d h. range k d h;
      each = λ q h. each q h (progress.each q h);
    }
  where
    range : (k d : ℕ) → k < length rest → get_or rest k d < length standings
    range k d h =
        let all = subst (λ (r : List ℕ). All (λ p. p < length standings) r) e progress.in_range in
        let n = length-append rest (p ∷ []) in
        let same : get_or (rest ++ p ∷ []) k d ≡ get_or rest k d = get_or_append_left rest (p ∷ []) d k h in
        let within : k < length (rest ++ p ∷ []) = omega arith in
        let l = all k d within in
        omega arith

    each : (q : ℕ) → q < length premises → (q ≡ length premises) ⊎ IsReadyOr premises (falses_of premises goal units) standings ready q → (q ≡ p) ⊎ IsReadyOr premises (falses_of premises goal units) standings rest q
    each q h (inl same) = absurd (omega arith)
    each q h (inr (inl c)) =
        ⊎_elim (λ before. inr (inl before)) (λ (same : p ≡ q). inl (sym same)) (Contains-push_cases rest p q (subst (λ (r : List ℕ). Contains r q) e c))
    each q h (inr (inr done)) = inr (inr done)

-- the premise that was looked at has two literals that are not false
pub progress_passed : (premises : List (List Lit)) (goal : List Lit) (units : List (ℕ × ℕ)) (table : List Occurrence) (marks : List Bool) (standings : List Standing) (ready : List ℕ) (p : ℕ) → PremiseIsDone premises (falses_of premises goal units) standings p → IsProgress premises goal units table marks standings ready p → IsProgress premises goal units table marks standings ready (length premises)
progress_passed premises goal units table marks standings ready p done progress =
    record {
      state = progress.state;
      leads_on = progress.leads_on;
      more = progress.more;
      always_open = progress.always_open;
      in_range = progress.in_range;
      each = λ q h. ⊎_elim
          (λ (same : q ≡ p). inr (inr (subst (λ (x : ℕ). PremiseIsDone premises (falses_of premises goal units) standings x) (sym same) done)))
          (λ other. inr other) (progress.each q h);
    }

pub conflict_here : (premises : List (List Lit)) (goal : List Lit) (units : List (ℕ × ℕ)) (table : List Occurrence) (marks : List Bool) (standings : List Standing) (ready : List ℕ) (p : ℕ) → IsProgress premises goal units table marks standings ready p → p < length standings → open_at standings p ≡ 0 → IsConflict premises (falses_of premises goal units) p
conflict_here premises goal units table marks standings ready p progress h e =
    conflict_from_none premises goal (falses_of premises goal units) table standings progress.state.is_table progress.state.tallied p h e

pub unit_here : (premises : List (List Lit)) (goal : List Lit) (units : List (ℕ × ℕ)) (table : List Occurrence) (marks : List Bool) (standings : List Standing) (ready : List ℕ) (p : ℕ) → IsProgress premises goal units table marks standings ready p → p < length standings → open_at standings p ≡ 1 → IsUnit premises (falses_of premises goal units) p (places_at standings p)
unit_here premises goal units table marks standings ready p progress h e =
    unit_from_one premises goal (falses_of premises goal units) table standings progress.state.is_table progress.state.tallied p h e

-- its only literal is true already
pub progress_settled : (premises : List (List Lit)) (goal : List Lit) (units : List (ℕ × ℕ)) (table : List Occurrence) (marks : List Bool) (standings : List Standing) (ready : List ℕ) (p : ℕ) → p < length standings → open_at standings p ≡ 1 → is_false_in (falses_of premises goal units) (negation_of (literal_of premises (p, places_at standings p))) ≡ true → IsProgress premises goal units table marks standings ready p → IsProgress premises goal units table marks standings ready (length premises)
progress_settled premises goal units table marks standings ready p h e gone progress =
    let unit = unit_here premises goal units table marks standings ready p progress h e in
    progress_passed premises goal units table marks standings ready p
    (inr (omega arith, settled_from_unit (falses_of premises goal units) (falses_of premises goal units) (premise_at premises p) (places_at standings p) (λ l f. f) unit.only gone)) progress

-- its only literal is made true
pub progress_by_unit : (premises : List (List Lit)) (goal : List Lit) (units : List (ℕ × ℕ)) (table : List Occurrence) (m0 m1 : List Bool) (s0 s1 : List Standing) (r0 r1 : List ℕ) (p : ℕ) → p < length s0 → open_at s0 p ≡ 1 → Falsifies (negation_of (literal_of premises (p, places_at s0 p))) table m0 s0 m1 s1 → Advances s0 s1 r0 r1 → IsProgress premises goal units table m0 s0 r0 p → IsProgress premises goal (units ++ (p, places_at s0 p) ∷ []) table m1 s1 r1 (length premises)
progress_by_unit premises goal units table m0 m1 s0 s1 r0 r1 p h e falsifies adv progress =
    record {
      state = subst (λ (ls : List Lit). IsState premises goal ls table m1 s1) (sym pushed) (falsifies premises goal old progress.state);
      leads_on = λ us last leads. subst (λ (xs : List (ℕ × ℕ)). Leads premises goal xs last) (sym (append_assoc units (u ∷ []) us))
          (progress.leads_on (u ∷ us) last (unit, subst (λ (ls : List Lit). Leads premises ls us last) pushed leads));
      more = λ l f. grows l (progress.more l f);
      always_open = ap (λ (ls : List Lit). is_false_in ls Always) pushed ∙ still_open;
      in_range = subst (λ (n : ℕ). All (λ q. q < n) r1) (sym adv.size) (adv.in_range progress.in_range);
      each = λ q l. (let size = progress.state.tallied.size in each q l (progress.each q l) (adv.each q (omega arith)));
    }
  where
    u : ℕ × ℕ
    u = (p, places_at s0 p)

    old : List Lit
    old = falses_of premises goal units

    pushed : falses_of premises goal (units ++ (p, places_at s0 p) ∷ []) ≡ falses_of premises goal units ++ negation_of (literal_of premises (p, places_at s0 p)) ∷ []
    pushed = falses_of-push premises goal units (p, places_at s0 p)

    unit : IsUnit premises (falses_of premises goal units) p (places_at s0 p)
    unit = unit_here premises goal units table m0 s0 r0 p progress h e

    grows : (l : Lit) → is_false_in (falses_of premises goal units) l ≡ true → is_false_in (falses_of premises goal (units ++ (p, places_at s0 p) ∷ [])) l ≡ true
    grows l f =
        ap (λ (ls : List Lit). is_false_in ls l) (falses_of-push premises goal units (p, places_at s0 p))
        ∙ push_kept (falses_of premises goal units) (negation_of (literal_of premises (p, places_at s0 p))) l f

    still_open : is_false_in (falses_of premises goal units ++ negation_of (literal_of premises (p, places_at s0 p)) ∷ []) Always ≡ false
    still_open =
        let only = unit_here premises goal units table m0 s0 r0 p progress h e in
        ⊎_elim
        (λ (gone : is_false_in (falses_of premises goal units ++ negation_of (literal_of premises (p, places_at s0 p)) ∷ []) Always ≡ true).
        ⊎_elim (λ (before : is_false_in (falses_of premises goal units) Always ≡ true). absurd (let x : true ≡ false = sym before ∙ progress.always_open in cc))
        (λ (same : Always ≡ negation_of (literal_of premises (p, places_at s0 p))).
        (let back : literal_of premises (p, places_at s0 p) ≡ Never = sym (negation_of-negation_of (literal_of premises (p, places_at s0 p))) ∙ sym (ap negation_of same) in
        absurd (only.only.not_false (inl back))))
        (push_cases (falses_of premises goal units) (negation_of (literal_of premises (p, places_at s0 p))) Always gone))
        (λ f. f) (cases_Bool (is_false_in (falses_of premises goal units ++ negation_of (literal_of premises (p, places_at s0 p)) ∷ []) Always))

    now_true : is_false_in (falses_of premises goal (units ++ (p, places_at s0 p) ∷ [])) (negation_of (literal_of premises (p, places_at s0 p))) ≡ true
    now_true =
        ap (λ (ls : List Lit). is_false_in ls (negation_of (literal_of premises (p, places_at s0 p)))) (falses_of-push premises goal units (p, places_at s0 p))
        ∙ push_new (falses_of premises goal units) (negation_of (literal_of premises (p, places_at s0 p)))

    here : (q : ℕ) → q < length premises → q ≡ p → open_at s1 q ≡ open_at s0 q → PremiseIsDone premises (falses_of premises goal (units ++ (p, places_at s0 p) ∷ [])) s1 q
    here q l same kept =
        let only = unit_here premises goal units table m0 s0 r0 p progress h e in
        subst (λ (x : ℕ). PremiseIsDone premises (falses_of premises goal (units ++ (p, places_at s0 p) ∷ [])) s1 x) (sym same)
        (inr (
          (let k : open_at s1 p ≡ open_at s0 p = subst (λ (x : ℕ). open_at s1 x ≡ open_at s0 x) same kept in omega (arith, k, e)),
          settled_from_unit (falses_of premises goal units) (falses_of premises goal (units ++ (p, places_at s0 p) ∷ [])) (premise_at premises p) (places_at s0 p) grows only.only now_true,
        ))

    each : (q : ℕ) → q < length premises → (q ≡ p) ⊎ IsReadyOr premises (falses_of premises goal units) s0 r0 q → (2 ≤ open_at s1 q) ⊎ (Contains r1 q ⊎ (open_at s1 q ≡ open_at s0 q)) → (q ≡ length premises) ⊎ IsReadyOr premises (falses_of premises goal (units ++ (p, places_at s0 p) ∷ [])) s1 r1 q
    each q l before (inl two) = inr (inr (inl two))
    each q l before (inr (inl c)) = inr (inl c)
    each q l (inl same) (inr (inr kept)) = inr (inr (here q l same kept))
    each q l (inr (inl c)) (inr (inr kept)) = inr (inl (adv.kept q c))
    each q l (inr (inr (inl two))) (inr (inr kept)) = inr (inr (inl (omega arith)))
    each q l (inr (inr (inr (some, settled)))) (inr (inr kept)) =
        inr (inr (inr (omega arith, settled_more (falses_of premises goal units) (falses_of premises goal (units ++ (p, places_at s0 p) ∷ [])) (premise_at premises q) grows settled)))

-- no premise is ready: nothing leads to a conflict
pub nothing_more : (premises : List (List Lit)) (goal : List Lit) (units : List (ℕ × ℕ)) (table : List Occurrence) (marks : List Bool) (standings : List Standing) (ready : List ℕ) → IsProgress premises goal units table marks standings ready (length premises) → length ready ≡ 0 → (us : List (ℕ × ℕ)) (last : ℕ) → Leads premises goal us last → ⊥
nothing_more premises goal units table marks standings ready progress none us last leads =
    nothing_leads premises (falses_of premises goal units) idle goal us last progress.more leads
  where
    idle_now : (p : ℕ) → p < length premises → (p ≡ length premises) ⊎ IsReadyOr premises (falses_of premises goal units) standings ready p → IsIdle (falses_of premises goal units) (premise_at premises p)
    idle_now p h (inl same) = absurd (omega arith)
    idle_now p h (inr (inl (k, below, here))) = absurd (omega arith)
    idle_now p h (inr (inr (inl two))) =
        idle_from_two premises goal (falses_of premises goal units) table standings progress.state.is_table progress.state.tallied p h progress.always_open two
    idle_now p h (inr (inr (inr (some, settled)))) =
        idle_from_settled premises goal (falses_of premises goal units) table standings progress.state.is_table progress.state.tallied p h progress.always_open some settled

    idle : AllIdleBelow premises (falses_of premises goal units) (length premises)
    idle p h = idle_now p h (progress.each p h)

pub trail_here : (premises : List (List Lit)) (goal : List Lit) (units : List (ℕ × ℕ)) (last : ℕ) → LeadsOn premises goal units → IsConflict premises (falses_of premises goal units) last → Leads premises goal units last
trail_here premises goal units last leads_on conflict =
    subst (λ (xs : List (ℕ × ℕ)). Leads premises goal xs last) (append-nil units) (leads_on [] last conflict)

-- what calls read of the premise that is looked at
pub standing_read : (standings : List Standing) (p : ℕ) (x : Standing) → x ≡ get_or standings p x → p < length standings → (x.left ≡ open_at standings p) × (x.places ≡ places_at standings p)
standing_read standings p x e h =
    let same : x ≡ get_or standings p (record { left = 0; places = 0 }) = e ∙ get_or_default standings p x (record { left = 0; places = 0 }) h in
    (ap (λ (s : Standing). s.left) same, ap (λ (s : Standing). s.places) same)

pub clause_read : (vs : List (Vec Lit)) (p : ℕ) (v : Vec Lit) → v ≡ get_or vs p v → p < length (clauses_of vs) → premise_at (clauses_of vs) p ≡ v.items
clause_read vs p v e h =
    let n = length-clauses_of vs in
    premise_here vs p v (omega arith) ∙ sym (ap (λ (w : Vec Lit). w.items) e)

pub opposite_read : (vs : List (Vec Lit)) (p k : ℕ) (v : Vec Lit) (items : List Lit) (d n : Lit) → v ≡ get_or vs p v → p < length (clauses_of vs) → items ≡ v.items → k < length items → n ≡ negation_of (get_or items k d) → n ≡ negation_of (literal_of (clauses_of vs) (p, k))
opposite_read vs p k v items d n e h same within opposite =
    let lit : literal_of (clauses_of vs) (p, k) ≡ get_or items k d =
    ap (λ (c : List Lit). literal_at c k) (clause_read vs p v e h ∙ sym same) ∙ get_or_default items k Never d within in
    opposite ∙ sym (ap negation_of lit)

pub alone_from_call : (goal : List Lit) (table : List Occurrence) (k : ℕ) (d n : Lit) → HasGoal goal table → k < length goal → n ≡ negation_of (get_or goal k d) → ((n ≡ Never) ⊎ Any (λ o. literal_in o ≡ n) table → is_false_in goal n ≡ false) → IsAlone goal (literal_at goal k)
alone_from_call goal table k d n has h e stays =
    subst (λ (l : Lit). IsAlone goal l) (get_or_default goal k d Never h)
    (alone_from_answer goal table k d has h
    (subst (λ (m : Lit). (m ≡ Never) ⊎ Any (λ o. literal_in o ≡ m) table → is_false_in goal m ≡ false) e stays))

-- one literal more is alone
pub alone_more : (goal : List Lit) (i : ℕ) → ((k : ℕ) → k < i → IsAlone goal (literal_at goal k)) → IsAlone goal (literal_at goal i) → (k : ℕ) → k < i + 1 → IsAlone goal (literal_at goal k)
alone_more goal i before here k h =
    ⊎_elim (λ (below : k < i). before k below)
    (λ (above : i ≤ k). (let same : i ≡ k = omega arith in subst (λ (n : ℕ). IsAlone goal (literal_at goal n)) same here)) (cases_lt k i)

pub popped_in_range : (n : ℕ) (ready rest : List ℕ) (p : ℕ) → ready ≡ rest ++ p ∷ [] → All (λ q. q < n) ready → p < n
popped_in_range n ready rest p e all =
    All-contains (λ q. q < n) (rest ++ p ∷ []) p (subst (λ (r : List ℕ). All (λ q. q < n) r) e all) (Contains-push rest p)

pub last_of_none : (r : Option ℕ) (A : Type 0) (B : ℕ → Type 0) → MatchOption r A B → ((x : ℕ) → r ≡ Some x → ⊥) → A
last_of_none None A B m not_some = m
last_of_none (Some x) A B m not_some = absurd (not_some x refl)

-- a clause that holds where a conclusion follows, holds where a trail shows that it does
pub sound_from_shown : (premises : List (List Lit)) (goal : List Lit) (r : Result (Option Trace) Memory) → IfOk r (λ found. IfSome found (Shows premises goal)) → IfOk r (λ found. OnSome found (Entails premises goal))
sound_from_shown premises goal (Err e) shown = shown
sound_from_shown premises goal (Ok None) shown = shown
sound_from_shown premises goal (Ok (Some t)) shown = consequence_sound premises goal (shown_follows premises goal t shown)

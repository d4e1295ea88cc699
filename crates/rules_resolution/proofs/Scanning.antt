-- Scans of the premises: what a look at one finds, and what is reached by units.
use Rattle.std.proofs.Common.{◌≡◌, ◌⊎◌, inl, inr, ⊎_elim, ℕ, ◌+◌, ◌<◌, ◌≤◌, Bool, true, false, not, ◌&&◌, List, [], ◌∷◌, ◌++◌, length, get_or, refl, sym, ◌∙◌, ap, subst, arith, append_assoc}
use Rattle.std.specs.Global.{Vec}
use Rattle.std.proofs.lemmas.Bool.{cases_lt}
use Rattle.std.proofs.lemmas.List.{append-nil, get_or_default}
use Rattle.std.proofs.lemmas.List.Elements.{All-from_get_or}
use Rattle.rule_model.specs.Consequence.{IsFalse, literal_at, premise_at, literal_of, IsOnly, IsUnit, IsConflict, Leads, Contradicts, Follows}
use Rattle.rule_model.specs.Literals.{negation_of}
use Rattle.rule_model.specs.declared.literal.Literal.TheVariants.{Never}
use Rattle.clause_chain.specs.Chaining.{clauses_of}
use Rattle.rules_resolution.specs.Falsity.{same_literal, is_false_in}
use Rattle.rules_resolution.specs.Idle.{IsIdle, AllIdleBelow}
use Rattle.rules_resolution.specs.Literal.{Lit}
use Rattle.rules_resolution.specs.Scans.{AreFalseBelow, IsOpen, is_other, HasNoOtherBelow, HasOther, IsScanReached, Reaches}
use Rattle.rules_resolution.proofs.Literals.{same_literal-true, same_literal-refl, push_kept, false_from_test, only_from_tests, only-others}
use Rattle.rules_resolution.proofs.Premises.{length-clauses_of, premise_here}
use Rattle.rules_resolution.proofs.Stuck.{nothing_leads}

no_other : (falses : List Lit) (m l : Lit) → is_other falses m l ≡ false → (is_false_in falses l ≡ true) ⊎ (l ≡ m)
no_other falses m l e = go (is_false_in falses l) (same_literal l m) refl refl e
  where
    go : (a b : Bool) → is_false_in falses l ≡ a → same_literal l m ≡ b → (not a && not b) ≡ false → (is_false_in falses l ≡ true) ⊎ (l ≡ m)
    go true b x y n = inl x
    go false true x y n = inr (same_literal-true l m y)
    go false false x y n = cc

an_other : (falses : List Lit) (m l : Lit) → is_other falses m l ≡ true → (is_false_in falses l ≡ false) × (same_literal l m ≡ false)
an_other falses m l e = go (is_false_in falses l) (same_literal l m) refl refl e
  where
    go : (a b : Bool) → is_false_in falses l ≡ a → same_literal l m ≡ b → (not a && not b) ≡ true → (is_false_in falses l ≡ false) × (same_literal l m ≡ false)
    go true b x y n = cc
    go false true x y n = cc
    go false false x y n = (x, y)

-- an open literal of a clause with another one that is alone so: they are the same
open_is_only : (falses clause : List Lit) (place j : ℕ) → IsOpen falses clause place → IsOnly falses clause j → literal_at clause place ≡ literal_at clause j
open_is_only falses clause place j is_open only =
    ⊎_elim (λ (gone : is_false_in falses (literal_at clause place) ≡ true). (let stays = is_open.not_false in absurd cc)) (λ same. same)
    (only-others falses clause j only place is_open.within)

-- the literal that is not false is true already
pub idle_from_true : (falses clause : List Lit) (place : ℕ) → IsOpen falses clause place → is_false_in falses (negation_of (literal_at clause place)) ≡ true → IsIdle falses clause
idle_from_true falses clause place is_open e =
    record {
      open_at = place;
      place = is_open.within;
      not_false = is_open.not_false;
      settled = λ j only. ap (λ (l : Lit). is_false_in falses (negation_of l)) (sym (open_is_only falses clause place j is_open only)) ∙ e;
    }

-- two are not false
pub idle_from_other : (falses clause : List Lit) (place : ℕ) → IsOpen falses clause place → HasOther falses clause (literal_at clause place) → IsIdle falses clause
idle_from_other falses clause place is_open (k, h, e) =
    record {
      open_at = place;
      place = is_open.within;
      not_false = is_open.not_false;
      settled = λ j only. absurd (never j only);
    }
  where
    never : (j : ℕ) → IsOnly falses clause j → ⊥
    never j only =
        let other = an_other falses (literal_at clause place) (literal_at clause k) e in
        let here : literal_at clause k ≡ literal_at clause j = open_is_only falses clause k j (record { within = h; not_false = other.0 }) only in
        let same : literal_at clause k ≡ literal_at clause place = here ∙ sym (open_is_only falses clause place j is_open only) in
        let yes : same_literal (literal_at clause k) (literal_at clause place) ≡ true =
        ap (same_literal (literal_at clause k)) (sym same) ∙ same_literal-refl (literal_at clause k) in
        cc (yes, other.1)

pub only_open : (falses clause : List Lit) (place : ℕ) → IsOpen falses clause place → HasNoOtherBelow falses clause (literal_at clause place) (length clause) → IsOnly falses clause place
only_open falses clause place is_open none =
    only_from_tests falses clause place is_open.within is_open.not_false (λ k h. no_other falses (literal_at clause place) (literal_at clause k) (none k h))

pub conflict_from_scan : (premises : List (List Lit)) (falses : List Lit) (p : ℕ) → p < length premises → AreFalseBelow falses (premise_at premises p) (length (premise_at premises p)) → IsConflict premises falses p
conflict_from_scan premises falses p h all =
    record {
      place = h;
      all_false = All-from_get_or (IsFalse falses) (premise_at premises p) Never
          (λ k below. false_from_test falses (literal_at (premise_at premises p) k) (all k below));
    }

-- nothing is needed to be where one stands
pub reaches_itself : (premises : List (List Lit)) (units : List (ℕ × ℕ)) (falses : List Lit) → Reaches premises units falses units falses
reaches_itself premises units falses goal reached = reached

pub reaches_trans : (premises : List (List Lit)) (u v w : List (ℕ × ℕ)) (f g h : List Lit) → Reaches premises u f v g → Reaches premises v g w h → Reaches premises u f w h
reaches_trans premises u v w f g h first second goal reached = second goal (first goal reached)

-- one unit more
pub reaches_unit : (premises : List (List Lit)) (units : List (ℕ × ℕ)) (falses : List Lit) (p j : ℕ) → IsUnit premises falses p j
    → Reaches premises units falses (units ++ (p, j) ∷ []) (falses ++ negation_of (literal_of premises (p, j)) ∷ [])
reaches_unit premises units falses p j unit goal reached =
    record {
      leads_on = λ us last leads. subst (λ (xs : List (ℕ × ℕ)). Leads premises goal xs last) (sym (append_assoc units ((p, j) ∷ []) us))
          (reached.leads_on ((p, j) ∷ us) last (unit, leads));
      more = λ l f. push_kept falses (negation_of (literal_of premises (p, j))) l (reached.more l f);
    }

pub reached_at_start : (premises : List (List Lit)) (goal : List Lit) → IsScanReached premises goal [] goal
reached_at_start premises goal = record { leads_on = λ us last leads. leads; more = λ l f. f }

pub leads_to_conflict : (premises : List (List Lit)) (goal : List Lit) (units : List (ℕ × ℕ)) (falses : List Lit) (last : ℕ) → IsScanReached premises goal units falses → IsConflict premises falses last → Leads premises goal units last
leads_to_conflict premises goal units falses last reached conflict =
    subst (λ (xs : List (ℕ × ℕ)). Leads premises goal xs last) (append-nil units) (reached.leads_on [] last conflict)

pub stuck_from_idle : (premises : List (List Lit)) (goal : List Lit) (units : List (ℕ × ℕ)) (falses : List Lit) → IsScanReached premises goal units falses → AllIdleBelow premises falses (length premises) → (Contradicts goal → ⊥) → Follows premises goal → ⊥
stuck_from_idle premises goal units falses reached idle none follows =
    ⊎_elim none (λ leads. nothing_leads premises falses idle goal leads.0 leads.1 reached.more leads.2) follows

-- one literal more is no other one
pub no_other_more : (falses clause : List Lit) (m : Lit) (i : ℕ) (d : Lit) (b : Bool) → i < length clause → HasNoOtherBelow falses clause m i → b ≡ is_other falses m (get_or clause i d) → b ≡ false → HasNoOtherBelow falses clause m (i + 1)
no_other_more falses clause m i d b within before is e k h =
    ⊎_elim (λ (below : k < i). before k below)
    (λ (above : i ≤ k).
    (let same : i ≡ k = omega arith in
    let here : is_other falses m (literal_at clause i) ≡ false =
    ap (is_other falses m) (get_or_default clause i Never d within) ∙ (sym is ∙ e) in
    subst (λ (n : ℕ). is_other falses m (literal_at clause n) ≡ false) same here)) (cases_lt k i)

-- what calls read of the premise that is looked at, by its vector and its literals
module _ (vs : List (Vec Lit)) (falses : List Lit) (p : ℕ) (v : Vec Lit) (slice : List Lit) (is : v ≡ get_or vs p v) (h : p < length vs) (value : slice ≡ v.items) where
  premise_is : slice ≡ premise_at (clauses_of vs) p
  premise_is = value ∙ (ap (λ (w : Vec Lit). w.items) is ∙ sym (premise_here vs p v h))

  pub conflict_read : AreFalseBelow falses slice (length slice) → IsConflict (clauses_of vs) falses p
  conflict_read all =
      conflict_from_scan (clauses_of vs) falses p (let n = length-clauses_of vs in omega arith)
      (subst (λ (ls : List Lit). AreFalseBelow falses ls (length ls)) premise_is all)

  pub idle_read : (place : ℕ) (d : Lit) → IsOpen falses slice place → HasOther falses slice (get_or slice place d) → IsIdle falses (premise_at (clauses_of vs) p)
  idle_read place d is_open other =
      subst (λ (ls : List Lit). IsIdle falses ls) premise_is
      (idle_from_other falses slice place is_open (subst (λ (l : Lit). HasOther falses slice l) (get_or_default slice place d Never is_open.within) other))

  pub idle_read_true : (place : ℕ) (d n : Lit) → IsOpen falses slice place → n ≡ negation_of (get_or slice place d) → is_false_in falses n ≡ true → IsIdle falses (premise_at (clauses_of vs) p)
  idle_read_true place d n is_open opposite e =
      subst (λ (ls : List Lit). IsIdle falses ls) premise_is
      (idle_from_true falses slice place is_open
      (ap (λ (l : Lit). is_false_in falses (negation_of l)) (get_or_default slice place Never d is_open.within) ∙ (sym (ap (is_false_in falses) opposite) ∙ e)))

  pub reaches_read : (units : List (ℕ × ℕ)) (place : ℕ) (d n : Lit) → IsOpen falses slice place → HasNoOtherBelow falses slice (get_or slice place d) (length slice) → n ≡ negation_of (get_or slice place d)
      → Reaches (clauses_of vs) units falses (units ++ (p, place) ∷ []) (falses ++ n ∷ [])
  reaches_read units place d n is_open none opposite =
      subst (λ (m : Lit). Reaches (clauses_of vs) units falses (units ++ (p, place) ∷ []) (falses ++ m ∷ [])) (sym here)
      (reaches_unit (clauses_of vs) units falses p place (record { place = (let n = length-clauses_of vs in omega arith); only = only }))
    where
      lit : get_or slice place d ≡ literal_at slice place
      lit = get_or_default slice place d Never is_open.within

      only : IsOnly falses (premise_at (clauses_of vs) p) place
      only =
          subst (λ (ls : List Lit). IsOnly falses ls place) premise_is
          (only_open falses slice place is_open (subst (λ (l : Lit). HasNoOtherBelow falses slice l (length slice)) lit none))

      here : n ≡ negation_of (literal_of (clauses_of vs) (p, place))
      here = opposite ∙ ap negation_of (lit ∙ ap (λ (ls : List Lit). literal_at ls place) premise_is)

-- What the number of a premise's literals that are not false says of it.
use Rattle.std.proofs.Common.{◌≡◌, ◌⊎◌, inl, inr, ⊎_elim, ℕ, zero, suc, ◌+◌, ◌<◌, ◌≤◌, Bool, true, false, cond, ◌||◌, nat_eq, List, [], ◌∷◌, length, get_or, refl, sym, ◌∙◌, ap, subst, arith}
use Rattle.std.specs.List.{list_any}
use Rattle.std.proofs.lemmas.List.{get_or_default}
use Rattle.std.proofs.lemmas.List.Elements.{All-from_get_or}
use Rattle.std.proofs.lemmas.List.Sums.{sum_by-cons}
use Rattle.std.proofs.lemmas.Bool.{cases_Bool}
use Rattle.rule_model.specs.Consequence.{IsFalse, literal_at, premise_at, IsOnly, IsConflict, IsUnit}
use Rattle.rule_model.specs.Literals.{negation_of}
use Rattle.rule_model.specs.declared.literal.Literal.TheVariants.{Plain, Always, Never}
use Rattle.rules_resolution.specs.Falsity.{is_false_in}
use Rattle.rules_resolution.specs.Literal.{Lit}
use Rattle.rules_resolution.specs.declared.occurrence.Occurrence.{Occurrence}
use Rattle.rules_resolution.specs.declared.standing.Standing.{Standing}
use Rattle.rules_resolution.specs.Idle.{IsIdle, IsSettled}
use Rattle.rules_resolution.specs.Occurrence.{literal_in, rank_of, literal_rank}
use Rattle.rules_resolution.specs.Table.{IsOccurrenceTable}
use Rattle.rules_resolution.specs.Standing.{is_always, blank_standings, open_at, places_at, one, occurrence_place, stands, tally, IsTallied}
use Rattle.rules_resolution.proofs.Literals.{false_from_test, only_from_tests, only-others, only-stays}
use Rattle.rules_resolution.proofs.Standings.{same_or_not}

abbrev pub nowhere : Occurrence
nowhere = record { atom = 0; negative = false; premise = 0; place = 0 }

abbrev pub entry : List Occurrence → ℕ → Occurrence
entry table k = get_or table k nowhere

-- an occurrence counts for the premise, or it is false, or of another premise
abbrev pub EntryCases : List Lit → ℕ → Occurrence → Type 0
EntryCases falses p o =
    ((o.premise ≡ p) × (is_false_in falses (literal_in o) ≡ false) × ((f : Occurrence → ℕ) → stands falses p f o ≡ f o))
    ⊎ (((f : Occurrence → ℕ) → stands falses p f o ≡ 0) × (o.premise ≡ p → is_false_in falses (literal_in o) ≡ true))

entry_cases : (falses : List Lit) (p : ℕ) (o : Occurrence) → EntryCases falses p o
entry_cases falses p o = here (same_or_not o.premise p) (cases_Bool (is_false_in falses (literal_in o)))
  where
    here : ((nat_eq o.premise p ≡ true) × (o.premise ≡ p)) ⊎ ((nat_eq o.premise p ≡ false) × (o.premise ≡ p → ⊥)) → (is_false_in falses (literal_in o) ≡ true) ⊎ (is_false_in falses (literal_in o) ≡ false) → EntryCases falses p o
    here (inl (e, same)) (inl gone) =
        inr ((λ f. ap (λ (b : Bool). cond b (cond (is_false_in falses (literal_in o)) 0 (f o)) 0) e ∙ ap (λ (b : Bool). cond b 0 (f o)) gone), λ _. gone)
    here (inl (e, same)) (inr stays) =
        inl (same, stays, λ f. ap (λ (b : Bool). cond b (cond (is_false_in falses (literal_in o)) 0 (f o)) 0) e ∙ ap (λ (b : Bool). cond b 0 (f o)) stays)
    here (inr (e, ne)) other =
        inr ((λ f. ap (λ (b : Bool). cond b (cond (is_false_in falses (literal_in o)) 0 (f o)) 0) e), λ same. absurd (ne same))

-- none counts
abbrev pub NoneStands : List Lit → ℕ → List Occurrence → Type 0
NoneStands falses p table = ((k : ℕ) → k < length table → (entry table k).premise ≡ p → is_false_in falses (literal_in (entry table k)) ≡ true) × (tally falses p occurrence_place table ≡ 0)

pub none_stands : (falses : List Lit) (p : ℕ) (table : List Occurrence) → tally falses p one table ≡ 0 → NoneStands falses p table
none_stands falses p [] e = ((λ k h s. absurd (omega (arith, h))), refl)
none_stands falses p (x ∷ xs) e = go (λ z. none_stands falses p xs z) (entry_cases falses p x)
  where
    go : (tally falses p one xs ≡ 0 → NoneStands falses p xs) → EntryCases falses p x → NoneStands falses p (x ∷ xs)
    go later_by (inl counts) =
        let c = sum_by-cons (stands falses p one) x xs in
        let n = counts.2 one in
        absurd (omega (arith, e, c, n))
    go later_by (inr (nothing, gone)) =
        let c = sum_by-cons (stands falses p one) x xs in
        let d = sum_by-cons (stands falses p occurrence_place) x xs in
        let n = nothing one in
        let m = nothing occurrence_place in
        let later = later_by (omega (arith, e, c, n)) in
        let rest = later.1 in
        (each later.0, omega (arith, d, m, rest))
      where
        each : ((k : ℕ) → k < length xs → (entry xs k).premise ≡ p → is_false_in falses (literal_in (entry xs k)) ≡ true) → (k : ℕ) → k < length (x ∷ xs) → (entry (x ∷ xs) k).premise ≡ p → is_false_in falses (literal_in (entry (x ∷ xs) k)) ≡ true
        each later zero h s = gone s
        each later (suc k) h s = later k (omega (arith, h)) s

-- one alone counts
pub record Lone (falses : List Lit) (p : ℕ) (table : List Occurrence) : Type 0 where
  pub at : ℕ
  pub within : at < length table
  pub premise : (entry table at).premise ≡ p
  pub stays : is_false_in falses (literal_in (entry table at)) ≡ false
  pub spot : tally falses p occurrence_place table ≡ (entry table at).place
  pub others : (k : ℕ) → k < length table → (entry table k).premise ≡ p → (is_false_in falses (literal_in (entry table k)) ≡ true) ⊎ (literal_in (entry table k) ≡ literal_in (entry table at))

pub one_stands : (falses : List Lit) (p : ℕ) (table : List Occurrence) → tally falses p one table ≡ 1 → Lone falses p table
one_stands falses p [] e = absurd (omega (arith, e))
one_stands falses p (x ∷ xs) e = go (λ z. one_stands falses p xs z) (entry_cases falses p x)
  where
    go : (tally falses p one xs ≡ 1 → Lone falses p xs) → EntryCases falses p x → Lone falses p (x ∷ xs)
    go later_by (inl (same, stays, counts)) =
        let c = sum_by-cons (stands falses p one) x xs in
        let d = sum_by-cons (stands falses p occurrence_place) x xs in
        let n = counts one in
        let m = counts occurrence_place in
        let later = none_stands falses p xs (omega (arith, e, c, n)) in
        let rest = later.1 in
        record { at = 0; within = omega arith; premise = same; stays = stays; spot = omega (arith, d, m, rest); others = each later.0 }
      where
        each : ((k : ℕ) → k < length xs → (entry xs k).premise ≡ p → is_false_in falses (literal_in (entry xs k)) ≡ true) → (k : ℕ) → k < length (x ∷ xs) → (entry (x ∷ xs) k).premise ≡ p → (is_false_in falses (literal_in (entry (x ∷ xs) k)) ≡ true) ⊎ (literal_in (entry (x ∷ xs) k) ≡ literal_in x)
        each later zero h s = inr refl
        each later (suc k) h s = inl (later k (omega (arith, h)) s)
    go later_by (inr (nothing, gone)) =
        let c = sum_by-cons (stands falses p one) x xs in
        let d = sum_by-cons (stands falses p occurrence_place) x xs in
        let n = nothing one in
        let m = nothing occurrence_place in
        let later = later_by (omega (arith, e, c, n)) in
        let rest = later.spot in
        record { at = suc later.at; within = omega (arith, later.within); premise = later.premise; stays = later.stays; spot = omega (arith, d, m, rest); others = each later }
      where
        each : (later : Lone falses p xs) (k : ℕ) → k < length (x ∷ xs) → (entry (x ∷ xs) k).premise ≡ p → (is_false_in falses (literal_in (entry (x ∷ xs) k)) ≡ true) ⊎ (literal_in (entry (x ∷ xs) k) ≡ literal_in (entry (x ∷ xs) (suc later.at)))
        each later zero h s = inl (gone s)
        each later (suc k) h s = later.others k (omega (arith, h)) s

-- an occurrence that counts
pub record Stands (falses : List Lit) (p : ℕ) (table : List Occurrence) (k : ℕ) : Type 0 where
  pub within : k < length table
  pub premise : (entry table k).premise ≡ p
  pub stays : is_false_in falses (literal_in (entry table k)) ≡ false

pub some_stands : (falses : List Lit) (p : ℕ) (table : List Occurrence) → 1 ≤ tally falses p one table → (k : ℕ) × Stands falses p table k
some_stands falses p [] e = absurd (omega (arith, e))
some_stands falses p (x ∷ xs) e = go (λ z. some_stands falses p xs z) (entry_cases falses p x)
  where
    go : (1 ≤ tally falses p one xs → (k : ℕ) × Stands falses p xs k) → EntryCases falses p x → (k : ℕ) × Stands falses p (x ∷ xs) k
    go later_by (inl (same, stays, counts)) = (0, record { within = omega arith; premise = same; stays = stays })
    go later_by (inr (nothing, gone)) =
        let c = sum_by-cons (stands falses p one) x xs in
        let n = nothing one in
        let later = later_by (omega (arith, e, c, n)) in
        (suc later.0, record { within = omega (arith, later.1.within); premise = later.1.premise; stays = later.1.stays })

pub two_stand : (falses : List Lit) (p : ℕ) (table : List Occurrence) → 2 ≤ tally falses p one table → (j : ℕ) × (k : ℕ) × (j < k) × Stands falses p table j × Stands falses p table k
two_stand falses p [] e = absurd (omega (arith, e))
two_stand falses p (x ∷ xs) e = go (λ z. two_stand falses p xs z) (entry_cases falses p x)
  where
    go : (2 ≤ tally falses p one xs → (j : ℕ) × (k : ℕ) × (j < k) × Stands falses p xs j × Stands falses p xs k) → EntryCases falses p x → (j : ℕ) × (k : ℕ) × (j < k) × Stands falses p (x ∷ xs) j × Stands falses p (x ∷ xs) k
    go later_by (inl (same, stays, counts)) =
        let c = sum_by-cons (stands falses p one) x xs in
        let n = counts one in
        let later = some_stands falses p xs (omega (arith, e, c, n)) in (
          0,
          suc later.0,
          omega arith,
          record { within = omega arith; premise = same; stays = stays },
          record { within = omega (arith, later.1.within); premise = later.1.premise; stays = later.1.stays },
        )
    go later_by (inr (nothing, gone)) =
        let c = sum_by-cons (stands falses p one) x xs in
        let n = nothing one in
        let later = later_by (omega (arith, e, c, n)) in (
          suc later.0,
          suc later.1,
          omega (arith, later.2),
          record { within = omega (arith, later.3.within); premise = later.3.premise; stays = later.3.stays },
          record { within = omega (arith, later.4.within); premise = later.4.premise; stays = later.4.stays },
        )

literal_cases : (l : Lit) → (l ≡ Always) ⊎ ((l ≡ Never) ⊎ ((a : ℕ) × (s : Bool) × (l ≡ Plain a s)))
literal_cases (Plain a s) = inr (inr (a, s, refl))
literal_cases Always = inl refl
literal_cases Never = inr (inl refl)

pub never_is_false : (falses : List Lit) → is_false_in falses Never ≡ true
never_is_false falses = refl

-- only a premise with few literals left has no constant `true`, and the conclusion's never is
few_left : (premises : List (List Lit)) (p : ℕ) → p < length premises + 1 → open_at (blank_standings premises) p ≤ 1 → (p < length premises) × (list_any is_always (premise_at premises p) ≡ false)
few_left [] zero h e = absurd (omega (arith, e))
few_left [] (suc p) h e = absurd (omega (arith, h))
few_left (c ∷ cs) zero h e = (omega arith, go (list_any is_always c) e)
  where
    go : (b : Bool) → cond b 2 0 ≤ 1 → b ≡ false
    go true l = absurd (omega (arith, l))
    go false l = refl
few_left (c ∷ cs) (suc p) h e = let later = few_left cs p (omega (arith, h)) e in (omega (arith, later.0), later.1)

blank_cases : (premises : List (List Lit)) (p : ℕ) → p < length premises → (list_any is_always (premise_at premises p) ≡ true) ⊎ (open_at (blank_standings premises) p ≡ 0)
blank_cases [] p h = absurd (omega (arith, h))
blank_cases (c ∷ cs) zero h = go (list_any is_always c) refl
  where
    go : (b : Bool) → list_any is_always c ≡ b → (list_any is_always c ≡ true) ⊎ (open_at (blank_standings (c ∷ cs)) zero ≡ 0)
    go true e = inl e
    go false e = inr (ap (λ (b : Bool). cond b 2 0) e)
blank_cases (c ∷ cs) (suc p) h = blank_cases cs p (omega (arith, h))

always_at : (clause : List Lit) → list_any is_always clause ≡ true → (k : ℕ) × (k < length clause) × (literal_at clause k ≡ Always)
always_at [] e = cc
always_at (l ∷ ls) e = go (λ z. always_at ls z) (literal_cases l)
  where
    later : (list_any is_always ls ≡ true → (k : ℕ) × (k < length ls) × (literal_at ls k ≡ Always)) → is_always l ≡ false → (k : ℕ) × (k < length (l ∷ ls)) × (literal_at (l ∷ ls) k ≡ Always)
    later later_by no_here =
        let rest : list_any is_always ls ≡ true = sym (ap (λ (b : Bool). b || list_any is_always ls) no_here) ∙ e in
        let p = later_by rest in
        (suc p.0, omega (arith, p.1), p.2)

    go : (list_any is_always ls ≡ true → (k : ℕ) × (k < length ls) × (literal_at ls k ≡ Always)) → (l ≡ Always) ⊎ ((l ≡ Never) ⊎ ((a : ℕ) × (s : Bool) × (l ≡ Plain a s))) → (k : ℕ) × (k < length (l ∷ ls)) × (literal_at (l ∷ ls) k ≡ Always)
    go later_by (inl same) = (0, omega arith, same)
    go later_by (inr (inl same)) = later later_by (ap is_always same)
    go later_by (inr (inr (a, s, same))) = later later_by (ap is_always same)

no_always_at : (clause : List Lit) → list_any is_always clause ≡ false → (k : ℕ) → k < length clause → literal_at clause k ≡ Always → ⊥
no_always_at [] e k h same = absurd (omega (arith, h))
no_always_at (l ∷ ls) e zero h same = let here = ap is_always same in let t = ap (λ (b : Bool). b || list_any is_always ls) here in cc
no_always_at (l ∷ ls) e (suc k) h same = no_always_at ls (rest (is_always l) e) k (omega (arith, h)) same
  where
    rest : (b : Bool) → (b || list_any is_always ls) ≡ false → list_any is_always ls ≡ false
    rest true f = cc
    rest false f = f

module _ (premises : List (List Lit)) (goal falses : List Lit) (table : List Occurrence) (standings : List Standing) (is_table : IsOccurrenceTable premises goal table) (tallied : IsTallied premises falses table standings) where
  -- a literal of a premise is a constant, or it has an entry
  entry_of : (p k : ℕ) → p < length premises → k < length (premise_at premises p) → (literal_at (premise_at premises p) k ≡ Always) ⊎ ((is_false_in falses (literal_at (premise_at premises p) k) ≡ true) ⊎ ((i : ℕ) × (i < length table) × ((entry table i).premise ≡ p) × (literal_in (entry table i) ≡ literal_at (premise_at premises p) k)))
  entry_of p k h g = go (literal_cases (literal_at (premise_at premises p) k))
    where
      go : (literal_at (premise_at premises p) k ≡ Always) ⊎ ((literal_at (premise_at premises p) k ≡ Never) ⊎ ((a : ℕ) × (s : Bool) × (literal_at (premise_at premises p) k ≡ Plain a s))) → (literal_at (premise_at premises p) k ≡ Always) ⊎ ((is_false_in falses (literal_at (premise_at premises p) k) ≡ true) ⊎ ((i : ℕ) × (i < length table) × ((entry table i).premise ≡ p) × (literal_in (entry table i) ≡ literal_at (premise_at premises p) k)))
      go (inl same) = inl same
      go (inr (inl same)) = inr (inl (ap (is_false_in falses) same ∙ never_is_false falses))
      go (inr (inr (a, s, same))) =
          let some = is_table.premises_in p k a s h g same in
          let at_default : entry table some.0 ≡ some.1 = get_or_default table some.0 nowhere some.1 some.2 ∙ some.3 in
          inr (inr (some.0, some.2, ap (λ (o : Occurrence). o.premise) at_default ∙ some.4.0, ap literal_in at_default ∙ (some.4.1 ∙ sym same)))

  -- what an entry says of its premise
  entry_place : (i : ℕ) → i < length table → (entry table i).premise < length premises → ((entry table i).place < length (premise_at premises (entry table i).premise)) × (literal_at (premise_at premises (entry table i).premise) (entry table i).place ≡ literal_in (entry table i))
  entry_place i h g = let stands = is_table.sound i nowhere h in (stands.place g, stands.literal g)

  pub few_is_premise : (p : ℕ) → p < length standings → open_at standings p ≤ 1 → (p < length premises) × (list_any is_always (premise_at premises p) ≡ false)
  few_is_premise p h e = let size = tallied.size in let sum = tallied.opens p h in few_left premises p (omega arith) (omega arith)

  pub conflict_from_none : (p : ℕ) → p < length standings → open_at standings p ≡ 0 → IsConflict premises falses p
  conflict_from_none p h e =
      let few = few_is_premise p h (omega (arith, e)) in
      let sum = tallied.opens p h in
      let none = none_stands falses p table (omega arith) in
      record {
        place = few.0;
        all_false = All-from_get_or (IsFalse falses) (premise_at premises p) Never
            (λ k g. false_from_test falses (literal_at (premise_at premises p) k) (each few none.0 k g (entry_of p k few.0 g)));
      }
    where
      each : (p < length premises) × (list_any is_always (premise_at premises p) ≡ false) → ((k : ℕ) → k < length table → (entry table k).premise ≡ p → is_false_in falses (literal_in (entry table k)) ≡ true) → (k : ℕ) → k < length (premise_at premises p) → (literal_at (premise_at premises p) k ≡ Always) ⊎ ((is_false_in falses (literal_at (premise_at premises p) k) ≡ true) ⊎ ((i : ℕ) × (i < length table) × ((entry table i).premise ≡ p) × (literal_in (entry table i) ≡ literal_at (premise_at premises p) k))) → is_false_in falses (literal_at (premise_at premises p) k) ≡ true
      each few none k g (inl always) = absurd (no_always_at (premise_at premises p) few.1 k g always)
      each few none k g (inr (inl gone)) = gone
      each few none k g (inr (inr (i, l, same, lit))) = sym (ap (is_false_in falses) lit) ∙ none i l same

  pub unit_from_one : (p : ℕ) → p < length standings → open_at standings p ≡ 1 → IsUnit premises falses p (places_at standings p)
  unit_from_one p h e =
      let few = few_is_premise p h (omega (arith, e)) in
      unit few (one_stands falses p table (let sum = tallied.opens p h in let b = blank_cases premises p few.0 in blank_sum few b sum))
    where
      blank_sum : (p < length premises) × (list_any is_always (premise_at premises p) ≡ false) → (list_any is_always (premise_at premises p) ≡ true) ⊎ (open_at (blank_standings premises) p ≡ 0) → open_at standings p ≡ open_at (blank_standings premises) p + tally falses p one table → tally falses p one table ≡ 1
      blank_sum few (inl yes_always) sum = let f = few.1 in cc
      blank_sum few (inr zero_blank) sum = omega (arith, sum, zero_blank, e)

      unit : (p < length premises) × (list_any is_always (premise_at premises p) ≡ false) → Lone falses p table → IsUnit premises falses p (places_at standings p)
      unit few lone =
          let spot : places_at standings p ≡ (entry table lone.at).place = tallied.places p h ∙ lone.spot in
          let in_premises : (entry table lone.at).premise < length premises = let s = lone.premise in let f = few.0 in omega arith in
          let said = entry_place lone.at lone.within in_premises in
          let place : (entry table lone.at).place < length (premise_at premises p) = subst (λ (q : ℕ). (entry table lone.at).place < length (premise_at premises q)) lone.premise said.0 in
          let literal : literal_at (premise_at premises p) (entry table lone.at).place ≡ literal_in (entry table lone.at) = subst (λ (q : ℕ). literal_at (premise_at premises q) (entry table lone.at).place ≡ literal_in (entry table lone.at)) lone.premise said.1 in
          let only : IsOnly falses (premise_at premises p) (entry table lone.at).place =
          only_from_tests falses (premise_at premises p) (entry table lone.at).place place (ap (is_false_in falses) literal ∙ lone.stays) (λ k g. other few lone literal k g (entry_of p k few.0 g)) in
          record { place = few.0; only = subst (λ (j : ℕ). IsOnly falses (premise_at premises p) j) (sym spot) only }
        where
          other : (p < length premises) × (list_any is_always (premise_at premises p) ≡ false) → (lone : Lone falses p table) → literal_at (premise_at premises p) (entry table lone.at).place ≡ literal_in (entry table lone.at) → (k : ℕ) → k < length (premise_at premises p) → (literal_at (premise_at premises p) k ≡ Always) ⊎ ((is_false_in falses (literal_at (premise_at premises p) k) ≡ true) ⊎ ((i : ℕ) × (i < length table) × ((entry table i).premise ≡ p) × (literal_in (entry table i) ≡ literal_at (premise_at premises p) k))) → (is_false_in falses (literal_at (premise_at premises p) k) ≡ true) ⊎ (literal_at (premise_at premises p) k ≡ literal_at (premise_at premises p) (entry table lone.at).place)
          other few lone literal k g (inl always) = absurd (no_always_at (premise_at premises p) few.1 k g always)
          other few lone literal k g (inr (inl gone)) = inl gone
          other few lone literal k g (inr (inr (i, l, same, lit))) =
              ⊎_elim (λ gone. inl (sym (ap (is_false_in falses) lit) ∙ gone)) (λ equal. inr (sym lit ∙ (equal ∙ sym literal))) (lone.others i l same)

  -- an entry that counts is at a place of the premise
  place_of_one : (p k : ℕ) → p < length premises → Stands falses p table k → ((entry table k).place < length (premise_at premises p)) × (literal_at (premise_at premises p) (entry table k).place ≡ literal_in (entry table k))
  place_of_one p k h s =
      let in_premises : (entry table k).premise < length premises = let e = s.premise in omega arith in
      subst (λ (q : ℕ). ((entry table k).place < length (premise_at premises q)) × (literal_at (premise_at premises q) (entry table k).place ≡ literal_in (entry table k))) s.premise (entry_place k s.within in_premises)

  idle_with_always : (p : ℕ) → is_false_in falses Always ≡ false → list_any is_always (premise_at premises p) ≡ true → IsIdle falses (premise_at premises p)
  idle_with_always p no_always e =
      let some = always_at (premise_at premises p) e in
      record {
        open_at = some.0;
        place = some.1;
        not_false = ap (is_false_in falses) some.2 ∙ no_always;
        settled = λ j only. ⊎_elim
            (λ (gone : is_false_in falses (literal_at (premise_at premises p) some.0) ≡ true). (let s = ap (is_false_in falses) some.2 in cc))
            (λ (same : literal_at (premise_at premises p) some.0 ≡ literal_at (premise_at premises p) j).
            ap (λ (l : Lit). is_false_in falses (negation_of l)) (sym same ∙ some.2))
            (only-others falses (premise_at premises p) j only some.0 some.1);
      }

  pub idle_from_two : (p : ℕ) → p < length premises → is_false_in falses Always ≡ false → 2 ≤ open_at standings p → IsIdle falses (premise_at premises p)
  idle_from_two p h no_always two = go (blank_cases premises p h)
    where
      go : (list_any is_always (premise_at premises p) ≡ true) ⊎ (open_at (blank_standings premises) p ≡ 0) → IsIdle falses (premise_at premises p)
      go (inl always) = idle_with_always p no_always always
      go (inr blank) = both (two_stand falses p table (let size = tallied.size in let sum = tallied.opens p (omega (arith, h, size)) in omega (arith, two, blank, sum)))
        where
          both : (j : ℕ) × (k : ℕ) × (j < k) × Stands falses p table j × Stands falses p table k → IsIdle falses (premise_at premises p)
          both (j, k, less, first, second) =
              let a = place_of_one p j h first in
              let b = place_of_one p k h second in
              record {
                open_at = (entry table j).place;
                place = a.0;
                not_false = ap (is_false_in falses) a.1 ∙ first.stays;
                settled = λ i only. absurd (apart (one_of i only (entry table j).place a.0 (ap (is_false_in falses) a.1 ∙ first.stays)) (one_of i only (entry table k).place b.0 (ap (is_false_in falses) b.1 ∙ second.stays)) a.1 b.1);
              }
            where
              one_of : (i : ℕ) → IsOnly falses (premise_at premises p) i → (m : ℕ) → m < length (premise_at premises p) → is_false_in falses (literal_at (premise_at premises p) m) ≡ false → literal_at (premise_at premises p) m ≡ literal_at (premise_at premises p) i
              one_of i only m l stays = ⊎_elim (λ (gone : is_false_in falses (literal_at (premise_at premises p) m) ≡ true). absurd (let x : true ≡ false = sym gone ∙ stays in cc)) (λ same. same) (only-others falses (premise_at premises p) i only m l)

              apart : {l : Lit} → literal_at (premise_at premises p) (entry table j).place ≡ l → literal_at (premise_at premises p) (entry table k).place ≡ l → literal_at (premise_at premises p) (entry table j).place ≡ literal_in (entry table j) → literal_at (premise_at premises p) (entry table k).place ≡ literal_in (entry table k) → ⊥
              apart x y la lb =
                  let same : literal_in (entry table j) ≡ literal_in (entry table k) = sym la ∙ (x ∙ (sym y ∙ lb)) in
                  let up = is_table.rising j k nowhere less second.within in
                  let atom : (entry table j).atom ≡ (entry table k).atom = cc in
                  let sign : (entry table j).negative ≡ (entry table k).negative = cc in
                  let premise : (entry table j).premise ≡ (entry table k).premise = first.premise ∙ sym second.premise in
                  let rank : rank_of (entry table j) ≡ rank_of (entry table k) = ap (λ (n : ℕ). literal_rank n (entry table j).negative + (entry table j).premise) atom ∙ (ap (λ (b : Bool). literal_rank (entry table k).atom b + (entry table j).premise) sign ∙ ap (λ (n : ℕ). literal_rank (entry table k).atom (entry table k).negative + n) premise) in
                  omega (arith, up, rank)

  pub idle_from_settled : (p : ℕ) → p < length premises → is_false_in falses Always ≡ false → 1 ≤ open_at standings p → IsSettled falses (premise_at premises p) → IsIdle falses (premise_at premises p)
  idle_from_settled p h no_always some settled = go (blank_cases premises p h)
    where
      go : (list_any is_always (premise_at premises p) ≡ true) ⊎ (open_at (blank_standings premises) p ≡ 0) → IsIdle falses (premise_at premises p)
      go (inl always) = idle_with_always p no_always always
      go (inr blank) =
          let one_left = some_stands falses p table (let size = tallied.size in let sum = tallied.opens p (omega (arith, h, size)) in omega (arith, some, blank, sum)) in
          let a = place_of_one p one_left.0 h one_left.1 in
          record {
            open_at = (entry table one_left.0).place;
            place = a.0;
            not_false = ap (is_false_in falses) a.1 ∙ one_left.1.stays;
            settled = λ j only. ⊎_elim
                (λ (gone : is_false_in falses (literal_at (premise_at premises p) j) ≡ true). absurd (let x : true ≡ false = sym gone ∙ only-stays falses (premise_at premises p) j only in cc))
                (λ (same : literal_at (premise_at premises p) j ≡ settled.literal). ap (λ (l : Lit). is_false_in falses (negation_of l)) same ∙ settled.is_true)
                (settled.others j only.place);
          }

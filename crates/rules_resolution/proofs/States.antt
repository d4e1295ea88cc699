-- What marks and standings become where one more literal is false.
use Rattle.std.proofs.Common.{◌≡◌, ◌⊎◌, inl, inr, ⊎_elim, ℕ, suc, ◌+◌, ◌<◌, ◌≤◌, Bool, true, false, cond, nat_eq, List, [], ◌∷◌, ◌++◌, length, get_or, set, refl, sym, ◌∙◌, ap, arith, sum_by}
use Rattle.std.proofs.lemmas.Bool.{cases_lt, cases_Bool}
use Rattle.std.proofs.lemmas.List.{get_or_default, get_or-set_same, get_or-set_other, length-set}
use Rattle.std.proofs.lemmas.List.Sums.{sum_by-cons}
use Rattle.term_model.proofs.Basics.{same_tests}
use Rattle.rule_model.specs.declared.literal.Literal.TheVariants.{Plain, Always, Never}
use Rattle.rules_resolution.specs.Falsity.{is_false_in}
use Rattle.rules_resolution.specs.Literal.{Lit}
use Rattle.rules_resolution.specs.declared.occurrence.Occurrence.{Occurrence}
use Rattle.rules_resolution.specs.declared.standing.Standing.{Standing}
use Rattle.rules_resolution.specs.Occurrence.{literal_in, literal_rank, is_of}
use Rattle.rules_resolution.specs.Table.{IsRising, IsFirstOfRank, IsLeader}
use Rattle.rules_resolution.specs.Standing.{blank_standings, open_at, one, occurrence_place, stands, tally, IsTallied, hits, taken, HasRoom, Closes}
use Rattle.rules_resolution.specs.Work.{IsMarked, IsState}
use Rattle.rules_resolution.proofs.Literals.{push_new, push_kept, push_cases}
use Rattle.rules_resolution.proofs.Ranks.{is_of-true, is_of-same, not_of-before, not_of-after}
use Rattle.rules_resolution.proofs.Standings.{same_or_not}

-- other literals stay as they were
pub is_false_in-push_other : (falses : List Lit) (l m : Lit) → (m ≡ l → ⊥) → is_false_in (falses ++ l ∷ []) m ≡ is_false_in falses m
is_false_in-push_other falses l m ne =
    same_tests (is_false_in (falses ++ l ∷ []) m) (is_false_in falses m)
    (λ e. ⊎_elim (λ before. before) (λ same. absurd (ne same)) (push_cases falses l m e)) (push_kept falses l m)

-- nothing changes where the literal was false already
pub is_false_in-push_again : (falses : List Lit) (l m : Lit) → is_false_in falses l ≡ true → is_false_in (falses ++ l ∷ []) m ≡ is_false_in falses m
is_false_in-push_again falses l m gone =
    same_tests (is_false_in (falses ++ l ∷ []) m) (is_false_in falses m)
    (λ e. ⊎_elim (λ before. before) (λ same. ap (is_false_in falses) same ∙ gone) (push_cases falses l m e)) (push_kept falses l m)

sum_by-same_each : (f g : Occurrence → ℕ) (xs : List Occurrence) → ((k : ℕ) (d : Occurrence) → k < length xs → f (get_or xs k d) ≡ g (get_or xs k d)) → sum_by f xs ≡ sum_by g xs
sum_by-same_each f g [] same = refl
sum_by-same_each f g (x ∷ xs) same =
    let here : f x ≡ g x = same 0 x (omega arith) in
    let later : sum_by f xs ≡ sum_by g xs = sum_by-same_each f g xs (λ k d h. same (suc k) d (omega (arith, h))) in
    rw (sum_by-cons f x xs, sum_by-cons g x xs) (omega arith)

sum_by-split : (f g h : Occurrence → ℕ) → ((o : Occurrence) → f o ≡ g o + h o) → (xs : List Occurrence) → sum_by f xs ≡ sum_by g xs + sum_by h xs
sum_by-split f g h split [] = refl
sum_by-split f g h split (x ∷ xs) =
    let here = split x in
    let later = sum_by-split f g h split xs in
    rw (sum_by-cons f x xs, sum_by-cons g x xs, sum_by-cons h x xs) (omega arith)

-- the literals of the table are false as they were
abbrev pub SameInTable : List Lit → List Lit → List Occurrence → Type 0
SameInTable old new table = (k : ℕ) (d : Occurrence) → k < length table → is_false_in new (literal_in (get_or table k d)) ≡ is_false_in old (literal_in (get_or table k d))

pub state_same : (premises : List (List Lit)) (goal falses new : List Lit) (table : List Occurrence) (marks : List Bool) (standings : List Standing) → SameInTable falses new table → IsState premises goal falses table marks standings → IsState premises goal new table marks standings
state_same premises goal falses new table marks standings same state =
    record {
      is_table = state.is_table;
      marked = record { size = state.marked.size; first = λ k d h leads. state.marked.first k d h leads ∙ sym (same k d h) };
      tallied = record {
        size = state.tallied.size;
        opens = λ p h. state.tallied.opens p h ∙ ap (λ (n : ℕ). open_at (blank_standings premises) p + n) (tally_same one p);
        places = λ p h. state.tallied.places p h ∙ tally_same occurrence_place p;
      };
    }
  where
    tally_same : (f : Occurrence → ℕ) (p : ℕ) → tally falses p f table ≡ tally new p f table
    tally_same f p =
        sum_by-same_each (stands falses p f) (stands new p f) table
        (λ k d h. ap (λ (b : Bool). cond (nat_eq (get_or table k d).premise p) (cond b 0 (f (get_or table k d))) 0) (sym (same k d h)))

-- a literal that becomes false takes its occurrences from what is not
tally-push : (falses : List Lit) (a : ℕ) (s : Bool) (p : ℕ) (f : Occurrence → ℕ) (table : List Occurrence) → is_false_in falses (Plain a s) ≡ false → tally falses p f table ≡ tally (falses ++ Plain a s ∷ []) p f table + taken a s p f table
tally-push falses a s p f table stays =
    sum_by-split (stands falses p f) (stands (falses ++ Plain a s ∷ []) p f) (hits a s p f)
    (λ o. here o (cases_Bool (nat_eq o.premise p)) (cases_Bool (is_of a s o))) table
  where
    here : (o : Occurrence) → (nat_eq o.premise p ≡ true) ⊎ (nat_eq o.premise p ≡ false) → (is_of a s o ≡ true) ⊎ (is_of a s o ≡ false) → stands falses p f o ≡ stands (falses ++ Plain a s ∷ []) p f o + hits a s p f o
    here o (inr elsewhere) other = rw elsewhere refl
    here o (inl in_p) (inl is) =
        let lit = is_of-true a s o is in
        let old : is_false_in falses (literal_in o) ≡ false = ap (is_false_in falses) lit ∙ stays in
        let new : is_false_in (falses ++ Plain a s ∷ []) (literal_in o) ≡ true = ap (is_false_in (falses ++ Plain a s ∷ [])) lit ∙ push_new falses (Plain a s) in
        rw (in_p, is, old, new) (omega arith)
    here o (inl in_p) (inr isnt) =
        let other : literal_in o ≡ Plain a s → ⊥ = λ e. (let y = is_of-same a s o e in let x : true ≡ false = sym y ∙ isnt in cc) in
        let same = is_false_in-push_other falses (Plain a s) (literal_in o) other in
        rw (in_p, isnt, same) (omega arith)

pub leader_from_search : (a : ℕ) (s : Bool) (table : List Occurrence) (i : ℕ) (e : Occurrence) → IsFirstOfRank table (literal_rank a s) i → i < length table → is_of a s (get_or table i e) ≡ true → IsLeader a s table i
leader_from_search a s table i e from h is =
    record {
      within = h;
      is = λ d. ap (is_of a s) (get_or_default table i d e h) ∙ is;
      before = λ k d below. not_of-before a s (get_or table k d) (from.before k d below);
    }

-- the mark of a literal's first occurrence says whether it is false
pub mark_says : (falses : List Lit) (a : ℕ) (s : Bool) (table : List Occurrence) (marks : List Bool) (i : ℕ) → IsMarked falses table marks → IsLeader a s table i → get_or marks i false ≡ is_false_in falses (Plain a s)
mark_says falses a s table marks i marked lead =
    let d : Occurrence = record { atom = a; negative = s; premise = 0; place = 0 } in
    let lit : literal_in (get_or table i (record { atom = a; negative = s; premise = 0; place = 0 })) ≡ Plain a s = is_of-true a s (get_or table i (record { atom = a; negative = s; premise = 0; place = 0 })) (lead.is (record { atom = a; negative = s; premise = 0; place = 0 })) in
    marked.first i (record { atom = a; negative = s; premise = 0; place = 0 }) lead.within
    (λ k e below same. (let y = is_of-same a s (get_or table k e) (same ∙ lit) in let n = lead.before k e below in let x : true ≡ false = sym y ∙ n in cc))
    ∙ ap (is_false_in falses) lit

-- a literal that the search doesn't find doesn't occur
pub none_of : (a : ℕ) (s : Bool) (table : List Occurrence) (i : ℕ) (e : Occurrence) → IsRising table → ((k : ℕ) (d : Occurrence) → k < length table → (get_or table k d).premise < 4294967296) → IsFirstOfRank table (literal_rank a s) i → (length table ≤ i) ⊎ (is_of a s (get_or table i e) ≡ false) → (k : ℕ) (d : Occurrence) → k < length table → is_of a s (get_or table k d) ≡ false
none_of a s table i e rising small from absent k d h =
    ⊎_elim (λ (below : k < i). not_of-before a s (get_or table k d) (from.before k d below))
    (λ (above : i ≤ k). ⊎_elim (λ (past : length table ≤ i). absurd (omega arith))
    (λ (isnt : is_of a s (get_or table i e) ≡ false). not_of-after a s table i e rising small (omega arith) (from.from i e (omega arith) (omega arith)) isnt k d above h) absent)
    (cases_lt k i)

pub same_where_none : (falses : List Lit) (a : ℕ) (s : Bool) (table : List Occurrence) → ((k : ℕ) (d : Occurrence) → k < length table → is_of a s (get_or table k d) ≡ false) → SameInTable falses (falses ++ Plain a s ∷ []) table
same_where_none falses a s table none k d h =
    is_false_in-push_other falses (Plain a s) (literal_in (get_or table k d))
    (λ e. (let y = is_of-same a s (get_or table k d) e in let n = none k d h in let x : true ≡ false = sym y ∙ n in cc))

-- there is room to take a literal away that is not false
pub room_for : (premises : List (List Lit)) (falses : List Lit) (a : ℕ) (s : Bool) (table : List Occurrence) (standings : List Standing) → IsTallied premises falses table standings → is_false_in falses (Plain a s) ≡ false → HasRoom a s table standings
room_for premises falses a s table standings tallied stays =
    record {
      opens = λ p h. (let sum = tallied.opens p h in let split = tally-push falses a s p one table stays in omega arith);
      places = λ p h. (let sum = tallied.places p h in let split = tally-push falses a s p occurrence_place table stays in omega arith);
    }

pub state_closed : (premises : List (List Lit)) (goal falses : List Lit) (a : ℕ) (s : Bool) (table : List Occurrence) (marks : List Bool) (old new : List Standing) (i : ℕ) → IsState premises goal falses table marks old → IsLeader a s table i → is_false_in falses (Plain a s) ≡ false → length new ≡ length old → Closes a s table old new → IsState premises goal (falses ++ Plain a s ∷ []) table (set marks i true) new
state_closed premises goal falses a s table marks old new i state lead stays size closes =
    record {
      is_table = state.is_table;
      marked = record { size = length-set marks i true ∙ state.marked.size; first = first };
      tallied = record {
        size = size ∙ state.tallied.size;
        opens = λ p h. (let sum = state.tallied.opens p (omega (arith, h, size)) in let split = tally-push falses a s p one table stays in let c = closes.opens p (omega (arith, h, size)) in omega arith);
        places = λ p h. (let sum = state.tallied.places p (omega (arith, h, size)) in let split = tally-push falses a s p occurrence_place table stays in let c = closes.places p (omega (arith, h, size)) in omega arith);
      };
    }
  where
    first : (k : ℕ) (d : Occurrence) → k < length table → ((j : ℕ) (e : Occurrence) → j < k → literal_in (get_or table j e) ≡ literal_in (get_or table k d) → ⊥) → get_or (set marks i true) k false ≡ is_false_in (falses ++ Plain a s ∷ []) (literal_in (get_or table k d))
    first k d h leads = go (same_or_not k i)
      where
        here : k ≡ i → get_or (set marks i true) k false ≡ is_false_in (falses ++ Plain a s ∷ []) (literal_in (get_or table k d))
        here same =
            let lit : literal_in (get_or table k d) ≡ Plain a s = is_of-true a s (get_or table k d) (ap (λ (n : ℕ). is_of a s (get_or table n d)) same ∙ lead.is d) in
            let within : i < length marks = omega (arith, lead.within, state.marked.size) in
            ap (λ (n : ℕ). get_or (set marks i true) n false) same ∙ (get_or-set_same marks i true false within
            ∙ sym (ap (is_false_in (falses ++ Plain a s ∷ [])) lit ∙ push_new falses (Plain a s)))

        other : (k ≡ i → ⊥) → literal_in (get_or table k d) ≡ Plain a s → ⊥
        other ne lit =
            ⊎_elim
            (λ (below : k < i). (let n = lead.before k d below in let y = is_of-same a s (get_or table k d) lit in let x : true ≡ false = sym y ∙ n in cc))
            (λ (above : i ≤ k). leads i d (let ne2 : k ≡ i → ⊥ = ne in omega arith) (is_of-true a s (get_or table i d) (lead.is d) ∙ sym lit))
            (cases_lt k i)

        go : ((nat_eq k i ≡ true) × (k ≡ i)) ⊎ ((nat_eq k i ≡ false) × (k ≡ i → ⊥)) → get_or (set marks i true) k false ≡ is_false_in (falses ++ Plain a s ∷ []) (literal_in (get_or table k d))
        go (inl (e, same)) = here same
        go (inr (e, ne)) =
            get_or-set_other marks i k true false ne ∙ (state.marked.first k d h leads
            ∙ sym (is_false_in-push_other falses (Plain a s) (literal_in (get_or table k d)) (other ne)))

pub mark_read : (marks : List Bool) (i : ℕ) (x : Bool) → x ≡ get_or marks i x → i < length marks → get_or marks i false ≡ x
mark_read marks i x e h = get_or_default marks i false x h ∙ sym e

pub same_where_false : (falses : List Lit) (a : ℕ) (s : Bool) (table : List Occurrence) → is_false_in falses (Plain a s) ≡ true → SameInTable falses (falses ++ Plain a s ∷ []) table
same_where_false falses a s table gone k d h = is_false_in-push_again falses (Plain a s) (literal_in (get_or table k d)) gone

-- a constant doesn't occur in the table
pub same_with_always : (falses : List Lit) (table : List Occurrence) → SameInTable falses (falses ++ Always ∷ []) table
same_with_always falses table k d h = is_false_in-push_other falses Always (literal_in (get_or table k d)) (λ (e : literal_in (get_or table k d) ≡ Always). cc)

pub same_with_never : (falses : List Lit) (table : List Occurrence) → SameInTable falses (falses ++ Never ∷ []) table
same_with_never falses table k d h = is_false_in-push_other falses Never (literal_in (get_or table k d)) (λ (e : literal_in (get_or table k d) ≡ Never). cc)

-- All occurrences of the premises' and the conclusion's literals.
use Rattle.std.proofs.Common.{◌≡◌, ℕ, zero, suc, ◌+◌, ◌<◌, Bool, List, [], ◌∷◌, ◌++◌, length, get_or, refl, sym, ◌∙◌, ap, subst, arith, All, Contains, append_assoc, take}
use Rattle.std.specs.Global.{Vec}
use Rattle.std.proofs.lemmas.List.{append-nil, take_more, map-append, length-take}
use Rattle.std.proofs.lemmas.List.Elements.{All-nil, All-cons, All-append, Contains-append_left, Contains-append_right}
use Rattle.rule_model.specs.Consequence.{literal_at, premise_at}
use Rattle.rule_model.specs.declared.literal.Literal.TheVariants.{Plain, Always, Never}
use Rattle.clause_chain.specs.Chaining.{clauses_of}
use Rattle.rules_resolution.specs.Literal.{Lit}
use Rattle.rules_resolution.specs.declared.occurrence.Occurrence.{Occurrence}
use Rattle.rules_resolution.proofs.Premises.{length-clauses_of}
use Rattle.rules_resolution.specs.Table.{occurrence_at, occurrences_of, goal_occurrences, occurrences_in, all_occurrences, StandsIn}

pub occurrences_of-push : (p k n : ℕ) (xs : List Lit) (l : Lit) → n ≡ k + length xs → occurrences_of p k (xs ++ l ∷ []) ≡ occurrences_of p k xs ++ occurrence_at p n l
occurrences_of-push p k n [] l e =
    let same : n ≡ k = omega arith in
    append-nil (occurrence_at p k l) ∙ ap (λ m. occurrence_at p m l) (sym same)
occurrences_of-push p k n (x ∷ xs) l e =
    ap (λ ys. occurrence_at p k x ++ ys) (occurrences_of-push p (k + 1) n xs l (omega (arith, e)))
    ∙ sym (append_assoc (occurrence_at p k x) (occurrences_of p (k + 1) xs) (occurrence_at p n l))

pub goal_occurrences-push : (p : ℕ) (xs : List Lit) (l : Lit) → goal_occurrences p (xs ++ l ∷ []) ≡ goal_occurrences p xs ++ occurrence_at p 0 l
goal_occurrences-push p [] l = append-nil (occurrence_at p 0 l)
goal_occurrences-push p (x ∷ xs) l =
    ap (λ ys. occurrence_at p 0 x ++ ys) (goal_occurrences-push p xs l)
    ∙ sym (append_assoc (occurrence_at p 0 x) (goal_occurrences p xs) (occurrence_at p 0 l))

pub occurrences_in-push : (p n : ℕ) (cs : List (List Lit)) (c : List Lit) → n ≡ p + length cs → occurrences_in p (cs ++ c ∷ []) ≡ occurrences_in p cs ++ occurrences_of n 0 c
occurrences_in-push p n [] c e =
    let same : n ≡ p = omega arith in
    append-nil (occurrences_of p 0 c) ∙ ap (λ m. occurrences_of m 0 c) (sym same)
occurrences_in-push p n (x ∷ xs) c e =
    ap (λ ys. occurrences_of p 0 x ++ ys) (occurrences_in-push (p + 1) n xs c (omega (arith, e)))
    ∙ sym (append_assoc (occurrences_of p 0 x) (occurrences_in (p + 1) xs) (occurrences_of n 0 c))

pub clauses_of-take_more : (vs : List (Vec Lit)) (i : ℕ) (d : Vec Lit) → i < length vs → clauses_of (take (i + 1) vs) ≡ clauses_of (take i vs) ++ (get_or vs i d).items ∷ []
clauses_of-take_more vs i d h = ap clauses_of (take_more vs i d h) ∙ map-append (λ (v : Vec Lit). v.items) (take i vs) (get_or vs i d ∷ [])

-- what is said of a premise's literals is so
sound_at : (premises : List (List Lit)) (p k : ℕ) (l : Lit) → p < length premises → k < length (premise_at premises p) → literal_at (premise_at premises p) k ≡ l → All (StandsIn premises) (occurrence_at p k l)
sound_at premises p k (Plain a s) in_premises in_premise e =
    All-cons (StandsIn premises) _ [] (record { premise = omega arith; place = λ _. in_premise; literal = λ _. e }) (All-nil (StandsIn premises))
sound_at premises p k Always in_premises in_premise e = All-nil (StandsIn premises)
sound_at premises p k Never in_premises in_premise e = All-nil (StandsIn premises)

sound_of : (premises : List (List Lit)) (p k : ℕ) (ls : List Lit) → p < length premises → k + length ls ≡ length (premise_at premises p) → ((j : ℕ) → j < length ls → literal_at (premise_at premises p) (k + j) ≡ literal_at ls j) → All (StandsIn premises) (occurrences_of p k ls)
sound_of premises p k [] in_premises size same = All-nil (StandsIn premises)
sound_of premises p k (l ∷ ls) in_premises size same =
    All-append (StandsIn premises) (occurrence_at p k l) (occurrences_of p (k + 1) ls)
    (sound_at premises p k l in_premises (omega (arith, size)) (ap (literal_at (premise_at premises p)) (let e : k ≡ k + 0 = omega arith in e) ∙ same 0 (omega arith)))
    (sound_of premises p (k + 1) ls in_premises (omega (arith, size))
    (λ j h. ap (literal_at (premise_at premises p)) (let e : k + 1 + j ≡ k + suc j = omega arith in e) ∙ same (suc j) (omega (arith, h))))

sound_in : (premises : List (List Lit)) (p : ℕ) (cs : List (List Lit)) → p + length cs ≡ length premises → ((j : ℕ) → j < length cs → premise_at premises (p + j) ≡ premise_at cs j) → All (StandsIn premises) (occurrences_in p cs)
sound_in premises p [] size same = All-nil (StandsIn premises)
sound_in premises p (c ∷ cs) size same =
    let here : premise_at premises p ≡ c = ap (premise_at premises) (let e : p ≡ p + 0 = omega arith in e) ∙ same 0 (omega arith) in
    All-append (StandsIn premises) (occurrences_of p 0 c) (occurrences_in (p + 1) cs)
    (sound_of premises p 0 c (omega (arith, size)) (let e : 0 + length c ≡ length c = omega arith in e ∙ ap length (sym here))
    (λ j h. ap (λ (x : List Lit). literal_at x (0 + j)) here ∙ ap (literal_at c) (let e : 0 + j ≡ j = omega arith in e)))
    (sound_in premises (p + 1) cs (omega (arith, size))
    (λ j h. ap (premise_at premises) (let e : p + 1 + j ≡ p + suc j = omega arith in e) ∙ same (suc j) (omega (arith, h))))

sound_goal : (premises : List (List Lit)) (goal : List Lit) → All (StandsIn premises) (goal_occurrences (length premises) goal)
sound_goal premises [] = All-nil (StandsIn premises)
sound_goal premises (l ∷ ls) = All-append (StandsIn premises) (occurrence_at (length premises) 0 l) (goal_occurrences (length premises) ls) (head l) (sound_goal premises ls)
  where
    head : (m : Lit) → All (StandsIn premises) (occurrence_at (length premises) 0 m)
    head (Plain a s) = All-cons (StandsIn premises) _ [] (record { premise = omega arith; place = λ h. absurd (omega (arith, h)); literal = λ h. absurd (omega (arith, h)) }) (All-nil (StandsIn premises))
    head Always = All-nil (StandsIn premises)
    head Never = All-nil (StandsIn premises)

pub all_occurrences-sound : (premises : List (List Lit)) (goal : List Lit) → All (StandsIn premises) (all_occurrences premises goal)
all_occurrences-sound premises goal =
    All-append (StandsIn premises) (occurrences_in 0 premises) (goal_occurrences (length premises) goal)
    (sound_in premises 0 premises (omega arith) (λ j h. ap (premise_at premises) (let e : 0 + j ≡ j = omega arith in e)))
    (sound_goal premises goal)

-- and each literal that is no constant occurs
abbrev occurs : ℕ → ℕ → ℕ → Bool → Occurrence
occurs p k a s = record { atom = a; negative = s; premise = p; place = k }

contains_here : (p k : ℕ) (l : Lit) (a : ℕ) (s : Bool) → l ≡ Plain a s → Contains (occurrence_at p k l) (occurs p k a s)
contains_here p k l a s e = subst (λ (m : Lit). Contains (occurrence_at p k m) (occurs p k a s)) (sym e) (0, omega arith, refl)

contains_of : (p k n : ℕ) (ls : List Lit) (j a : ℕ) (s : Bool) → n ≡ k + j → j < length ls → literal_at ls j ≡ Plain a s → Contains (occurrences_of p k ls) (occurs p n a s)
contains_of p k n [] j a s e h same = absurd (omega (arith, h))
contains_of p k n (l ∷ ls) zero a s e h same =
    let here : n ≡ k = omega arith in
    subst (λ (m : ℕ). Contains (occurrences_of p k (l ∷ ls)) (occurs p m a s)) (sym here)
    (Contains-append_left (occurrence_at p k l) (occurrences_of p (k + 1) ls) (occurs p k a s) (contains_here p k l a s same))
contains_of p k n (l ∷ ls) (suc j) a s e h same =
    Contains-append_right (occurrence_at p k l) (occurrences_of p (k + 1) ls) (occurs p n a s)
    (contains_of p (k + 1) n ls j a s (omega (arith, e)) (omega (arith, h)) same)

contains_in : (p n : ℕ) (cs : List (List Lit)) (i k a : ℕ) (s : Bool) → n ≡ p + i → i < length cs → k < length (premise_at cs i) → literal_at (premise_at cs i) k ≡ Plain a s → Contains (occurrences_in p cs) (occurs n k a s)
contains_in p n [] i k a s e h g same = absurd (omega (arith, h))
contains_in p n (c ∷ cs) zero k a s e h g same =
    let here : n ≡ p = omega arith in
    subst (λ (m : ℕ). Contains (occurrences_in p (c ∷ cs)) (occurs m k a s)) (sym here)
    (Contains-append_left (occurrences_of p 0 c) (occurrences_in (p + 1) cs) (occurs p k a s)
    (contains_of p 0 k c k a s (omega arith) g same))
contains_in p n (c ∷ cs) (suc i) k a s e h g same =
    Contains-append_right (occurrences_of p 0 c) (occurrences_in (p + 1) cs) (occurs n k a s)
    (contains_in (p + 1) n cs i k a s (omega (arith, e)) (omega (arith, h)) g same)

contains_goal : (p : ℕ) (ls : List Lit) (k a : ℕ) (s : Bool) → k < length ls → literal_at ls k ≡ Plain a s → Contains (goal_occurrences p ls) (occurs p 0 a s)
contains_goal p [] k a s h same = absurd (omega (arith, h))
contains_goal p (l ∷ ls) zero a s h same =
    Contains-append_left (occurrence_at p 0 l) (goal_occurrences p ls) (occurs p 0 a s) (contains_here p 0 l a s same)
contains_goal p (l ∷ ls) (suc k) a s h same =
    Contains-append_right (occurrence_at p 0 l) (goal_occurrences p ls) (occurs p 0 a s) (contains_goal p ls k a s (omega (arith, h)) same)

pub all_occurrences-premise : (premises : List (List Lit)) (goal : List Lit) (p k a : ℕ) (s : Bool) → p < length premises → k < length (premise_at premises p) → literal_at (premise_at premises p) k ≡ Plain a s → Contains (all_occurrences premises goal) (record { atom = a; negative = s; premise = p; place = k })
all_occurrences-premise premises goal p k a s h g same =
    Contains-append_left (occurrences_in 0 premises) (goal_occurrences (length premises) goal) (occurs p k a s)
    (contains_in 0 p premises p k a s (omega arith) h g same)

pub all_occurrences-goal : (premises : List (List Lit)) (goal : List Lit) (k a : ℕ) (s : Bool) → k < length goal → literal_at goal k ≡ Plain a s → Contains (all_occurrences premises goal) (record { atom = a; negative = s; premise = length premises; place = 0 })
all_occurrences-goal premises goal k a s h same =
    Contains-append_right (occurrences_in 0 premises) (goal_occurrences (length premises) goal) (occurs (length premises) 0 a s)
    (contains_goal (length premises) goal k a s h same)

pub occurrences_of-more : (p i : ℕ) (clause : List Lit) (d : Lit) → i < length clause → occurrences_of p 0 (take (i + 1) clause) ≡ occurrences_of p 0 (take i clause) ++ occurrence_at p i (get_or clause i d)
occurrences_of-more p i clause d h =
    ap (occurrences_of p 0) (take_more clause i d h)
    ∙ occurrences_of-push p 0 i (take i clause) (get_or clause i d) (let e = length-take i clause in omega arith)

pub goal_occurrences-more : (p i : ℕ) (goal : List Lit) (d : Lit) → i < length goal → goal_occurrences p (take (i + 1) goal) ≡ goal_occurrences p (take i goal) ++ occurrence_at p 0 (get_or goal i d)
goal_occurrences-more p i goal d h =
    ap (goal_occurrences p) (take_more goal i d h) ∙ goal_occurrences-push p (take i goal) (get_or goal i d)

pub occurrences_in-more : (vs : List (Vec Lit)) (i : ℕ) (d : Vec Lit) → i < length vs → occurrences_in 0 (clauses_of (take (i + 1) vs)) ≡ occurrences_in 0 (clauses_of (take i vs)) ++ occurrences_of i 0 (get_or vs i d).items
occurrences_in-more vs i d h =
    ap (occurrences_in 0) (clauses_of-take_more vs i d h)
    ∙ occurrences_in-push 0 i (clauses_of (take i vs)) (get_or vs i d).items (let e = length-take i vs in let f = length-clauses_of (take i vs) in omega arith)

-- Standings while occurrences are counted, and while those of a literal are taken away.
use Rattle.std.proofs.Common.{◌≡◌, ◌⊎◌, inl, inr, ⊎_elim, ℕ, zero, suc, ◌+◌, ◌<◌, ◌≤◌, Bool, true, false, cond, nat_eq, List, [], ◌∷◌, length, get_or, set, map, take, refl, sym, ◌∙◌, ap, arith, eq-eqb, sum_by}
use Rattle.std.specs.List.{list_any}
use Rattle.std.proofs.lemmas.Bool.{eqb-true}
use Rattle.std.proofs.lemmas.List.{length-map, get_or-set_same, get_or-set_other, length-set, length-append}
use Rattle.std.proofs.lemmas.List.Sums.{sum_by-cons, sum_by_more}
use Rattle.rules_resolution.specs.Literal.{Lit}
use Rattle.rules_resolution.specs.declared.occurrence.Occurrence.{Occurrence}
use Rattle.rules_resolution.specs.declared.standing.Standing.{Standing}
use Rattle.rules_resolution.specs.Occurrence.{is_of}
use Rattle.rules_resolution.specs.Standing.{is_always, blank_of, blank_standings, open_at, places_at, one, occurrence_place, stands, tally, IsTallied, hits}

pub same_or_not : (m n : ℕ) → ((nat_eq m n ≡ true) × (m ≡ n)) ⊎ ((nat_eq m n ≡ false) × (m ≡ n → ⊥))
same_or_not m n = go (nat_eq m n) refl
  where
    go : (b : Bool) → nat_eq m n ≡ b → ((nat_eq m n ≡ true) × (m ≡ n)) ⊎ ((nat_eq m n ≡ false) × (m ≡ n → ⊥))
    go true e = inl (e, eqb-true m n e)
    go false e = inr (e, λ same. (let t = eq-eqb m n same in cc))

pub open_at-set_same : (s : List Standing) (q : ℕ) (r : Standing) → q < length s → open_at (set s q r) q ≡ r.left
open_at-set_same s q r h = ap (λ (x : Standing). x.left) (get_or-set_same s q r (record { left = 0; places = 0 }) h)

pub open_at-set_other : (s : List Standing) (q p : ℕ) (r : Standing) → (p ≡ q → ⊥) → open_at (set s q r) p ≡ open_at s p
open_at-set_other s q p r ne = ap (λ (x : Standing). x.left) (get_or-set_other s q p r (record { left = 0; places = 0 }) ne)

pub places_at-set_same : (s : List Standing) (q : ℕ) (r : Standing) → q < length s → places_at (set s q r) q ≡ r.places
places_at-set_same s q r h = ap (λ (x : Standing). x.places) (get_or-set_same s q r (record { left = 0; places = 0 }) h)

pub places_at-set_other : (s : List Standing) (q p : ℕ) (r : Standing) → (p ≡ q → ⊥) → places_at (set s q r) p ≡ places_at s p
places_at-set_other s q p r ne = ap (λ (x : Standing). x.places) (get_or-set_other s q p r (record { left = 0; places = 0 }) ne)

-- nothing is counted at first but the constant
pub open_at-blank_le : (premises : List (List Lit)) (p : ℕ) → open_at (blank_standings premises) p ≤ 2
open_at-blank_le [] zero = omega arith
open_at-blank_le [] (suc p) = omega arith
open_at-blank_le (c ∷ cs) zero = at_most (list_any is_always c)
  where
    at_most : (b : Bool) → cond b 2 0 ≤ 2
    at_most true = omega arith
    at_most false = omega arith
open_at-blank_le (c ∷ cs) (suc p) = open_at-blank_le cs p

pub places_at-blank : (premises : List (List Lit)) (p : ℕ) → places_at (blank_standings premises) p ≡ 0
places_at-blank [] zero = refl
places_at-blank [] (suc p) = refl
places_at-blank (c ∷ cs) zero = refl
places_at-blank (c ∷ cs) (suc p) = places_at-blank cs p

stands-here : (f : Occurrence → ℕ) (p : ℕ) (o : Occurrence) → nat_eq o.premise p ≡ true → stands [] p f o ≡ f o
stands-here f p o e = ap (λ (b : Bool). cond b (f o) 0) e

stands-elsewhere : (f : Occurrence → ℕ) (p : ℕ) (o : Occurrence) → nat_eq o.premise p ≡ false → stands [] p f o ≡ 0
stands-elsewhere f p o e = ap (λ (b : Bool). cond b (f o) 0) e

pub hits-here : (a : ℕ) (s : Bool) (f : Occurrence → ℕ) (p : ℕ) (o : Occurrence) → is_of a s o ≡ true → nat_eq o.premise p ≡ true → hits a s p f o ≡ f o
hits-here a s f p o is e = ap (λ (b : Bool). cond b (cond (is_of a s o) (f o) 0) 0) e ∙ ap (λ (b : Bool). cond b (f o) 0) is

pub hits-elsewhere : (a : ℕ) (s : Bool) (f : Occurrence → ℕ) (p : ℕ) (o : Occurrence) → nat_eq o.premise p ≡ false → hits a s p f o ≡ 0
hits-elsewhere a s f p o e = ap (λ (b : Bool). cond b (cond (is_of a s o) (f o) 0) 0) e

pub hits-other : (a : ℕ) (s : Bool) (f : Occurrence → ℕ) (p : ℕ) (o : Occurrence) → is_of a s o ≡ false → hits a s p f o ≡ 0
hits-other a s f p o is = ap (λ (b : Bool). cond (nat_eq o.premise p) (cond b (f o) 0) 0) is ∙ none (nat_eq o.premise p) 0
  where
    none : (b : Bool) (z : ℕ) → cond b z z ≡ z
    none true z = refl
    none false z = refl

pub sum_by-none : {X : Type 0} (f : X → ℕ) (xs : List X) → ((k : ℕ) (d : X) → k < length xs → f (get_or xs k d) ≡ 0) → sum_by f xs ≡ 0
sum_by-none f [] none = refl
sum_by-none f (x ∷ xs) none =
    let here : f x ≡ 0 = none 0 x (omega arith) in
    let later : sum_by f xs ≡ 0 = sum_by-none f xs (λ k d h. none (suc k) d (omega (arith, h))) in
    rw (sum_by-cons f x xs) (omega arith)

-- one occurrence more is counted
pub counted_more : (premises : List (List Lit)) (table : List Occurrence) (standings : List Standing) (i : ℕ) (d : Occurrence) → IsTallied premises [] (take i table) standings → i < length table → (get_or table i d).premise < length standings → IsTallied premises [] (take (i + 1) table) (set standings (get_or table i d).premise (record { left = open_at standings (get_or table i d).premise + 1; places = places_at standings (get_or table i d).premise + (get_or table i d).place }))
counted_more premises table standings i d t h g =
    record {
      size = length-set standings q r ∙ t.size;
      opens = λ p l. (let before : p < length standings = (let e = length-set standings q r in omega arith) in opens p before (same_or_not q p));
      places = λ p l. (let before : p < length standings = (let e = length-set standings q r in omega arith) in places p before (same_or_not q p));
    }
  where
    o : Occurrence
    o = get_or table i d

    q : ℕ
    q = (get_or table i d).premise

    r : Standing
    r = record { left = open_at standings (get_or table i d).premise + 1; places = places_at standings (get_or table i d).premise + (get_or table i d).place }

    opens : (p : ℕ) → p < length standings → ((nat_eq (get_or table i d).premise p ≡ true) × ((get_or table i d).premise ≡ p)) ⊎ ((nat_eq (get_or table i d).premise p ≡ false) × ((get_or table i d).premise ≡ p → ⊥)) → open_at (set standings (get_or table i d).premise (record { left = open_at standings (get_or table i d).premise + 1; places = places_at standings (get_or table i d).premise + (get_or table i d).place })) p ≡ open_at (blank_standings premises) p + tally [] p one (take (i + 1) table)
    opens p l (inl (e, same)) =
        let more = sum_by_more (stands [] p one) table i d h in
        let here = stands-here one p (get_or table i d) e in
        let was = t.opens p l in
        let now = open_at-set_same standings (get_or table i d).premise (record { left = open_at standings (get_or table i d).premise + 1; places = places_at standings (get_or table i d).premise + (get_or table i d).place }) g in
        let moved = ap (open_at standings) same in
        rw (more, here, ← same) (now ∙ omega (arith, was, moved, same))
    opens p l (inr (e, ne)) =
        let more = sum_by_more (stands [] p one) table i d h in
        let here = stands-elsewhere one p (get_or table i d) e in
        let was = t.opens p l in
        let now = open_at-set_other standings (get_or table i d).premise p (record { left = open_at standings (get_or table i d).premise + 1; places = places_at standings (get_or table i d).premise + (get_or table i d).place }) (λ q. ne (sym q)) in
        rw (more, here) (now ∙ omega (arith, was))

    places : (p : ℕ) → p < length standings → ((nat_eq (get_or table i d).premise p ≡ true) × ((get_or table i d).premise ≡ p)) ⊎ ((nat_eq (get_or table i d).premise p ≡ false) × ((get_or table i d).premise ≡ p → ⊥)) → places_at (set standings (get_or table i d).premise (record { left = open_at standings (get_or table i d).premise + 1; places = places_at standings (get_or table i d).premise + (get_or table i d).place })) p ≡ tally [] p occurrence_place (take (i + 1) table)
    places p l (inl (e, same)) =
        let more = sum_by_more (stands [] p occurrence_place) table i d h in
        let here = stands-here occurrence_place p (get_or table i d) e in
        let was = t.places p l in
        let now = places_at-set_same standings (get_or table i d).premise (record { left = open_at standings (get_or table i d).premise + 1; places = places_at standings (get_or table i d).premise + (get_or table i d).place }) g in
        let moved = ap (places_at standings) same in
        rw (more, here, ← same) (now ∙ omega (arith, was, moved, same))
    places p l (inr (e, ne)) =
        let more = sum_by_more (stands [] p occurrence_place) table i d h in
        let here = stands-elsewhere occurrence_place p (get_or table i d) e in
        let was = t.places p l in
        let now = places_at-set_other standings (get_or table i d).premise p (record { left = open_at standings (get_or table i d).premise + 1; places = places_at standings (get_or table i d).premise + (get_or table i d).place }) (λ q. ne (sym q)) in
        rw (more, here) (now ∙ omega (arith, was))

pub tallied_at_start : (premises : List (List Lit)) → IsTallied premises [] [] (blank_standings premises)
tallied_at_start premises =
    record {
      size = length-append (map blank_of premises) (record { left = 2; places = 0 } ∷ []) ∙ ap (λ (n : ℕ). n + 1) (length-map premises blank_of);
      opens = λ p h. omega arith;
      places = λ p h. places_at-blank premises p;
    }

pub bounded_open : (standings : List Standing) (q n : ℕ) (r : Standing) → ((p : ℕ) → open_at standings p ≤ n) → q < length standings → r.left ≤ n + 1 → (p : ℕ) → open_at (set standings q r) p ≤ n + 1
bounded_open standings q n r bound h le p =
    ⊎_elim
    (λ (same : (nat_eq q p ≡ true) × (q ≡ p)). (let now = open_at-set_same standings q r h in let there = ap (open_at (set standings q r)) same.1 in omega arith))
    (λ (other : (nat_eq q p ≡ false) × (q ≡ p → ⊥)). (let now = open_at-set_other standings q p r (λ x. other.1 (sym x)) in let was = bound p in omega arith))
    (same_or_not q p)

pub bounded_places : (standings : List Standing) (q n m : ℕ) (r : Standing) → ((p : ℕ) → places_at standings p ≤ n) → q < length standings → r.places ≤ m → n ≤ m → (p : ℕ) → places_at (set standings q r) p ≤ m
bounded_places standings q n m r bound h le up p =
    ⊎_elim
    (λ (same : (nat_eq q p ≡ true) × (q ≡ p)). (let now = places_at-set_same standings q r h in let there = ap (places_at (set standings q r)) same.1 in omega arith))
    (λ (other : (nat_eq q p ≡ false) × (q ≡ p → ⊥)). (let now = places_at-set_other standings q p r (λ x. other.1 (sym x)) in let was = bound p in omega arith))
    (same_or_not q p)

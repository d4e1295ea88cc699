-- The occurrences of a literal are taken from the standings, one after another.
use Rattle.std.proofs.Common.{◌≡◌, ◌⊎◌, inl, inr, ⊎_elim, ℕ, ◌+◌, ◌<◌, ◌≤◌, Bool, true, false, cond, nat_eq, leb, List, [], ◌∷◌, ◌++◌, length, get_or, set, take, drop, refl, sym, ◌∙◌, ap, subst, arith, All, Contains, length-append}
use Rattle.std.proofs.lemmas.Bool.{cases_lt}
use Rattle.std.proofs.lemmas.Bool.Decides.{nat_tests}
use Rattle.std.proofs.lemmas.List.{length-set, get_or-drop, length-drop, get_or-take, length-take}
use Rattle.std.proofs.lemmas.List.Elements.{All-push, Contains-push, Contains-append_left}
use Rattle.std.proofs.lemmas.List.Sums.{sum_by_more, sum_by_more_le, sum_by-take-drop, sum_by-set}
use Rattle.rules_resolution.specs.declared.occurrence.Occurrence.{Occurrence}
use Rattle.rules_resolution.specs.declared.standing.Standing.{Standing}
use Rattle.rules_resolution.specs.Occurrence.{is_of}
use Rattle.rules_resolution.specs.Table.{IsLeader}
use Rattle.rules_resolution.specs.Standing.{open_at, places_at, one, occurrence_place, hits, taken, HasRoom, Closes, Advances, lessened, ready_with}
use Rattle.rules_resolution.proofs.Standings.{same_or_not, open_at-set_same, open_at-set_other, places_at-set_same, places_at-set_other, hits-here, hits-elsewhere, hits-other, sum_by-none}

pub closes_start : (a : ℕ) (s : Bool) (table : List Occurrence) (first : ℕ) (standings : List Standing) → IsLeader a s table first → Closes a s (take first table) standings standings
closes_start a s table first standings lead =
    record {
      opens = λ p h. (let e = none one p in omega arith);
      places = λ p h. (let e = none occurrence_place p in omega arith);
    }
  where
    none : (f : Occurrence → ℕ) (p : ℕ) → taken a s p f (take first table) ≡ 0
    none f p =
        sum_by-none (hits a s p f) (take first table)
        (λ k d h. (let n = length-take first table in
        let below : k < first = omega arith in
        rw (get_or-take first table k d below) (hits-other a s f p (get_or table k d) (lead.before k d below))))

pub closes_end : (a : ℕ) (s : Bool) (table : List Occurrence) (i : ℕ) (old new : List Standing) → ((k : ℕ) (d : Occurrence) → i ≤ k → k < length table → is_of a s (get_or table k d) ≡ false) → Closes a s (take i table) old new → Closes a s table old new
closes_end a s table i old new others closes =
    record {
      opens = λ p h. (let e = none one p in let w = sum_by-take-drop (hits a s p one) table i in let c = closes.opens p h in omega arith);
      places = λ p h. (let e = none occurrence_place p in let w = sum_by-take-drop (hits a s p occurrence_place) table i in let c = closes.places p h in omega arith);
    }
  where
    none : (f : Occurrence → ℕ) (p : ℕ) → taken a s p f (drop i table) ≡ 0
    none f p =
        sum_by-none (hits a s p f) (drop i table)
        (λ k d h. (let n = length-drop i table in
        rw (get_or-drop i table k d) (hits-other a s f p (get_or table (i + k) d) (others (i + k) d (omega arith) (omega arith)))))

-- what is still to be taken is there
pub room_left : (a : ℕ) (s : Bool) (table : List Occurrence) (i : ℕ) (d : Occurrence) (old new : List Standing) → HasRoom a s table old → Closes a s (take i table) old new → i < length table → is_of a s (get_or table i d) ≡ true → (get_or table i d).premise < length old → (1 ≤ open_at new (get_or table i d).premise) × ((get_or table i d).place ≤ places_at new (get_or table i d).premise)
room_left a s table i d old new room closes h is g =
    let q : nat_eq (get_or table i d).premise (get_or table i d).premise ≡ true = same_true (same_or_not (get_or table i d).premise (get_or table i d).premise) in
    let le = sum_by_more_le (hits a s (get_or table i d).premise one) table i d h in
    let here = hits-here a s one (get_or table i d).premise (get_or table i d) is q in
    let enough = room.opens (get_or table i d).premise g in
    let so_far = closes.opens (get_or table i d).premise g in
    let le2 = sum_by_more_le (hits a s (get_or table i d).premise occurrence_place) table i d h in
    let here2 = hits-here a s occurrence_place (get_or table i d).premise (get_or table i d) is q in
    let enough2 = room.places (get_or table i d).premise g in
    let so_far2 = closes.places (get_or table i d).premise g in
    (omega arith, omega arith)
  where
    same_true : {m : ℕ} → ((nat_eq m m ≡ true) × (m ≡ m)) ⊎ ((nat_eq m m ≡ false) × (m ≡ m → ⊥)) → nat_eq m m ≡ true
    same_true (inl p) = p.0
    same_true (inr p) = absurd (p.1 refl)

pub closes_more : (a : ℕ) (s : Bool) (table : List Occurrence) (i : ℕ) (d : Occurrence) (old new : List Standing) → Closes a s (take i table) old new → length new ≡ length old → i < length table → is_of a s (get_or table i d) ≡ true → (get_or table i d).premise < length old → 1 ≤ open_at new (get_or table i d).premise → (get_or table i d).place ≤ places_at new (get_or table i d).premise → Closes a s (take (i + 1) table) old (set new (get_or table i d).premise (lessened new (get_or table i d)))
closes_more a s table i d old new closes size h is g enough enough2 =
    record { opens = λ p l. opens p l (same_or_not (get_or table i d).premise p); places = λ p l. places p l (same_or_not (get_or table i d).premise p) }
  where
    opens : (p : ℕ) → p < length old → ((nat_eq (get_or table i d).premise p ≡ true) × ((get_or table i d).premise ≡ p)) ⊎ ((nat_eq (get_or table i d).premise p ≡ false) × ((get_or table i d).premise ≡ p → ⊥)) → open_at (set new (get_or table i d).premise (lessened new (get_or table i d))) p + taken a s p one (take (i + 1) table) ≡ open_at old p
    opens p l (inl (e, same)) =
        let more = sum_by_more (hits a s p one) table i d h in
        let here = hits-here a s one p (get_or table i d) is e in
        let was = closes.opens p l in
        let within : (get_or table i d).premise < length new = omega arith in
        let now = open_at-set_same new (get_or table i d).premise (lessened new (get_or table i d)) within in
        let moved = ap (open_at new) same in
        let there = ap (open_at (set new (get_or table i d).premise (lessened new (get_or table i d)))) same in
        omega arith
    opens p l (inr (e, ne)) =
        let more = sum_by_more (hits a s p one) table i d h in
        let here = hits-elsewhere a s one p (get_or table i d) e in
        let was = closes.opens p l in
        let now = open_at-set_other new (get_or table i d).premise p (lessened new (get_or table i d)) (λ q. ne (sym q)) in
        omega arith

    places : (p : ℕ) → p < length old → ((nat_eq (get_or table i d).premise p ≡ true) × ((get_or table i d).premise ≡ p)) ⊎ ((nat_eq (get_or table i d).premise p ≡ false) × ((get_or table i d).premise ≡ p → ⊥)) → places_at (set new (get_or table i d).premise (lessened new (get_or table i d))) p + taken a s p occurrence_place (take (i + 1) table) ≡ places_at old p
    places p l (inl (e, same)) =
        let more = sum_by_more (hits a s p occurrence_place) table i d h in
        let here = hits-here a s occurrence_place p (get_or table i d) is e in
        let was = closes.places p l in
        let within : (get_or table i d).premise < length new = omega arith in
        let now = places_at-set_same new (get_or table i d).premise (lessened new (get_or table i d)) within in
        let moved = ap (places_at new) same in
        let there = ap (places_at (set new (get_or table i d).premise (lessened new (get_or table i d)))) same in
        omega arith
    places p l (inr (e, ne)) =
        let more = sum_by_more (hits a s p occurrence_place) table i d h in
        let here = hits-elsewhere a s occurrence_place p (get_or table i d) e in
        let was = closes.places p l in
        let now = places_at-set_other new (get_or table i d).premise p (lessened new (get_or table i d)) (λ q. ne (sym q)) in
        omega arith

pub advances_none : (standings : List Standing) (ready : List ℕ) → Advances standings standings ready ready
advances_none standings ready =
    record { size = refl; each = λ p h. inr (inr refl); kept = λ p c. c; in_range = λ r. r; work = omega arith }

kept_with : (ready : List ℕ) (q p : ℕ) (b : Bool) → Contains ready p → Contains (cond b (ready ++ q ∷ []) ready) p
kept_with ready q p true c = Contains-append_left ready (q ∷ []) p c
kept_with ready q p false c = c

ready_now : (ready : List ℕ) (q left : ℕ) → (2 ≤ left) ⊎ Contains (ready_with ready q left) q
ready_now ready q left = go (leb left 1) refl
  where
    go : (b : Bool) → leb left 1 ≡ b → (2 ≤ left) ⊎ Contains (cond b (ready ++ q ∷ []) ready) q
    go true e = inr (Contains-push ready q)
    go false e = inl (grind (arith, nat_tests))

in_range_with : (n : ℕ) (ready : List ℕ) (q : ℕ) (b : Bool) → q < n → All (λ p. p < n) ready → All (λ p. p < n) (cond b (ready ++ q ∷ []) ready)
in_range_with n ready q true h all = All-push (λ p. p < n) ready q all h
in_range_with n ready q false h all = all

length_with : (ready : List ℕ) (q : ℕ) (b : Bool) → length (cond b (ready ++ q ∷ []) ready) ≤ length ready + 1
length_with ready q true = omega (arith, length-append ready (q ∷ []))
length_with ready q false = omega arith

pub advances_more : (old new : List Standing) (old_ready new_ready : List ℕ) (q : ℕ) (r : Standing) → Advances old new old_ready new_ready → q < length old → r.left + 1 ≡ open_at new q → Advances old (set new q r) old_ready (ready_with new_ready q r.left)
advances_more old new old_ready new_ready q r adv h less =
    record {
      size = length-set new q r ∙ adv.size;
      each = λ p l. each p l (same_or_not q p);
      kept = λ p c. kept_with new_ready q p (leb r.left 1) (adv.kept p c);
      in_range = λ all. in_range_with (length old) new_ready q (leb r.left 1) h (adv.in_range all);
      work =
          (let w = adv.work in
          let n = length_with new_ready q (leb r.left 1) in
          let size = adv.size in
          let within : q < length new = omega arith in
          let t = sum_by-set (λ (x : Standing). x.left) new q r (record { left = 0; places = 0 }) within in
          omega arith);
    }
  where
    each : (p : ℕ) → p < length old → ((nat_eq q p ≡ true) × (q ≡ p)) ⊎ ((nat_eq q p ≡ false) × (q ≡ p → ⊥)) → (2 ≤ open_at (set new q r) p) ⊎ (Contains (ready_with new_ready q r.left) p ⊎ (open_at (set new q r) p ≡ open_at old p))
    each p l (inl (e, same)) =
        let size = adv.size in
        let within : q < length new = omega arith in
        let now = open_at-set_same new q r within in
        subst (λ (x : ℕ). (2 ≤ open_at (set new q r) x) ⊎ (Contains (ready_with new_ready q r.left) x ⊎ (open_at (set new q r) x ≡ open_at old x))) same
        (⊎_elim (λ (two : 2 ≤ r.left). inl (rw now two)) (λ c. inr (inl c)) (ready_now new_ready q r.left))
    each p l (inr (e, ne)) =
        let now = open_at-set_other new q p r (λ x. ne (sym x)) in
        ⊎_elim (λ (two : 2 ≤ open_at new p). inl (rw now two))
        (λ other. ⊎_elim (λ c. inr (inl (kept_with new_ready q p (leb r.left 1) c))) (λ (same : open_at new p ≡ open_at old p). inr (inr (now ∙ same))) other)
        (adv.each p l)

-- one premise more is looked at
pub ready_more : (standings : List Standing) (ready : List ℕ) (i : ℕ) → ((p : ℕ) → p < i → (2 ≤ open_at standings p) ⊎ Contains ready p) → (p : ℕ) → p < i + 1 → (2 ≤ open_at standings p) ⊎ Contains (ready_with ready i (open_at standings i)) p
ready_more standings ready i before p h =
    ⊎_elim
    (λ (below : p < i). ⊎_elim (λ two. inl two) (λ c. inr (kept_with ready i p (leb (open_at standings i) 1) c)) (before p below))
    (λ (above : i ≤ p).
    (let same : i ≡ p = omega arith in
    subst (λ (x : ℕ). (2 ≤ open_at standings x) ⊎ Contains (ready_with ready i (open_at standings i)) x) same (ready_now ready i (open_at standings i))))
    (cases_lt p i)

pub ready_more-in_range : (n : ℕ) (ready : List ℕ) (q left : ℕ) → q < n → All (λ p. p < n) ready → All (λ p. p < n) (ready_with ready q left)
ready_more-in_range n ready q left h all = in_range_with n ready q (leb left 1) h all

-- What is reached, and how it grows.
use Rattle.std.proofs.Common.{◌≡◌, inl, inr, ◌<◌, ◌≤◌, ◌+◌, ◌*◌, ◌^◌, ℕ, zero, suc, nat_eq, not, Bool, true, false, List, [], ◌∷◌, ◌++◌, length, get_or, slice_get, Some, refl, sym, ap, ◌∙◌, subst, arith, Contains, if◌then◌else◌}
use Rattle.std.specs.List.{list_any}
use Rattle.std.proofs.lemmas.Bool.{cases_lt}
use Rattle.std.proofs.lemmas.List.{nil_from_length}
use Rattle.std.proofs.lemmas.Option.{slice_get_within, slice_get-get_or}
use Rattle.indexmap.specs.IndexSet.{insert_key}
use Rattle.term_model.proofs.Lists.{contains_none, has_number, slice_get-left, slice_get-last}
use Rattle.equality_ways.proofs.Places.{contains_of_get, get_of_contains, get_pushed, length_push}
use Rattle.equality_ways.proofs.TableLemmas.{from_is, ends_between}
use Rattle.equality_ways.specs.declared.pairs.Used.{Used}
use Rattle.equality_ways.specs.declared.reaching.Step.{Step}
use Rattle.equality_ways.specs.declared.table.Entry.{Entry}
use Rattle.equality_ways.specs.Reaching.{AreFollowed, AreInOrder, AreReached, Follows, FollowsTo, IsReachedBy, IsReachedFrom, IsSearched, Reaches}
use Rattle.equality_ways.specs.Tables.{AreSmall, IsFirstFrom, entry}

some_same : (x y : ℕ) → Some x ≡ Some y → x ≡ y
some_same x y e = cc

-- a key that is there, and one that is new
pub key_there : (keys : List ℕ) (key : ℕ) → list_any (nat_eq key) keys ≡ true → Contains keys key
key_there keys key e = (has_number keys key).0 e

pub key_new : (keys : List ℕ) (key : ℕ) → list_any (nat_eq key) keys ≡ false → ¬ Contains keys key
key_new keys key e h = let there = (has_number keys key).1 h in let clash : false ≡ true = sym e ∙ there in absurd (cc)

pub keys_there : (keys : List ℕ) (key : ℕ) → list_any (nat_eq key) keys ≡ true → insert_key nat_eq keys key ≡ keys
keys_there keys key e = ap (λ (b : Bool). if b then keys else keys ++ key ∷ []) e

pub keys_new : (keys : List ℕ) (key : ℕ) → list_any (nat_eq key) keys ≡ false → insert_key nat_eq keys key ≡ keys ++ key ∷ []
keys_new keys key e = ap (λ (b : Bool). if b then keys else keys ++ key ∷ []) e

-- a key that was not new
pub reach_old : (keys new_keys : List ℕ) (key : ℕ) (step : Step) (steps : List Step) (b : Bool) → b ≡ not (list_any (nat_eq key) keys) → b ≡ false → new_keys ≡ insert_key nat_eq keys key → Reaches key step keys steps new_keys steps
reach_old keys new_keys key step steps b told old is = go (list_any (nat_eq key) keys) refl
  where
    go : (x : Bool) → list_any (nat_eq key) keys ≡ x → Reaches key step keys steps new_keys steps
    go true e = inl (key_there keys key e, is ∙ keys_there keys key e, refl)
    go false e = absurd (let clash : false ≡ true = sym old ∙ (told ∙ ap not e) in cc)

-- what was there is where it was
module _ (key : ℕ) (step : Step) (keys new_keys : List ℕ) (steps new_steps : List Step) (r : Reaches key step keys steps new_keys new_steps) where
  pub reach_keeps : (k x : ℕ) → slice_get keys k ≡ Some x → slice_get new_keys k ≡ Some x
  reach_keeps k x e =
      elim r [
        | inl old ↦ subst (λ ks. slice_get ks k ≡ Some x) (sym old.1) e
        | inr new ↦ subst (λ ks. slice_get ks k ≡ Some x) (sym new.1) (slice_get-left keys (key ∷ []) k x e)
      ]

  pub reach_keeps_steps : (k : ℕ) (st : Step) → slice_get steps k ≡ Some st → slice_get new_steps k ≡ Some st
  reach_keeps_steps k st e =
      elim r [
        | inl old ↦ subst (λ ss. slice_get ss k ≡ Some st) (sym old.2) e
        | inr new ↦ subst (λ ss. slice_get ss k ≡ Some st) (sym new.2) (slice_get-left steps (step ∷ []) k st e)
      ]

  pub reach_longer : length keys ≤ length new_keys
  reach_longer =
      elim r [
        | inl old ↦ (let e : length new_keys ≡ length keys = ap length old.1 in omega (arith, e))
        | inr new ↦ (let e : length new_keys ≡ suc (length keys) = ap length new.1 ∙ length_push keys key in omega (arith, e))
      ]

  pub reach_there : Contains new_keys key
  reach_there =
      elim r [
        | inl old ↦ subst (λ ks. Contains ks key) (sym old.1) old.0
        | inr new ↦ subst (λ ks. Contains ks key) (sym new.1) (contains_of_get (keys ++ key ∷ []) (length keys) key (slice_get-last keys key))
      ]

-- a new step is the last, and from no place before those of the others
push_ordered : (steps : List Step) (at : ℕ) (step : Step) → step.from ≡ at → AreInOrder steps at → AreInOrder (steps ++ step ∷ []) at
push_ordered steps at step from_at h = record { rising = rising; low = low }
  where
    last : (st : Step) → st ≡ step → st.from ≡ at
    last st e = ap (λ (y : Step). y.from) e ∙ from_at

    rising : (j k : ℕ) (one two : Step) → j ≤ k → slice_get (steps ++ step ∷ []) j ≡ Some one → slice_get (steps ++ step ∷ []) k ≡ Some two → one.from ≤ two.from
    rising j k one two up ej ek =
        elim (get_pushed steps step one j ej) [
          | inl a ↦ elim (get_pushed steps step two k ek) [
            | inl b ↦ h.rising j k one two up a b
            | inr b ↦ (let below = h.low j one a in let here = last two b.1 in omega (arith, below, here))
          ]
          | inr a ↦ elim (get_pushed steps step two k ek) [
            | inl b ↦ (let inside = slice_get_within steps k two b in let past = a.0 in absurd (omega (arith, inside, past, up)))
            | inr b ↦ (let here = last one a.1 in let there = last two b.1 in omega (arith, here, there))
          ]
        ]

    low : (k : ℕ) (st : Step) → slice_get (steps ++ step ∷ []) k ≡ Some st → st.from ≤ at
    low k st e =
        elim (get_pushed steps step st k e) [
          | inl a ↦ h.low k st a
          | inr a ↦ (let here = last st a.1 in omega (arith, here))
        ]

reach_ordered : (key at : ℕ) (step : Step) (keys new_keys : List ℕ) (steps new_steps : List Step) → Reaches key step keys steps new_keys new_steps → step.from ≡ at → AreInOrder steps at → AreInOrder new_steps at
reach_ordered key at step keys new_keys steps new_steps r from_at h =
    elim r [
      | inl old ↦ subst (λ ss. AreInOrder ss at) (sym old.2) h
      | inr new ↦ subst (λ ss. AreInOrder ss at) (sym new.2) (push_ordered steps at step from_at h)
    ]

pub ordered_later : (steps : List Step) (at later : ℕ) → at ≤ later → AreInOrder steps at → AreInOrder steps later
ordered_later steps at later up h = record {
  rising = h.rising;
  low = λ k step e. let low = h.low k step e in omega (arith, up, low);
}

pub ordered_one : (key : ℕ) (step : Step) (keys new_keys : List ℕ) (steps new_steps : List Step) → length steps ≡ 0 → step.from ≡ 0 → Reaches key step keys steps new_keys new_steps → AreInOrder new_steps 0
ordered_one key step keys new_keys steps new_steps no_steps from_none r = reach_ordered key 0 step keys new_keys steps new_steps r from_none none
  where
    past : (k : ℕ) (st : Step) → slice_get steps k ≡ Some st → ⊥
    past k st e = let inside = slice_get_within steps k st e in omega (arith, inside, no_steps)

    none : AreInOrder steps 0
    none = record {
      rising = λ j k one two up ej ek. absurd (past j one ej);
      low = λ k st e. absurd (past k st e);
    }

-- a new key keeps what is known of those that are reached
from_grows : (entries : List Entry) (keys : List ℕ) (key place x : ℕ) (st : Step) → IsReachedFrom entries keys place x st → IsReachedFrom entries (keys ++ key ∷ []) place x st
from_grows entries keys key place x st h = record {
  earlier = h.earlier;
  source = h.source;
  is_source = slice_get-left keys (key ∷ []) st.from h.source h.is_source;
  there = h.there;
}

push_reached : (entries : List Entry) (start : ℕ) (keys : List ℕ) (steps : List Step) (key at from : ℕ) (step : Step) → AreReached entries start keys steps → (¬ Contains keys key) → key < 2 ^ 31 → slice_get keys at ≡ Some from → step.from ≡ at → Contains entries (entry from key step.used) → AreReached entries start (keys ++ key ∷ []) (steps ++ step ∷ [])
push_reached entries start keys steps key at from step h fresh low at_is from_at there = record {
  aligned = length_push steps step ∙ (ap suc h.aligned ∙ sym (length_push keys key));
  begins = slice_get-left keys (key ∷ []) 0 start h.begins;
  one_place = one_place;
  each = each;
  small = λ place x e. elim (get_pushed keys key x place e) [ inl a ↦ h.small place x a | inr a ↦ subst (λ y. y < 2 ^ 31) (sym a.1) low ];
}
  where
    not_old : (k x : ℕ) → slice_get keys k ≡ Some x → x ≡ key → ⊥
    not_old k x e same = fresh (subst (Contains keys) same (contains_of_get keys k x e))

    one_place : (j k x : ℕ) → slice_get (keys ++ key ∷ []) j ≡ Some x → slice_get (keys ++ key ∷ []) k ≡ Some x → j ≡ k
    one_place j k x ej ek =
        elim (get_pushed keys key x j ej) [
          | inl a ↦ elim (get_pushed keys key x k ek) [ inl b ↦ h.one_place j k x a b | inr b ↦ absurd (not_old j x a b.1) ]
          | inr a ↦ elim (get_pushed keys key x k ek) [ inl b ↦ absurd (not_old k x b a.1) | inr b ↦ a.0 ∙ sym b.0 ]
        ]

    last : (place x : ℕ) (st : Step) → place ≡ length keys → x ≡ key → st ≡ step → IsReachedFrom entries (keys ++ key ∷ []) place x st
    last place x st p e f =
        let inside = slice_get_within keys at from at_is in
        let st_from : st.from ≡ at = ap (λ (y : Step). y.from) f ∙ from_at in
        record {
          earlier = omega (arith, inside, st_from, p);
          source = from;
          is_source = subst (λ k. slice_get (keys ++ key ∷ []) k ≡ Some from) (sym st_from) (slice_get-left keys (key ∷ []) at from at_is);
          there = subst (λ y. Contains entries (entry from y st.used)) (sym e) (subst (λ (y : Step). Contains entries (entry from key y.used)) (sym f) there);
        }

    each : (place x : ℕ) (st : Step) → 0 < place → slice_get (keys ++ key ∷ []) place ≡ Some x → slice_get (steps ++ step ∷ []) place ≡ Some st → IsReachedFrom entries (keys ++ key ∷ []) place x st
    each place x st up ek es =
        let same = h.aligned in
        elim (get_pushed keys key x place ek) [
          | inl a ↦ elim (get_pushed steps step st place es) [
            | inl b ↦ from_grows entries keys key place x st (h.each place x st up a b)
            | inr b ↦ (let inside = slice_get_within keys place x a in let past = b.0 in absurd (omega (arith, inside, past, same)))
          ]
          | inr a ↦ elim (get_pushed steps step st place es) [
            | inl b ↦ (let inside = slice_get_within steps place st b in let past = a.0 in absurd (omega (arith, inside, past, same)))
            | inr b ↦ last place x st a.0 a.1 b.1
          ]
        ]

more_reached : (entries : List Entry) (start : ℕ) (keys new_keys : List ℕ) (steps new_steps : List Step) (key at from : ℕ) (step : Step) → AreSmall entries → Reaches key step keys steps new_keys new_steps → slice_get keys at ≡ Some from → step.from ≡ at → Contains entries (entry from key step.used) → AreReached entries start keys steps → AreReached entries start new_keys new_steps
more_reached entries start keys new_keys steps new_steps key at from step small r at_is from_at there h =
    elim r [
      | inl old ↦ subst (λ ks. AreReached entries start ks new_steps) (sym old.1) (subst (AreReached entries start keys) (sym old.2) h)
      | inr new ↦
          subst (λ ks. AreReached entries start ks new_steps) (sym new.1)
          (subst (AreReached entries start (keys ++ key ∷ [])) (sym new.2)
          (push_reached entries start keys steps key at from step h new.0 (small (entry from key step.used) there).1 at_is from_at there))
    ]

-- one reference alone
pub reached_one : (entries : List Entry) (start : ℕ) (keys new_keys : List ℕ) (steps new_steps : List Step) (step : Step) → start < 2 ^ 31 → length keys ≡ 0 → length steps ≡ 0 → Reaches start step keys steps new_keys new_steps → AreReached entries start new_keys new_steps
reached_one entries start keys new_keys steps new_steps step low no_keys no_steps r =
    elim r [
      | inl old ↦ absurd (contains_none start (subst (λ ks. Contains ks start) (nil_from_length keys no_keys) old.0))
      | inr new ↦
          subst (λ ks. AreReached entries start ks new_steps) (sym (new.1 ∙ ap (λ ks. ks ++ start ∷ []) (nil_from_length keys no_keys)))
          (subst (AreReached entries start (start ∷ [])) (sym (new.2 ∙ ap (λ ss. ss ++ step ∷ []) (nil_from_length steps no_steps))) alone)
    ]
  where
    only : (k x : ℕ) → slice_get (start ∷ []) k ≡ Some x → (k ≡ 0) × (x ≡ start)
    only zero x e = (refl, cc)
    only (suc k) x e = absurd (cc)

    alone : AreReached entries start (start ∷ []) (step ∷ [])
    alone = record {
      aligned = refl;
      begins = refl;
      one_place = λ j k x ej ek. (only j x ej).0 ∙ sym (only k x ek).0;
      each = λ place x st up ek es. let zero_is = (only place x ek).0 in absurd (omega (arith, up, zero_is));
      small = λ place x e. subst (λ y. y < 2 ^ 31) (sym (only place x e).1) low;
    }

-- the entries from one reference
pub follows_none : (entries : List Entry) (at from first : ℕ) (keys : List ℕ) (steps : List Step) → FollowsTo entries at from first first keys steps keys steps
follows_none entries at from first keys steps = record {
  kept = λ k x e. e;
  kept_steps = λ k step e. e;
  long = omega arith;
  ends = λ k d low high. absurd (omega (arith, low, high));
  reached = λ start at_is h. h;
  ordered = λ h. h;
}

pub follows_next : (entries : List Entry) (at from first end place : ℕ) (e : Entry) (step : Step) (keys one two : List ℕ) (steps ones twos : List Step) → AreSmall entries → IsFirstFrom entries (from * 4294967296) first → IsFirstFrom entries ((from + 1) * 4294967296) end → first ≤ place → place < end → ((d : Entry) → get_or entries place d ≡ e) → step.from ≡ at → step.used ≡ e.used → FollowsTo entries at from first place keys steps one ones → Reaches e.to step one ones two twos → FollowsTo entries at from first (place + 1) keys steps two twos
follows_next entries at from first end place e step keys one two steps ones twos small start stop low high is from_at used_is h r = record {
  kept = λ k x f. reach_keeps e.to step one two ones twos r k x (h.kept k x f);
  kept_steps = λ k st f. reach_keeps_steps e.to step one two ones twos r k st (h.kept_steps k st f);
  long = let a = h.long in let b = reach_longer e.to step one two ones twos r in omega (arith, a, b);
  ends = ends;
  reached = λ begin at_is old.
      more_reached entries begin one two ones twos e.to at from step small r (h.kept at from at_is) from_at there (h.reached begin at_is old);
  ordered = λ old. reach_ordered e.to at step one two ones twos r from_at (h.ordered old);
}
  where
    whole : (x : Entry) (a : ℕ) (u : Used) → x.from ≡ a → u ≡ x.used → x ≡ entry a x.to u
    whole x a u f g = parts x.from a x.to u x.used f g
      where
        parts : (y a z : ℕ) (u w : Used) → y ≡ a → u ≡ w → entry y z w ≡ entry a z u
        parts y a z u w f g = cc

    there : Contains entries (entry from e.to step.used)
    there =
        let within = stop.within in
        let source = from_is entries from first end place e small start stop low high is in
        (place, omega (arith, within, high), is (entry from e.to step.used) ∙ whole e from step.used source used_is)

    contains_on : (x : ℕ) → Contains one x → Contains two x
    contains_on x c = let g = get_of_contains one x c in contains_of_get two g.0 x (reach_keeps e.to step one two ones twos r g.0 x g.1)

    ends : (k : ℕ) (d : Entry) → first ≤ k → k < place + 1 → Contains two (get_or entries k d).to
    ends k d above below =
        elim (cases_lt k place) [
          | inl before ↦ contains_on (get_or entries k d).to (h.ends k d above before)
          | inr after ↦ (let same : place ≡ k = omega (arith, below, after) in
              subst (λ j. Contains two (get_or entries j d).to) same (subst (λ (x : Entry). Contains two x.to) (sym (is d)) (reach_there e.to step one two ones twos r)))
        ]

pub follows_all : (entries : List Entry) (at from first end place : ℕ) (keys new_keys : List ℕ) (steps new_steps : List Step) → AreSmall entries → IsFirstFrom entries (from * 4294967296) first → IsFirstFrom entries ((from + 1) * 4294967296) end → end ≤ place → FollowsTo entries at from first place keys steps new_keys new_steps → Follows entries at from keys steps new_keys new_steps
follows_all entries at from first end place keys new_keys steps new_steps small start stop past h = record {
  kept = h.kept;
  kept_steps = h.kept_steps;
  long = h.long;
  ends = λ b u there. ends_between entries from first end b u new_keys small start stop (λ k d low high. h.ends k d low (omega (arith, past, high))) there;
  reached = h.reached;
  ordered = h.ordered;
}

-- one reference after the other
pub searched_none : (entries : List Entry) (start : ℕ) (keys : List ℕ) (steps : List Step) → AreReached entries start keys steps → AreInOrder steps 0 → IsSearched entries start 0 keys steps
searched_none entries start keys steps h order = record {
  reached = h;
  within = omega arith;
  ordered = order;
  followed = λ k a b u below e there. absurd (omega arith);
}

-- what is reached once all from a place were followed was reached from it or from one before it
reached_by : (entries : List Entry) (start at b : ℕ) (keys : List ℕ) (steps : List Step) → AreReached entries start keys steps → AreInOrder steps at → Contains keys b → IsReachedBy keys steps at b
reached_by entries start at b keys steps h order there =
    let g = get_of_contains keys b there in
    let inside = slice_get_within keys g.0 b g.1 in
    let same = h.aligned in
    let none : Step = record { from = 0; used = record { place = 0; turned = false } } in
    let is : slice_get steps g.0 ≡ Some (get_or steps g.0 none) = slice_get-get_or steps g.0 none (omega (arith, inside, same)) in
    record { place = g.0; is = g.1; step = get_or steps g.0 none; is_step = is; low = order.low g.0 (get_or steps g.0 none) is }

pub searched_next : (entries : List Entry) (start at from : ℕ) (keys new_keys : List ℕ) (steps new_steps : List Step) → slice_get keys at ≡ Some from → IsSearched entries start at keys steps → Follows entries at from keys steps new_keys new_steps → IsSearched entries start (at + 1) new_keys new_steps
searched_next entries start at from keys new_keys steps new_steps at_is h f = record {
  reached = reached;
  within = let inside = slice_get_within keys at from at_is in let long = f.long in omega (arith, inside, long);
  ordered = ordered_later new_steps at (at + 1) (omega arith) order;
  followed = followed;
}
  where
    reached : AreReached entries start new_keys new_steps
    reached = f.reached start at_is h.reached

    order : AreInOrder new_steps at
    order = f.ordered h.ordered

    kept : (k b : ℕ) → IsReachedBy keys steps k b → IsReachedBy new_keys new_steps k b
    kept k b g = record {
      place = g.place;
      is = f.kept g.place b g.is;
      step = g.step;
      is_step = f.kept_steps g.place g.step g.is_step;
      low = g.low;
    }

    followed : (k a b : ℕ) (u : Used) → k < at + 1 → slice_get new_keys k ≡ Some a → Contains entries (entry a b u) → IsReachedBy new_keys new_steps k b
    followed k a b u below e there =
        let inside = slice_get_within keys at from at_is in
        let old : slice_get keys k ≡ Some (get_or keys k 0) = slice_get-get_or keys k 0 (omega (arith, inside, below)) in
        let same : get_or keys k 0 ≡ a = some_same (get_or keys k 0) a (sym (f.kept k (get_or keys k 0) old) ∙ e) in
        let old_a : slice_get keys k ≡ Some a = old ∙ ap Some same in
        elim (cases_lt k at) [
          | inl before ↦ kept k b (h.followed k a b u before old_a there)
          | inr after ↦ (let here : at ≡ k = omega (arith, below, after) in
              let is_from : a ≡ from = some_same a from (sym old_a ∙ (ap (slice_get keys) (sym here) ∙ at_is)) in
              subst (λ p. IsReachedBy new_keys new_steps p b) here
              (reached_by entries start at b new_keys new_steps reached order (f.ends b u (subst (λ x. Contains entries (entry x b u)) is_from there))))
        ]

pub get_at : (keys : List ℕ) (at x : ℕ) → at < length keys → ((d : ℕ) → get_or keys at d ≡ x) → slice_get keys at ≡ Some x
get_at keys at x inside is = slice_get-get_or keys at x inside ∙ ap Some (is x)

pub closed_all : (entries : List Entry) (start at : ℕ) (keys : List ℕ) (steps : List Step) → length keys ≤ at → IsSearched entries start at keys steps → AreFollowed entries (length keys) keys steps
closed_all entries start at keys steps past h = λ k a b u below e there. h.followed k a b u (omega (arith, below, past)) e there

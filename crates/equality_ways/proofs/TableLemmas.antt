-- The table of equalities.
use Rattle.std.proofs.Common.{◌≡◌, ◌≢◌, inl, inr, ◌<◌, ◌≤◌, ◌+◌, ◌*◌, ◌^◌, ℕ, true, false, List, [], ◌∷◌, ◌++◌, length, get_or, slice_get, Option, None, Some, sym, ap, ◌∙◌, subst, arith, Contains, IsPermutation}
use Rattle.std.specs.List.Sorted.{IsNonDecreasingBy}
use Rattle.std.proofs.lemmas.Bool.{cases_lt}
use Rattle.std.proofs.lemmas.Option.{slice_get_within}
use Rattle.std.proofs.lemmas.List.Sorted.{Contains-permutation, IsPermutation-sym}
use Rattle.term_model.proofs.Lists.{contains_none, contains_cases, contains_head, contains_later}
use Rattle.equality_ways.proofs.Places.{contains_in_either, contains_of_left, contains_of_right, get_of_contains}
use Rattle.equality_ways.specs.declared.pairs.Used.{Used}
use Rattle.equality_ways.specs.declared.table.Entry.{Entry}
use Rattle.equality_ways.specs.declared.table.Table.{Table}
use Rattle.equality_ways.specs.Tables.{AreEntriesTo, AreSmall, HasEntry, IsFirstFrom, IsTableOf, entries_at, entry, entry_rank}
use Rattle.equality_ways.specs.Ways.{AreEnds, LeadsTo}

one_rank : (a b c d : ℕ) → b < 4294967296 → d < 4294967296 → a * 4294967296 + b ≡ c * 4294967296 + d → (a ≡ c) × (b ≡ d)
one_rank a b c d l m e = (omega arith, omega arith)

same_entry : (e : Entry) (a b : ℕ) → e.from ≡ a → e.to ≡ b → e ≡ entry a b e.used
same_entry e a b f g = parts e.from a e.to b e.used f g
  where
    parts : (x a y b : ℕ) (u : Used) → x ≡ a → y ≡ b → entry x y u ≡ entry a b u
    parts x a y b u f g = cc

-- the entries of one place
entry_sound : (sides : List (Option (ℕ × ℕ))) (n : ℕ) (p : Option (ℕ × ℕ)) (e : Entry) → slice_get sides n ≡ Some p → Contains (entries_at n p) e → LeadsTo sides e.used e.from e.to
entry_sound sides n None e is h = absurd (contains_none e h)
entry_sound sides n (Some p) e is h =
    elim (contains_cases (entry p.0 p.1 (record { place = n; turned = false })) e (entry p.1 p.0 (record { place = n; turned = true }) ∷ []) h) [
      | inl same ↦ subst (λ (x : Entry). LeadsTo sides x.used x.from x.to) same is
      | inr later ↦ elim (contains_cases (entry p.1 p.0 (record { place = n; turned = true })) e [] later) [
        | inl same ↦ subst (λ (x : Entry). LeadsTo sides x.used x.from x.to) same is
        | inr none ↦ absurd (contains_none e none)
      ]
    ]

pub small_both : (n a b : ℕ) → a < 2 ^ 31 → b < 2 ^ 31 → AreSmall (entries_at n (Some (a, b)))
small_both n a b l m e h =
    elim (contains_cases (entry a b (record { place = n; turned = false })) e (entry b a (record { place = n; turned = true }) ∷ []) h) [
      | inl same ↦ subst (λ (x : Entry). (x.from < 2 ^ 31) × (x.to < 2 ^ 31)) same (l, m)
      | inr later ↦ elim (contains_cases (entry b a (record { place = n; turned = true })) e [] later) [
        | inl same ↦ subst (λ (x : Entry). (x.from < 2 ^ 31) × (x.to < 2 ^ 31)) same (m, l)
        | inr none ↦ absurd (contains_none e none)
      ]
    ]

pub small_none : AreSmall []
small_none e h = absurd (contains_none e h)

pub entries_none : (sides : List (Option (ℕ × ℕ))) → AreEntriesTo sides 0 []
entries_none sides = record {
  small = small_none;
  sound = λ e h. absurd (contains_none e h);
  complete = λ k p e below is h. absurd (omega arith);
}

pub entries_next : (sides : List (Option (ℕ × ℕ))) (n : ℕ) (p : Option (ℕ × ℕ)) (entries : List Entry) → slice_get sides n ≡ Some p → AreSmall (entries_at n p) → AreEntriesTo sides n entries → AreEntriesTo sides (n + 1) (entries ++ entries_at n p)
entries_next sides n p entries is small h = record {
  small = λ e there. elim (contains_in_either entries (entries_at n p) e there) [ inl old ↦ h.small e old | inr new ↦ small e new ];
  sound = λ e there. elim (contains_in_either entries (entries_at n p) e there) [ inl old ↦ h.sound e old | inr new ↦ entry_sound sides n p e is new ];
  complete = λ k q e below at there. elim (cases_lt k n) [
    | inl before ↦ contains_of_left entries (entries_at n p) e (h.complete k q e before at there)
    | inr after ↦ contains_of_right entries (entries_at n p) e (here k q e (omega (arith, below, after)) at there)
  ];
}
  where
    some_same : (x y : Option (ℕ × ℕ)) → Some x ≡ Some y → x ≡ y
    some_same x y e = cc

    here : (k : ℕ) (q : Option (ℕ × ℕ)) (e : Entry) → k ≡ n → slice_get sides k ≡ Some q → Contains (entries_at k q) e → Contains (entries_at n p) e
    here k q e same at there =
        let one : q ≡ p = some_same q p (sym at ∙ (ap (slice_get sides) same ∙ is)) in
        subst (λ m. Contains (entries_at m p) e) same (subst (λ x. Contains (entries_at k x) e) one there)

-- the table
pub is_table : (sides : List (Option (ℕ × ℕ))) (old : List Entry) (table : Table) → AreEntriesTo sides (length sides) old → IsPermutation old table.entries.items → IsNonDecreasingBy entry_rank table.entries.items → IsTableOf sides table
is_table sides old table are moved rising = record {
  searchable = record { rising = rising; small = λ e h. are.small e (back e h) };
  sound = λ e h. are.sound e (back e h);
  complete = complete;
}
  where
    back : (e : Entry) → Contains table.entries.items e → Contains old e
    back e h = Contains-permutation table.entries.items old e (IsPermutation-sym old table.entries.items moved) h

    on : (e : Entry) → Contains old e → Contains table.entries.items e
    on e h = Contains-permutation old table.entries.items e moved h

    within : (k : ℕ) (p : Option (ℕ × ℕ)) → slice_get sides k ≡ Some p → k < length sides
    within k p e = slice_get_within sides k p e

    complete : (a b : ℕ) → AreEnds sides a b → HasEntry table.entries.items a b
    complete a b (inl h) =
        let at = get_of_contains sides (Some (a, b)) h in
        let used : Used = record { place = at.0; turned = false } in
        record {
          used = used;
          there = on (entry a b used) (are.complete at.0 (Some (a, b)) (entry a b used) (within at.0 (Some (a, b)) at.1) at.1 (contains_head (entry a b used) (entry b a (record { place = at.0; turned = true }) ∷ [])));
        }
    complete a b (inr h) =
        let at = get_of_contains sides (Some (b, a)) h in
        let used : Used = record { place = at.0; turned = true } in
        record {
          used = used;
          there = on (entry a b used) (are.complete at.0 (Some (b, a)) (entry a b used) (within at.0 (Some (b, a)) at.1) at.1 (contains_later (entry b a (record { place = at.0; turned = false })) (entry a b used) (entry a b used ∷ []) (contains_head (entry a b used) [])));
        }

-- what the first place says of an entry
pub found_there : (entries : List Entry) (place a b : ℕ) (e : Entry) → AreSmall entries → b < 4294967296 → place < length entries → ((d : Entry) → get_or entries place d ≡ e) → entry_rank e ≡ a * 4294967296 + b → Contains entries (entry a b e.used)
found_there entries place a b e small low below is same =
    let there : Contains entries e = (place, below, is e) in
    let bound = (small e there).1 in
    let parts = one_rank e.from e.to a b (omega (arith, bound)) low same in
    subst (Contains entries) (same_entry e a b parts.0 parts.1) there

pub not_there : (entries : List Entry) (place a b : ℕ) (e : Entry) (u : Used) → IsNonDecreasingBy entry_rank entries → IsFirstFrom entries (a * 4294967296 + b) place → place < length entries → ((d : Entry) → get_or entries place d ≡ e) → entry_rank e ≢ a * 4294967296 + b → ¬ Contains entries (entry a b u)
not_there entries place a b e u rising first below is differs (k, inside, at) =
    let w = entry a b u in
    let rank : entry_rank (get_or entries k w) ≡ a * 4294967296 + b = ap entry_rank at in
    let low : place ≤ k = elim (cases_lt k place) [
      | inl before ↦ absurd (let less = first.before k w before in omega (arith, less, rank))
      | inr after ↦ after
    ] in
    let up = rising place k w low inside in
    let down = first.after place w (omega arith) below in
    let here : entry_rank (get_or entries place w) ≡ entry_rank e = ap entry_rank (is w) in
    differs (omega (arith, up, down, rank, here))

pub none_there : (entries : List Entry) (place a b : ℕ) (u : Used) → IsFirstFrom entries (a * 4294967296 + b) place → length entries ≤ place → ¬ Contains entries (entry a b u)
none_there entries place a b u first past (k, inside, at) =
    let rank : entry_rank (get_or entries k (entry a b u)) ≡ a * 4294967296 + b = ap entry_rank at in
    let less = first.before k (entry a b u) (omega (arith, inside, past)) in
    omega (arith, less, rank)

-- the entries from a reference stand from one place to another
pub from_is : (entries : List Entry) (from first end k : ℕ) (e : Entry) → AreSmall entries → IsFirstFrom entries (from * 4294967296) first → IsFirstFrom entries ((from + 1) * 4294967296) end → first ≤ k → k < end → ((d : Entry) → get_or entries k d ≡ e) → e.from ≡ from
from_is entries from first end k e small start stop low high is =
    let within = stop.within in
    let inside : k < length entries = omega (arith, within, high) in
    let up = start.after k e low inside in
    let down = stop.before k e high in
    let same : entry_rank (get_or entries k e) ≡ entry_rank e = ap entry_rank (is e) in
    let bounds = small e (k, inside, is e) in
    let to = bounds.1 in
    omega (arith, up, down, same, to)

pub ends_between : (entries : List Entry) (from first end b : ℕ) (u : Used) (keys : List ℕ) → AreSmall entries → IsFirstFrom entries (from * 4294967296) first → IsFirstFrom entries ((from + 1) * 4294967296) end → ((k : ℕ) (d : Entry) → first ≤ k → k < end → Contains keys (get_or entries k d).to) → Contains entries (entry from b u) → Contains keys b
ends_between entries from first end b u keys small start stop all (k, inside, is) =
    let w = entry from b u in
    let rank : entry_rank (get_or entries k w) ≡ from * 4294967296 + b = ap entry_rank is in
    let bounds = small w (k, inside, is) in
    let to : b < 2 ^ 31 = bounds.1 in
    let low : first ≤ k = elim (cases_lt k first) [
      | inl before ↦ absurd (let less = start.before k w before in omega (arith, less, rank))
      | inr after ↦ after
    ] in
    let high : k < end = elim (cases_lt k end) [
      | inl before ↦ before
      | inr after ↦ absurd (let more = stop.after k w after inside in omega (arith, more, rank, to))
    ] in
    subst (Contains keys) (ap (λ (x : Entry). x.to) is) (all k w low high)

-- The order of occurrences.
use Rattle.std.proofs.Common.{◌≡◌, ⊎_elim, ℕ, ◌+◌, ◌<◌, ◌≤◌, Bool, true, false, nat_eq, List, length, get_or, refl, sym, ap, arith, eq-eqb}
use Rattle.std.proofs.lemmas.Bool.{eqb-true, cases_lt, and_parts, cases_Bool}
use Rattle.std.proofs.lemmas.List.{get_or_default}
use Rattle.rule_model.specs.declared.literal.Literal.TheVariants.{Plain}
use Rattle.rules_resolution.specs.Falsity.{same_bool}
use Rattle.rules_resolution.specs.declared.occurrence.Occurrence.{Occurrence}
use Rattle.rules_resolution.specs.Occurrence.{literal_in, literal_rank, rank_of, is_of}
use Rattle.rules_resolution.specs.Table.{IsLeader, IsRising}
use Rattle.rules_resolution.proofs.Literals.{same_bool-true, same_bool-refl}

pub is_of-true : (a : ℕ) (s : Bool) (o : Occurrence) → is_of a s o ≡ true → literal_in o ≡ Plain a s
is_of-true a s o e =
    let p = and_parts (nat_eq o.atom a) (same_bool o.negative s) e in
    let atom : o.atom ≡ a = eqb-true o.atom a p.0 in
    let sign : o.negative ≡ s = same_bool-true o.negative s p.1 in
    cc

pub is_of-same : (a : ℕ) (s : Bool) (o : Occurrence) → literal_in o ≡ Plain a s → is_of a s o ≡ true
is_of-same a s o e =
    let atom : o.atom ≡ a = cc in
    let sign : o.negative ≡ s = cc in
    rw (eq-eqb o.atom a atom, sign) (same_bool-refl s)

-- literals with the same rank are the same
literal_rank-injective : (a b : ℕ) (s t : Bool) (p q : ℕ) → p < 4294967296 → q < 4294967296 → literal_rank a s + p ≡ literal_rank b t + q → (Plain a s ≡ Plain b t) × (p ≡ q)
literal_rank-injective a b true true p q l m e =
    let atom : a ≡ b = omega arith in
    let premise : p ≡ q = omega arith in
    (ap (λ n. Plain n true) atom, premise)
literal_rank-injective a b true false p q l m e = absurd (omega arith)
literal_rank-injective a b false true p q l m e = absurd (omega arith)
literal_rank-injective a b false false p q l m e =
    let atom : a ≡ b = omega arith in
    let premise : p ≡ q = omega arith in
    (ap (λ n. Plain n false) atom, premise)

pub rank_of-injective : (x y : Occurrence) → x.premise < 4294967296 → y.premise < 4294967296 → rank_of x ≡ rank_of y → (literal_in x ≡ literal_in y) × (x.premise ≡ y.premise)
rank_of-injective x y l m e = literal_rank-injective x.atom y.atom x.negative y.negative x.premise y.premise l m e

-- an occurrence of another literal, that is not before those of this one, is after them all
pub literal_rank-between : (a b : ℕ) (s t : Bool) (p : ℕ) → p < 4294967296 → literal_rank a s ≤ literal_rank b t + p → (Plain b t ≡ Plain a s → ⊥) → literal_rank a s + 4294967296 ≤ literal_rank b t
literal_rank-between a b true true p l h ne = let other : a ≡ b → ⊥ = λ e. ne (ap (λ n. Plain n true) (sym e)) in omega arith
literal_rank-between a b true false p l h ne = omega arith
literal_rank-between a b false true p l h ne = omega arith
literal_rank-between a b false false p l h ne = let other : a ≡ b → ⊥ = λ e. ne (ap (λ n. Plain n false) (sym e)) in omega arith

-- what a search knows once it looked at a place
pub below_middle : (table : List Occurrence) (rank m : ℕ) (e : Occurrence) → IsRising table → m < length table → rank_of (get_or table m e) < rank → (k : ℕ) (d : Occurrence) → k < m + 1 → rank_of (get_or table k d) < rank
below_middle table rank m e rising within low k d h =
    let here = get_or_default table m d e within in
    ⊎_elim
    (λ (below : k < m). (let up : rank_of (get_or table k d) < rank_of (get_or table m d) = rising k m d below within in let same = ap rank_of here in omega arith))
    (λ (above : m ≤ k). (let same : k ≡ m = omega arith in rw (same, here) low)) (cases_lt k m)

pub from_middle : (table : List Occurrence) (rank m : ℕ) (e : Occurrence) → IsRising table → m < length table → rank ≤ rank_of (get_or table m e) → (k : ℕ) (d : Occurrence) → m ≤ k → k < length table → rank ≤ rank_of (get_or table k d)
from_middle table rank m e rising within high k d h g =
    let here = get_or_default table m d e within in
    ⊎_elim
    (λ (below : m < k). (let up : rank_of (get_or table m d) < rank_of (get_or table k d) = rising m k d below g in let same = ap rank_of here in omega arith))
    (λ (above : k ≤ m). (let same : k ≡ m = omega arith in rw (same, here) high)) (cases_lt m k)

-- no occurrence of a literal is before its ranks, or after them
pub not_of-before : (a : ℕ) (s : Bool) (o : Occurrence) → rank_of o < literal_rank a s → is_of a s o ≡ false
not_of-before a s o h =
    ⊎_elim
    (λ (yes_of : is_of a s o ≡ true).
    (let same = is_of-true a s o yes_of in
    let atom : o.atom ≡ a = cc in
    let sign : o.negative ≡ s = cc in
    let rank : literal_rank o.atom o.negative ≡ literal_rank a s = rw (atom, sign) refl in
    absurd (omega arith)))
    (λ (not_of : is_of a s o ≡ false). not_of) (cases_Bool (is_of a s o))

pub not_of-after : (a : ℕ) (s : Bool) (table : List Occurrence) (i : ℕ) (e : Occurrence) → IsRising table → ((k : ℕ) (d : Occurrence) → k < length table → (get_or table k d).premise < 4294967296) → i < length table → literal_rank a s ≤ rank_of (get_or table i e) → is_of a s (get_or table i e) ≡ false → (k : ℕ) (d : Occurrence) → i ≤ k → k < length table → is_of a s (get_or table k d) ≡ false
not_of-after a s table i e rising small within high other k d h g =
    ⊎_elim
    (λ (yes_of : is_of a s (get_or table k d) ≡ true).
    (let same = is_of-true a s (get_or table k d) yes_of in
    let atom : (get_or table k d).atom ≡ a = cc in
    let sign : (get_or table k d).negative ≡ s = cc in
    let rank : literal_rank (get_or table k d).atom (get_or table k d).negative ≡ literal_rank a s = rw (atom, sign) refl in
    let differs : Plain (get_or table i e).atom (get_or table i e).negative ≡ Plain a s → ⊥ = λ q. (let w = is_of-same a s (get_or table i e) q in cc) in
    let after = literal_rank-between a (get_or table i e).atom s (get_or table i e).negative (get_or table i e).premise (small i e within) high differs in
    let later : rank_of (get_or table i e) ≤ rank_of (get_or table k d) = from_middle table (rank_of (get_or table i e)) i e rising within (omega arith) k d h g in
    let below = small k d g in
    absurd (omega arith)))
    (λ (not_of : is_of a s (get_or table k d) ≡ false). not_of) (cases_Bool (is_of a s (get_or table k d)))

-- from a literal's first occurrence on no rank is below those of the literal
pub rank_from-leader : (a : ℕ) (s : Bool) (table : List Occurrence) (first k : ℕ) (d : Occurrence) → IsRising table → IsLeader a s table first → first ≤ k → k < length table → literal_rank a s ≤ rank_of (get_or table k d)
rank_from-leader a s table first k d rising lead h g =
    let same = is_of-true a s (get_or table first d) (lead.is d) in
    let atom : (get_or table first d).atom ≡ a = cc in
    let sign : (get_or table first d).negative ≡ s = cc in
    let rank : literal_rank (get_or table first d).atom (get_or table first d).negative ≡ literal_rank a s = rw (atom, sign) refl in
    from_middle table (literal_rank a s) first d rising lead.within (omega arith) k d h g

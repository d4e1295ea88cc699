-- The table of links.
use Rattle.std.proofs.Common.{◌≡◌, ◌↔◌, inl, inr, ◌<◌, ◌≤◌, ◌+◌, ◌*◌, ◌^◌, ℕ, List, [], ◌∷◌, ◌++◌, length, get_or, take, refl, sym, ap, ◌∙◌, subst, arith, Contains, IsPermutation}
use Rattle.std.specs.List.Sorted.{IsNonDecreasingBy}
use Rattle.std.proofs.lemmas.Bool.{cases_lt}
use Rattle.std.proofs.lemmas.List.{take_more}
use Rattle.std.proofs.lemmas.List.Elements.{All-push}
use Rattle.std.proofs.lemmas.List.Sorted.{Contains-permutation, All-permutation, IsPermutation-sym}
use Rattle.term_model.proofs.Lists.{contains_none, contains_cases, contains_head, contains_later}
use Rattle.rules_congruence.specs.declared.links.Link.{Link}
use Rattle.rules_congruence.specs.Links.{link, link_rank, links_of, AreSmall, IsTableOf, IsFirstFrom}
use Rattle.rules_congruence.specs.Pairs.{AreEnds}

one_rank : (a b c d : ℕ) → b < 4294967296 → d < 4294967296 → a * 4294967296 + b ≡ c * 4294967296 + d → (a ≡ c) × (b ≡ d)
one_rank a b c d l m e = (omega arith, omega arith)

same_link : (a b c d : ℕ) → a ≡ b → c ≡ d → link a c ≡ link b d
same_link a b c d e f = cc

one_link : (x y : Link) → x.to < 4294967296 → y.to < 4294967296 → link_rank x ≡ link_rank y → x ≡ y
one_link x y l m e = let parts = one_rank x.from x.to y.from y.to l m e in same_link x.from y.from x.to y.to parts.0 parts.1

-- what the first place says of a link
pub found_by : (links : List Link) (w : Link) (place : ℕ) → IsNonDecreasingBy link_rank links → AreSmall links → w.to < 4294967296 → IsFirstFrom links (link_rank w) place → place < length links → (get_or links place w ≡ w) ↔ Contains links w
found_by links w place rising small wanted first below = (
  λ e. (place, below, e),
  λ h. at h.0 h.1 h.2,
)
  where
    at : (k : ℕ) → k < length links → get_or links k w ≡ w → get_or links place w ≡ w
    at k inside e =
        let same = ap link_rank e in
        let not_before : place ≤ k = elim (cases_lt k place) [
          | inl before ↦ absurd (let less = first.before k w before in omega (arith, less, same))
          | inr after ↦ after
        ] in
        let up = rising place k w not_before inside in
        let down = first.after place w (omega arith) below in
        let here = small place w below in
        let bound = here.1 in
        one_link (get_or links place w) w (omega (arith, bound)) wanted (omega (arith, up, down, same))

pub not_found : (links : List Link) (w : Link) (place : ℕ) → IsFirstFrom links (link_rank w) place → length links ≤ place → ¬ Contains links w
not_found links w place first past h =
    let less = first.before h.0 w (let inside = h.1 in omega (arith, inside)) in
    let same = ap link_rank h.2 in
    omega (arith, less, same)

-- the links of pairs
pub links_more : (pairs : List (ℕ × ℕ)) (p : ℕ × ℕ) → links_of (pairs ++ p ∷ []) ≡ links_of pairs ++ link p.0 p.1 ∷ link p.1 p.0 ∷ []
links_more [] p = refl
links_more (q ∷ pairs) p = ap (λ ls. link q.0 q.1 ∷ link q.1 q.0 ∷ ls) (links_more pairs p)

both : (a b c d : ℕ) → link a b ≡ link c d → (a ≡ c) × (b ≡ d)
both a b c d e = (ap (λ l. l.from) e, ap (λ l. l.to) e)

ends_here : (p : ℕ × ℕ) (pairs : List (ℕ × ℕ)) → AreEnds (p ∷ pairs) p.0 p.1
ends_here p pairs = inl (contains_head p pairs)

ends_turned : (p : ℕ × ℕ) (pairs : List (ℕ × ℕ)) → AreEnds (p ∷ pairs) p.1 p.0
ends_turned p pairs = inr (contains_head p pairs)

ends_later : (p : ℕ × ℕ) (pairs : List (ℕ × ℕ)) (a b : ℕ) → AreEnds pairs a b → AreEnds (p ∷ pairs) a b
ends_later p pairs a b (inl h) = inl (contains_later p (a, b) pairs h)
ends_later p pairs a b (inr h) = inr (contains_later p (b, a) pairs h)

pub ends_of_link : (pairs : List (ℕ × ℕ)) (a b : ℕ) → Contains (links_of pairs) (link a b) → AreEnds pairs a b
ends_of_link [] a b h = absurd (contains_none (link a b) h)
ends_of_link (p ∷ pairs) a b h =
    elim (contains_cases (link p.0 p.1) (link a b) (link p.1 p.0 ∷ links_of pairs) h) [
      | inl e ↦ (let same = both p.0 p.1 a b e in subst (λ x. AreEnds (p ∷ pairs) x b) same.0 (subst (λ y. AreEnds (p ∷ pairs) p.0 y) same.1 (ends_here p pairs)))
      | inr later ↦ elim (contains_cases (link p.1 p.0) (link a b) (links_of pairs) later) [
        | inl e ↦ (let same = both p.1 p.0 a b e in subst (λ x. AreEnds (p ∷ pairs) x b) same.0 (subst (λ y. AreEnds (p ∷ pairs) p.1 y) same.1 (ends_turned p pairs)))
        | inr rest ↦ ends_later p pairs a b (ends_of_link pairs a b rest)
      ]
    ]

link_there : (pairs : List (ℕ × ℕ)) (a b : ℕ) → Contains pairs (a, b) → Contains (links_of pairs) (link a b)
link_there [] a b h = absurd (contains_none (a, b) h)
link_there (p ∷ pairs) a b h =
    elim (contains_cases p (a, b) pairs h) [
      | inl e ↦ subst (λ q. Contains (links_of (p ∷ pairs)) (link q.0 q.1)) e (contains_head (link p.0 p.1) (link p.1 p.0 ∷ links_of pairs))
      | inr later ↦ contains_later (link p.0 p.1) (link a b) (link p.1 p.0 ∷ links_of pairs) (contains_later (link p.1 p.0) (link a b) (links_of pairs) (link_there pairs a b later))
    ]

link_turned : (pairs : List (ℕ × ℕ)) (a b : ℕ) → Contains pairs (b, a) → Contains (links_of pairs) (link a b)
link_turned [] a b h = absurd (contains_none (b, a) h)
link_turned (p ∷ pairs) a b h =
    elim (contains_cases p (b, a) pairs h) [
      | inl e ↦ subst (λ q. Contains (links_of (p ∷ pairs)) (link q.1 q.0)) e (contains_later (link p.0 p.1) (link p.1 p.0) (link p.1 p.0 ∷ links_of pairs) (contains_head (link p.1 p.0) (links_of pairs)))
      | inr later ↦ contains_later (link p.0 p.1) (link a b) (link p.1 p.0 ∷ links_of pairs) (contains_later (link p.1 p.0) (link a b) (links_of pairs) (link_turned pairs a b later))
    ]

pub link_of_ends : (pairs : List (ℕ × ℕ)) (a b : ℕ) → AreEnds pairs a b → Contains (links_of pairs) (link a b)
link_of_ends pairs a b (inl h) = link_there pairs a b h
link_of_ends pairs a b (inr h) = link_turned pairs a b h

pub is_table : (pairs : List (ℕ × ℕ)) (old new : List Link) → old ≡ links_of pairs → AreSmall old → IsPermutation old new → IsNonDecreasingBy link_rank new → IsTableOf pairs new
is_table pairs old new is small moved rising = record {
  rising = rising;
  small = All-permutation (λ l. (l.from < 2 ^ 31) × (l.to < 2 ^ 31)) old new moved small;
  has = λ a b. (
    λ h. ends_of_link pairs a b (subst (λ ls. Contains ls (link a b)) is (Contains-permutation new old (link a b) (IsPermutation-sym old new moved) h)),
    λ h. Contains-permutation old new (link a b) moved (subst (λ ls. Contains ls (link a b)) (sym is) (link_of_ends pairs a b h)),
  );
}

pub links_next : (pairs : List (ℕ × ℕ)) (i : ℕ) (p : ℕ × ℕ) (links : List Link) → i < length pairs → p ≡ get_or pairs i p → links ≡ links_of (take i pairs) → links ++ link p.0 p.1 ∷ link p.1 p.0 ∷ [] ≡ links_of (take (i + 1) pairs)
links_next pairs i p links below is e =
    rw e (sym (links_more (take i pairs) p) ∙ ap links_of (sym (take_more pairs i p below ∙ ap (λ q. take i pairs ++ q ∷ []) (sym is))))

pub small_more : (links : List Link) (a b : ℕ) → (a < 2 ^ 31) × (b < 2 ^ 31) → AreSmall links → AreSmall (links ++ link a b ∷ link b a ∷ [])
small_more links a b small all =
    subst AreSmall (append_two links (link a b) (link b a))
    (All-push (λ l. (l.from < 2 ^ 31) × (l.to < 2 ^ 31)) (links ++ link a b ∷ []) (link b a) (All-push (λ l. (l.from < 2 ^ 31) × (l.to < 2 ^ 31)) links (link a b) all small) (small.1, small.0))
  where
    append_two : (ls : List Link) (x y : Link) → (ls ++ x ∷ []) ++ y ∷ [] ≡ ls ++ x ∷ y ∷ []
    append_two [] x y = refl
    append_two (l ∷ ls) x y = ap (λ rest. l ∷ rest) (append_two ls x y)

-- Private. What the first of some pairs needs.
use Rattle.std.proofs.Common.{◌≡◌, ◌≢◌, ◌⊎◌, ◌+◌, ◌<◌, inl, inr, ℕ, zero, suc, true, false, List, [], ◌∷◌, length, drop, get_or, Contains, refl, sym, ◌∙◌, ap, subst, arith, add-one, ◌-◌, take, length-drop}
use Rattle.term_model.proofs.Lists.{contains_head, contains_later}
use Rattle.term_pool.proofs.References.{AreOne}
use Rattle.term_pool.specs.Views.{TermsView, KeepsTerms}
use Rattle.proof_store.specs.AddedSteps.{AddedStep}
use Rattle.proof_store.specs.declared.added.Link.{Link}
use Rattle.equality_steps.specs.declared.site.Site.{Site}
use Rattle.equality_ways.specs.declared.table.Table.{Table}
use Rattle.elab_denials.specs.declared.needs.Need.{Need}
use Rattle.elab_denials.specs.Owing.{AreRepairable, IsDenialGiven, IsFreedBy, IsNeed, IsOwing, IsOwingOne, SaysGiven}
use Rattle.elab_denials.specs.Working.{IsPlaceAt}
use Rattle.elab_denials.proofs.OwingLemmas.{denied_later, owing_rest}
use Rattle.elab_denials.proofs.WorkLemmas.{flips_later, place_later}

pub split_at : {X : Type 0} (xs : List X) (x : X) → xs ≢ [] → xs ≡ get_or xs 0 x ∷ drop 1 xs
split_at [] x some = absurd (some refl)
split_at (y ∷ xs) x some = refl

pub drop_there : {X : Type 0} (xs : List X) (k : ℕ) → k < length xs → drop k xs ≢ []
drop_there [] k h = absurd (omega arith)
drop_there (x ∷ xs) zero h = λ e. cc
drop_there (x ∷ xs) (suc k) h = drop_there xs k (omega arith)

pub drop_further : {X : Type 0} (xs : List X) (k : ℕ) → drop 1 (drop k xs) ≡ drop (suc k) xs
drop_further [] zero = refl
drop_further [] (suc k) = refl
drop_further (x ∷ xs) zero = refl
drop_further (x ∷ xs) (suc k) = drop_further xs k

pub drop_next : {X : Type 0} (xs : List X) (k : ℕ) → drop 1 (drop k xs) ≡ drop (k + 1) xs
drop_next xs k = drop_further xs k ∙ ap (λ n. drop n xs) (sym (add-one k))

take_length : {X : Type 0} (xs : List X) → take (length xs) xs ≡ xs
take_length [] = refl
take_length (x ∷ xs) = ap (λ ys. x ∷ ys) (take_length xs)

-- the rest of a list from a place on
pub tail_whole : {X : Type 0} (xs : List X) (k : ℕ) → take (length xs - k) (drop k xs) ≡ drop k xs
tail_whole xs k = subst (λ n. take n (drop k xs) ≡ drop k xs) (length-drop k xs) (take_length (drop k xs))

pub drop_past : {X : Type 0} (xs : List X) (k : ℕ) → (k < length xs → ⊥) → drop k xs ≡ []
drop_past [] zero h = refl
drop_past [] (suc k) h = refl
drop_past (x ∷ xs) zero h = absurd (h (omega arith))
drop_past (x ∷ xs) (suc k) h = drop_past xs k (λ less. h (omega arith))

pub dropped_there : {X : Type 0} (xs : List X) (k : ℕ) (x : X) → Contains (drop k xs) x → Contains xs x
dropped_there xs zero x has = has
dropped_there [] (suc k) x has = has
dropped_there (y ∷ xs) (suc k) x has = contains_later y x xs (dropped_there xs k x has)

module _ (p : Site) where
  pub repairable_later : (v w : TermsView) → KeepsTerms v w → (table : Table) (pairs : List (ℕ × ℕ)) → AreRepairable p v table pairs → AreRepairable p w table pairs
  repairable_later v w keeps table pairs h = record {
    sides = h.sides;
    is_table = h.is_table;
    denied = λ q has. denied_later p v w keeps q (h.denied q has);
    places = λ q has. place_later p v w keeps q.0 q.1 (h.places q has);
    linked = λ q has. elim (h.linked q has) [ inl ends ↦ inl ends | inr flips ↦ inr (flips_later p v w keeps q.0 q.1 flips) ];
  }

  pub repairable_rest : (v : TermsView) (table : Table) (pairs : List (ℕ × ℕ)) (k : ℕ) → AreRepairable p v table pairs → AreRepairable p v table (drop k pairs)
  repairable_rest v table pairs k h = record {
    sides = h.sides;
    is_table = h.is_table;
    denied = h.denied;
    places = λ q has. h.places q (dropped_there pairs k q has);
    linked = λ q has. h.linked q (dropped_there pairs k q has);
  }

  pub nothing_owed : (v : TermsView) (steps : List AddedStep) (link : Link) → IsOwing p v steps link [] → SaysGiven p v steps link
  nothing_owed v steps link h = record {
    clause = h.clause;
    says = h.says;
    each = λ x has. elim (h.each x has) [ inl given ↦ given | inr owed ↦ absurd (Rattle.term_model.proofs.Lists.contains_none owed.pair owed.among) ];
  }

  module _ (v : TermsView) (table : Table) (pairs : List (ℕ × ℕ)) (q : ℕ × ℕ) (is : pairs ≡ q ∷ drop 1 pairs) (h : AreRepairable p v table pairs) where
    among : Contains pairs q
    among = subst (λ xs. Contains xs q) (sym is) (contains_head q (drop 1 pairs))

    pub first_place : IsPlaceAt p v q.0 q.1
    first_place = h.places q among

    pub first_owing : (steps : List AddedStep) (link : Link) → IsOwing p v steps link pairs → IsOwing p v steps link (q ∷ drop 1 pairs)
    first_owing steps link k = subst (IsOwing p v steps link) is k

    pub first_owing_one : (steps : List AddedStep) (link : Link) → IsOwing p v steps link pairs → IsOwingOne p v steps link q
    first_owing_one steps link k = record { rest = drop 1 pairs; owing = first_owing steps link k }

    first_need : (need : Need) → IsNeed h.sides pairs need → IsNeed h.sides (q ∷ drop 1 pairs) need
    first_need need n = subst (λ xs. IsNeed h.sides xs need) is n

    pub nothing_needed : AreOne p.symbols.now v → (steps : List AddedStep) (link : Link) → IsNeed h.sides pairs Need.Nothing → IsOwing p v steps link pairs
        → IsOwing p v steps link (drop 1 pairs)
    nothing_needed one steps link n k =
        let why : IsDenialGiven p v q ⊎ Contains (drop 1 pairs) q =
        elim (first_need Need.Nothing n) [ inl given ↦ inl (h.denied q given) | inr again ↦ inr again ]
        in owing_rest p v one steps link q (drop 1 pairs) why (first_owing steps link k)

    pub turning_needed : IsNeed h.sides pairs Need.Turning → IsFreedBy p v q true
    turning_needed n = h.denied (q.1, q.0) (first_need Need.Turning n).1

    pub turning_last : IsNeed h.sides pairs Need.Turning → Contains (drop 1 pairs) q → ⊥
    turning_last n = (first_need Need.Turning n).0

    pub paying_needed : IsNeed h.sides pairs Need.Paying → IsFreedBy p v q false
    paying_needed n = elim (h.linked q among) [ inl ends ↦ absurd ((first_need Need.Paying n).1 ends) | inr flips ↦ flips ]

    pub paying_last : IsNeed h.sides pairs Need.Paying → Contains (drop 1 pairs) q → ⊥
    paying_last n = (first_need Need.Paying n).0

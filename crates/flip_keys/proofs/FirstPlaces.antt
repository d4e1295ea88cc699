-- Cited by crates above. The first places of the numbers of assertions.
use Rattle.std.proofs.Common.{◌≡◌, ◌<◌, ◌+◌, ◌⊎◌, inl, inr, ℕ, zero, suc, nat_eq, List, [], ◌∷◌, ◌++◌, get_or, length, slice_get, Option, Some, None, IfSome, IfNone, Contains, Any}
use Rattle.std.proofs.Common.{refl, sym, ◌∙◌, ap, subst, arith, length-append}
use Rattle.std.specs.List.{position}
use Rattle.std.proofs.lemmas.Bool.{eqb-true}
use Rattle.std.proofs.lemmas.List.Elements.{Contains-get_or, Contains-push}
use Rattle.std.proofs.lemmas.List.Quantifiers.{position-Some}
use Rattle.std.proofs.lemmas.Option.{slice_get-get_or, slice_get_within, get_or_from_slice_get}
use Rattle.pair_pool.specs.Views.{PassView, IsOneToOne, Grows}
use Rattle.sym_table.specs.Table.{Table, IsTable}
use Rattle.sym_table.proofs.Lists.{slice_get-cases}
use Rattle.term_model.proofs.Basics.{same_some}
use Rattle.term_model.proofs.Lists.{slice_get-left, slice_get-last}
use Rattle.term_model.specs.Flips.{EqualUpToFlips}
use Rattle.term_model.specs.Terms.{Term}
use Rattle.term_pool.specs.Views.{TermsView, RefersTo, ReferToAll}
use Rattle.flip_keys.specs.declared.numbering.Keys.{Keys}
use Rattle.flip_keys.specs.Assertions.{IsFirstLike}
use Rattle.flip_keys.specs.FirstPlaces.{AddsFirst, IsFirstPlace, AreFirstPlaces, IsFirstPlaceOf}
use Rattle.flip_keys.specs.KeyTables.{AreClassKeys, HasKeyNumber, HasMore, InsertsNumber, AreFound}
use Rattle.flip_keys.proofs.Finding.{contains_before, numbered_later, reference_at, one_number}

-- items by their places
there_contains : (xs : List ℕ) (n x : ℕ) → slice_get xs n ≡ Some x → Contains xs x
there_contains xs n x e = subst (Contains xs) (get_or_from_slice_get xs n x x e) (Contains-get_or xs n x (slice_get_within xs n x e))

push_cases : (xs : List ℕ) (x n y : ℕ) → slice_get (xs ++ x ∷ []) n ≡ Some y → (slice_get xs n ≡ Some y) ⊎ ((n ≡ length xs) × (x ≡ y))
push_cases xs x n y e = elim (slice_get-cases xs (x ∷ []) n y e) [ inl before ↦ inl before | inr last ↦ inr (alone last.0 last.1 last.2) ]
  where
    alone : (j : ℕ) → n ≡ length xs + j → slice_get (x ∷ []) j ≡ Some y → (n ≡ length xs) × (x ≡ y)
    alone zero at is = (omega (arith, at), same_some is)
    alone (suc j) at is = absurd (let none : None ≡ Some y = is in cc)

pub place_of : (numbers : List ℕ) (k place : ℕ) → position (nat_eq k) numbers ≡ Some place → slice_get numbers place ≡ Some k
place_of numbers k place e =
    let found = position-Some (nat_eq k) numbers place 0 e in
    slice_get-get_or numbers place 0 found.0 ∙ ap Some (sym (eqb-true k (get_or numbers place 0) found.1))

-- as classes and references come to be more
module _ (p q : PassView) (old new : Keys) (grows : Grows p q) (more : HasMore old new) where
  first_later : (references : List ℕ) (k place : ℕ) → IsFirstPlace p old references k place → IsFirstPlace q new references k place
  first_later references k place h = record {
    reference = h.reference;
    there = h.there;
    numbered = numbered_later p q old new grows more h.reference k h.numbered;
    before = λ n r below there.
        let o = h.before n r below there in
        record { number = o.number; numbered = numbered_later p q old new grows more r o.number o.numbered; differs = o.differs };
  }

  pub firsts_later : (references numbers firsts : List ℕ) → AreFirstPlaces p old references numbers firsts → AreFirstPlaces q new references numbers firsts
  firsts_later references numbers firsts h = record {
    count = h.count;
    each = λ j k place number there. first_later references k place (h.each j k place number there);
  }

-- a number that is added is there
pub adds_number : (numbers firsts more_numbers more_firsts : List ℕ) (k place : ℕ) → AddsFirst numbers firsts k place more_numbers more_firsts
    → InsertsNumber numbers k more_numbers
adds_number numbers firsts more_numbers more_firsts k place (inl h) =
    rw h.1 (record { stays = λ n has. has; here = h.0; only = λ n has. inl has })
adds_number numbers firsts more_numbers more_firsts k place (inr h) =
    rw h.1 (record {
      stays = λ n has. contains_before numbers k n has;
      here = Contains-push numbers k;
      only = λ n has. elim (Rattle.std.proofs.lemmas.List.Elements.Contains-push_cases numbers k n has) [ inl early ↦ inl early | inr same ↦ inr (sym same) ];
    })

-- one reference more
module _ (p : PassView) (keys : Keys) (references numbers firsts : List ℕ) (r k : ℕ) (found : AreFound p keys references numbers)
    (are : AreFirstPlaces p keys references numbers firsts) (numbered : HasKeyNumber p keys r k) where
  still_first : (l place : ℕ) → IsFirstPlace p keys references l place → IsFirstPlace p keys (references ++ r ∷ []) l place
  still_first l place h = record {
    reference = h.reference;
    there = slice_get-left references (r ∷ []) place h.reference h.there;
    numbered = h.numbered;
    before = λ n q below there.
        let within = slice_get_within references place h.reference h.there in
        elim (push_cases references r n q there) [ inl early ↦ h.before n q below early | inr last ↦ absurd (let at = last.0 in omega arith) ];
  }

  new_first : ¬ Contains numbers k → IsFirstPlace p keys (references ++ r ∷ []) k (length references)
  new_first is_new = record {
    reference = r;
    there = slice_get-last references r;
    numbered = numbered;
    before = λ n q below there. elim (push_cases references r n q there) [
      | inl early ↦ (let f = found.each q (there_contains references n q early) in
          record { number = f.number; numbered = f.numbered; differs = λ same. is_new (subst (Contains numbers) same f.found) })
      | inr last ↦ absurd (let at = last.0 in omega arith)
    ];
  }

  pub one_place : (more_numbers more_firsts : List ℕ) → AddsFirst numbers firsts k (length references) more_numbers more_firsts
      → AreFirstPlaces p keys (references ++ r ∷ []) more_numbers more_firsts
  one_place more_numbers more_firsts (inl h) =
      rw (h.1, h.2) (record { count = are.count; each = λ j l place number there. still_first l place (are.each j l place number there) })
  one_place more_numbers more_firsts (inr h) =
      rw (h.1, h.2) (record {
        count = (let count = are.count in let one = length-append numbers (k ∷ []) in
            let other = length-append firsts (length references ∷ []) in omega (arith, count, one, other));
        each = go;
      })
    where
      go : (j l place : ℕ) → slice_get (numbers ++ k ∷ []) j ≡ Some l → slice_get (firsts ++ length references ∷ []) j ≡ Some place
          → IsFirstPlace p keys (references ++ r ∷ []) l place
      go j l place number there = elim (push_cases numbers k j l number) [
        | inl early ↦ elim (push_cases firsts (length references) j place there) [
          | inl before ↦ still_first l place (are.each j l place early before)
          | inr late ↦ absurd (let within = slice_get_within numbers j l early in let at = late.0 in let count = are.count in omega arith)
        ]
        | inr last ↦ elim (push_cases firsts (length references) j place there) [
          | inl before ↦ absurd (let within = slice_get_within firsts j place before in let at = last.0 in let count = are.count in omega arith)
          | inr late ↦ subst (λ n. IsFirstPlace p keys (references ++ r ∷ []) n place) last.1
              (subst (λ n. IsFirstPlace p keys (references ++ r ∷ []) k n) late.1 (new_first h.0))
        ]
      ]

-- a first place is that of a reference
pub place_within : (p : PassView) (keys : Keys) (references numbers firsts : List ℕ) (k : ℕ) → AreFirstPlaces p keys references numbers firsts → (o : Option ℕ)
    → IsFirstPlaceOf numbers firsts k o → IfSome o (λ place. place < length references)
place_within p keys references numbers firsts k are None h = tt
place_within p keys references numbers firsts k are (Some place) h =
    let f = are.each h.index k place h.number h.first in
    slice_get_within references place f.reference f.there

module _ (s : Table) (v : TermsView) where
  -- the term at the place of a reference, and the reference at that of a term
  pub term_there : (rs : List ℕ) (ts : List Term) (n r : ℕ) → ReferToAll s v rs ts → slice_get rs n ≡ Some r
      → (t : Term) × (slice_get ts n ≡ Some t) × RefersTo s v r t
  term_there [] ts n r refer e = absurd (cc)
  term_there (x ∷ rs) [] n r refer e = absurd refer
  term_there (x ∷ rs) (t ∷ ts) zero r refer e = (t, refl, subst (λ z. RefersTo s v z t) (same_some e) refer.0)
  term_there (x ∷ rs) (t ∷ ts) (suc n) r refer e = term_there rs ts n r refer.1 e

  pub reference_there : (rs : List ℕ) (ts : List Term) (n : ℕ) (t : Term) → ReferToAll s v rs ts → slice_get ts n ≡ Some t
      → (r : ℕ) × (slice_get rs n ≡ Some r) × RefersTo s v r t
  reference_there rs [] n t refer e = absurd (cc)
  reference_there [] (u ∷ ts) n t refer e = absurd refer
  reference_there (x ∷ rs) (u ∷ ts) zero t refer e = (x, refl, subst (λ z. RefersTo s v x z) (same_some e) refer.0)
  reference_there (x ∷ rs) (u ∷ ts) (suc n) t refer e = reference_there rs ts n t refer.1 e

  -- the first place of a term's number is that of the first assertion that is equal to it
  module _ (table : IsTable s) (one : IsOneToOne v.pass) (keys : Keys) (good : AreClassKeys v.pass keys) (references numbers firsts : List ℕ)
      (found : AreFound v.pass keys references numbers) (are : AreFirstPlaces v.pass keys references numbers firsts)
      (r k : ℕ) (numbered : HasKeyNumber v.pass keys r k)
      (ts : List Term) (t : Term) (refer : ReferToAll s v references ts) (right : RefersTo s v r t) where
    pub first_like : (o : Option ℕ) → IsFirstPlaceOf numbers firsts k o → IfSome o (IsFirstLike ts t)
    first_like None h = tt
    first_like (Some place) h =
        let f = are.each h.index k place h.number h.first in
        let a = term_there references ts place f.reference refer f.there in
        record {
          term = a.0;
          there = a.1;
          equal = (one_number s v table one keys good f.reference r k k f.numbered numbered a.0 t a.2 right).0 refl;
          others = λ n u below there flips.
              let q = reference_there references ts n u refer there in
              let o = f.before n q.0 below q.1 in
              o.differs ((one_number s v table one keys good q.0 r o.number k o.numbered numbered u t q.2 right).1 flips);
        }

    pub none_like : (o : Option ℕ) → IsFirstPlaceOf numbers firsts k o → IfNone o (¬ Any (λ a. EqualUpToFlips a t) ts)
    none_like (Some place) h = tt
    none_like None missing = λ any.
        reference_at s v references ts (λ a. EqualUpToFlips a t) ⊥ refer any
        (λ x a there left flips.
        let f = found.each x there in
        let same = (one_number s v table one keys good x r f.number k f.numbered numbered a t left right).1 flips in
        missing (subst (Contains numbers) same f.found))

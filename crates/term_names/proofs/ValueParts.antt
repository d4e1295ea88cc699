-- Values and their parts.
use Rattle.std.proofs.Common.{◌≡◌, ℕ, ◌+◌, ◌-◌, ◌≤◌, ◌<◌, Bool, List, [], ◌∷◌, ◌++◌, map, take, drop, length, slice_set, refl, sym, ◌∙◌, ap, subst, ◌&&◌, arith}
use Rattle.std.specs.List.{list_all}
use Rattle.std.proofs.lemmas.List.{map-append, take-map, drop-map, take-take, take_more_set, take_all, length-append, length-set, length-map, length-take-le, drop-take}
use Rattle.term_model.specs.declared.symbols.Sort.{Sort}
use Rattle.term_expansion.specs.declared.values.Value.{Value}
use Rattle.term_names.specs.StackParts.{values_of, values_in, AreParts, HaveRoom}

-- values are made of their parts
values_of-parts : (vs : List Value) → values_of (map (λ v. v.term) vs) (map (λ v. v.sort) vs) (map (λ v. v.height) vs) (map (λ v. v.plain) vs) ≡ vs
values_of-parts [] = refl
values_of-parts (v ∷ vs) = ap (λ ws. v ∷ ws) (values_of-parts vs)

pub values_of-same : (n : ℕ) (ts : List ℕ) (ss : List Sort) (hs : List ℕ) (ps : List Bool) (vs : List Value) → AreParts n ts ss hs ps vs → values_in n ts ss hs ps ≡ vs
values_of-same n ts ss hs ps vs h = rw (h.terms, h.sorts, h.heights, h.plain) (values_of-parts vs)

pub AreParts-own : (n : ℕ) (ts : List ℕ) (ss : List Sort) (hs : List ℕ) (ps : List Bool) (vs : List Value) → AreParts n ts ss hs ps vs → AreParts n ts ss hs ps (values_in n ts ss hs ps)
AreParts-own n ts ss hs ps vs h = subst (AreParts n ts ss hs ps) (sym (values_of-same n ts ss hs ps vs h)) h

-- a list in which place n got the part of a value, the n before it being the parts of others
pushed : {X : Type 0} (f : Value → X) (n : ℕ) (xs : List X) (vs : List Value) (v : Value) → n < length xs → take n xs ≡ map f vs → take (n + 1) (slice_set xs n (f v)) ≡ map f (vs ++ v ∷ [])
pushed f n xs vs v below e = take_more_set xs n (f v) below ∙ ap (λ ys. ys ++ f v ∷ []) e ∙ sym (map-append f vs (v ∷ []))

longer : {X : Type 0} (f : Value → X) (n : ℕ) (xs : List X) (vs : List Value) (v : Value) → length xs ≡ n → take n xs ≡ map f vs → take (n + 1) (xs ++ f v ∷ []) ≡ map f (vs ++ v ∷ [])
longer f n xs vs v all e =
    take_all (n + 1) (xs ++ f v ∷ []) (omega (arith, length-append xs (f v ∷ []), all))
    ∙ ap (λ ys. ys ++ f v ∷ []) (sym (take_all n xs (omega (arith, all))) ∙ e)
    ∙ sym (map-append f vs (v ∷ []))

fewer : {X : Type 0} (f : Value → X) (m n : ℕ) (xs : List X) (vs : List Value) → m ≤ n → take n xs ≡ map f vs → take m xs ≡ map f (take m vs)
fewer f m n xs vs le e = sym (take-take m n xs le) ∙ ap (take m) e ∙ take-map f m vs

module _ (n : ℕ) (ts : List ℕ) (ss : List Sort) (hs : List ℕ) (ps : List Bool) (vs : List Value) (h : AreParts n ts ss hs ps vs) where
  -- after a push
  pub AreParts-push : (v : Value) → n < length ts → HaveRoom n ts ss hs ps → AreParts (n + 1) (slice_set ts n v.term) (slice_set ss n v.sort) (slice_set hs n v.height) (slice_set ps n v.plain) (vs ++ v ∷ [])
  AreParts-push v below room = record {
    terms = pushed (λ v. v.term) n ts vs v below h.terms;
    sorts = pushed (λ v. v.sort) n ss vs v (omega (arith, room.sorts)) h.sorts;
    heights = pushed (λ v. v.height) n hs vs v (omega (arith, room.heights)) h.heights;
    plain = pushed (λ v. v.plain) n ps vs v (omega (arith, room.plain)) h.plain;
  }

  -- after a push where each list got one longer
  pub AreParts-longer : (v : Value) → length ts ≡ n → HaveRoom n ts ss hs ps → AreParts (n + 1) (ts ++ v.term ∷ []) (ss ++ v.sort ∷ []) (hs ++ v.height ∷ []) (ps ++ v.plain ∷ []) (vs ++ v ∷ [])
  AreParts-longer v all room = record {
    terms = longer (λ v. v.term) n ts vs v all h.terms;
    sorts = longer (λ v. v.sort) n ss vs v (room.sorts ∙ all) h.sorts;
    heights = longer (λ v. v.height) n hs vs v (room.heights ∙ all) h.heights;
    plain = longer (λ v. v.plain) n ps vs v (room.plain ∙ all) h.plain;
  }

  -- of the lowest values
  pub AreParts-take : (m : ℕ) → m ≤ n → AreParts m ts ss hs ps (take m vs)
  AreParts-take m le = record {
    terms = fewer (λ v. v.term) m n ts vs le h.terms;
    sorts = fewer (λ v. v.sort) m n ss vs le h.sorts;
    heights = fewer (λ v. v.height) m n hs vs le h.heights;
    plain = fewer (λ v. v.plain) m n ps vs le h.plain;
  }

module _ (n : ℕ) (ts : List ℕ) (ss : List Sort) (hs : List ℕ) (ps : List Bool) (room : HaveRoom n ts ss hs ps) (v : Value) where
  pub HaveRoom-push : n < length ts → HaveRoom (n + 1) (slice_set ts n v.term) (slice_set ss n v.sort) (slice_set hs n v.height) (slice_set ps n v.plain)
  HaveRoom-push below = record {
    within = omega (arith, length-set ts n v.term, below);
    sorts = length-set ss n v.sort ∙ room.sorts ∙ sym (length-set ts n v.term);
    heights = length-set hs n v.height ∙ room.heights ∙ sym (length-set ts n v.term);
    plain = length-set ps n v.plain ∙ room.plain ∙ sym (length-set ts n v.term);
  }

  pub HaveRoom-longer : HaveRoom (n + 1) (ts ++ v.term ∷ []) (ss ++ v.sort ∷ []) (hs ++ v.height ∷ []) (ps ++ v.plain ∷ [])
  HaveRoom-longer = record {
    within = omega (arith, room.within, length-append ts (v.term ∷ []));
    sorts = omega (arith, room.sorts, length-append ts (v.term ∷ []), length-append ss (v.sort ∷ []));
    heights = omega (arith, room.heights, length-append ts (v.term ∷ []), length-append hs (v.height ∷ []));
    plain = omega (arith, room.plain, length-append ts (v.term ∷ []), length-append ps (v.plain ∷ []));
  }

-- how many values there are
pub values-length : (n : ℕ) (ts : List ℕ) (ss : List Sort) (hs : List ℕ) (ps : List Bool) (vs : List Value) → AreParts n ts ss hs ps vs → n ≤ length ts → length vs ≡ n
values-length n ts ss hs ps vs h le = sym (length-map vs (λ v. v.term)) ∙ ap length (sym h.terms) ∙ length-take-le n ts le

-- a place within the view of a stack is one of the first n
pub within : (k : ℕ) (now : List Value) (n : ℕ) (ts : List ℕ) (ss : List Sort) (hs : List ℕ) (ps : List Bool) → AreParts n ts ss hs ps (values_in n ts ss hs ps) → HaveRoom n ts ss hs ps → values_in n ts ss hs ps ≡ now → k ≤ length now → k ≤ n
within k now n ts ss hs ps h room e le = omega (arith, ap length (sym e) ∙ values-length n ts ss hs ps _ h room.within, le)

-- a slice of one part, from a place on
pub part_from : {X : Type 0} (f : Value → X) (seen xs : List X) (vs : List Value) (m n : ℕ) → n ≤ m → seen ≡ xs → take m xs ≡ map f vs → take (m - n) (drop n seen) ≡ map f (drop n vs)
part_from f seen xs vs m n le e g =
    let on : n + (m - n) ≡ m = omega arith in
    sym (drop-take n (m - n) seen) ∙ ap (λ k. drop n (take k seen)) on ∙ ap (drop n) (ap (take m) e ∙ g) ∙ drop-map f n vs

pub list_all-map : (f : Value → Bool) (vs : List Value) → list_all (λ b. b) (map f vs) ≡ list_all f vs
list_all-map f [] = refl
list_all-map f (v ∷ vs) = ap (λ b. f v && b) (list_all-map f vs)

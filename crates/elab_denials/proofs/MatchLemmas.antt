-- Private. When two applications of one head are matched.
use Rattle.std.proofs.Common.{◌≡◌, ◌≢◌, ◌↔◌, inl, inr, ◌+◌, ◌<◌, ℕ, zero, suc, Bool, true, false, List, [], ◌∷◌, ◌++◌, length, take, get_or, zip, slice_get}
use Rattle.std.proofs.Common.{Option, Some, None, Result, Ok, Err, IfOk, IfSome, IfNone, All, Contains, IsTrue, refl, sym, ◌∙◌, ap, subst, arith, add-one}
use Rattle.std.specs.List.{AllZip}
use Rattle.std.proofs.lemmas.List.Elements.{All-nil, All-cons}
use Rattle.std.proofs.lemmas.Slice.Zip.{firsts-zip, seconds-zip}
use Rattle.sym_table.specs.Table.{Table}
use Rattle.term_model.proofs.Lists.{contains_cases, contains_head, contains_later, contains_none}
use Rattle.term_model.proofs.Zips.{zip_at, zip_length}
use Rattle.term_model.specs.Flips.{equality, EqualUpToFlips}
use Rattle.term_model.specs.Terms.{Term}
use Rattle.term_pool.proofs.References.{AreOne}
use Rattle.term_pool.specs.Reading.{arguments_of}
use Rattle.term_pool.specs.Views.{TermsView, IsTerm, RefersTo, ReferToAll}
use Rattle.rule_model.specs.Congruence.{AreCongruent, Head, applied, operator, IsLinked, HangTogetherDenied}
use Rattle.rule_model.specs.declared.rules.Mode.{Mode}
use Rattle.rule_model.specs.Clausal.{as_it_stands}
use Rattle.term_model.specs.declared.symbols.Op.{Op}
use Rattle.term_parts.specs.Parts.{AreSidesOf}
use Rattle.equality_steps.specs.declared.site.Site.{Site}
use Rattle.equality_ways.specs.Sides.{ReferToBoth}
use Rattle.equality_ways.specs.declared.pairs.Used.{Used}
use Rattle.equality_ways.specs.Ways.{AreEnds, LeadsTo, turned_if}
use Rattle.equality_ways.proofs.Places.{contains_of_get}
use Rattle.elab_denials.specs.Matching.{AreCrosswise, AreCrossedApart, AreLinkedAt, AreLinkedTerms, AreStraight, HasHead, Links}
use Rattle.elab_denials.proofs.HeadLemmas.{arguments_are, has_applied, same_head}

-- what holds of an answer, where it says more
pub ok_some : {X E : Type 0} (P Q : X → Type 0) (r : Result (Option X) E) → ((x : X) → P x → Q x) → IfOk r (λ o. IfSome o P) → IfOk r (λ o. IfSome o Q)
ok_some P Q (Ok (Some x)) f h = f x h
ok_some P Q (Ok None) f h = tt
ok_some P Q (Err e) f h = tt

pub ok_none : {X E : Type 0} (P Q : Type 0) (r : Result (Option X) E) → (P → Q) → IfOk r (λ o. IfNone o P) → IfOk r (λ o. IfNone o Q)
ok_none P Q (Ok (Some x)) f h = tt
ok_none P Q (Ok None) f h = f h
ok_none P Q (Err e) f h = tt

-- what holds of an answer that is there, and where none is
pub some_here : {X : Type 0} (P : X → Type 0) (o : Option X) (x : X) → o ≡ Some x → IfSome o P → P x
some_here P o x e h = subst (λ r. IfSome r P) e h

pub none_here : {X : Type 0} (P : Type 0) (o : Option X) → o ≡ None → IfNone o P → P
none_here P o e h = subst (λ r. IfNone r P) e h

-- lists that are read in step
module _ {X : Type 0} where
  zip_taken : (xs ys : List X) (k : ℕ) (x y : X) → k < length xs → length xs ≡ length ys → ((d : X) → get_or xs k d ≡ x) → ((d : X) → get_or ys k d ≡ y)
      → zip (take (suc k) xs) (take (suc k) ys) ≡ zip (take k xs) (take k ys) ++ (x, y) ∷ []
  zip_taken [] ys k x y below long is at = absurd (omega arith)
  zip_taken (a ∷ xs) [] k x y below long is at = absurd (omega (arith, long))
  zip_taken (a ∷ xs) (b ∷ ys) zero x y below long is at = ap (λ z. (z, b) ∷ []) (is a) ∙ ap (λ z. (x, z) ∷ []) (at b)
  zip_taken (a ∷ xs) (b ∷ ys) (suc k) x y below long is at =
      ap (λ zs. (a, b) ∷ zs) (zip_taken xs ys k x y (omega arith) (omega (arith, long)) is at)

  pub zip_next : (xs ys : List X) (k : ℕ) (x y : X) → k < length xs → length xs ≡ length ys → ((d : X) → get_or xs k d ≡ x) → ((d : X) → get_or ys k d ≡ y)
      → zip (take (k + 1) xs) (take (k + 1) ys) ≡ zip (take k xs) (take k ys) ++ (x, y) ∷ []
  zip_next xs ys k x y below long is at =
      ap (λ n. zip (take n xs) (take n ys)) (add-one k) ∙ zip_taken xs ys k x y below long is at

  all_taken : (R : X → X → Type 0) (xs ys : List X) (k : ℕ) (x y : X) → k < length xs → length xs ≡ length ys → ((d : X) → get_or xs k d ≡ x)
      → ((d : X) → get_or ys k d ≡ y) → AllZip R (take k xs) (take k ys) → R x y → AllZip R (take (suc k) xs) (take (suc k) ys)
  all_taken R [] ys k x y below long is at h r = absurd (omega arith)
  all_taken R (a ∷ xs) [] k x y below long is at h r = absurd (omega (arith, long))
  all_taken R (a ∷ xs) (b ∷ ys) zero x y below long is at h r = (subst (λ z. R z b) (sym (is a)) (subst (R x) (sym (at b)) r), tt)
  all_taken R (a ∷ xs) (b ∷ ys) (suc k) x y below long is at h r = (h.0, all_taken R xs ys k x y (omega arith) (omega (arith, long)) is at h.1 r)

  pub all_next : (R : X → X → Type 0) (xs ys : List X) (k : ℕ) (x y : X) → k < length xs → length xs ≡ length ys → ((d : X) → get_or xs k d ≡ x)
      → ((d : X) → get_or ys k d ≡ y) → AllZip R (take k xs) (take k ys) → R x y → AllZip R (take (k + 1) xs) (take (k + 1) ys)
  all_next R xs ys k x y below long is at h r =
      subst (λ n. AllZip R (take n xs) (take n ys)) (sym (add-one k)) (all_taken R xs ys k x y below long is at h r)

  pub not_all : (R : X → X → Type 0) (xs ys : List X) (k : ℕ) (x y : X) → k < length xs → ((d : X) → get_or xs k d ≡ x)
      → ((d : X) → get_or ys k d ≡ y) → ¬ R x y → ¬ AllZip R xs ys
  not_all R xs ys k x y below is at none h = none (subst (λ z. R z y) (is x) (subst (R (get_or xs k x)) (at y) (zip_at R xs ys k x y h below)))

  pub take_past : (xs : List X) (k : ℕ) → (k < length xs → ⊥) → take k xs ≡ xs
  take_past [] zero out = refl
  take_past [] (suc k) out = refl
  take_past (x ∷ xs) zero out = absurd (out (omega arith))
  take_past (x ∷ xs) (suc k) out = ap (λ zs. x ∷ zs) (take_past xs k (λ less. out (omega arith)))

  pub zip_linked : (R : X → X → Type 0) (xs ys : List X) (q : X × X) → AllZip R xs ys → Contains (zip xs ys) q → R q.0 q.1
  zip_linked R [] ys q h has = absurd (contains_none q has)
  zip_linked R (x ∷ xs) [] q h has = absurd h
  zip_linked R (x ∷ xs) (y ∷ ys) q h has = elim (contains_cases (x, y) q (zip xs ys) has) [
    | inl here ↦ subst (λ (z : X × X). R z.0 z.1) here h.0
    | inr below ↦ zip_linked R xs ys q h.1 below
  ]

zip_some : (ts us : List Term) → ts ≢ [] → length ts ≡ length us → zip ts us ≢ []
zip_some [] us some long e = some refl
zip_some (t ∷ ts) [] some long e = absurd (omega (arith, long))
zip_some (t ∷ ts) (u ∷ us) some long e = cc

zip_both : (s : Table) (v : TermsView) (ls rs : List ℕ) (ts us : List Term) → ReferToAll s v ls ts → ReferToAll s v rs us → length ls ≡ length rs
    → AllZip (ReferToBoth s v) (zip ls rs) (zip ts us)
zip_both s v [] rs [] us left right long = tt
zip_both s v [] rs (t ∷ ts) us left right long = absurd left
zip_both s v (l ∷ ls) [] ts us left right long = absurd (omega (arith, long))
zip_both s v (l ∷ ls) (r ∷ rs) [] us left right long = absurd left
zip_both s v (l ∷ ls) (r ∷ rs) (t ∷ ts) [] left right long = absurd right
zip_both s v (l ∷ ls) (r ∷ rs) (t ∷ ts) (u ∷ us) left right long = ((left.0, right.0), zip_both s v ls rs ts us left.1 right.1 (omega (arith, long)))

module _ (p : Site) (v : TermsView) (sides : List (Option (ℕ × ℕ))) where
  pub linked_told : (a b : ℕ) (told : Bool) → IsTerm p.symbols.now v a → IsTerm p.symbols.now v b → ¬ AreEnds sides a b
      → ((t u : Term) → RefersTo p.symbols.now v a t → RefersTo p.symbols.now v b u → IsTrue told ↔ EqualUpToFlips t u) → IsTrue told ↔ AreLinkedAt p v sides a b
  linked_told a b told one other none tells = (
    λ e. inr (record {
      left = one.means;
      right = other.means;
      left_refers = one.refers;
      right_refers = other.refers;
      equal = (tells one.means other.means one.refers other.refers).0 e;
    }),
    λ h. elim h [ inl ends ↦ absurd (none ends) | inr flips ↦ (tells flips.left flips.right flips.left_refers flips.right_refers).1 flips.equal ],
  )

  -- terms that are linked have linked references
  linked_down : (ls rs : List ℕ) (ts us : List Term) → ReferToAll p.symbols.now v ls ts → ReferToAll p.symbols.now v rs us → AllZip (AreLinkedTerms p v sides) ts us
      → AllZip (AreLinkedAt p v sides) ls rs
  linked_down [] [] ts us left right h = tt
  linked_down [] (r ∷ rs) [] [] left right h = absurd right
  linked_down [] (r ∷ rs) [] (u ∷ us) left right h = absurd h
  linked_down [] (r ∷ rs) (t ∷ ts) us left right h = absurd left
  linked_down (l ∷ ls) rs [] us left right h = absurd left
  linked_down (l ∷ ls) rs (t ∷ ts) [] left right h = absurd h
  linked_down (l ∷ ls) [] (t ∷ ts) (u ∷ us) left right h = absurd right
  linked_down (l ∷ ls) (r ∷ rs) (t ∷ ts) (u ∷ us) left right h = (h.0 l r left.0 right.0, linked_down ls rs ts us left.1 right.1 h.1)

  module _ (left right : ℕ) where
    -- place by place
    pub straight_here : (k : ℕ) (t u : Term) (ls rs : List ℕ) (pairs : List (ℕ × ℕ)) → RefersTo p.symbols.now v left t → RefersTo p.symbols.now v right u
        → HasHead p.symbols.now k t → HasHead p.symbols.now k u → ReferToAll p.symbols.now v ls (arguments_of t) → ReferToAll p.symbols.now v rs (arguments_of u)
        → ls ≢ [] → pairs ≡ zip ls rs → AllZip (AreLinkedAt p v sides) ls rs → AreStraight p v sides left right pairs
    straight_here k t u ls rs pairs first second one other lefts rights some is linked =
        let some_terms : arguments_of t ≢ [] = λ e. some (none_refer ls (subst (ReferToAll p.symbols.now v ls) e lefts)) in
        let head = has_applied p.symbols.now k t one some_terms in
        let same = same_head p.symbols.now k head.head u head.leaf other in
        let long : length (arguments_of t) ≡ length (arguments_of u) =
        sym (zip_length (RefersTo p.symbols.now v) ls (arguments_of t) lefts) ∙ (zip_length (AreLinkedAt p v sides) ls rs linked
        ∙ zip_length (RefersTo p.symbols.now v) rs (arguments_of u) rights) in
        let es = zip (arguments_of t) (arguments_of u) in
        record {
          are_applied = record {
            head = head.head;
            es = es;
            some = zip_some (arguments_of t) (arguments_of u) some_terms long;
            left_refers = subst (RefersTo p.symbols.now v left)
                (head.is ∙ ap (applied head.head) (sym (firsts-zip (arguments_of t) (arguments_of u) (sym long)))) first;
            right_refers = subst (RefersTo p.symbols.now v right)
                (same ∙ ap (applied head.head) (sym (seconds-zip (arguments_of t) (arguments_of u) (sym long)))) second;
            refer = subst (λ qs. AllZip (ReferToBoth p.symbols.now v) qs es) (sym is)
                (zip_both p.symbols.now v ls rs (arguments_of t) (arguments_of u) lefts rights (zip_length (AreLinkedAt p v sides) ls rs linked));
          };
          linked = λ q has. zip_linked (AreLinkedAt p v sides) ls rs q linked (subst (λ qs. Contains qs q) is has);
        }
      where
        none_refer : (rs : List ℕ) → ReferToAll p.symbols.now v rs [] → rs ≡ []
        none_refer [] h = refl
        none_refer (r ∷ rs) h = absurd h

    pub not_straight : (ls rs : List ℕ) (head : Head) (ts us : List Term) → ReferToAll p.symbols.now v ls (arguments_of (applied head ts))
        → ReferToAll p.symbols.now v rs (arguments_of (applied head us)) → ¬ AllZip (AreLinkedAt p v sides) ls rs → ¬ AllZip (AreLinkedTerms p v sides) ts us
    not_straight ls rs head ts us lefts rights none h =
        none (linked_down ls rs ts us (subst (ReferToAll p.symbols.now v ls) (arguments_are head ts (applied head ts) refl) lefts)
        (subst (ReferToAll p.symbols.now v rs) (arguments_are head us (applied head us) refl) rights) h)

    pub no_arguments : (ls : List ℕ) (head : Head) (ts : List Term) → ls ≡ [] → ReferToAll p.symbols.now v ls (arguments_of (applied head ts)) → ts ≢ [] → ⊥
    no_arguments ls head ts e lefts some =
        go ts (subst (λ rs. ReferToAll p.symbols.now v rs ts) e (subst (ReferToAll p.symbols.now v ls) (arguments_are head ts (applied head ts) refl) lefts)) some
      where
        go : (xs : List Term) → ReferToAll p.symbols.now v [] xs → xs ≢ [] → ⊥
        go [] h none = none refl
        go (x ∷ xs) h none = h

    -- crosswise
    pub crosswise_here : (t u : Term) (q r : ℕ × ℕ) (pairs : List (ℕ × ℕ)) → RefersTo p.symbols.now v left t → RefersTo p.symbols.now v right u
        → AreSidesOf p.symbols.now v as_it_stands q t → AreSidesOf p.symbols.now v as_it_stands r u → pairs ≡ (q.1, r.0) ∷ (q.0, r.1) ∷ []
        → AllZip (AreLinkedAt p v sides) (q.1 ∷ q.0 ∷ []) (r.0 ∷ r.1 ∷ []) → AreCrosswise p v sides left right pairs
    crosswise_here t u q r pairs first second one other is linked = record {
      one = one.left;
      two = one.right;
      three = other.left;
      four = other.right;
      left_refers = subst (RefersTo p.symbols.now v left) one.is first;
      right_refers = subst (RefersTo p.symbols.now v right) other.is second;
      inner = (q.1, r.0);
      outer = (q.0, r.1);
      two_refers = one.right_refers;
      three_refers = other.left_refers;
      one_refers = one.left_refers;
      four_refers = other.right_refers;
      pairs_are = is;
      linked = λ x has. zip_linked (AreLinkedAt p v sides) (q.1 ∷ q.0 ∷ []) (r.0 ∷ r.1 ∷ []) x linked (subst (λ qs. Contains qs x) is has);
    }

    sides_same : (a b x y : Term) → equality a b ≡ equality x y → (a ≡ x) × (b ≡ y)
    sides_same a b x y e = (cc, cc)

    pub not_crosswise : (a b x y : Term) (q r : ℕ × ℕ) → AreSidesOf p.symbols.now v as_it_stands q (equality a b)
        → AreSidesOf p.symbols.now v as_it_stands r (equality x y) → AreLinkedTerms p v sides b x → AreLinkedTerms p v sides a y
        → AllZip (AreLinkedAt p v sides) (q.1 ∷ q.0 ∷ []) (r.0 ∷ r.1 ∷ [])
    not_crosswise a b x y q r one other inner outer =
        let first = sides_same a b one.left one.right one.is in
        let second = sides_same x y other.left other.right other.is in (
          inner q.1 r.0 (subst (RefersTo p.symbols.now v q.1) (sym first.1) one.right_refers) (subst (RefersTo p.symbols.now v r.0) (sym second.0) other.left_refers),
          (
            outer q.0 r.1 (subst (RefersTo p.symbols.now v q.0) (sym first.0) one.left_refers)
                (subst (RefersTo p.symbols.now v r.1) (sym second.1) other.right_refers),
            tt,
          ),
        )

    -- where they are not linked place by place, the sides of the first one differ
    pub are_apart : AreOne p.symbols.now v → (pairs : List (ℕ × ℕ)) → ((head : Head) (ts us : List Term) → ts ≢ [] → RefersTo p.symbols.now v left (applied head ts)
        → RefersTo p.symbols.now v right (applied head us) → ¬ AllZip (AreLinkedTerms p v sides) ts us) → AreCrosswise p v sides left right pairs
        → AreCrossedApart p v sides left right pairs
    are_apart same pairs none h = record {
      crosswise = h;
      apart = λ e. none (operator Op.Equal) (h.one ∷ h.two ∷ []) (h.three ∷ h.four ∷ []) (λ f. cc) h.left_refers h.right_refers (
        λ a b l r. subst (λ n. AreLinkedAt p v sides n b) ((same h.inner.0 a h.two h.one h.two_refers l).1 (sym e))
            (subst (AreLinkedAt p v sides h.inner.0) ((same h.inner.1 b h.three h.three h.three_refers r).1 refl) (h.linked h.inner inner_there)),
        (
          λ a b l r. subst (λ n. AreLinkedAt p v sides n b) ((same h.outer.0 a h.one h.two h.one_refers l).1 e)
              (subst (AreLinkedAt p v sides h.outer.0) ((same h.outer.1 b h.four h.four h.four_refers r).1 refl) (h.linked h.outer outer_there)),
          tt,
        ),
      );
    }
      where
        inner_there : Contains pairs h.inner
        inner_there = subst (λ qs. Contains qs h.inner) (sym h.pairs_are) (contains_head h.inner (h.outer ∷ []))

        outer_there : Contains pairs h.outer
        outer_there = subst (λ qs. Contains qs h.outer) (sym h.pairs_are) (contains_later h.inner h.outer (h.outer ∷ []) (contains_head h.outer []))

    -- what is neither is not congruent
    pub not_congruent : (premises : List (List Term)) (t u : Term) → Links p v sides premises → RefersTo p.symbols.now v left t → RefersTo p.symbols.now v right u
        → ((head : Head) (ts us : List Term) → ts ≢ [] → RefersTo p.symbols.now v left (applied head ts) → RefersTo p.symbols.now v right (applied head us)
        → ¬ AllZip (AreLinkedTerms p v sides) ts us) → ((a b x y : Term) → RefersTo p.symbols.now v left (equality a b)
        → RefersTo p.symbols.now v right (equality x y) → AreLinkedTerms p v sides b x → ¬ AreLinkedTerms p v sides a y)
        → ¬ AreCongruent (HangTogetherDenied Mode.Check) premises t u
    not_congruent premises t u links first second none neither h =
        let left_is = subst (RefersTo p.symbols.now v left) h.left_is first in
        let right_is = subst (RefersTo p.symbols.now v right) h.right_is second in
        elim h.arguments [
          | inl zipped ↦ none h.head h.ts h.us h.some left_is right_is (carried h.ts h.us zipped)
          | inr crossed ↦ neither crossed.a crossed.b crossed.c crossed.d
              (subst (λ ts. RefersTo p.symbols.now v left (applied (operator Op.Equal) ts)) crossed.one
              (subst (λ k. RefersTo p.symbols.now v left (applied k h.ts)) crossed.equal left_is))
              (subst (λ ts. RefersTo p.symbols.now v right (applied (operator Op.Equal) ts)) crossed.other
              (subst (λ k. RefersTo p.symbols.now v right (applied k h.us)) crossed.equal right_is))
              (links crossed.b crossed.c crossed.inner) (links crossed.a crossed.d crossed.outer)
        ]
      where
        carried : (ts us : List Term) → AllZip (IsLinked premises) ts us → AllZip (AreLinkedTerms p v sides) ts us
        carried [] [] z = tt
        carried [] (y ∷ us) z = absurd z
        carried (x ∷ ts) [] z = absurd z
        carried (x ∷ ts) (y ∷ us) z = (links x y z.0, carried ts us z.1)

-- what leads from one reference to another has them as sides
pub found_ends : (sides : List (Option (ℕ × ℕ))) (u : Used) (a b : ℕ) → LeadsTo sides u a b → AreEnds sides a b
found_ends sides u a b leads = go u.turned leads
  where
    go : (turned : Bool) → slice_get sides u.place ≡ Some (Some (turned_if turned (a, b))) → AreEnds sides a b
    go true e = inr (contains_of_get sides u.place (Some (b, a)) e)
    go false e = inl (contains_of_get sides u.place (Some (a, b)) e)

-- what two clauses say of an answer that is there, and what is said where none is
pub some_more : {X : Type 0} (P Q R : X → Type 0) (o : Option X) → ((x : X) → P x → Q x → R x) → IfSome o P → IfSome o Q → IfSome o R
some_more P Q R (Some x) f h k = f x h k
some_more P Q R None f h k = tt

pub none_more : {X : Type 0} (P Q : Type 0) (o : Option X) → (P → Q) → IfNone o P → IfNone o Q
none_more P Q (Some x) f h = tt
none_more P Q None f h = f h

-- what stands for terms
pub refer_terms : (s : Table) (v : TermsView) (rs : List ℕ) (ts : List Term) → ReferToAll s v rs ts → All (IsTerm s v) rs
refer_terms s v [] ts h = All-nil (IsTerm s v)
refer_terms s v (r ∷ rs) [] h = absurd h
refer_terms s v (r ∷ rs) (t ∷ ts) h = All-cons (IsTerm s v) r rs (record { means = t; refers = h.0 }) (refer_terms s v rs ts h.1)

pub two_terms : (s : Table) (v : TermsView) (a b : ℕ) (t u : Term) → RefersTo s v a t → RefersTo s v b u → All (IsTerm s v) (a ∷ b ∷ [])
two_terms s v a b t u h k = refer_terms s v (a ∷ b ∷ []) (t ∷ u ∷ []) (h, (k, tt))

pub none_long : {X : Type 0} (xs : List X) → length xs ≡ 0 → xs ≡ []
none_long [] e = refl
none_long (x ∷ xs) e = absurd (omega (arith, e))

pub some_map : {X : Type 0} (P Q : X → Type 0) (o : Option X) → ((x : X) → P x → Q x) → IfSome o P → IfSome o Q
some_map P Q (Some x) f h = f x h
some_map P Q None f h = tt

-- where no match is found, none of any equalities
pub none_matched : {X : Type 0} (p : Site) (v : TermsView) (sides : List (Option (ℕ × ℕ))) (a b : ℕ) (o : Option X) (Q : Type 0)
    → ((premises : List (List Term)) (t u : Term) → Links p v sides premises → RefersTo p.symbols.now v a t → RefersTo p.symbols.now v b u
    → IfNone o (¬ AreCongruent (HangTogetherDenied Mode.Check) premises t u))
    → (((premises : List (List Term)) (t u : Term) → Links p v sides premises → RefersTo p.symbols.now v a t → RefersTo p.symbols.now v b u
    → ¬ AreCongruent (HangTogetherDenied Mode.Check) premises t u) → Q) → IfNone o Q
none_matched p v sides a b (Some x) Q h f = tt
none_matched p v sides a b None Q h f = f h

-- Ways over pairs.
use Rattle.std.proofs.Common.{◌≡◌, ◌≢◌, ◌↔◌, ◌⊎◌, inl, inr, ◌<◌, ◌≤◌, ◌+◌, ◌*◌, ◌^◌, ℕ, zero, suc, Bool, true, false, List, [], ◌∷◌, ◌++◌, length, get_or, take, drop, refl, sym, ap, ◌∙◌, subst, arith, Contains, IsTrue, nat_eq, if◌then◌else◌}
use Rattle.std.specs.List.{list_any}
use Rattle.std.proofs.lemmas.List.{get_or_default, nil_from_length}
use Rattle.std.proofs.lemmas.Bool.{cases_lt}
use Rattle.std.proofs.lemmas.List.Elements.{Contains-push}
use Rattle.rule_model.specs.Congruence.{IsConnected, here, further}
use Rattle.indexmap.specs.IndexSet.{insert_key}
use Rattle.term_model.proofs.Lists.{contains_none, contains_cases, contains_head, contains_later, has_number, any_of}
use Rattle.rules_congruence.specs.declared.links.Link.{Link}
use Rattle.rules_congruence.specs.Links.{link, link_rank, AreSmall, IsFirstFrom}
use Rattle.rules_congruence.specs.Pairs.{AreEnds, IsPath}
use Rattle.rules_congruence.specs.Ways.{IsNear, Inserts, AddsEnds, IsWayReached, HasEndsTo}

-- a list from a place on
pub drop_next : {X : Type 0} (xs : List X) (i : ℕ) (d : X) → i < length xs → drop i xs ≡ get_or xs i d ∷ drop (i + 1) xs
drop_next [] i d below = absurd (omega arith)
drop_next (x ∷ xs) zero d below = refl
drop_next (x ∷ xs) (suc i) d below =
    let on : suc i + 1 ≡ suc (i + 1) = omega arith in
    subst (λ n. drop i xs ≡ get_or xs i d ∷ drop n (x ∷ xs)) (sym on) (drop_next xs i d (omega arith))

-- a path in order
pub path_from : (pairs : List (ℕ × ℕ)) (i : ℕ) (p : ℕ × ℕ) (at to : ℕ) → i < length pairs → p ≡ get_or pairs i p → p.0 ≡ at → IsPath (drop i pairs) at to ↔ IsPath (drop (i + 1) pairs) p.1 to
path_from pairs i p at to below is e =
    subst (λ ps. IsPath ps at to ↔ IsPath (drop (i + 1) pairs) p.1 to)
    (sym (drop_next pairs i p below ∙ ap (λ q. q ∷ drop (i + 1) pairs) (sym is)))
    (λ h. h.1, λ h. (e, h))

pub no_path_from : (pairs : List (ℕ × ℕ)) (i : ℕ) (p : ℕ × ℕ) (at to : ℕ) → i < length pairs → p ≡ get_or pairs i p → p.0 ≢ at → ¬ IsPath (drop i pairs) at to
no_path_from pairs i p at to below is ne =
    subst (λ ps. ¬ IsPath ps at to)
    (sym (drop_next pairs i p below ∙ ap (λ q. q ∷ drop (i + 1) pairs) (sym is)))
    (λ h. ne h.0)

contains_push : (ks : List ℕ) (k b : ℕ) → Contains ks b → Contains (ks ++ k ∷ []) b
contains_push [] k b h = absurd (contains_none b h)
contains_push (x ∷ ks) k b h =
    elim (contains_cases x b ks h) [
      | inl e ↦ subst (λ y. Contains (y ∷ (ks ++ k ∷ [])) b) (sym e) (contains_head b (ks ++ k ∷ []))
      | inr later ↦ contains_later x b (ks ++ k ∷ []) (contains_push ks k b later)
    ]

push_contains : (ks : List ℕ) (k b : ℕ) → Contains (ks ++ k ∷ []) b → Contains ks b ⊎ (k ≡ b)
push_contains [] k b h = elim (contains_cases k b [] h) [ inl e ↦ inr e | inr later ↦ absurd (contains_none b later) ]
push_contains (x ∷ ks) k b h =
    elim (contains_cases x b (ks ++ k ∷ []) h) [
      | inl e ↦ inl (subst (λ y. Contains (y ∷ ks) b) (sym e) (contains_head b ks))
      | inr later ↦ elim (push_contains ks k b later) [ inl there ↦ inl (contains_later x b ks there) | inr e ↦ inr e ]
    ]

take_push : (ks : List ℕ) (k n : ℕ) → n ≤ length ks → take n (ks ++ k ∷ []) ≡ take n ks
take_push [] k zero below = refl
take_push [] k (suc n) below = absurd (omega arith)
take_push (x ∷ ks) k zero below = refl
take_push (x ∷ ks) k (suc n) below = ap (λ l. x ∷ l) (take_push ks k n (omega arith))

length_push : (ks : List ℕ) (k : ℕ) → length (ks ++ k ∷ []) ≡ suc (length ks)
length_push [] k = refl
length_push (x ∷ ks) k = ap suc (length_push ks k)

-- one key more
pub inserts : (ks : List ℕ) (k : ℕ) → Inserts ks k (insert_key nat_eq ks k)
inserts ks k = go (list_any (nat_eq k) ks) refl
  where
    go : (b : Bool) → list_any (nat_eq k) ks ≡ b → Inserts ks k (if b then ks else ks ++ k ∷ [])
    go true e = record { long = omega arith; kept = λ n below. refl; stays = λ b h. h; key = any_of k ks e; only = λ b h. inl h }
    go false e = record {
      long = let long = length_push ks k in omega (arith, long);
      kept = λ n below. take_push ks k n below;
      stays = λ b h. contains_push ks k b h;
      key = Contains-push ks k;
      only = λ b h. push_contains ks k b h;
    }

-- the links from a reference stand from one place to another
from_is : (links : List Link) (from first end k : ℕ) (d : Link) → AreSmall links → IsFirstFrom links (from * 4294967296) first → IsFirstFrom links ((from + 1) * 4294967296) end → first ≤ k → k < end → (get_or links k d).from ≡ from
from_is links from first end k d small start stop low high =
    let within = stop.within in
    let inside : k < length links = omega (arith, within, high) in
    let up = start.after k d low inside in
    let down = stop.before k d high in
    let bounds = small k d inside in
    let to = bounds.1 in
    omega (arith, up, down, to)

pub ends_none : (links : List Link) (from first : ℕ) (keys : List ℕ) → HasEndsTo links from first first keys keys
ends_none links from first keys = record {
  long = omega arith;
  kept = λ n below. refl;
  stays = λ b h. h;
  ends = λ k d low high. absurd (omega (arith, low, high));
  only = λ b h. inl h;
}

pub ends_more : (links : List Link) (from first end place : ℕ) (l : Link) (old keys new : List ℕ) → AreSmall links → IsFirstFrom links (from * 4294967296) first → IsFirstFrom links ((from + 1) * 4294967296) end → first ≤ place → place < end → ((d : Link) → get_or links place d ≡ l) → HasEndsTo links from first place old keys → Inserts keys l.to new → HasEndsTo links from first (place + 1) old new
ends_more links from first end place l old keys new small start stop low high is h i = record {
  long = let m = h.long in let n = i.long in omega (arith, m, n);
  kept = λ n below. i.kept n (let m = h.long in omega (arith, m, below)) ∙ h.kept n below;
  stays = λ b there. i.stays b (h.stays b there);
  ends = λ k d at_least at_most. elim (cases_lt k place) [
    | inl before ↦ i.stays _ (h.ends k d at_least before)
    | inr after ↦ (let same : k ≡ place = omega (arith, at_most, after) in subst (λ j. Contains new (get_or links j d).to) (sym same) (subst (λ (x : Link). Contains new x.to) (sym (is d)) i.key))
  ];
  only = λ b there. elim (i.only b there) [
    | inl before ↦ h.only b before
    | inr e ↦ inr (near b e)
  ];
}
  where
    near : (b : ℕ) → l.to ≡ b → IsNear links from b
    near b e =
        let within = stop.within in
        let inside : place < length links = omega (arith, within, high) in
        let source : l.from ≡ from = ap (λ (x : Link). x.from) (sym (is l)) ∙ from_is links from first end place l small start stop low high in
        (place, inside, is (link from b) ∙ linked l.from from l.to b source e)
      where
        linked : (a c d f : ℕ) → a ≡ c → d ≡ f → link a d ≡ link c f
        linked a c d f e g = cc

pub ends_all : (links : List Link) (from first end : ℕ) (old new : List ℕ) → AreSmall links → IsFirstFrom links (from * 4294967296) first → IsFirstFrom links ((from + 1) * 4294967296) end → ((k : ℕ) → first ≤ k → k < end → (d : Link) → Contains new (get_or links k d).to) → (b : ℕ) → IsNear links from b → Contains new b
ends_all links from first end old new small start stop all b (k, inside, is) =
    let rank = ap link_rank is in
    let bounds = small k (link from b) inside in
    let to = bounds.1 in
    let to_is = ap (λ (x : Link). x.to) is in
    let low : first ≤ k = elim (cases_lt k first) [
      | inl before ↦ absurd (let less = start.before k (link from b) before in omega (arith, less, rank))
      | inr after ↦ after
    ] in
    let high : k < end = elim (cases_lt k end) [
      | inl before ↦ before
      | inr after ↦ absurd (let more = stop.after k (link from b) after inside in omega (arith, more, rank, to, to_is))
    ] in
    subst (Contains new) to_is (all k low high (link from b))

pub adds_ends : (links : List Link) (from first end place : ℕ) (old new : List ℕ) → AreSmall links → IsFirstFrom links (from * 4294967296) first → IsFirstFrom links ((from + 1) * 4294967296) end → end ≤ place → HasEndsTo links from first place old new → AddsEnds links from old new
adds_ends links from first end place old new small start stop past h = record {
  long = h.long;
  kept = h.kept;
  stays = h.stays;
  ends = ends_all links from first end old new small start stop (λ k low high d. h.ends k d low (omega (arith, past, high)));
  only = h.only;
}

-- connections
pub connected_more : {X : Type 0} (near : X → X → Type 0) (x y z : X) → IsConnected near x y → near y z → IsConnected near x z
connected_more near _ _ z (here x) step = further x z z step (here z)
connected_more near _ _ z (further x w y first more) step = further x w z first (connected_more near w y z more step)

get_of_take : (xs ys : List ℕ) (n k : ℕ) → k < n → take n xs ≡ take n ys → get_or xs k 0 ≡ get_or ys k 0
get_of_take [] [] n k below e = refl
get_of_take [] (y ∷ ys) zero k below e = absurd (omega arith)
get_of_take [] (y ∷ ys) (suc n) k below e = absurd (cc)
get_of_take (x ∷ xs) [] zero k below e = absurd (omega arith)
get_of_take (x ∷ xs) [] (suc n) k below e = absurd (cc)
get_of_take (x ∷ xs) (y ∷ ys) zero k below e = absurd (omega arith)
get_of_take (x ∷ xs) (y ∷ ys) (suc n) zero below e = let f : x ∷ take n xs ≡ y ∷ take n ys = e in cc
get_of_take (x ∷ xs) (y ∷ ys) (suc n) (suc k) below e =
    get_of_take xs ys n k (omega arith) (let f : x ∷ take n xs ≡ y ∷ take n ys = e in cc)

reached_only : (links : List Link) (from : ℕ) (keys : List ℕ) → from < 2 ^ 31 → Inserts [] from keys → IsWayReached links from 0 keys
reached_only links from keys small i = record {
  first = i.key;
  within = omega arith;
  small = λ b h. elim (i.only b h) [ inl none ↦ absurd (contains_none b none) | inr e ↦ subst (λ x. x < 2 ^ 31) e small ];
  sound = λ b h. elim (i.only b h) [ inl none ↦ absurd (contains_none b none) | inr e ↦ subst (IsConnected (IsNear links) from) e (here from) ];
  closed = λ k b below near. absurd (omega arith);
}

pub reached_first : (links : List Link) (from : ℕ) (old keys : List ℕ) → from < 2 ^ 31 → length old ≡ 0 → Inserts old from keys → IsWayReached links from 0 keys
reached_first links from old keys small empty i = reached_only links from keys small (subst (λ ks. Inserts ks from keys) (nil_from_length old empty) i)

pub key_there : (keys : List ℕ) (at next : ℕ) → at < length keys → ((d : ℕ) → get_or keys at d ≡ next) → Contains keys next
key_there keys at next below is = (at, below, is next)

pub reached_next : (links : List Link) (from at next : ℕ) (keys new : List ℕ) → AreSmall links → at < length keys → get_or keys at 0 ≡ next → Contains keys next → IsWayReached links from at keys → AddsEnds links next keys new → IsWayReached links from (at + 1) new
reached_next links from at next keys new small below is there h adds = record {
  first = adds.stays from h.first;
  within = let long = adds.long in omega (arith, long, below);
  small = λ b there. elim (adds.only b there) [ inl before ↦ h.small b before | inr near ↦ end_small b near ];
  sound = λ b there. elim (adds.only b there) [
    | inl before ↦ h.sound b before
    | inr near ↦ connected_more (IsNear links) from next b (h.sound next there_before) near
  ];
  closed = λ k b under near.
      let inside : k < length keys = omega (arith, under, below) in
      let kept : get_or new k 0 ≡ get_or keys k 0 = get_of_take new keys (length keys) k inside (adds.kept (length keys) (omega arith)) in
      elim (cases_lt k at) [
        | inl before ↦ adds.stays b (h.closed k b before (subst (λ x. IsNear links x b) kept near))
        | inr after ↦ (let same : k ≡ at = omega (arith, after, under) in
            adds.ends b (subst (λ x. IsNear links x b) (kept ∙ ap (λ j. get_or keys j 0) same ∙ is) near))
      ];
}
  where
    there_before : Contains keys next
    there_before = there

    end_small : (b : ℕ) → IsNear links next b → b < 2 ^ 31
    end_small b (k, inside, e) = subst (λ (x : Link). x.to < 2 ^ 31) e (small k (link next b) inside).1

pub reached_all : (links : List Link) (from at to : ℕ) (keys : List ℕ) → length keys ≤ at → IsWayReached links from at keys → IsTrue (list_any (nat_eq to) keys) ↔ IsConnected (IsNear links) from to
reached_all links from at to keys past h = (
  λ e. h.sound to ((has_number keys to).0 e),
  λ way. (has_number keys to).1 (carried from to way h.first),
)
  where
    carried : (x y : ℕ) → IsConnected (IsNear links) x y → Contains keys x → Contains keys y
    carried _ _ (here x) there = there
    carried _ _ (further x w y near more) (k, inside, e) =
        carried w y more (h.closed k w (omega (arith, past, inside)) (subst (λ z. IsNear links z w) (sym e ∙ get_or_default keys k x 0 inside) near))

-- the same way, by another relation
pub connected_by : {X : Type 0} (near other : X → X → Type 0) → ((a b : X) → near a b → other a b) → (x y : X) → IsConnected near x y → IsConnected other x y
connected_by near other each _ _ (here x) = here x
connected_by near other each _ _ (further x w y step more) = further x w y (each x w step) (connected_by near other each w y more)

pub connected_both : {X : Type 0} (near other : X → X → Type 0) → ((a b : X) → near a b ↔ other a b) → (x y : X) → IsConnected near x y ↔ IsConnected other x y
connected_both near other each x y =
    (connected_by near other (λ a b. (each a b).0) x y, connected_by other near (λ a b. (each a b).1) x y)

-- a path in order is a way
pub path_connects : (pairs : List (ℕ × ℕ)) (x y : ℕ) → IsPath pairs x y → IsConnected (AreEnds {X = ℕ} pairs) x y
path_connects [] x y same = subst (λ z. IsConnected (AreEnds {X = ℕ} []) x z) same (here x)
path_connects (p ∷ ps) x y h =
    further x p.1 y
    (inl (subst (λ z. Contains (p ∷ ps) (z, p.1)) h.0 (contains_head p ps)))
    (connected_by (AreEnds ps) (AreEnds (p ∷ ps)) (λ a b e. elim e [ inl one ↦ inl (contains_later p (a, b) ps one) | inr one ↦ inr (contains_later p (b, a) ps one) ]) p.1 y (path_connects ps p.1 y h.1))

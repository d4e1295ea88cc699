-- Private. How many items meet one of two conditions, one for each of some keys, or are in the one list that a condition names.
use Rattle.std.proofs.Common.{◌≡◌, ◌≤◌, ◌+◌, ◌*◌, ◌⊎◌, inl, inr, ℕ, List, [], ◌∷◌, ◌++◌, length, refl, sym, subst, arith}
use Rattle.term_pool.specs.CellCounts.{Has, AreApart}
use Rattle.equality_blocks.proofs.FewLemmas.{apart_few}
use Rattle.placing_laws.specs.Counts.{AtMost}

pub has_left : {X : Type 0} (xs ys : List X) (x : X) → Has xs x → Has (xs ++ ys) x
has_left [] ys x h = absurd h
has_left (z ∷ xs) ys x (inl e) = inl e
has_left (z ∷ xs) ys x (inr h) = inr (has_left xs ys x h)

pub has_right : {X : Type 0} (xs ys : List X) (x : X) → Has ys x → Has (xs ++ ys) x
has_right [] ys x h = h
has_right (z ∷ xs) ys x h = inr (has_right xs ys x h)

pub has_either : {X : Type 0} (xs ys : List X) (x : X) → Has (xs ++ ys) x → Has xs x ⊎ Has ys x
has_either [] ys x h = inr h
has_either (z ∷ xs) ys x (inl e) = inl (inl e)
has_either (z ∷ xs) ys x (inr h) = elim (has_either xs ys x h) [ inl one ↦ inl (inr one) | inr other ↦ inr other ]

-- the items of some lists
abbrev pub all_of : {X : Type 0} → List (List X) → List X
all_of [] = []
all_of (xs ∷ lists) = xs ++ all_of lists

pub has_among : {X : Type 0} (lists : List (List X)) (xs : List X) (x : X) → Has lists xs → Has xs x → Has (all_of lists) x
has_among [] xs x there h = absurd there
has_among (ys ∷ lists) xs x (inl e) h = has_left ys (all_of lists) x (subst (λ zs. Has zs x) e h)
has_among (ys ∷ lists) xs x (inr later) h = has_right ys (all_of lists) x (has_among lists xs x later h)

module _ {X : Type 0} where
  -- the items of a list by which of two conditions each is known to meet
  record AreSorted (P Q : X → Type 0) (xs : List X) : Type 0 where
    first : List X
    second : List X
    first_apart : AreApart first
    second_apart : AreApart second
    first_meet : (x : X) → Has first x → Has xs x × P x
    second_meet : (x : X) → Has second x → Has xs x × Q x
    count : length xs ≡ length first + length second

  sort : (P Q : X → Type 0) (xs : List X) → AreApart xs → ((x : X) → Has xs x → P x ⊎ Q x) → AreSorted P Q xs
  sort P Q [] apart each = record {
    first = [];
    second = [];
    first_apart = tt;
    second_apart = tt;
    first_meet = λ x there. absurd there;
    second_meet = λ x there. absurd there;
    count = refl;
  }
  sort P Q (x ∷ xs) apart each = go (each x (inl refl)) (sort P Q xs apart.1 (λ z there. each z (inr there)))
    where
      go : P x ⊎ Q x → AreSorted P Q xs → AreSorted P Q (x ∷ xs)
      go (inl mine) rest = record {
        first = x ∷ rest.first;
        second = rest.second;
        first_apart = (λ there. apart.0 (rest.first_meet x there).0, rest.first_apart);
        second_apart = rest.second_apart;
        first_meet = λ z there. elim there [
          | inl e ↦ (inl e, subst P (sym e) mine)
          | inr later ↦ (let k = rest.first_meet z later in (inr k.0, k.1))
        ];
        second_meet = λ z there. let k = rest.second_meet z there in (inr k.0, k.1);
        count = let k = rest.count in omega arith;
      }
      go (inr mine) rest = record {
        first = rest.first;
        second = x ∷ rest.second;
        first_apart = rest.first_apart;
        second_apart = (λ there. apart.0 (rest.second_meet x there).0, rest.second_apart);
        first_meet = λ z there. let k = rest.first_meet z there in (inr k.0, k.1);
        second_meet = λ z there. elim there [
          | inl e ↦ (inl e, subst Q (sym e) mine)
          | inr later ↦ (let k = rest.second_meet z later in (inr k.0, k.1))
        ];
        count = let k = rest.count in omega arith;
      }

  -- fewer items meet less, and a greater number serves
  pub of_fewer : (P Q : X → Type 0) (m n : ℕ) → m ≤ n → ((x : X) → P x → Q x) → AtMost m Q → AtMost n P
  of_fewer P Q m n le inside h xs apart each = let k = h xs apart (λ x there. inside x (each x there)) in omega arith

  -- one of two
  pub of_either : (P Q : X → Type 0) (m n : ℕ) → AtMost m P → AtMost n Q → AtMost (m + n) (λ x. P x ⊎ Q x)
  of_either P Q m n h k xs apart each =
      let s = sort P Q xs apart each in
      let one = h s.first s.first_apart (λ x there. (s.first_meet x there).1) in
      let other = k s.second s.second_apart (λ x there. (s.second_meet x there).1) in
      let count = s.count in
      omega arith

  -- one of two that never come together
  pub of_only_one : (P Q : X → Type 0) (n : ℕ) → ((x z : X) → P x → Q z → ⊥) → AtMost n P → AtMost n Q → AtMost n (λ x. P x ⊎ Q x)
  of_only_one P Q n never h k xs apart each =
      let s = sort P Q xs apart each in
      let one = h s.first s.first_apart (λ x there. (s.first_meet x there).1) in
      let other = k s.second s.second_apart (λ x there. (s.second_meet x there).1) in
      let count = s.count in
      go s.first s.second one other count (λ x there. (s.first_meet x there).1) (λ x there. (s.second_meet x there).1)
    where
      go : (first second : List X) → length first ≤ n → length second ≤ n → length xs ≡ length first + length second → ((x : X) → Has first x → P x)
          → ((x : X) → Has second x → Q x) → length xs ≤ n
      go [] second one other count meet meets = omega arith
      go (x ∷ first) [] one other count meet meets = omega arith
      go (x ∷ first) (z ∷ second) one other count meet meets = absurd (never x z (meet x (inl refl)) (meets z (inl refl)))

  -- one of two, where the first one tells something by which all are few, and without it the second are
  pub of_told : (P Q : X → Type 0) (A : Type 0) (n : ℕ) → ((x : X) → P x → A) → (A → AtMost n (λ x. P x ⊎ Q x)) → AtMost n Q → AtMost n (λ x. P x ⊎ Q x)
  of_told P Q A n tells h k xs apart each =
      let s = sort P Q xs apart each in
      let other = k s.second s.second_apart (λ x there. (s.second_meet x there).1) in
      let count = s.count in
      go s.first other count (λ x there. (s.first_meet x there).1)
    where
      go : (first : List X) → length (sort P Q xs apart each).second ≤ n → length xs ≡ length first + length (sort P Q xs apart each).second
          → ((x : X) → Has first x → P x) → length xs ≤ n
      go [] other count meet = omega arith
      go (x ∷ first) other count meet = h (tells x (meet x (inl refl))) xs apart each

  -- where any tells something by which they are few
  pub of_known : (P : X → Type 0) (A : Type 0) (n : ℕ) → ((x : X) → P x → A) → (A → AtMost n P) → AtMost n P
  of_known P A n tells h [] apart each = omega arith
  of_known P A n tells h (x ∷ xs) apart each = h (tells x (each x (inl refl))) (x ∷ xs) apart each

  -- none
  pub of_none : (P : X → Type 0) → ((x : X) → P x → ⊥) → AtMost 0 P
  of_none P none [] apart each = omega arith
  of_none P none (x ∷ xs) apart each = absurd (none x (each x (inl refl)))

  -- what the list has that a condition names, which is met once
  pub of_one : {Y : Type 0} (C : Y → Type 0) (f : Y → List X) (n : ℕ) → ((y z : Y) → C y → C z → y ≡ z) → ((y : Y) → length (f y) ≤ n)
      → AtMost n (λ x. (y : Y) × C y × Has (f y) x)
  of_one C f n one few [] apart each = omega arith
  of_one {Y} C f n one few (x ∷ xs) apart each = go (each x (inl refl))
    where
      go : ((y : Y) × C y × Has (f y) x) → length (x ∷ xs) ≤ n
      go (y, mine, there) =
          let le = apart_few (x ∷ xs) (f y) apart (λ z h. let own = each z h in subst (λ w. Has (f w) z) (one own.0 y own.1 mine) own.2) in
          let k = few y in
          omega arith

  -- so many for each of some keys
  pub of_each : {Y : Type 0} (Q : Y → X → Type 0) (n : ℕ) (ys : List Y) → ((y : Y) → Has ys y → AtMost n (Q y))
      → AtMost (n * length ys) (λ x. (y : Y) × Has ys y × Q y x)
  of_each Q n [] few [] apart each = omega arith
  of_each Q n [] few (x ∷ xs) apart each = absurd (each x (inl refl)).1
  of_each {Y} Q n (y ∷ ys) few xs apart each =
      let k = of_either (Q y) (λ x. (w : Y) × Has ys w × Q w x) n (n * length ys) (few y (inl refl)) (of_each Q n ys (λ w there. few w (inr there)))
      xs apart (λ x there. first_or_later x (each x there)) in
      omega arith
    where
      first_or_later : (x : X) → ((w : Y) × Has (y ∷ ys) w × Q w x) → Q y x ⊎ ((w : Y) × Has ys w × Q w x)
      first_or_later x (w, inl e, q) = inl (subst (λ z. Q z x) e q)
      first_or_later x (w, inr there, q) = inr (w, there, q)

-- the items' own partners, in a list
record AreOwn {X Y : Type 0} (R : X → Y → Type 0) (Q : Y → Type 0) (xs : List X) : Type 0 where
  partners : List Y
  apart : AreApart partners
  each : (y : Y) → Has partners y → Q y × ((x : X) × Has xs x × R x y)
  count : length partners ≡ length xs

-- as many as there are partners, of which each item has its own
pub of_partners : {X Y : Type 0} (R : X → Y → Type 0) (P : X → Type 0) (Q : Y → Type 0) (n : ℕ) → ((x z : X) (y : Y) → R x y → R z y → x ≡ z)
    → ((x : X) → P x → (y : Y) × R x y × Q y) → AtMost n Q → AtMost n P
of_partners {X} {Y} R P Q n one partner h xs apart each =
    let k = own xs apart each in
    let le = h k.partners k.apart (λ y there. (k.each y there).0) in
    let count = k.count in
    omega arith
  where
    own : (xs : List X) → AreApart xs → ((x : X) → Has xs x → P x) → AreOwn R Q xs
    own [] apart each = record { partners = []; apart = tt; each = λ y there. absurd there; count = refl }
    own (x ∷ xs) apart each = go (partner x (each x (inl refl))) (own xs apart.1 (λ z there. each z (inr there)))
      where
        go : ((y : Y) × R x y × Q y) → AreOwn R Q xs → AreOwn R Q (x ∷ xs)
        go (y, mine, meets) rest = record {
          partners = y ∷ rest.partners;
          apart = (λ there. let k = (rest.each y there).1 in apart.0 (subst (Has xs) (one k.0 x y k.2 mine) k.1), rest.apart);
          each = λ w there. elim there [
            | inl e ↦ (subst Q (sym e) meets, (x, inl refl, subst (R x) (sym e) mine))
            | inr later ↦ (let k = rest.each w later in (k.0, (k.1.0, inr k.1.1, k.1.2)))
          ];
          count = let k = rest.count in omega arith;
        }

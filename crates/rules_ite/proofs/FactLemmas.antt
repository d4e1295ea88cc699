-- What holds of each `ite`. Equality up to flips passes on, so a fact has the `ite` that it is about as one side of the
-- equality in its first branch.
use Rattle.std.proofs.Common.{◌≡◌, ◌≢◌, ◌↔◌, ◌⊎◌, inl, inr, ℕ, Bool, true, false, IsTrue, Some, refl, sym, ap, ◌∙◌, subst}
use Rattle.std.specs.List.{slice_get}
use Rattle.sym_table.specs.Table.{Table}
use Rattle.term_model.specs.declared.symbols.Op.{Op}
use Rattle.term_model.specs.Flips.{equality, EqualUpToFlips, same, operations, calls, flipped, AllEqualUpToFlips, none, each}
use Rattle.term_model.specs.Terms.{Term, Terms, operation, term, no_terms}
use Rattle.term_model.proofs.Flips.{flips_turned}
use Rattle.term_pool.specs.Reading.{arguments_of}
use Rattle.term_pool.specs.Views.{TermsView, RefersTo, IsTerm}
use Rattle.rule_model.specs.Clausal.{as_it_stands}
use Rattle.rule_model.specs.Ite.{choice, IsFactOfChoice}
use Rattle.term_parts.specs.Parts.{IsOver}
use Rattle.term_parts.specs.Parts.{AreSidesOf}
use Rattle.rules_ite.specs.Facts.{AreChoiceParts, IsAbout}
use Rattle.rules_ite.proofs.PlaceLemmas.{over_three, first_of_three, second_of_three, third_of_three}

pub parts_are : (s : Table) (v : TermsView) (p q r : ℕ) (t : Term) → IsOver Op.Ite 3 t → ((b : Term) → slice_get (arguments_of t) 0 ≡ Some b → RefersTo s v p b) → ((b : Term) → slice_get (arguments_of t) 1 ≡ Some b → RefersTo s v q b) → ((b : Term) → slice_get (arguments_of t) 2 ≡ Some b → RefersTo s v r b) → AreChoiceParts s v (p, q, r) t
parts_are s v p q r t is first second third =
    let here = over_three Op.Ite t is in
    record {
      condition = here.0;
      first = here.1;
      second = here.2;
      condition_refers = first here.0 (first_of_three Op.Ite t here.0 here.1 here.2 here.3);
      first_refers = second here.1 (second_of_three Op.Ite t here.0 here.1 here.2 here.3);
      second_refers = third here.2 (third_of_three Op.Ite t here.0 here.1 here.2 here.3);
      is = here.3;
    }

-- the arguments of terms that are equal up to flips: one by one, or those of two equalities crossed
abbrev HaveFlips : Op → Terms → Term → Type 0
HaveFlips op ts u =
    ((us : Terms) × (u ≡ operation op us) × AllEqualUpToFlips ts us)
    ⊎ ((a : Term) × (b : Term) × (c : Term) × (d : Term) × (operation op ts ≡ equality a b) × (u ≡ equality c d) × EqualUpToFlips a d × EqualUpToFlips b c)

all_same : (ts : Terms) → AllEqualUpToFlips ts ts
all_same no_terms = none
all_same (term t ts) = each t t ts ts (same t) (all_same ts)

flips_of : (t u : Term) → EqualUpToFlips t u → (op : Op) (ts : Terms) → t ≡ operation op ts → HaveFlips op ts u
flips_of _ _ (same t) op ts e = inl (ts, e, all_same ts)
flips_of _ _ (operations o us ws h) op ts e = inl (ws, ap (λ p. operation p ws) (same_op o op us ts e), subst (λ xs. AllEqualUpToFlips xs ws) (same_terms o op us ts e) h)
  where
    same_op : (o op : Op) (us ts : Terms) → operation o us ≡ operation op ts → o ≡ op
    same_op o op us ts e = cc

    same_terms : (o op : Op) (us ts : Terms) → operation o us ≡ operation op ts → us ≡ ts
    same_terms o op us ts e = cc
flips_of _ _ (calls f us ws h) op ts e = absurd cc
flips_of _ _ (flipped a b c d h k) op ts e = inr (a, b, c, d, sym e, refl, h, k)

-- the arguments of two lists in step
two_each : (t u : Term) (us : Terms) → AllEqualUpToFlips (term t (term u no_terms)) us → (x : Term) × (y : Term) × (us ≡ term x (term y no_terms)) × EqualUpToFlips t x × EqualUpToFlips u y
two_each t u _ (each _ x _ _ h (each _ y _ _ k none)) = (x, y, refl, h, k)

three_each : (t u w : Term) (us : Terms) → AllEqualUpToFlips (term t (term u (term w no_terms))) us → (x : Term) × (y : Term) × (z : Term) × (us ≡ term x (term y (term z no_terms))) × EqualUpToFlips t x × EqualUpToFlips u y × EqualUpToFlips w z
three_each t u w _ (each _ x _ _ h (each _ y _ _ k (each _ z _ _ l none))) = (x, y, z, refl, h, k, l)

crossed_of : (c d : Term) (ts : Terms) → AllEqualUpToFlips ts (term d (term c no_terms)) → EqualUpToFlips (operation Op.Equal ts) (equality c d)
crossed_of c d _ (each x _ _ _ h (each y _ _ _ k none)) = flipped x y c d h k

same_equalities : (op : Op) (us : Terms) (a b : Term) → operation op us ≡ equality a b → (op ≡ Op.Equal) × (us ≡ term a (term b no_terms))
same_equalities op us a b e = (let f : op ≡ Op.Equal = cc in f, let f : us ≡ term a (term b no_terms) = cc in f)

-- what an application, and an equality that is crossed, are joined to
joined_operation : (op : Op) (ts us : Terms) (w : Term) → ((ws : Terms) → AllEqualUpToFlips us ws → AllEqualUpToFlips ts ws) → HaveFlips op us w → EqualUpToFlips (operation op ts) w
joined_operation op ts us w join (inl (ws, is, k)) = subst (EqualUpToFlips (operation op ts)) (sym is) (operations op ts ws (join ws k))
joined_operation op ts us w join (inr (a, b, c, d, e, is, k, l)) =
    let parts = same_equalities op us a b e in
    let crossed : AllEqualUpToFlips us (term d (term c no_terms)) = rw parts.1 (each a d (term b no_terms) (term c no_terms) k (each b c no_terms no_terms l none)) in
    rw (parts.0, is) (crossed_of c d ts (join (term d (term c no_terms)) crossed))

joined_equality : (a b c d w : Term) → ((x : Term) → EqualUpToFlips d x → EqualUpToFlips a x) → ((x : Term) → EqualUpToFlips c x → EqualUpToFlips b x) → HaveFlips Op.Equal (term c (term d no_terms)) w → EqualUpToFlips (equality a b) w
joined_equality a b c d w first second (inl (us, is, k)) =
    let two = two_each c d us k in
    subst (EqualUpToFlips (equality a b)) (sym (is ∙ ap (operation Op.Equal) two.2)) (flipped a b two.0 two.1 (first two.1 two.4) (second two.0 two.3))
joined_equality a b c d w first second (inr (p, q, r, z, e, is, k, l)) =
    let c_is : c ≡ p = cc in
    let d_is : d ≡ q = cc in
    subst (EqualUpToFlips (equality a b)) (sym is)
    (operations Op.Equal (term a (term b no_terms)) (term r (term z no_terms))
    (each a r (term b no_terms) (term z no_terms) (first r (rw d_is l)) (each b z no_terms no_terms (second z (rw c_is k)) none)))

-- equality up to flips passes on
mutual
  pub flips_join : (t u w : Term) → EqualUpToFlips t u → EqualUpToFlips u w → EqualUpToFlips t w
  flips_join _ _ w (same t) k = k
  flips_join _ _ w (operations op ts us h) k =
      joined_operation op ts us w (λ ws. all_join ts us ws h) (flips_of (operation op us) w k op us refl)
  flips_join _ _ _ (calls f ts us h) (same _) = calls f ts us h
  flips_join _ _ _ (calls f ts us h) (calls _ _ ws k) = calls f ts ws (all_join ts us ws h k)
  flips_join _ _ w (flipped a b c d h l) k =
      joined_equality a b c d w (λ x. flips_join a d x h) (λ x. flips_join b c x l)
      (flips_of (equality c d) w k Op.Equal (term c (term d no_terms)) refl)

  all_join : (ts us ws : Terms) → AllEqualUpToFlips ts us → AllEqualUpToFlips us ws → AllEqualUpToFlips ts ws
  all_join _ _ _ none none = none
  all_join _ _ _ (each t u ts us h hs) (each _ w _ ws k ks) = each t w ts ws (flips_join t u w h k) (all_join ts us ws hs ks)

-- what is equal up to flips to an `ite`, and to an equality
pub choice_flips : (c t u w : Term) → EqualUpToFlips (choice c t u) w → (d : Term) × (x : Term) × (y : Term) × (w ≡ choice d x y) × EqualUpToFlips c d × EqualUpToFlips t x × EqualUpToFlips u y
choice_flips c t u w h = go (flips_of (choice c t u) w h Op.Ite (term c (term t (term u no_terms))) refl)
  where
    go : HaveFlips Op.Ite (term c (term t (term u no_terms))) w → (d : Term) × (x : Term) × (y : Term) × (w ≡ choice d x y) × EqualUpToFlips c d × EqualUpToFlips t x × EqualUpToFlips u y
    go (inl (us, is, k)) = (let three = three_each c t u us k in (three.0, three.1, three.2, is ∙ ap (operation Op.Ite) three.3, three.4, three.5, three.6))
    go (inr (a, b, p, q, e, is, k, l)) = absurd cc

abbrev pub SidesFlip : Term → Term → Term → Term → Type 0
SidesFlip x y t u = (EqualUpToFlips x t × EqualUpToFlips y u) ⊎ (EqualUpToFlips x u × EqualUpToFlips y t)

pub equality_flips : (t u w : Term) → EqualUpToFlips (equality t u) w → (x : Term) × (y : Term) × (w ≡ equality x y) × SidesFlip x y t u
equality_flips t u w h = go (flips_of (equality t u) w h Op.Equal (term t (term u no_terms)) refl)
  where
    go : HaveFlips Op.Equal (term t (term u no_terms)) w → (x : Term) × (y : Term) × (w ≡ equality x y) × SidesFlip x y t u
    go (inl (us, is, k)) =
        (let two = two_each t u us k in
        (two.0, two.1, is ∙ ap (operation Op.Equal) two.2, inl (flips_turned t two.0 two.3, flips_turned u two.1 two.4)))
    go (inr (a, b, c, d, e, is, k, l)) =
        (let t_is : t ≡ a = cc in
        let u_is : u ≡ b = cc in
        (c, d, is, inr (rw u_is (flips_turned b c l), rw t_is (flips_turned a d k))))

same_sides : (x y z w : Term) → equality x y ≡ equality z w → (x ≡ z) × (y ≡ w)
same_sides x y z w e = (let f : x ≡ z = cc in f, let f : y ≡ w = cc in f)

sides_flip : (x y t u : Term) → EqualUpToFlips (equality x y) (equality t u) → SidesFlip x y t u
sides_flip x y t u h = go (equality_flips t u (equality x y) (flips_turned (equality x y) (equality t u) h))
  where
    go : ((a : Term) × (b : Term) × (equality x y ≡ equality a b) × SidesFlip a b t u) → SidesFlip x y t u
    go (a, b, e, sides) = (let is = same_sides x y a b e in subst (λ z. SidesFlip z y t u) (sym is.0) (subst (λ z. SidesFlip a z t u) (sym is.1) sides))

flip_sides : (x y t u : Term) → SidesFlip x y t u → EqualUpToFlips (equality x y) (equality t u)
flip_sides x y t u (inl (h, k)) =
    operations Op.Equal (term x (term y no_terms)) (term t (term u no_terms)) (each x t (term y no_terms) (term u no_terms) h (each y u no_terms no_terms k none))
flip_sides x y t u (inr (h, k)) = flipped x y t u h k

-- a fact has an `ite` as one side of its first equality
same_parts : (c t u d x y : Term) → choice c t u ≡ choice d x y → (c ≡ d) × (t ≡ x) × (u ≡ y)
same_parts c t u d x y e = (let f : c ≡ d = cc in f, let f : t ≡ x = cc in f, let f : u ≡ y = cc in f)

-- the `ite` that a fact is about
abbrev whole_of : {fact : Term} → IsFactOfChoice fact → Term
whole_of h = choice h.condition h.t h.u

module _ (c x y p q : Term) where
  -- the side that is the `ite` up to flips is one itself
  about_side : (d t u m z : Term) → EqualUpToFlips c d → EqualUpToFlips m (choice d t u) → EqualUpToFlips z t → SidesFlip p q (choice d t u) u → IsAbout c m z p q
  about_side d t u m z condition whole first second =
      let here = choice_flips d t u m (flips_turned m (choice d t u) whole) in
      record {
        condition = here.0;
        first = here.1;
        second = here.2;
        is = here.3;
        same_condition = flips_join c d here.0 condition here.4;
        same_first = flips_join z t here.1 first here.5;
        same_second = go here.2 here.6 second;
      }
    where
      go : (w : Term) → EqualUpToFlips u w → SidesFlip p q (choice d t u) u → SidesFlip p q m w
      go w h (inl (k, l)) = inl (flips_join p (choice d t u) m k (flips_turned m (choice d t u) whole), flips_join q u w l h)
      go w h (inr (k, l)) = inr (flips_join p u w k h, flips_join q (choice d t u) m l (flips_turned m (choice d t u) whole))

  of_about : (m z : Term) → ((t : Term) → EqualUpToFlips z t → EqualUpToFlips (equality x y) (equality m t)) → IsAbout c m z p q → IsFactOfChoice (choice c (equality x y) (equality p q))
  of_about m z branch h = record {
    condition = h.condition;
    t = h.first;
    u = h.second;
    says =
        rw (← h.is)
        (operations Op.Ite (term c (term (equality x y) (term (equality p q) no_terms)))
        (term h.condition (term (equality m h.first) (term (equality m h.second) no_terms)))
        (each c h.condition (term (equality x y) (term (equality p q) no_terms)) (term (equality m h.first) (term (equality m h.second) no_terms)) h.same_condition
        (each (equality x y) (equality m h.first) (term (equality p q) no_terms) (term (equality m h.second) no_terms) (branch h.first h.same_first)
        (each (equality p q) (equality m h.second) no_terms no_terms (flip_sides p q m h.second h.same_second) none))));
  }

  pub fact_left : IsAbout c x y p q → IsFactOfChoice (choice c (equality x y) (equality p q))
  fact_left = of_about x y (λ t h. flip_sides x y x t (inl (same x, h)))

  pub fact_right : IsAbout c y x p q → IsFactOfChoice (choice c (equality x y) (equality p q))
  fact_right = of_about y x (λ t h. flip_sides x y y t (inr (h, same y)))

  pub fact_sides : IsFactOfChoice (choice c (equality x y) (equality p q)) → IsAbout c x y p q ⊎ IsAbout c y x p q
  fact_sides h = go (choice_flips c (equality x y) (equality p q) (choice h.condition (equality (whole_of h) h.t) (equality (whole_of h) h.u)) h.says)
    where
      sides : EqualUpToFlips c h.condition → SidesFlip x y (whole_of h) h.t → SidesFlip p q (whole_of h) h.u → IsAbout c x y p q ⊎ IsAbout c y x p q
      sides condition (inl (whole, first)) second = inl (about_side h.condition h.t h.u x y condition whole first second)
      sides condition (inr (first, whole)) second = inr (about_side h.condition h.t h.u y x condition whole first second)

      go : ((d : Term) × (v : Term) × (w : Term) × (choice h.condition (equality (whole_of h) h.t) (equality (whole_of h) h.u) ≡ choice d v w) × EqualUpToFlips c d × EqualUpToFlips (equality x y) v × EqualUpToFlips (equality p q) w) → IsAbout c x y p q ⊎ IsAbout c y x p q
      go (d, v, w, is, condition, first, second) =
          (let parts = same_parts h.condition (equality (whole_of h) h.t) (equality (whole_of h) h.u) d v w is in
          sides (subst (EqualUpToFlips c) (sym parts.0) condition)
          (sides_flip x y (whole_of h) h.t (subst (EqualUpToFlips (equality x y)) (sym parts.1) first))
          (sides_flip p q (whole_of h) h.u (subst (EqualUpToFlips (equality p q)) (sym parts.2) second)))

-- what is no `ite` of two equalities is no fact
pub fact_parts : (t : Term) → IsFactOfChoice t → (c : Term) × (x : Term) × (y : Term) × (p : Term) × (q : Term) × (t ≡ choice c (equality x y) (equality p q))
fact_parts t h =
    let here = choice_flips h.condition (equality (whole_of h) h.t) (equality (whole_of h) h.u) t
    (flips_turned t (choice h.condition (equality (whole_of h) h.t) (equality (whole_of h) h.u)) h.says) in
    let first = equality_flips (whole_of h) h.t here.1 here.5 in
    let second = equality_flips (whole_of h) h.u here.2 here.6 in
    (here.0, first.0, first.1, second.0, second.1, here.3 ∙ (ap (λ z. choice here.0 z here.2) first.2 ∙ ap (λ z. choice here.0 (equality first.0 first.1) z) second.2))

pub choice_of_fact : (t : Term) → ((c u w : Term) → t ≢ choice c u w) → IsTrue false ↔ IsFactOfChoice t
choice_of_fact t other = (λ e. absurd cc, λ h. absurd (go (fact_parts t h)))
  where
    go : ((c : Term) × (x : Term) × (y : Term) × (p : Term) × (q : Term) × (t ≡ choice c (equality x y) (equality p q))) → ⊥
    go (c, x, y, p, q, e) = other c (equality x y) (equality p q) e

-- what the references of a fact's parts stand for
module _ (s : Table) (v : TermsView) (parts : ℕ × ℕ × ℕ) (t : Term) (are : AreChoiceParts s v parts t) where
  parts_same : (c u w : Term) → t ≡ choice c u w → (are.condition ≡ c) × (are.first ≡ u) × (are.second ≡ w)
  parts_same c u w e = same_parts are.condition are.first are.second c u w (sym are.is ∙ e)

  pub first_is_no_equality : ((u a b : Term) → RefersTo s v parts.1 u → u ≢ equality a b) → IsTrue false ↔ IsFactOfChoice t
  first_is_no_equality other = (λ e. absurd cc, λ h. absurd (go (fact_parts t h)))
    where
      go : ((c : Term) × (x : Term) × (y : Term) × (p : Term) × (q : Term) × (t ≡ choice c (equality x y) (equality p q))) → ⊥
      go (c, x, y, p, q, e) = other are.first x y are.first_refers (parts_same c (equality x y) (equality p q) e).1

  pub second_is_no_equality : ((u a b : Term) → RefersTo s v parts.2 u → u ≢ equality a b) → IsTrue false ↔ IsFactOfChoice t
  second_is_no_equality other = (λ e. absurd cc, λ h. absurd (go (fact_parts t h)))
    where
      go : ((c : Term) × (x : Term) × (y : Term) × (p : Term) × (q : Term) × (t ≡ choice c (equality x y) (equality p q))) → ⊥
      go (c, x, y, p, q, e) = other are.second p q are.second_refers (parts_same c (equality x y) (equality p q) e).2

  module _ (sides others : ℕ × ℕ) (left : AreSidesOf s v as_it_stands sides are.first) (right : AreSidesOf s v as_it_stands others are.second) where
    fact_is : t ≡ choice are.condition (equality left.left left.right) (equality right.left right.right)
    fact_is = are.is ∙ (ap (λ z. choice are.condition z are.second) left.is ∙ ap (λ z. choice are.condition (equality left.left left.right) z) right.is)

    abbrev pub About : Type 0
    About = IsAbout are.condition left.left left.right right.left right.right

    abbrev pub AboutOther : Type 0
    AboutOther = IsAbout are.condition left.right left.left right.left right.right

    pub left_is_fact : About → IsFactOfChoice t
    left_is_fact h = subst IsFactOfChoice (sym fact_is) (fact_left are.condition left.left left.right right.left right.right h)

    pub right_is : (here b : Bool) → IsTrue here ↔ About → here ≡ false → IsTrue b ↔ AboutOther → IsTrue b ↔ IsFactOfChoice t
    right_is here b about fails test = (
      λ e. subst IsFactOfChoice (sym fact_is) (fact_right are.condition left.left left.right right.left right.right (test.0 e)),
      λ h. go (fact_sides are.condition left.left left.right right.left right.right (subst IsFactOfChoice fact_is h)),
    )
      where
        go : About ⊎ AboutOther → IsTrue b
        go (inl h) = absurd (let holds = about.1 h in cc)
        go (inr h) = test.1 h

-- what the tests of one side come to
module _ (s : Table) (v : TermsView) (parts : ℕ × ℕ × ℕ) (m c t p q : Term) (are : AreChoiceParts s v parts m) where
  about_parts : (h : IsAbout c m t p q) → (are.condition ≡ h.condition) × (are.first ≡ h.first) × (are.second ≡ h.second)
  about_parts h = same_parts are.condition are.first are.second h.condition h.first h.second (sym are.is ∙ h.is)

  pub other_branch : (b : Bool) → IsTrue b ↔ (EqualUpToFlips c are.condition × EqualUpToFlips t are.first) → b ≡ false → IsTrue false ↔ IsAbout c m t p q
  other_branch b test fails = (
    λ e. absurd cc,
    λ h. absurd (let holds = test.1 (rw (about_parts h).0 h.same_condition, rw (about_parts h).1 h.same_first) in cc),
  )

  module _ (branches : Bool) (branch : IsTrue branches ↔ (EqualUpToFlips c are.condition × EqualUpToFlips t are.first)) (hold : branches ≡ true) where
    about : SidesFlip p q m are.second → IsAbout c m t p q
    about h = record {
      condition = are.condition;
      first = are.first;
      second = are.second;
      is = are.is;
      same_condition = (branch.0 hold).0;
      same_first = (branch.0 hold).1;
      same_second = h;
    }

    module _ (straight : Bool) (here : IsTrue straight ↔ (EqualUpToFlips p m × EqualUpToFlips q are.second)) where
      pub straight_is : straight ≡ true → IsAbout c m t p q
      straight_is holds = about (inl (here.0 holds))

      pub crossed_is : straight ≡ false → (b : Bool) → IsTrue b ↔ (EqualUpToFlips p are.second × EqualUpToFlips q m) → IsTrue b ↔ IsAbout c m t p q
      crossed_is fails b test = (λ e. about (inr (test.0 e)), λ h. go (rw (about_parts h).2 h.same_second))
        where
          go : SidesFlip p q m are.second → IsTrue b
          go (inl h) = absurd (let holds = here.1 h in cc)
          go (inr h) = test.1 h

pub no_choice : (m c t p q : Term) → ((d u w : Term) → m ≢ choice d u w) → IsTrue false ↔ IsAbout c m t p q
no_choice m c t p q other = (λ e. absurd cc, λ h. absurd (other h.condition h.first h.second h.is))

-- the references of parts stand for terms
pub parts_are_terms : (s : Table) (v : TermsView) (r : ℕ) (p : ℕ × ℕ × ℕ) → IsTerm s v r → ((t : Term) → RefersTo s v r t → AreChoiceParts s v p t) → IsTerm s v p.0 × IsTerm s v p.1 × IsTerm s v p.2
parts_are_terms s v r p is parts =
    let are = parts is.means is.refers in (
      record { means = are.condition; refers = are.condition_refers },
      record { means = are.first; refers = are.first_refers },
      record { means = are.second; refers = are.second_refers },
    )

pub sides_are_terms : (s : Table) (v : TermsView) (r : ℕ) (p : ℕ × ℕ) → IsTerm s v r → ((t : Term) → RefersTo s v r t → AreSidesOf s v as_it_stands p t) → IsTerm s v p.0 × IsTerm s v p.1
sides_are_terms s v r p is sides =
    let are = sides is.means is.refers in (record { means = are.left; refers = are.left_refers }, record { means = are.right; refers = are.right_refers })

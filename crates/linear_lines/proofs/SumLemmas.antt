-- Sums of multiplied lines.
use Rattle.std.proofs.Common.{◌≡◌, ◌≢◌, ◌⊎◌, inl, inr, ◌↔◌, ◌≤◌, ◌<◌, ℕ, ◌+◌, ◌*◌, ◌/◌, ◌==◌, ℤ, pos, neg_ℤ, ◌+ℤ◌, ◌-ℤ◌, ◌*ℤ◌, max, unsigned_abs, Bool, true, false, if◌then◌else◌, IsTrue, List, [], ◌∷◌, ◌++◌, map, All, refl, sym, ap, subst, ◌∙◌, arith}
use Rattle.std.specs.List.{AllZip}
use Rattle.std.proofs.Math.IntN.{*ℤ_comm, zero-*ℤ}
use Rattle.std.proofs.Math.Nat.{mul-le-mul_left, mul-le-mul_right, mul-le-mul}
use Rattle.std.proofs.lemmas.Bool.{eqb-true}
use Rattle.std.proofs.lemmas.Int.{ints, unsigned_abs-mul}
use Rattle.std.proofs.lemmas.List.Elements.{All-append, All-head, All-tail, All-cons}
use Rattle.sym_table.specs.Table.{Table}
use Rattle.term_model.specs.Terms.{Term}
use Rattle.term_pool.specs.Views.{TermsView, IsTerm}
use Rattle.rule_model.specs.Arith.{Relation, exceeds, reaches, equals, coefficient_in, bound_by, bound_in, CoefficientLine, IsEquation, signed_by, factor, scaled, IsWhole, IsScaledBound, added_coefficient, IsAddedBound, line_weight, lines_weight}
use Rattle.rule_model.specs.LinearForms.{constant}
use Rattle.scaled_sums.specs.declared.coefficients.Coefficient.{Coefficient}
use Rattle.scaled_sums.specs.declared.bounds.Relation as code
use Rattle.scaled_sums.specs.Coefficients.{sum_at, sizes_of, scale}
use Rattle.scaled_sums.specs.Relations.{relation_meant, IsBoundOf}
use Rattle.scaled_sums.proofs.Wholes.{whole_nothing}
use Rattle.linear_lines.specs.declared.lines.Line.{Line}
use Rattle.linear_lines.specs.declared.lines.LineForm.{LineForm}
use Rattle.linear_lines.specs.Lines.{own_weight, StandsForLine, IsReferred, HasCoefficients, IsFormOf, IsSumOf}

-- one line more
added_push : (m : ℕ) (ls : List CoefficientLine) (l : CoefficientLine) (u : Term) → added_coefficient m (ls ++ l ∷ []) u ≡ added_coefficient m ls u +ℤ scaled m l u
added_push m [] l u = omega (arith, ints)
added_push m (k ∷ ls) l u = omega (arith, ints, added_push m ls l u)

bound_push : (m : ℕ) (ls : List CoefficientLine) (l : CoefficientLine) (y x : ℤ) → IsAddedBound m ls y → IsScaledBound m l x → IsAddedBound m (ls ++ l ∷ []) (y +ℤ x)
bound_push m [] l y x e h = (x, pos 0, h, refl, omega (arith, ints, e))
bound_push m (k ∷ ls) l y x (a, b, first, rest, e) h = (a, b +ℤ x, first, bound_push m ls l b x rest h, omega (arith, ints, e))

weight_push : (m : ℕ) (ls : List CoefficientLine) (l : CoefficientLine) → lines_weight m (ls ++ l ∷ []) ≡ lines_weight m ls + line_weight m l
weight_push m [] l = omega arith
weight_push m (k ∷ ls) l = omega (arith, weight_push m ls l)

times_nothing : (f : ℤ) → f *ℤ pos 0 ≡ pos 0
times_nothing f = omega (arith, ints, *ℤ_comm f (pos 0), zero-*ℤ f)

module _ (s : Table) (v : TermsView) where
  abbrev TermIn : Coefficient → Type 0
  TermIn c = IsTerm s v c.term

  terms_scaled : (f : ℤ) (cs : List Coefficient) → All TermIn cs → All TermIn (map (scale f) cs)
  terms_scaled f [] h = λ k d below. absurd (omega (arith, below))
  terms_scaled f (c ∷ cs) h = All-cons TermIn (scale f c) (map (scale f) cs) (All-head TermIn c cs h) (terms_scaled f cs (All-tail TermIn c cs h))

  -- a reference that is no term has the coefficient 0
  known_or_nothing : (cs : List Coefficient) (r : ℕ) → All TermIn cs → (sum_at cs r ≡ pos 0) ⊎ IsTerm s v r
  known_or_nothing [] r h = inl refl
  known_or_nothing (c ∷ cs) r h = go (c.term == r) refl (known_or_nothing cs r (All-tail TermIn c cs h))
    where
      go : (b : Bool) → (c.term == r) ≡ b → (sum_at cs r ≡ pos 0) ⊎ IsTerm s v r → ((if b then c.number else pos 0) +ℤ sum_at cs r ≡ pos 0) ⊎ IsTerm s v r
      go true e rest = inr (subst (IsTerm s v) (eqb-true c.term r e) (All-head TermIn c cs h))
      go false e (inl none) = inl (omega (arith, ints, none))
      go false e (inr is) = inr is

  -- the coefficients of a sum and of a line that is added to it
  covered_sum : (f g : ℤ) (t : Term) → (f ≡ pos 0) ⊎ IsReferred s v t → (k : ℤ) → (g ≡ pos 0) ⊎ IsReferred s v t → (f +ℤ k *ℤ g ≡ pos 0) ⊎ IsReferred s v t
  covered_sum f g t (inr is) k other = inr is
  covered_sum f g t (inl e) k (inr is) = inr is
  covered_sum f g t (inl e) k (inl h) = inl (omega (arith, ints, e, ap (λ x. k *ℤ x) h, times_nothing k))

  coefficients_more : (m : ℕ) (ls : List CoefficientLine) (l : CoefficientLine) (old form new : List Coefficient) → HasCoefficients s v old (added_coefficient m ls) → HasCoefficients s v form (coefficient_in l.comparison) → new ≡ old ++ map (scale (factor m l)) form → ((r : ℕ) → sum_at new r ≡ sum_at old r +ℤ factor m l *ℤ sum_at form r) → HasCoefficients s v new (added_coefficient m (ls ++ l ∷ []))
  coefficients_more m ls l old form new sum line put numbers = record {
    right = λ r t refers.
        added_push m ls l t
        ∙ omega (arith, ints, sum.right r t refers, ap (λ x. factor m l *ℤ x) (line.right r t refers), numbers r);
    covered = λ t.
        subst (λ x. (x ≡ pos 0) ⊎ IsReferred s v t) (sym (added_push m ls l t))
        (covered_sum (added_coefficient m ls t) (coefficient_in l.comparison t) t (sum.covered t) (factor m l) (line.covered t));
    terms = subst (All TermIn) (sym put) (All-append TermIn old (map (scale (factor m l)) form) sum.terms (terms_scaled (factor m l) form line.terms));
  }

  -- whether the bound is to be rounded
  whole_terms : (m : ℕ) (l : CoefficientLine) (form : List Coefficient) → HasCoefficients s v form (coefficient_in l.comparison) → ((r : ℕ) → IsWhole m (factor m l *ℤ sum_at form r)) → (u : Term) → IsWhole m (scaled m l u)
  whole_terms m l form line each u = go (line.covered u)
    where
      go : (coefficient_in l.comparison u ≡ pos 0) ⊎ IsReferred s v u → IsWhole m (scaled m l u)
      go (inl e) = subst (IsWhole m) (sym (ap (λ x. factor m l *ℤ x) e ∙ times_nothing (factor m l))) (whole_nothing m)
      go (inr is) = subst (λ x. IsWhole m (factor m l *ℤ x)) (sym (line.right is.reference u is.refers)) (each is.reference)

  whole_references : (m : ℕ) (l : CoefficientLine) (form : List Coefficient) → HasCoefficients s v form (coefficient_in l.comparison) → ((u : Term) → IsWhole m (scaled m l u)) → (r : ℕ) → IsWhole m (factor m l *ℤ sum_at form r)
  whole_references m l form line each r = go (known_or_nothing form r line.terms)
    where
      go : (sum_at form r ≡ pos 0) ⊎ IsTerm s v r → IsWhole m (factor m l *ℤ sum_at form r)
      go (inl e) = subst (IsWhole m) (sym (ap (λ x. factor m l *ℤ x) e ∙ times_nothing (factor m l))) (whole_nothing m)
      go (inr is) = subst (λ x. IsWhole m (factor m l *ℤ x)) (line.right r is.means is.refers) (each is.means)

  bound_is_scaled : (m : ℕ) (l : CoefficientLine) (form : List Coefficient) (rounds : Bool) (own : ℤ) → HasCoefficients s v form (coefficient_in l.comparison) → IsTrue rounds ↔ ((l.comparison.relation ≢ equals) × ((r : ℕ) → IsWhole m (factor m l *ℤ sum_at form r))) → IsBoundOf rounds m (factor m l *ℤ bound_in l.comparison) own → IsScaledBound m l own
  bound_is_scaled m l form true own line told is =
      let both = told.0 refl in
      inl (record { inequality = both.0; whole = whole_terms m l form line both.1 }, is)
  bound_is_scaled m l form false own line told is =
      inr (λ round. absurd (let e = told.1 (round.inequality, whole_references m l form line round.whole) in cc), is)

-- sizes: of the factor, and of a line
pub factor_size : (relation : Relation) (n : ℤ) (share : ℕ) → unsigned_abs (signed_by relation n *ℤ pos share) ≤ max (unsigned_abs n) 1 * share
factor_size relation n share =
    let size : unsigned_abs (signed_by relation n) ≡ unsigned_abs n = signed_size relation n in
    omega (arith, unsigned_abs-mul (signed_by relation n) (pos share), ap (λ x. x * share) size, mul-le-mul_right share (at_most (unsigned_abs n)))
  where
    signed_size : (relation : Relation) (n : ℤ) → unsigned_abs (signed_by relation n) ≡ unsigned_abs n
    signed_size exceeds n = refl
    signed_size reaches n = refl
    signed_size equals n = refl

    at_most : (k : ℕ) → k ≤ max k 1
    at_most k = omega arith

-- what a line may take at most
pub product_fits : (f g a b n : ℕ) → f ≤ g → a + b ≤ n → f * (a + 1) + f * b ≤ g * (n + 1)
product_fits f g a b n small le = omega (arith, mul-le-mul small (more a b n le))
  where
    more : (a b n : ℕ) → a + b ≤ n → a + 1 + b ≤ n + 1
    more a b n le = omega (arith, le)

pub bound_size : (relation : Relation) (k : ℤ) → unsigned_abs (bound_by relation (neg_ℤ k)) ≤ unsigned_abs k + 1
bound_size exceeds k = omega (arith, ints)
bound_size reaches k = omega (arith, ints)
bound_size equals k = omega (arith, ints)

pub bound_fits : (f k b : ℤ) (relation : Relation) (m r : ℕ) → b ≡ bound_by relation (neg_ℤ k) → r ≤ unsigned_abs f * unsigned_abs b + m → r ≤ unsigned_abs f * (unsigned_abs k + 1) + m
bound_fits f k b relation m r e h =
    let small : unsigned_abs b ≤ unsigned_abs k + 1 = subst (λ x. unsigned_abs x ≤ unsigned_abs k + 1) (sym e) (bound_size relation k) in
    omega (arith, h, mul-le-mul_left (unsigned_abs f) small)

pub no_equation : (r : code.Relation) → r ≢ code.Relation.Equals → relation_meant r ≢ equals
no_equation code.Relation.Exceeds other = λ e. absurd cc
no_equation code.Relation.Reaches other = λ e. absurd cc
no_equation code.Relation.Equals other = λ e. absurd (other refl)

module _ (s : Table) (v : TermsView) where
  -- the factor, by the line
  same_factor : (m : ℕ) (line : Line) (l : CoefficientLine) → StandsForLine s v line l → signed_by (relation_meant line.comparison.relation) line.numerator *ℤ pos (m / line.denominator) ≡ factor m l
  same_factor m line l is =
      ap (λ r. signed_by r line.numerator *ℤ pos (m / line.denominator)) is.comparison.relation
      ∙ (ap (λ n. signed_by l.comparison.relation n *ℤ pos (m / line.denominator)) is.numerator
      ∙ ap (λ d. signed_by l.comparison.relation l.ratio.num *ℤ pos (m / d)) is.denominator)

  same_bound : (line : Line) (l : CoefficientLine) (numbers : LineForm) (form : List Coefficient) → StandsForLine s v line l → IsFormOf s v l.comparison numbers form → bound_by (relation_meant line.comparison.relation) (neg_ℤ numbers.constant) ≡ bound_in l.comparison
  same_bound line l numbers form is of =
      ap (λ r. bound_by r (neg_ℤ numbers.constant)) is.comparison.relation
      ∙ ap (bound_by l.comparison.relation) (turned (constant l.comparison.first) (constant l.comparison.second) numbers.constant of.constant_is)
    where
      turned : (a b n : ℤ) → n ≡ a -ℤ b → neg_ℤ n ≡ b -ℤ a
      turned a b n e = omega (arith, ints, e)

  same_weight : (m : ℕ) (line : Line) (l : CoefficientLine) (numbers : LineForm) (form : List Coefficient) → StandsForLine s v line l → IsFormOf s v l.comparison numbers form → own_weight m line numbers.weight ≡ line_weight m l
  same_weight m line l numbers form is of =
      ap (λ n. max (unsigned_abs n) 1 * (m / line.denominator) * (numbers.weight + 1) + m) is.numerator
      ∙ (ap (λ d. max (unsigned_abs l.ratio.num) 1 * (m / d) * (numbers.weight + 1) + m) is.denominator
      ∙ ap (λ w. max (unsigned_abs l.ratio.num) 1 * (m / unsigned_abs l.ratio.den) * (w + 1) + m) of.weight_is)

  -- what a line adds is at most its weight
  line_is_light : (m : ℕ) (line : Line) (numbers : LineForm) (f own : ℤ) (form : List Coefficient) → f ≡ signed_by (relation_meant line.comparison.relation) line.numerator *ℤ pos (m / line.denominator) → unsigned_abs numbers.constant + sizes_of form ≤ numbers.weight → unsigned_abs own ≤ unsigned_abs f * (unsigned_abs numbers.constant + 1) + m → unsigned_abs own + unsigned_abs f * sizes_of form ≤ own_weight m line numbers.weight
  line_is_light m line numbers f own form e light h =
      let size = subst (λ x. unsigned_abs x ≤ max (unsigned_abs line.numerator) 1 * (m / line.denominator)) (sym e) (factor_size (relation_meant line.comparison.relation) line.numerator (m / line.denominator)) in
      omega (arith, h, product_fits (unsigned_abs f) (max (unsigned_abs line.numerator) 1 * (m / line.denominator)) (unsigned_abs numbers.constant) (sizes_of form) numbers.weight size light)

  module _ (m : ℕ) (line : Line) (l : CoefficientLine) (numbers : LineForm) (form : List Coefficient) (is : StandsForLine s v line l) (of : IsFormOf s v l.comparison numbers form) where
    abbrev code_factor : ℤ
    code_factor = signed_by (relation_meant line.comparison.relation) line.numerator *ℤ pos (m / line.denominator)

    abbrev Rounds : Bool → Relation → ℤ → Type 0
    Rounds rounded relation f = IsTrue rounded ↔ ((relation ≢ equals) × ((r : ℕ) → IsWhole m (f *ℤ sum_at form r)))

    own_is_scaled : (f own : ℤ) (rounded : Bool) → f ≡ code_factor → Rounds rounded (relation_meant line.comparison.relation) f → IsBoundOf rounded m (f *ℤ bound_by (relation_meant line.comparison.relation) (neg_ℤ numbers.constant)) own → IsScaledBound m l own
    own_is_scaled f own rounded e told bound =
        let same = e ∙ same_factor m line l is in
        bound_is_scaled s v m l form rounded own of.coefficients
        (subst (Rounds rounded l.comparison.relation) same (subst (λ relation. Rounds rounded relation f) is.comparison.relation told))
        (subst (λ x. IsBoundOf rounded m (x *ℤ bound_in l.comparison) own) same (subst (λ b. IsBoundOf rounded m (f *ℤ b) own) (same_bound line l numbers form is of) bound))

    pub line_added : (ls : List CoefficientLine) (old new : List Coefficient) (bound own f : ℤ) (rounded : Bool) → IsSumOf s v m ls old bound → f ≡ code_factor → Rounds rounded (relation_meant line.comparison.relation) f → IsBoundOf rounded m (f *ℤ bound_by (relation_meant line.comparison.relation) (neg_ℤ numbers.constant)) own → unsigned_abs own ≤ unsigned_abs f * (unsigned_abs numbers.constant + 1) + m → unsigned_abs numbers.constant + sizes_of form ≤ numbers.weight → new ≡ old ++ map (scale f) form → ((r : ℕ) → sum_at new r ≡ sum_at old r +ℤ f *ℤ sum_at form r) → sizes_of new ≡ sizes_of old + unsigned_abs f * sizes_of form → IsSumOf s v m (ls ++ l ∷ []) new (bound +ℤ own)
    line_added ls old new bound own f rounded sum e told is_bound narrow light put numbers_are sizes =
        let same = e ∙ same_factor m line l is in
        let added = line_is_light m line numbers f own form e light narrow in
        let weight_is = same_weight m line l numbers form is of in
        let before = sum.light in
        record {
          coefficients = coefficients_more s v m ls l old form new sum.coefficients of.coefficients (put ∙ ap (λ x. old ++ map (scale x) form) same) (λ r. numbers_are r ∙ ap (λ x. sum_at old r +ℤ x *ℤ sum_at form r) same);
          bound_is = bound_push m ls l bound own sum.bound_is (own_is_scaled f own rounded e told is_bound);
          light = omega (arith, ints, before, added, weight_is, weight_push m ls l, sizes);
        }

  -- a sum that has no reference has no term
  pub references_cancel : (cs : List Coefficient) (f : Term → ℤ) → HasCoefficients s v cs f → ((r : ℕ) → sum_at cs r ≡ pos 0) → (u : Term) → f u ≡ pos 0
  references_cancel cs f has all u = go (has.covered u)
    where
      go : (f u ≡ pos 0) ⊎ IsReferred s v u → f u ≡ pos 0
      go (inl e) = e
      go (inr is) = has.right is.reference u is.refers ∙ all is.reference

  pub terms_cancel : (cs : List Coefficient) (f : Term → ℤ) → HasCoefficients s v cs f → ((u : Term) → f u ≡ pos 0) → (r : ℕ) → sum_at cs r ≡ pos 0
  terms_cancel cs f has all r = go (known_or_nothing s v cs r has.terms)
    where
      go : (sum_at cs r ≡ pos 0) ⊎ IsTerm s v r → sum_at cs r ≡ pos 0
      go (inl e) = e
      go (inr is) = sym (has.right r is.means is.refers) ∙ all is.means

  abbrev LineEquates : Line → Type 0
  LineEquates l = relation_meant l.comparison.relation ≡ equals

  pub equations_are : (lines : List Line) (ls : List CoefficientLine) → AllZip (StandsForLine s v) lines ls → All LineEquates lines ↔ All IsEquation ls
  equations_are [] [] zip = (λ h k d below. absurd (omega (arith, below)), λ h k d below. absurd (omega (arith, below)))
  equations_are [] (l ∷ ls) zip = absurd zip
  equations_are (line ∷ lines) [] zip = absurd zip
  equations_are (line ∷ lines) (l ∷ ls) zip =
      let rest = equations_are lines ls zip.1 in (
        λ h. All-cons IsEquation l ls (sym zip.0.comparison.relation ∙ All-head LineEquates line lines h) (rest.0 (All-tail LineEquates line lines h)),
        λ h. All-cons LineEquates line lines (zip.0.comparison.relation ∙ All-head IsEquation l ls h) (rest.1 (All-tail IsEquation l ls h)),
      )

-- what is asked of the numbers that a line makes
pub size_by : (relation : Relation) (n k f : ℤ) (share : ℕ) → f ≡ signed_by relation k *ℤ pos share → k ≡ n → unsigned_abs f ≤ max (unsigned_abs n) 1 * share
size_by relation n k f share e same =
    subst (λ x. unsigned_abs x ≤ max (unsigned_abs n) 1 * share) (sym (e ∙ ap (λ z. signed_by relation z *ℤ pos share) same)) (factor_size relation n share)

pub form_fits : (f g a b w m rest most : ℕ) → f ≤ g → a + b ≤ w → rest + (g * (w + 1) + m) < most → f * b < most
form_fits f g a b w m rest most small light narrow = omega (arith, narrow, product_fits f g a b w small light)

pub own_fits : (f g a b w m rest most : ℕ) → f ≤ g → a + b ≤ w → rest + (g * (w + 1) + m) < most → f * (a + 1) + m < most
own_fits f g a b w m rest most small light narrow = omega (arith, narrow, product_fits f g a b w small light)

pub sum_fits : (f g a b w m x s own most : ℕ) → f ≤ g → a + b ≤ w → x + s + (g * (w + 1) + m) < most → own ≤ f * (a + 1) + m → x + own < most
sum_fits f g a b w m x s own most small light narrow h = omega (arith, narrow, h, product_fits f g a b w small light)

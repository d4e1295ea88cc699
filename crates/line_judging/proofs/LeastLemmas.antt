-- The least multiple of the denominators of lines.
use Rattle.std.proofs.Common.{◌≡◌, ◌≢◌, ◌⊎◌, inl, inr, ◌≤◌, ◌<◌, ℕ, zero, suc, ◌+◌, ◌*◌, ◌/◌, ◌%◌, unsigned_abs, List, [], ◌∷◌, All, refl, sym, ap, subst, ◌∙◌, arith}
use Rattle.std.specs.List.{AllZip}
use Rattle.std.proofs.Math.Nat.{div-add-mod, mul-mod_right, mul_assoc, mul_comm, le_antisymm}
use Rattle.std.proofs.lemmas.List.Elements.{All-head, All-tail, All-cons}
use Rattle.sym_table.specs.Table.{Table}
use Rattle.term_pool.specs.Views.{TermsView}
use Rattle.rule_model.specs.Arith.{CoefficientLine, Divides, IsMultipleOfAll, IsLeastMultiple, lines_weight}
use Rattle.linear_lines.specs.declared.lines.Line.{Line}
use Rattle.linear_lines.specs.Lines.{StandsForLine, IsMultiple, IsLeast}
use Rattle.line_judging.specs.Sums.{TellsSum, TellsAbsurdity}
use Rattle.line_judging.specs.Weights.{IsLineOfTerms}
use Rattle.line_judging.specs.declared.judging.Absurdity.{Absurdity}
use Rattle.scaled_sums.proofs.Divisors.{at_least}

abbrev Divided : ℕ → CoefficientLine → Type 0
Divided n l = Divides (unsigned_abs l.ratio.den) n

abbrev DividedByReferences : ℕ → Line → Type 0
DividedByReferences n l = Divides l.denominator n

abbrev HasDenominator : CoefficientLine → Type 0
HasDenominator l = 0 < unsigned_abs l.ratio.den

-- multiples of the lines and of those that they stand for
module _ (s : Table) (v : TermsView) where
  divided : (n : ℕ) (lines : List Line) (ls : List CoefficientLine) → AllZip (StandsForLine s v) lines ls → All (DividedByReferences n) lines → All (Divided n) ls
  divided n [] [] zip h = λ k d below. absurd (omega (arith, below))
  divided n [] (l ∷ ls) zip h = absurd zip
  divided n (x ∷ lines) [] zip h = absurd zip
  divided n (x ∷ lines) (l ∷ ls) zip h =
      All-cons (Divided n) l ls (subst (λ d. Divides d n) zip.0.denominator (All-head (DividedByReferences n) x lines h)) (divided n lines ls zip.1 (All-tail (DividedByReferences n) x lines h))

  divided_by_references : (n : ℕ) (lines : List Line) (ls : List CoefficientLine) → AllZip (StandsForLine s v) lines ls → All (Divided n) ls → All (DividedByReferences n) lines
  divided_by_references n [] [] zip h = λ k d below. absurd (omega (arith, below))
  divided_by_references n [] (l ∷ ls) zip h = absurd zip
  divided_by_references n (x ∷ lines) [] zip h = absurd zip
  divided_by_references n (x ∷ lines) (l ∷ ls) zip h =
      All-cons (DividedByReferences n) x lines (subst (λ d. Divides d n) (sym zip.0.denominator) (All-head (Divided n) l ls h)) (divided_by_references n lines ls zip.1 (All-tail (Divided n) l ls h))

  multiple_by_references : (n : ℕ) (lines : List Line) (ls : List CoefficientLine) → AllZip (StandsForLine s v) lines ls → IsMultipleOfAll ls n → IsMultiple lines n
  multiple_by_references n lines ls zip h = record { over = h.0; each = divided_by_references n lines ls zip h.1 }

  pub least_of_lines : (n : ℕ) (lines : List Line) (ls : List CoefficientLine) → AllZip (StandsForLine s v) lines ls → IsLeast lines n → IsLeastMultiple ls n
  least_of_lines n lines ls zip is = record {
    multiple = (is.multiple.over, divided n lines ls zip is.multiple.each);
    least = λ m h. at_least n m h.0 (is.least m (multiple_by_references m lines ls zip h));
  }

  have_denominators : (lines : List Line) (ls : List CoefficientLine) → AllZip (StandsForLine s v) lines ls → All (IsLineOfTerms s v) lines → All HasDenominator ls
  have_denominators [] [] zip h = λ k d below. absurd (omega (arith, below))
  have_denominators [] (l ∷ ls) zip h = absurd zip
  have_denominators (x ∷ lines) [] zip h = absurd zip
  have_denominators (x ∷ lines) (l ∷ ls) zip h =
      All-cons HasDenominator l ls (subst (λ d. 0 < d) zip.0.denominator (All-head (IsLineOfTerms s v) x lines h).some) (have_denominators lines ls zip.1 (All-tail (IsLineOfTerms s v) x lines h))

-- the denominators are at most their multiple
pub shares : (lines : List Line) (n : ℕ) → IsLeast lines n → All (λ (l : Line). l.denominator ≤ n) lines
shares lines n is = λ k d below. at_least _ n is.multiple.over (is.multiple.each k d below)

-- there is one least multiple
one_least : (ls : List CoefficientLine) (m n : ℕ) → IsLeastMultiple ls m → IsLeastMultiple ls n → m ≡ n
one_least ls m n a b = le_antisymm (a.least n b.multiple) (b.least m a.multiple)

pub told_by_least : (ls : List CoefficientLine) (m : ℕ) (answer : Absurdity) → IsLeastMultiple ls m → TellsSum m ls answer → TellsAbsurdity ls answer
told_by_least ls m answer least told = record {
  multiple = m;
  least = least;
  told = λ n is. subst (λ x. TellsSum x ls answer) (one_least ls m n least is) told;
}

-- whether a number is a multiple, decided
decide_one : (d n : ℕ) → 0 < d → Divides d n ⊎ (Divides d n → ⊥)
decide_one d n some = go (n % d) refl
  where
    go : (r : ℕ) → n % d ≡ r → Divides d n ⊎ (Divides d n → ⊥)
    go zero e = inl (n / d, omega (arith, e, div-add-mod n d))
    go (suc r) e = inr (λ is. absurd (omega (arith, e, ap (λ x. x % d) is.1, mul-mod_right d is.0)))

decide_each : (ls : List CoefficientLine) (n : ℕ) → All HasDenominator ls → All (Divided n) ls ⊎ (All (Divided n) ls → ⊥)
decide_each [] n h = inl (λ k d below. absurd (omega (arith, below)))
decide_each (l ∷ ls) n h =
    go (decide_one (unsigned_abs l.ratio.den) n (All-head HasDenominator l ls h)) (decide_each ls n (All-tail HasDenominator l ls h))
  where
    go : Divided n l ⊎ (Divided n l → ⊥) → All (Divided n) ls ⊎ (All (Divided n) ls → ⊥) → All (Divided n) (l ∷ ls) ⊎ (All (Divided n) (l ∷ ls) → ⊥)
    go (inl a) (inl b) = inl (All-cons (Divided n) l ls a b)
    go (inr a) b = inr (λ all. a (All-head (Divided n) l ls all))
    go (inl a) (inr b) = inr (λ all. b (All-tail (Divided n) l ls all))

decide_multiple : (ls : List CoefficientLine) → All HasDenominator ls → (n : ℕ) → IsMultipleOfAll ls n ⊎ (IsMultipleOfAll ls n → ⊥)
decide_multiple ls h zero = inr (λ is. absurd (let over = is.0 in omega (arith, over)))
decide_multiple ls h (suc n) = go (decide_each ls (suc n) h)
  where
    go : All (Divided (suc n)) ls ⊎ (All (Divided (suc n)) ls → ⊥) → IsMultipleOfAll ls (suc n) ⊎ (IsMultipleOfAll ls (suc n) → ⊥)
    go (inl each) = inl (omega arith, each)
    go (inr none) = inr (λ is. none is.1)

-- of numbers that are told from others, if there is some, there is a least one
record IsLeastOf (P : ℕ → Type 0) (n : ℕ) : Type 0 where
  is : P n
  least : (m : ℕ) → P m → n ≤ m

search_from : (P : ℕ → Type 0) → ((n : ℕ) → P n ⊎ (P n → ⊥)) → (k n : ℕ) → P (n + k) → ((m : ℕ) → P m → n ≤ m) → (x : ℕ) × IsLeastOf P x
search_from P decide zero n has low = (n, record { is = subst P (omega arith) has; least = low })
search_from P decide (suc k) n has low =
    go (decide n) (λ none. search_from P decide k (suc n) (subst P (omega arith) has) (λ m is. above m (low m is) (λ e. none (subst P e is))))
  where
    above : (m : ℕ) → n ≤ m → m ≢ n → suc n ≤ m
    above m le other = omega (arith, le, other)

    go : P n ⊎ (P n → ⊥) → ((P n → ⊥) → (x : ℕ) × IsLeastOf P x) → (x : ℕ) × IsLeastOf P x
    go (inl is) more = (n, record { is = is; least = low })
    go (inr none) more = more none

-- the product of the denominators is a multiple
some_multiple : (ls : List CoefficientLine) → All HasDenominator ls → (n : ℕ) × IsMultipleOfAll ls n
some_multiple [] h = (1, (omega arith, λ k d below. absurd (omega (arith, below))))
some_multiple (l ∷ ls) h =
    let rest = some_multiple ls (All-tail HasDenominator l ls h) in
    let own = unsigned_abs l.ratio.den in (
      rest.0 * own,
      (positive rest.0 own rest.1.0 (All-head HasDenominator l ls h), All-cons (Divided (rest.0 * own)) l ls (rest.0, mul_comm rest.0 own) (λ k d below. wider _ rest.0 own (rest.1.1 k d below))),
    )
  where
    positive : (a b : ℕ) → 0 < a → 0 < b → 0 < a * b
    positive a b h k = grind arith

    wider : (d n x : ℕ) → Divides d n → Divides d (n * x)
    wider d n x (k, e) = (k * x, ap (λ y. y * x) e ∙ mul_assoc d k x)

some_least : (ls : List CoefficientLine) → All HasDenominator ls → (n : ℕ) × IsLeastMultiple ls n
some_least ls h =
    let some = some_multiple ls h in
    let found = search_from (IsMultipleOfAll ls) (decide_multiple ls h) some.0 0 (subst (IsMultipleOfAll ls) (omega arith) some.1) (λ m is. omega arith) in
    (found.0, record { multiple = found.1.is; least = found.1.least })

-- lines weigh at least as much as the multiple
wide_lines : (ls : List CoefficientLine) (m most : ℕ) → 1 < most → ((k : ℕ) → IsMultipleOfAll ls k → most ≤ k) → IsMultipleOfAll ls m → most ≤ lines_weight m ls
wide_lines [] m most over wide is =
    absurd (let one = wide 1 (omega arith, λ k d below. absurd (omega (arith, below))) in omega (arith, over, one))
wide_lines (l ∷ ls) m most over wide is = let all = wide m is in omega (arith, all)

pub wide_multiple : (s : Table) (v : TermsView) (lines : List Line) (ls : List CoefficientLine) (most : ℕ) → AllZip (StandsForLine s v) lines ls → All (IsLineOfTerms s v) lines → 1 < most → ((m : ℕ) → IsMultiple lines m → most ≤ m) → (n : ℕ) × IsLeastMultiple ls n × (most ≤ lines_weight n ls)
wide_multiple s v lines ls most zip terms over wide =
    let some = some_least ls (have_denominators s v lines ls zip terms) in
    (some.0, some.1, wide_lines ls some.0 most over (λ k is. wide k (multiple_by_references s v k lines ls zip is)) some.1.multiple)

-- The rows of assertions.
use Rattle.std.proofs.Common.{◌≡◌, ◌≢◌, ◌⊎◌, inl, inr, ◌≤◌, ◌<◌, ℕ, zero, suc, ◌+◌, ℤ, pos, negsuc, ◌+ℤ◌, ◌*ℤ◌, ◌<ℤ◌, List, [], ◌∷◌, ◌++◌, length, get_or, Some, All, Contains, Option, refl, sym, ap, subst, ◌∙◌, arith}
use Rattle.std.proofs.Math.IntN.{zero-*ℤ}
use Rattle.std.proofs.lemmas.Int.{ints}
use Rattle.std.proofs.lemmas.List.{append_assoc}
use Rattle.std.proofs.lemmas.List.Elements.{All-cons, All-nil, All-weaker}
use Rattle.term_model.proofs.Lists.{contains_later}
use Rattle.term_model.specs.Terms.{Term, not_of}
use Rattle.rule_model.specs.Arith.{Relation, exceeds, reaches, equals, Comparison, denial}
use Rattle.lia_rows.specs.Combinations.{bound_of, multiplied, IsPlainCombination, inequalities_in, inequalities_of, AreSearched}
use Rattle.lia_rows.specs.Rows.{Row, IsRow, GivesNoRow, AreRowsOf, none, given, other}
use Rattle.lia_rows.specs.Steps.{used}

-- an assertion gives one row
one_row : (a b : Row) → IsRow a → IsRow b → a.assertion ≡ b.assertion → a ≡ b
one_row a b is_a is_b e =
    let both : ◌≡◌ {A = Option Comparison} (Some a.comparison) (Some b.comparison) = sym is_a.says ∙ ap (λ t. denial (not_of t)) e ∙ is_b.says in
    let same : a.comparison ≡ b.comparison = cc in
    ap (λ (t : Term). record { assertion = t; comparison = a.comparison }) e ∙ ap (λ (c : Comparison). record { assertion = b.assertion; comparison = c }) same

pub rows_append : (ts us : List Term) (rows more : List Row) → AreRowsOf ts rows → AreRowsOf us more → AreRowsOf (ts ++ us) (rows ++ more)
rows_append ts us rows more none h = h
rows_append ts us rows more (given t row before front e is rest) h = given t row (before ++ us) (front ++ more) e is (rows_append before us front more rest h)
rows_append ts us rows more (other t before front unsaid rest) h = other t (before ++ us) (front ++ more) unsaid (rows_append before us front more rest h)

pub all_rows : (ts : List Term) (rows : List Row) → AreRowsOf ts rows → All IsRow rows
all_rows ts rows none = All-nil IsRow
all_rows ts rows (given t row before front e is rest) = All-cons IsRow row front is (all_rows before front rest)
all_rows ts rows (other t before front unsaid rest) = all_rows before front rest

-- what the first assertion gives
record BeginsWith (t : Term) (ts : List Term) (all : List Row) : Type 0 where
  row : Row
  rest : List Row
  whole : all ≡ row ∷ rest
  assertion : row.assertion ≡ t
  is : IsRow row
  given_rest : AreRowsOf ts rest

begins : (xs : List Term) (all : List Row) → AreRowsOf xs all → (t : Term) (ts : List Term) → xs ≡ t ∷ ts → BeginsWith t ts all ⊎ (GivesNoRow t × AreRowsOf ts all)
begins xs all none t ts e = absurd cc
begins xs all (given u row us rows f is h) t ts e =
    let same : u ≡ t = cc in
    let same_rest : us ≡ ts = cc in
    inl (record { row = row; rest = rows; whole = refl; assertion = f ∙ same; is = is; given_rest = subst (λ zs. AreRowsOf zs rows) same_rest h })
begins xs all (other u us rows unsaid h) t ts e =
    let same : u ≡ t = cc in
    let same_rest : us ≡ ts = cc in
    inr (subst GivesNoRow same unsaid, subst (λ zs. AreRowsOf zs rows) same_rest h)

-- the rows of assertions begin with those of the first of them
pub rows_prefix : (ts us : List Term) (rows all : List Row) → AreRowsOf ts rows → AreRowsOf (ts ++ us) all → (rest : List Row) × (all ≡ rows ++ rest) × AreRowsOf us rest
rows_prefix ts us rows all none h = (all, refl, h)
rows_prefix ts us rows all (given t row before front e is rest) h =
    elim (begins (t ∷ (before ++ us)) all h t (before ++ us) refl) [
      | inl b ↦ (let more = rows_prefix before us front b.rest rest b.given_rest in
          let same = one_row row b.row is b.is (e ∙ sym b.assertion) in
          (more.0, b.whole ∙ ap (λ x. x ∷ b.rest) (sym same) ∙ ap (λ xs. row ∷ xs) more.1, more.2))
      | inr none_given ↦ absurd (none_given.0 row is e)
    ]
rows_prefix ts us rows all (other t before front unsaid rest) h =
    elim (begins (t ∷ (before ++ us)) all h t (before ++ us) refl) [
      | inl b ↦ absurd (unsaid b.row b.is b.assertion)
      | inr none_given ↦ rows_prefix before us front all rest none_given.1
    ]

-- rows that begin so are not searched
pub stopped : (ts front rest : List Term) (here : Term) (rows more all : List Row) → ts ≡ front ++ here ∷ rest → AreRowsOf front rows → AreRowsOf (here ∷ []) more
    → ((others : List Row) → ¬ AreSearched ((rows ++ more) ++ others)) → AreRowsOf ts all → ¬ AreSearched all
stopped ts front rest here rows more all whole before one refused h searched =
    let joined : ts ≡ (front ++ here ∷ []) ++ rest = whole ∙ sym (append_assoc front (here ∷ []) rest) in
    let prefix = rows_prefix (front ++ here ∷ []) rest (rows ++ more) all (rows_append front (here ∷ []) rows more before one) (subst (λ zs. AreRowsOf zs all) joined h) in
    refused prefix.0 (subst AreSearched prefix.1 searched)

-- there are no other rows
no_rows : (xs : List Term) (all : List Row) → AreRowsOf xs all → xs ≡ [] → all ≡ []
no_rows xs all none e = refl
no_rows xs all (given t row ts rows f is h) e = absurd cc
no_rows xs all (other t ts rows unsaid h) e = absurd cc

pub same_rows : (ts : List Term) (rows all : List Row) → AreRowsOf ts rows → AreRowsOf ts all → rows ≡ all
same_rows ts rows all none h = sym (no_rows [] all h refl)
same_rows ts rows all (given t row before front e is rest) h =
    elim (begins (t ∷ before) all h t before refl) [
      | inl b ↦ (let same = one_row row b.row is b.is (e ∙ sym b.assertion) in
          ap (λ x. x ∷ front) same ∙ ap (λ xs. b.row ∷ xs) (same_rows before front b.rest rest b.given_rest) ∙ sym b.whole)
      | inr none_given ↦ absurd (none_given.0 row is e)
    ]
same_rows ts rows all (other t before front unsaid rest) h =
    elim (begins (t ∷ before) all h t before refl) [
      | inl b ↦ absurd (unsaid b.row b.is b.assertion)
      | inr none_given ↦ same_rows before front all rest none_given.1
    ]

-- each is the row of an assertion that stands there
abbrev IsAmong : List Term → Row → Type 0
IsAmong ts row = Contains ts row.assertion

pub all_there : (ts : List Term) (rows : List Row) → AreRowsOf ts rows → All (λ (row : Row). Contains ts row.assertion) rows
all_there ts rows none = All-nil (IsAmong [])
all_there ts rows (given t row before front e is rest) =
    All-cons (IsAmong (t ∷ before)) row front (0, omega arith, sym e)
    (All-weaker (IsAmong before) (IsAmong (t ∷ before)) (λ x h. contains_later t x.assertion before h) front (all_there before front rest))
all_there ts rows (other t before front unsaid rest) =
    All-weaker (IsAmong before) (IsAmong (t ∷ before)) (λ x h. contains_later t x.assertion before h) front (all_there before front rest)

-- ---- how many of them are used
nothing_used : (g : Row → ℤ) (rows : List Row) (ms : List ℤ) → length (used ms rows) ≡ 0 → multiplied g rows ms ≡ pos 0
nothing_used g [] ms e = refl
nothing_used g (row ∷ rows) [] e = refl
nothing_used g (row ∷ rows) (pos zero ∷ ms) e = omega (arith, ints, zero-*ℤ (g row), nothing_used g rows ms e)
nothing_used g (row ∷ rows) (pos (suc n) ∷ ms) e = absurd (omega (arith, e))
nothing_used g (row ∷ rows) (negsuc n ∷ ms) e = absurd (omega (arith, e))

pub some_used : (rows : List Row) (ms : List ℤ) → IsPlainCombination rows ms → 0 < length (used ms rows)
some_used rows ms plain = go (length (used ms rows)) refl
  where
    go : (n : ℕ) → length (used ms rows) ≡ n → 0 < length (used ms rows)
    go zero e = (let over = plain.over in absurd (omega (arith, ints, over, nothing_used bound_of rows ms e)))
    go (suc n) e = omega (arith, e)

some_inequality : (r : Relation) → 1 ≤ inequalities_in r
some_inequality exceeds = omega arith
some_inequality reaches = omega arith
some_inequality equals = omega arith

used_least : (rows : List Row) (ms : List ℤ) → length (used ms rows) ≤ inequalities_of rows
used_least rows [] = omega arith
used_least [] (m ∷ ms) = omega arith
used_least (row ∷ rows) (pos zero ∷ ms) = omega (arith, used_least rows ms)
used_least (row ∷ rows) (pos (suc n) ∷ ms) = omega (arith, used_least rows ms, some_inequality row.comparison.relation)
used_least (row ∷ rows) (negsuc n ∷ ms) = omega (arith, used_least rows ms, some_inequality row.comparison.relation)

pub few_used : (rows : List Row) (ms : List ℤ) → AreSearched rows → length (used ms rows) ≤ 8
few_used rows ms searched = let few = searched.few in omega (arith, few, used_least rows ms)

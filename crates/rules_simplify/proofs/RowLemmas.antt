-- Rows of tables: what a row makes is told by what it is made of, and is lighter.
use Rattle.std.proofs.Common.{◌≡◌, ◌↔◌, inl, inr, ℕ, List, [], ◌∷◌, map, Bool, true, not, ◌&&◌, ◌||◌, IsTrue, Some, None, Contains, refl, sym, ap, ◌∙◌, subst}
use Rattle.std.proofs.lemmas.Bool.{or_cases}
use Rattle.term_model.specs.declared.symbols.Op.{Op}
use Rattle.term_model.specs.declared.symbols.Sort.{Sort}
use Rattle.term_model.specs.Sorts.{IsOf, AreOf, IsWellSorted}
use Rattle.term_model.specs.Terms.{Term, numeral, operation, no_terms, term, terms_of}
use Rattle.term_model.proofs.Basics.{and-left, and-right, not_both}
use Rattle.term_model.proofs.Lists.{contains_none, contains_cases}
use Rattle.rule_model.specs.declared.letter.Letter.{Letter}
use Rattle.rule_model.specs.Rewriting.{RewriteRow, PassesGuard, Rewrites, FitsRow, IsFirstFit}
use Rattle.rule_model.specs.Schemas.{Pattern, letter, nullary, unary, binary, ternary, fill}
use Rattle.rule_model.specs.TermTests.{op_eq}
use Rattle.rule_model.proofs.ArgumentLists.{same_arguments}
use Rattle.std.specs.Bool.{⊤}
use Rattle.std.specs.List.{AllByRecursion}
use Rattle.sym_table.specs.Table.{Table}
use Rattle.term_pool.specs.Views.{TermsView, RefersTo, ReferToAll}
use Rattle.schema_match.specs.Letters.{slot, Agrees, IsSettledAt}
use Rattle.schema_match.specs.Matching.{Fits, Matches}
use Rattle.schema_match.specs.declared.letters.Letters.{Letters}
use Rattle.schema_match.proofs.Steps.{with_term}
use Rattle.rules_simplify.specs.Chains.{FitsBy}
use Rattle.rules_simplify.specs.Tables.{root_of, patterns_in, same_letter, has_letter, has_letters_of, may_be, is_last}

same_letters : (l m : Letter) → same_letter l m ≡ true → l ≡ m
same_letters Letter.A Letter.A e = refl
same_letters Letter.B Letter.B e = refl
same_letters Letter.C Letter.C e = refl
same_letters Letter.D Letter.D e = refl
same_letters _ _ e = absurd cc

same_op : (op o : Op) (ts us : List Term) → operation op (terms_of ts) ≡ operation o (terms_of us) → op ≡ o
same_op op o ts us e = cc

one_inside : (op : Op) (t u : Term) → operation op (term t no_terms) ≡ operation op (term u no_terms) → t ≡ u
one_inside op t u e = cc

-- terms for the letters that give one term are one where the pattern has the letter, and so they give one term of a
-- pattern whose letters it has
module _ (f g : Letter → Term) where
  pub letter_told : (l : Letter) (p : Pattern) → has_letter l p ≡ true → fill f p ≡ fill g p → f l ≡ g l
  letter_told l (letter m) e same = subst (λ n. f n ≡ g n) (sym (same_letters l m e)) same
  letter_told l (nullary op) e same = absurd cc
  letter_told l (unary op p) e same = letter_told l p e cc
  letter_told l (binary op p q) e same =
      elim (or_cases (has_letter l p) (has_letter l q) e) [
        | inl h ↦ letter_told l p h cc
        | inr h ↦ letter_told l q h cc
      ]
  letter_told l (ternary op p q r) e same =
      elim (or_cases (has_letter l p) (has_letter l q || has_letter l r) e) [
        | inl h ↦ letter_told l p h cc
        | inr h ↦ elim (or_cases (has_letter l q) (has_letter l r) h) [
          | inl k ↦ letter_told l q k cc
          | inr k ↦ letter_told l r k cc
        ]
      ]

  pub right_told : (p q : Pattern) → has_letters_of p q ≡ true → fill f p ≡ fill g p → fill f q ≡ fill g q
  right_told p (letter l) e same = letter_told l p e same
  right_told p (nullary op) e same = refl
  right_told p (unary op q) e same = let inner = right_told p q e same in cc
  right_told p (binary op q r) e same =
      let first = right_told p q (and-left (has_letters_of p q) (has_letters_of p r) e) same in
      let second = right_told p r (and-right (has_letters_of p q) (has_letters_of p r) e) same in
      cc
  right_told p (ternary op q r s) e same =
      let first = right_told p q (and-left (has_letters_of p q) (has_letters_of p r && has_letters_of p s) e) same in
      let more = and-right (has_letters_of p q) (has_letters_of p r && has_letters_of p s) e in
      let second = right_told p r (and-left (has_letters_of p r) (has_letters_of p s) more) same in
      let third = right_told p s (and-right (has_letters_of p r) (has_letters_of p s) more) same in
      cc

-- a pattern that is an application to some arguments
pub filled_is : (f : Letter → Term) (p : Pattern) (op : Op) → root_of p ≡ Some op → fill f p ≡ operation op (terms_of (map (fill f) (patterns_in p)))
filled_is f (letter l) op e = absurd cc
filled_is f (nullary o) op e = absurd cc
filled_is f (unary o p) op e = let same : o ≡ op = cc in ap (λ x. operation x (term (fill f p) no_terms)) same
filled_is f (binary o p q) op e = let same : o ≡ op = cc in ap (λ x. operation x (term (fill f p) (term (fill f q) no_terms))) same
filled_is f (ternary o p q r) op e =
    let same : o ≡ op = cc in ap (λ x. operation x (term (fill f p) (term (fill f q) (term (fill f r) no_terms)))) same

-- parts of well-sorted terms are well sorted
pub arguments_sorted : (op : Op) (ts : List Term) (s : Sort) → IsOf (operation op (terms_of ts)) s → AllByRecursion IsWellSorted ts
arguments_sorted op ts s h = go ts h.sorts h.arguments
  where
    go : (ts : List Term) (ss : List Sort) → AreOf (terms_of ts) ss → AllByRecursion IsWellSorted ts
    go [] ss k = tt
    go (t ∷ ts) [] k = absurd k
    go (t ∷ ts) (s ∷ ss) k = (record { sort = s; of = k.0 }, go ts ss k.1)

module _ (f : Letter → Term) where
  pub letter_sorted : (l : Letter) (p : Pattern) → IsWellSorted (fill f p) → has_letter l p ≡ true → IsWellSorted (f l)
  letter_sorted l (letter m) w e = subst (λ n. IsWellSorted (f n)) (sym (same_letters l m e)) w
  letter_sorted l (nullary op) w e = absurd cc
  letter_sorted l (unary op p) w e = letter_sorted l p (arguments_sorted op (fill f p ∷ []) w.sort w.of).0 e
  letter_sorted l (binary op p q) w e =
      let args = arguments_sorted op (fill f p ∷ fill f q ∷ []) w.sort w.of in
      elim (or_cases (has_letter l p) (has_letter l q) e) [
        | inl h ↦ letter_sorted l p args.0 h
        | inr h ↦ letter_sorted l q args.1.0 h
      ]
  letter_sorted l (ternary op p q r) w e =
      let args = arguments_sorted op (fill f p ∷ fill f q ∷ fill f r ∷ []) w.sort w.of in
      elim (or_cases (has_letter l p) (has_letter l q || has_letter l r) e) [
        | inl h ↦ letter_sorted l p args.0 h
        | inr h ↦ elim (or_cases (has_letter l q) (has_letter l r) h) [
          | inl k ↦ letter_sorted l q args.1.0 k
          | inr k ↦ letter_sorted l r args.1.1.0 k
        ]
      ]

-- an application by an operator and arguments, and the left side of a row by its own
module _ (row : RewriteRow) (op at_op : Op) (ts : List Term) (t : Term) (root : root_of row.left ≡ Some op) (is : t ≡ operation at_op (terms_of ts)) where
  pub op_is : (f : Letter → Term) → t ≡ fill f row.left → op ≡ at_op
  op_is f e = same_op op at_op (map (fill f) (patterns_in row.left)) ts (sym (filled_is f row.left op root) ∙ (sym e ∙ is))

  pub arguments_are : (f : Letter → Term) → t ≡ fill f row.left → ts ≡ map (fill f) (patterns_in row.left)
  arguments_are f e =
      same_arguments at_op ts (map (fill f) (patterns_in row.left))
      (sym is ∙ (e ∙ (filled_is f row.left op root ∙ ap (λ o. operation o (terms_of (map (fill f) (patterns_in row.left)))) (op_is f e))))

  pub from_arguments : op ≡ at_op → (f : Letter → Term) → ts ≡ map (fill f) (patterns_in row.left) → t ≡ fill f row.left
  from_arguments same f e =
      is ∙ (ap (λ (us : List Term). operation at_op (terms_of us)) e
      ∙ (ap (λ o. operation o (terms_of (map (fill f) (patterns_in row.left)))) (sym same) ∙ sym (filled_is f row.left op root)))

  pub other_op : (op ≡ at_op → ⊥) → ¬ FitsRow row t
  other_op other (u, r) = other (op_is r.terms r.from)

  pub no_arguments : ¬ Fits (patterns_in row.left) ts → ¬ FitsRow row t
  no_arguments none (u, r) = none (r.terms, arguments_are r.terms r.from)

  pub fit_is : (s : Table) (v : TermsView) (letters : Letters) → op ≡ at_op → IsWellSorted t → ((f : Letter → Term) → t ≡ fill f row.left → PassesGuard f row.guard) → Matches s v letters (patterns_in row.left) ts → FitsBy s v letters row t
  fit_is s v letters same sorted passes m = record {
    terms = m.terms;
    agrees = m.agrees;
    gives = λ f. (λ e. (m.give f).0 (arguments_are f e), λ agrees. from_arguments same f ((m.give f).1 agrees));
    passes = passes m.terms (from_arguments same m.terms ((m.give m.terms).1 m.agrees));
    sorted = sorted;
  }

  -- both sides are matched at once
  pub made_is : (b : Bool) (u : Term) → IsTrue (has_letters_of row.left row.right) → IsTrue b ↔ Fits (row.right ∷ patterns_in row.left) (u ∷ ts) → (f : Letter → Term) → t ≡ fill f row.left → IsTrue b ↔ (u ≡ fill f row.right)
  made_is b u letters test f e = (
    λ h.
        (let both = test.0 h in
        let g = both.0 in
        let first : u ≡ fill g row.right = let pair = both.1 in cc in
        let rest : ts ≡ map (fill g) (patterns_in row.left) = let pair = both.1 in cc in
        first ∙ right_told g f row.left row.right letters (sym (from_arguments (op_is f e) g rest) ∙ e)),
    λ h. test.1 (f, let rest = arguments_are f e in cc),
  )

pub does_fit : (s : Table) (v : TermsView) (letters : Letters) (row : RewriteRow) (t : Term) → FitsBy s v letters row t → FitsRow row t
does_fit s v letters row t fits =
    (fill fits.terms row.right, record { terms = fits.terms; from = (fits.gives fits.terms).1 fits.agrees; to = refl; passes = fits.passes })

pub rewrite_is : (s : Table) (v : TermsView) (letters : Letters) (row : RewriteRow) (t u : Term) → IsTrue (has_letters_of row.left row.right) → (fits : FitsBy s v letters row t) → Rewrites row t u ↔ (u ≡ fill fits.terms row.right)
rewrite_is s v letters row t u told fits = (
  λ r. r.to ∙ right_told r.terms fits.terms row.left row.right told (sym r.from ∙ (fits.gives fits.terms).1 fits.agrees),
  λ e. record { terms = fits.terms; from = (fits.gives fits.terms).1 fits.agrees; to = e; passes = fits.passes },
)

at_letter : (f : Letter → Term) (l : Letter) (t : Term) → with_term f l t l ≡ t
at_letter f Letter.A t = refl
at_letter f Letter.B t = refl
at_letter f Letter.C t = refl
at_letter f Letter.D t = refl

unsettled : (s : Table) (v : TermsView) (letters : Letters) (f : Letter → Term) (l : Letter) (t : Term) → slot letters l ≡ None → (m : Letter) → IsSettledAt s v (slot letters m) (f m) → IsSettledAt s v (slot letters m) (with_term f l t m)
unsettled s v letters f Letter.A t none Letter.A h = rw none tt
unsettled s v letters f Letter.A t none Letter.B h = h
unsettled s v letters f Letter.A t none Letter.C h = h
unsettled s v letters f Letter.A t none Letter.D h = h
unsettled s v letters f Letter.B t none Letter.A h = h
unsettled s v letters f Letter.B t none Letter.B h = rw none tt
unsettled s v letters f Letter.B t none Letter.C h = h
unsettled s v letters f Letter.B t none Letter.D h = h
unsettled s v letters f Letter.C t none Letter.A h = h
unsettled s v letters f Letter.C t none Letter.B h = h
unsettled s v letters f Letter.C t none Letter.C h = rw none tt
unsettled s v letters f Letter.C t none Letter.D h = h
unsettled s v letters f Letter.D t none Letter.A h = h
unsettled s v letters f Letter.D t none Letter.B h = h
unsettled s v letters f Letter.D t none Letter.C h = h
unsettled s v letters f Letter.D t none Letter.D h = rw none tt

zero_is_one : numeral 0 ≡ numeral 1 → ⊥
zero_is_one e = absurd cc

pub letter_given : (s : Table) (v : TermsView) (letters : Letters) (left : Pattern) (t : Term) (terms : Letter → Term) → Agrees s v letters terms → ((f : Letter → Term) → Agrees s v letters f → t ≡ fill f left) → (l : Letter) → has_letter l left ≡ true → slot letters l ≡ None → ⊥
letter_given s v letters left t terms agrees gives l has none =
    let at = λ (n : Term). gives (with_term terms l n) (λ m. unsettled s v letters terms l n none m (agrees m)) in
    let same = letter_told (with_term terms l (numeral 0)) (with_term terms l (numeral 1)) l left has (sym (at (numeral 0)) ∙ at (numeral 1)) in
    zero_is_one (sym (at_letter terms l (numeral 0)) ∙ (same ∙ at_letter terms l (numeral 1)))

pub letter_settled : (s : Table) (v : TermsView) (letters : Letters) (row : RewriteRow) (t : Term) → FitsBy s v letters row t → (l : Letter) → has_letter l row.left ≡ true → slot letters l ≡ None → ⊥
letter_settled s v letters row t fits = letter_given s v letters row.left t fits.terms fits.agrees (λ f. (fits.gives f).1)

pub letter_refers : (s : Table) (v : TermsView) (letters : Letters) (f : Letter → Term) → Agrees s v letters f → (l : Letter) (r : ℕ) → slot letters l ≡ Some r → RefersTo s v r (f l)
letter_refers s v letters f agrees l r e = rw e at (agrees l)

-- the right side is an operator over letters of the left one
pub letters_refer : (s : Table) (v : TermsView) (letters : Letters) (f : Letter → Term) → Agrees s v letters f → (ls : List Letter) (rs : List ℕ) → map (slot letters) ls ≡ map Some rs → ReferToAll s v rs (map f ls)
letters_refer s v letters f agrees [] [] e = tt
letters_refer s v letters f agrees [] (r ∷ rs) e = absurd cc
letters_refer s v letters f agrees (l ∷ ls) [] e = absurd cc
letters_refer s v letters f agrees (l ∷ ls) (r ∷ rs) e =
    let here : slot letters l ≡ Some r = cc in
    let rest : map (slot letters) ls ≡ map Some rs = cc in
    (letter_refers s v letters f agrees l r here, letters_refer s v letters f agrees ls rs rest)

letters_filled : (f : Letter → Term) (ls : List Letter) → map (fill f) (map letter ls) ≡ map f ls
letters_filled f [] = refl
letters_filled f (l ∷ ls) = ap (λ us. f l ∷ us) (letters_filled f ls)

pub over_is : (f : Letter → Term) (p : Pattern) (op : Op) (ls : List Letter) → root_of p ≡ Some op → patterns_in p ≡ map letter ls → fill f p ≡ operation op (terms_of (map f ls))
over_is f p op ls root are =
    filled_is f p op root ∙ ap (λ (us : List Term). operation op (terms_of us)) (ap (map (fill f)) are ∙ letters_filled f ls)

-- each of the letters is one of the left side
abbrev AreTold : Pattern → List Pattern → Type 0
AreTold w [] = ⊤
AreTold w (p ∷ ps) = IsTrue (has_letters_of w p) × AreTold w ps

all_told : (w q : Pattern) → has_letters_of w q ≡ true → AreTold w (patterns_in q)
all_told w (letter l) e = tt
all_told w (nullary op) e = tt
all_told w (unary op p) e = (e, tt)
all_told w (binary op p q) e = (and-left (has_letters_of w p) (has_letters_of w q) e, (and-right (has_letters_of w p) (has_letters_of w q) e, tt))
all_told w (ternary op p q r) e =
    let more = and-right (has_letters_of w p) (has_letters_of w q && has_letters_of w r) e in (
      and-left (has_letters_of w p) (has_letters_of w q && has_letters_of w r) e,
      (and-left (has_letters_of w q) (has_letters_of w r) more, (and-right (has_letters_of w q) (has_letters_of w r) more, tt)),
    )

told_at : (w : Pattern) (ls : List Letter) → AreTold w (map letter ls) → (l : Letter) → Contains ls l → has_letter l w ≡ true
told_at w [] h l there = absurd (contains_none l there)
told_at w (m ∷ ls) h l there =
    elim (contains_cases m l ls there) [
      | inl e ↦ subst (λ n. has_letter n w ≡ true) e h.0
      | inr later ↦ told_at w ls h.1 l later
    ]

pub letter_there : (w q : Pattern) (ls : List Letter) → has_letters_of w q ≡ true → patterns_in q ≡ map letter ls → (l : Letter) → Contains ls l → has_letter l w ≡ true
letter_there w q ls e are l there = told_at w ls (subst (AreTold w) are (all_told w q e)) l there

-- operators tell that two patterns are of no one term
op_itself : (op : Op) → op_eq op op ≡ true
op_itself Op.True = refl
op_itself Op.False = refl
op_itself Op.Not = refl
op_itself Op.Implies = refl
op_itself Op.And = refl
op_itself Op.Or = refl
op_itself Op.Xor = refl
op_itself Op.Equal = refl
op_itself Op.Distinct = refl
op_itself Op.Ite = refl
op_itself Op.Minus = refl
op_itself Op.Plus = refl
op_itself Op.Times = refl
op_itself Op.Div = refl
op_itself Op.Mod = refl
op_itself Op.LessEq = refl
op_itself Op.Less = refl
op_itself Op.GreaterEq = refl
op_itself Op.Greater = refl

both_true : (x y : Bool) → x ≡ true → y ≡ true → (x && y) ≡ true
both_true x y e f = rw (e, f) refl

one_op : (op o : Op) → op ≡ o → op_eq op o ≡ true
one_op op o e = subst (λ x. op_eq op x ≡ true) e (op_itself op)

module _ (f g : Letter → Term) where
  pub one_term : (p q : Pattern) → fill f p ≡ fill g q → may_be p q ≡ true
  one_term (letter l) q e = refl
  one_term (nullary op) (letter m) e = refl
  one_term (nullary op) (nullary o) e = one_op op o cc
  one_term (nullary op) (unary o q) e = absurd cc
  one_term (nullary op) (binary o q r) e = absurd cc
  one_term (nullary op) (ternary o q r s) e = absurd cc
  one_term (unary op p) (letter m) e = refl
  one_term (unary op p) (nullary o) e = absurd cc
  one_term (unary op p) (unary o q) e = both_true (op_eq op o) (may_be p q) (one_op op o cc) (one_term p q cc)
  one_term (unary op p) (binary o q r) e = absurd cc
  one_term (unary op p) (ternary o q r s) e = absurd cc
  one_term (binary op p p2) (letter m) e = refl
  one_term (binary op p p2) (nullary o) e = absurd cc
  one_term (binary op p p2) (unary o q) e = absurd cc
  one_term (binary op p p2) (binary o q q2) e =
      both_true (op_eq op o) (may_be p q && may_be p2 q2) (one_op op o cc) (both_true (may_be p q) (may_be p2 q2) (one_term p q cc) (one_term p2 q2 cc))
  one_term (binary op p p2) (ternary o q r s) e = absurd cc
  one_term (ternary op p p2 p3) (letter m) e = refl
  one_term (ternary op p p2 p3) (nullary o) e = absurd cc
  one_term (ternary op p p2 p3) (unary o q) e = absurd cc
  one_term (ternary op p p2 p3) (binary o q r) e = absurd cc
  one_term (ternary op p p2 p3) (ternary o q q2 q3) e =
      both_true (op_eq op o) (may_be p q && (may_be p2 q2 && may_be p3 q3)) (one_op op o cc)
      (both_true (may_be p q) (may_be p2 q2 && may_be p3 q3) (one_term p q cc)
      (both_true (may_be p2 q2) (may_be p3 q3) (one_term p2 q2 cc) (one_term p3 q3 cc)))

pub last_fits_none : (rows : List RewriteRow) (p : Pattern) (f : Letter → Term) → is_last rows p ≡ true → (u : Term) → ¬ IsFirstFit rows (fill f p) u
last_fits_none [] p f e u h = h
last_fits_none (row ∷ rows) p f e u (inl r) = not_both (may_be row.left p) (and-left _ (is_last rows p) e) (one_term r.terms f row.left p (sym r.from))
last_fits_none (row ∷ rows) p f e u (inr (none, h)) = last_fits_none rows p f (and-right (not (may_be row.left p)) _ e) u h

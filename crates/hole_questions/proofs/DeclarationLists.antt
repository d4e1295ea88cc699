-- Private. Parts of declarations that are written one after another.
use Rattle.std.proofs.Common.{◌≡◌, refl, sym, ap, subst, ◌∙◌, arith, ℕ, zero, suc, ◌+◌, ◌<◌, ◌≤◌, List, [], ◌∷◌, ◌++◌, length, take, slice_get, slice_index_or}
use Rattle.std.proofs.Common.{Some, Bool, true, false, codes, if◌then◌else◌, IsTrue}
use Rattle.std.specs.Prelude.{IsSomeAnd}
use Rattle.std.proofs.lemmas.Grind.{fold-append}
use Rattle.std.proofs.lemmas.List.{append_assoc, append-nil}
use Rattle.std.specs.List.{AllZip}
use Rattle.term_model.specs.declared.symbols.Sort.{Sort}
use Rattle.sym_table.specs.Leaf.{is_function}
use Rattle.sym_table.specs.Table.{Table, IsFunctionLeaf}
use Rattle.term_model.specs.Terms.{Var, Fun}
use Rattle.hole_fillers.specs.Questions.{name_with}
use Rattle.hole_questions.specs.States.{IsFunctionOf}
use Rattle.hole_questions.specs.Declarations.{Part, bytes, sort, Declared, after_part, after_parts, each_part, argument_parts, line_parts, constant_parts}

pub both : (d : Declared) (ps qs : List Part) → after_parts d (ps ++ qs) ≡ after_parts (after_parts d ps) qs
both d ps qs = fold-append after_part d ps qs

-- two that were written, one after the other
pub two : (a b c : Declared) (ps qs : List Part) → b ≡ after_parts a ps → c ≡ after_parts b qs → c ≡ after_parts a (ps ++ qs)
two a b c ps qs e f = f ∙ (ap (λ d. after_parts d qs) e ∙ sym (both a ps qs))

all_taken : {X : Type 0} (i : ℕ) (xs : List X) → length xs ≤ i → take i xs ≡ xs
all_taken zero [] l = refl
all_taken (suc i) [] l = refl
all_taken zero (x ∷ xs) l = absurd (omega (arith, l))
all_taken (suc i) (x ∷ xs) l = ap (λ ys. x ∷ ys) (all_taken i xs (omega (arith, l)))

module _ {X : Type 0} (parts : ℕ → X → List Part) where
  more_from : (j i m : ℕ) (xs : List X) (x : X) → m ≡ j + i → slice_get xs i ≡ Some x →
      each_part parts j (take (suc i) xs) ≡ each_part parts j (take i xs) ++ parts m x
  more_from j zero m [] x e h = absurd cc
  more_from j (suc i) m [] x e h = absurd cc
  more_from j zero m (y ∷ xs) x e h =
      let same : y ≡ x = cc in
      let place : j ≡ m = omega (arith, e) in
      append-nil (parts j y) ∙ (ap (λ k. parts k y) place ∙ ap (parts m) same)
  more_from j (suc i) m (y ∷ xs) x e h =
      ap (λ ps. parts j y ++ ps) (more_from (suc j) i m xs x (omega (arith, e)) h)
      ∙ sym (append_assoc (parts j y) (each_part parts (suc j) (take i xs)) (parts m x))

  -- one more of them
  pub one_more : (a b c : Declared) (i : ℕ) (xs : List X) (x : X) → slice_get xs i ≡ Some x → b ≡ after_parts a (each_part parts 0 (take i xs)) →
      c ≡ after_parts b (parts i x) → c ≡ after_parts a (each_part parts 0 (take (i + 1) xs))
  one_more a b c i xs x h e f =
      let next : suc i ≡ i + 1 = omega arith in
      subst (λ k. c ≡ after_parts a (each_part parts 0 (take k xs))) next
      (two a b c (each_part parts 0 (take i xs)) (parts i x) e f
      ∙ ap (after_parts a) (sym (more_from 0 i i xs x (omega arith) h)))

  -- all of them
  pub all_written : (a b : Declared) (i : ℕ) (xs : List X) → length xs ≤ i → b ≡ after_parts a (each_part parts 0 (take i xs)) →
      b ≡ after_parts a (each_part parts 0 xs)
  all_written a b i xs l e = e ∙ ap (λ ys. after_parts a (each_part parts 0 ys)) (all_taken i xs l)

-- what stands at a place of lists in step
pub record IsAt {X Y : Type 0} (R : X → Y → Type 0) (x : X) (i : ℕ) (ys : List Y) : Type 0 where
  pub of : Y
  pub there : slice_get ys i ≡ Some of
  pub fits : R x of

pub at_place : {X Y : Type 0} (R : X → Y → Type 0) (i : ℕ) (d : X) (xs : List X) (ys : List Y) → AllZip R xs ys → i < length xs →
    IsAt R (slice_index_or xs i d) i ys
at_place R i d [] ys h l = absurd (omega (arith, l))
at_place R i d (x ∷ xs) [] h l = absurd h
at_place R zero d (x ∷ xs) (y ∷ ys) h l = record { of = y; there = refl; fits = h.0 }
at_place R (suc i) d (x ∷ xs) (y ∷ ys) h l =
    let r = at_place R i d xs ys h.1 (omega (arith, l)) in
    record { of = r.of; there = r.there; fits = r.fits }

pub as_long : {X Y : Type 0} (R : X → Y → Type 0) (xs : List X) (ys : List Y) → AllZip R xs ys → length ys ≡ length xs
as_long R [] [] h = refl
as_long R [] (y ∷ ys) h = absurd h
as_long R (x ∷ xs) [] h = absurd h
as_long R (x ∷ xs) (y ∷ ys) h = ap suc (as_long R xs ys h.1)

-- A declaration was written: what stands before its arguments, these, and what stands behind them.
pub line_written :
    (a b c d : Declared) (name : List ℕ) (ss : List Sort) (t u : Sort) → b ≡ after_parts a (bytes (codes "(declare-fun ") ∷ bytes name ∷ bytes (codes " (") ∷ []) →
    c ≡ after_parts b (each_part argument_parts 0 ss) → u ≡ t → d ≡ after_parts c (bytes (codes ") ") ∷ sort u ∷ bytes (41 ∷ 10 ∷ []) ∷ []) →
    d ≡ after_parts a (line_parts name ss t)
line_written a b c d name ss t u begun arguments same ended =
    let target = ended ∙ ap (λ s. after_parts c (bytes (codes ") ") ∷ sort s ∷ bytes (41 ∷ 10 ∷ []) ∷ [])) same in
    two a b d (bytes (codes "(declare-fun ") ∷ bytes name ∷ bytes (codes " (") ∷ [])
    (each_part argument_parts 0 ss ++ (bytes (codes ") ") ∷ sort t ∷ bytes (41 ∷ 10 ∷ []) ∷ [])) begun
    (two b c d (each_part argument_parts 0 ss) (bytes (codes ") ") ∷ sort t ∷ bytes (41 ∷ 10 ∷ []) ∷ []) arguments target)

-- Where a variable is free it is declared, and otherwise nothing is.
pub if_free : (is_free : Var → Bool) (k : ℕ) (x : Var) (a b : Declared) → is_free x ≡ true →
    b ≡ after_parts a (line_parts (name_with (codes "v") k) [] x.sort) → b ≡ after_parts a (constant_parts is_free k x)
if_free is_free k x a b free h =
    h ∙ ap (λ c. after_parts a (if c then line_parts (name_with (codes "v") k) [] x.sort else [])) (sym free)

pub if_bound : (is_free : Var → Bool) (k : ℕ) (x : Var) (a : Declared) → is_free x ≡ false → a ≡ after_parts a (constant_parts is_free k x)
if_bound is_free k x a bound = ap (λ c. after_parts a (if c then line_parts (name_with (codes "v") k) [] x.sort else [])) (sym bound)

-- parts of a text, one behind the other
pub four_parts : (s t u v a b c d : List ℕ) → a ≡ s → b ≡ a ++ t → c ≡ b ++ u → d ≡ c ++ v → d ≡ s ++ (t ++ (u ++ v))
four_parts s t u v a b c d e f g h =
    h ∙ (ap (λ x. x ++ v) (g ∙ ap (λ x. x ++ u) (f ∙ ap (λ x. x ++ t) e)) ∙ (append_assoc (s ++ t) u v ∙ append_assoc s t (u ++ v)))

-- the leaf of a function
pub function_there : (s : Table) (k : ℕ) (f : Fun) → IsFunctionOf s k f → IsFunctionLeaf s k
function_there s k f is = subst (λ o. IsSomeAnd o (λ l. IsTrue (is_function l))) (sym is) refl

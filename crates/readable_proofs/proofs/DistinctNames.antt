-- The names of functions, macros and named terms of a script differ, so each function's name means the function where no variable hides it.
use Rattle.std.proofs.Common.{◌≡◌, ◌⊎◌, inl, inr, ℕ, Bool, true, false, Some, None, List, [], ◌∷◌, ◌++◌, bytes_eq, find, refl, sym, ap, ◌∙◌, subst}
use Rattle.std.specs.Prelude.{Contains}
use Rattle.std.specs.List.{AllByRecursion}
use Rattle.std.specs.Option.{option_or}
use Rattle.std.proofs.Math.Bool.{or-true}
use Rattle.std.proofs.lemmas.Bool.{or_parts}
use Rattle.std.proofs.lemmas.List.Folds.{find-append, list_any-append}
use Rattle.term_model.specs.declared.symbols.Op.{Op}
use Rattle.term_model.specs.Terms.{Fun}
use Rattle.term_model.proofs.Lists.{all_at_end, contains_cases, contains_none}
use Rattle.sym_table.specs.Words.{operator_symbol}
use Rattle.problem_text.specs.Forms.{Form}
use Rattle.problem_text.specs.Names.{Place, function, operator, meaning_of}
use Rattle.problem_text.specs.Scripts.{Macro, Named, Script, is_taken, with_name, with_function, with_macro, with_named}
use Rattle.problem_text.specs.Terms.{term_from}
use Rattle.problem_text.specs.Words.{is_among, is_built_in, operator_named}
use Rattle.problem_text.proofs.Growing.{kept_term}
use Rattle.readable_proofs.specs.Names.{IsOwnName, Means}
use Rattle.readable_proofs.proofs.Names.{other_name, name_same, not_same, no_word, operator_built_in, all_more}

-- The name is no built-in word, and one that a function, a macro or a named term has.
abbrev pub IsTakenName : Script → List ℕ → Type 0
IsTakenName s name = (is_built_in name ≡ false) × (is_among s.taken name ≡ true)

-- the function is the one of its name, which no macro and no named term has
abbrev pub IsAlone : Script → Fun → Type 0
IsAlone s f =
    IsOwnName f.name × (is_among s.taken f.name ≡ true) × (find (λ g. bytes_eq g.name f.name) s.functions ≡ Some f)
    × (find (λ m. bytes_eq m.name f.name) s.macros ≡ None) × (find (λ n. bytes_eq n.name f.name) s.named ≡ None)

abbrev pub AreDistinct : Script → Type 0
AreDistinct s =
    AllByRecursion (IsAlone s) s.functions × AllByRecursion (λ m. IsTakenName s m.name) s.macros × AllByRecursion (λ n. IsTakenName s n.name) s.named

-- names that are taken
among_more : (names more : List (List ℕ)) (name : List ℕ) → is_among names name ≡ true → is_among (names ++ more) name ≡ true
among_more names more name e = list_any-append (bytes_eq name) names more ∙ rw e refl

among_last : (names : List (List ℕ)) (name : List ℕ) → is_among (names ++ name ∷ []) name ≡ true
among_last names name =
    let e = name_same name in list_any-append (bytes_eq name) names (name ∷ []) ∙ rw e (or-true (is_among names name))

pub differs_from_taken : (names : List (List ℕ)) (new name : List ℕ) → is_among names new ≡ false → is_among names name ≡ true → bytes_eq new name ≡ false
differs_from_taken names new name e f = other_name new name (λ same. let g = ap (is_among names) same in absurd (cc))

back : (a b : List ℕ) → bytes_eq a b ≡ false → bytes_eq b a ≡ false
back a b e = other_name b a (λ same. not_same a b e (sym same))

-- looking for one item more
find_more : {X : Type 0} (test : X → Bool) (xs ys : List X) (x : X) → find test xs ≡ Some x → find test (xs ++ ys) ≡ Some x
find_more test xs ys x e = find-append test xs ys ∙ ap (λ o. option_or o (find test ys)) e

find_none_more : {X : Type 0} (test : X → Bool) (xs : List X) (x : X) → find test xs ≡ None → test x ≡ false → find test (xs ++ x ∷ []) ≡ None
find_none_more test xs x e f = find-append test xs (x ∷ []) ∙ (ap (λ o. option_or o (find test (x ∷ []))) e ∙ rw f refl)

find_last : {X : Type 0} (test : X → Bool) (xs : List X) (x : X) → find test xs ≡ None → test x ≡ true → find test (xs ++ x ∷ []) ≡ Some x
find_last test xs x e f = find-append test xs (x ∷ []) ∙ (ap (λ o. option_or o (find test (x ∷ []))) e ∙ rw f refl)

find_none : {X : Type 0} (test : X → Bool) (xs : List X) → AllByRecursion (λ x. test x ≡ false) xs → find test xs ≡ None
find_none test [] h = refl
find_none test (x ∷ xs) h = let e = h.0 in let rest = find_none test xs h.1 in rw e rest

pub all_contained : {X : Type 0} (P : X → Type 0) (xs : List X) (x : X) → AllByRecursion P xs → Contains xs x → P x
all_contained P [] x h there = absurd (contains_none x there)
all_contained P (y ∷ xs) x h there = go (contains_cases y x xs there) h.0 (all_contained P xs x h.1)
  where
    go : (y ≡ x) ⊎ Contains xs x → P y → (Contains xs x → P x) → P x
    go (inl same) first rest = subst P same first
    go (inr later) first rest = rest later

-- what is not taken
pub not_taken : (s : Script) (name : List ℕ) → is_taken s name ≡ false → (is_built_in name ≡ false) × (is_among s.taken name ≡ false)
not_taken s name e = or_parts (is_built_in name) (is_among s.taken name) e

pub last_taken : (s : Script) (name : List ℕ) → is_among (with_name name s).taken name ≡ true
last_taken s name = among_last s.taken name

pub still_taken : (name : List ℕ) (f : Form) (p : Place) (s : Script) → is_among s.taken name ≡ true
    → is_among (term_from f p s).state.taken name ≡ true
still_taken name f p s h =
    (kept_term (λ u. is_among u.taken name ≡ true) (λ t u k. k) (λ other u k. k) (λ n u e k. among_more u.taken (n.name ∷ []) name k) f p s h).0

module _ (s : Script) (h : AreDistinct s) where
  -- the name is taken from here on
  pub name_distinct : (name : List ℕ) → AreDistinct (with_name name s)
  name_distinct name = (
    all_more (IsAlone s) (IsAlone (with_name name s)) s.functions (λ f k. (k.0, among_more s.taken (name ∷ []) f.name k.1, k.2, k.3, k.4)) h.0,
    all_more (λ m. IsTakenName s m.name) (λ m. IsTakenName (with_name name s) m.name) s.macros
        (λ m k. (k.0, among_more s.taken (name ∷ []) m.name k.1)) h.1,
    all_more (λ n. IsTakenName s n.name) (λ n. IsTakenName (with_name name s) n.name) s.named
        (λ n k. (k.0, among_more s.taken (name ∷ []) n.name k.1)) h.2,
  )

  pub naming_distinct : (n : Named) → is_taken s n.name ≡ false → AreDistinct (with_named n s)
  naming_distinct n new =
      let parts = not_taken s n.name new in (
        all_more (IsAlone s) (IsAlone (with_named n s)) s.functions
            (λ f k. (
              k.0,
              among_more s.taken (n.name ∷ []) f.name k.1,
              k.2,
              k.3,
              find_none_more (λ (m : Named). bytes_eq m.name f.name) s.named n k.4 (differs_from_taken s.taken n.name f.name parts.1 k.1),
            ))
            h.0,
        all_more (λ m. IsTakenName s m.name) (λ m. IsTakenName (with_named n s) m.name) s.macros
            (λ m k. (k.0, among_more s.taken (n.name ∷ []) m.name k.1)) h.1,
        all_at_end (λ m. IsTakenName (with_named n s) m.name) s.named n
            (all_more (λ m. IsTakenName s m.name) (λ m. IsTakenName (with_named n s) m.name) s.named
            (λ m k. (k.0, among_more s.taken (n.name ∷ []) m.name k.1)) h.2)
            (parts.0, among_last s.taken n.name),
      )

  -- a name that is not taken is that of none
  none_has : (name : List ℕ) → is_among s.taken name ≡ false → (find (λ f. bytes_eq f.name name) s.functions ≡ None)
      × (find (λ m. bytes_eq m.name name) s.macros ≡ None) × (find (λ n. bytes_eq n.name name) s.named ≡ None)
  none_has name new = (
    find_none (λ f. bytes_eq f.name name) s.functions
        (all_more (IsAlone s) (λ f. bytes_eq f.name name ≡ false) s.functions (λ f k. back name f.name (differs_from_taken s.taken name f.name new k.1)) h.0),
    find_none (λ m. bytes_eq m.name name) s.macros
        (all_more (λ m. IsTakenName s m.name) (λ m. bytes_eq m.name name ≡ false) s.macros
        (λ m k. back name m.name (differs_from_taken s.taken name m.name new k.1)) h.1),
    find_none (λ n. bytes_eq n.name name) s.named
        (all_more (λ n. IsTakenName s n.name) (λ n. bytes_eq n.name name ≡ false) s.named
        (λ n k. back name n.name (differs_from_taken s.taken name n.name new k.1)) h.2),
  )

  pub function_distinct : (f : Fun) → IsOwnName f.name → is_among s.taken f.name ≡ false → AreDistinct (with_function f (with_name f.name s))
  function_distinct f own new =
      let u : Script = with_function f (with_name f.name s) in
      let none = none_has f.name new in (
        all_at_end (IsAlone u) s.functions f
            (all_more (IsAlone s) (IsAlone u) s.functions
            (λ g k. (
              k.0,
              among_more s.taken (f.name ∷ []) g.name k.1,
              find_more (λ (e : Fun). bytes_eq e.name g.name) s.functions (f ∷ []) g k.2,
              k.3,
              k.4,
            ))
            h.0)
            (own, among_last s.taken f.name, find_last (λ (e : Fun). bytes_eq e.name f.name) s.functions f none.0 (name_same f.name), none.1, none.2),
        (name_distinct f.name).1,
        (name_distinct f.name).2,
      )

  -- a macro whose name was taken before its body was read
  pub macro_distinct : (m : Macro) → IsTakenName s m.name → AllByRecursion (λ (f : Fun). bytes_eq m.name f.name ≡ false) s.functions
      → AreDistinct (with_macro m s)
  macro_distinct m taken others = (
    both s.functions h.0 others,
    all_at_end (λ m. IsTakenName s m.name) s.macros m h.1 taken,
    h.2,
  )
    where
      both : (fs : List Fun) → AllByRecursion (IsAlone s) fs → AllByRecursion (λ (f : Fun). bytes_eq m.name f.name ≡ false) fs
          → AllByRecursion (IsAlone (with_macro m s)) fs
      both [] k l = tt
      both (f ∷ fs) k l =
          ((k.0.0, k.0.1, k.0.2, find_none_more (λ (e : Macro). bytes_eq e.name f.name) s.macros m k.0.3 l.0, k.0.4), both fs k.1 l.1)

  -- a name that is not taken is different from those of functions
  pub functions_differ : (name : List ℕ) → is_among s.taken name ≡ false → AllByRecursion (λ (f : Fun). bytes_eq name f.name ≡ false) s.functions
  functions_differ name new =
      all_more (IsAlone s) (λ f. bytes_eq name f.name ≡ false) s.functions (λ f k. differs_from_taken s.taken name f.name new k.1) h.0

  -- what names mean
  pub function_means : (f : Fun) → Contains s.functions f → Means s f.name (function f)
  unfolding meaning_of
  function_means f there p none =
      let k = all_contained (IsAlone s) s.functions f h.0 there in
      let found = k.2 in
      let no_macro = k.3 in
      let no_term = k.4 in
      rw (none, no_term, no_macro, found) refl

  pub function_taken : (f : Fun) → Contains s.functions f → is_among s.taken f.name ≡ true
  function_taken f there = (all_contained (IsAlone s) s.functions f h.0 there).1

  pub function_named : (f : Fun) → Contains s.functions f → IsOwnName f.name
  function_named f there = (all_contained (IsAlone s) s.functions f h.0 there).0

  pub operator_means : (op : Op) → Means s (operator_symbol op) (operator op)
  unfolding meaning_of
  operator_means op p none =
      let name : List ℕ = operator_symbol op in
      let built = operator_built_in op in
      let no_function =
      find_none (λ f. bytes_eq f.name name) s.functions
      (all_more (IsAlone s) (λ f. bytes_eq f.name name ≡ false) s.functions (λ f k. no_word f.name name built k.0.free_word) h.0) in
      let no_macro =
      find_none (λ m. bytes_eq m.name name) s.macros
      (all_more (λ m. IsTakenName s m.name) (λ m. bytes_eq m.name name ≡ false) s.macros (λ m k. no_word m.name name built k.0) h.1) in
      let no_term =
      find_none (λ n. bytes_eq n.name name) s.named
      (all_more (λ n. IsTakenName s n.name) (λ n. bytes_eq n.name name ≡ false) s.named (λ n k. no_word n.name name built k.0) h.2) in
      let is = operator_is op in
      rw (none, no_term, no_macro, no_function, is) refl
    where
      operator_is : (op : Op) → operator_named (operator_symbol op) ≡ Some op
      operator_is Op.True = refl
      operator_is Op.False = refl
      operator_is Op.Not = refl
      operator_is Op.Implies = refl
      operator_is Op.And = refl
      operator_is Op.Or = refl
      operator_is Op.Xor = refl
      operator_is Op.Equal = refl
      operator_is Op.Distinct = refl
      operator_is Op.Ite = refl
      operator_is Op.Minus = refl
      operator_is Op.Plus = refl
      operator_is Op.Times = refl
      operator_is Op.Div = refl
      operator_is Op.Mod = refl
      operator_is Op.LessEq = refl
      operator_is Op.Less = refl
      operator_is Op.GreaterEq = refl
      operator_is Op.Greater = refl

  -- a name that is not taken was given to nothing
  pub none_named : (name : List ℕ) → is_among s.taken name ≡ false → find (λ n. bytes_eq n.name name) s.named ≡ None
  none_named name new = (none_has name new).2

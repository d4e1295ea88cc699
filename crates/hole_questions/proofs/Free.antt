-- Private. What a walk finds to be free is what stands free in the terms.
use Rattle.std.proofs.Common.{◌≡◌, refl, sym, ap, ◌∙◌, subst, ℕ, ◌-◌, arith, Bool, true, false, not, ◌||◌, ◌&&◌, if◌then◌else◌, List, [], ◌∷◌, ◌++◌}
use Rattle.std.proofs.Common.{codes, flat_map, length, take, filter, slice_index_or}
use Rattle.std.proofs.lemmas.List.{append_assoc, append-nil, length-append}
use Rattle.std.proofs.lemmas.Grind.{fold-append}
use Rattle.std.specs.List.{list_any}
use Rattle.sexpr.specs.Printing.{printed_symbol}
use Rattle.sym_table.specs.Words.{operator_symbol}
use Rattle.term_model.specs.FreeVariables.{variables_of}
use Rattle.term_model.specs.Terms.{Var, var_eq, Fun, Term, numeral, operation, call, let_in, Terms, no_terms, term, Bindings, no_bindings, binding}
use Rattle.term_model.specs.Terms as model
use Rattle.term_model.proofs.Tests.{var_eq_decides}
use Rattle.rule_model.specs.Replacement.{free_variables, free_among, free_bound}
use Rattle.rule_model.specs.Replacement as replacement
use Rattle.rule_model.specs.TermTests.{fun_eq}
use Rattle.hole_questions.specs.States.{Piece, bytes, function, binder, variable, save, bind, restore, State, added, after, after_all}
use Rattle.hole_questions.specs.Pieces.{term_pieces, argument_pieces, pair_pieces, bind_pieces, assert_pieces, question_pieces}

abbrev has : List Var → Var → Bool
has xs y = list_any (var_eq y) xs

-- Booleans
or_none : (b : Bool) → (b || false) ≡ b
or_none true = refl
or_none false = refl

or_assoc : (a b c : Bool) → ((a || b) || c) ≡ (a || (b || c))
or_assoc true b c = refl
or_assoc false b c = refl

two_free : (f a b g : Bool) → ((f || (a && g)) || (b && g)) ≡ (f || ((a || b) && g))
two_free true a b g = refl
two_free false true b true = refl
two_free false true true false = refl
two_free false true false false = refl
two_free false false b g = refl

let_free : (f a b k g : Bool) → ((f || (a && not k)) || (b && not (k || g))) ≡ (f || ((a || (b && not g)) && not k))
let_free true a b k g = refl
let_free false true true true g = refl
let_free false true true false g = refl
let_free false true false true g = refl
let_free false true false false g = refl
let_free false false true true true = refl
let_free false false true true false = refl
let_free false false true false true = refl
let_free false false true false false = refl
let_free false false false true g = refl
let_free false false false false g = refl

has_joined : (y : Var) (xs ys : List Var) → has (xs ++ ys) y ≡ (has xs y || has ys y)
has_joined y [] ys = refl
has_joined y (x ∷ xs) ys = ap (λ b. var_eq y x || b) (has_joined y xs ys) ∙ sym (or_assoc (var_eq y x) (has xs y) (has ys y))

-- of variables that are one
same_has : (y x : Var) (xs : List Var) → var_eq y x ≡ true → has xs x ≡ has xs y
same_has y x xs e = ap (has xs) (sym ((var_eq_decides y x).0 e))

has_added : (y x : Var) (xs : List Var) → has (added var_eq xs x) y ≡ (has xs y || var_eq y x)
has_added y x xs = go (has xs x) refl
  where
    kept : (b : Bool) → var_eq y x ≡ b → has xs x ≡ true → has xs y ≡ (has xs y || b)
    kept true d e = let f : has xs y ≡ true = sym (same_has y x xs d) ∙ e in rw f refl
    kept false d e = sym (or_none (has xs y))

    go : (b : Bool) → has xs x ≡ b → has (if b then xs else xs ++ x ∷ []) y ≡ (has xs y || var_eq y x)
    go true e = kept (var_eq y x) refl e
    go false e = has_joined y xs (x ∷ []) ∙ ap (λ b. has xs y || b) (or_none (var_eq y x))

turned : (x y : Var) → var_eq x y ≡ var_eq y x
turned x y = go (var_eq x y) refl (var_eq y x) refl
  where
    go : (a : Bool) → var_eq x y ≡ a → (b : Bool) → var_eq y x ≡ b → a ≡ b
    go true e true f = refl
    go false e false f = refl
    go true e false f = absurd (let g = (var_eq_decides y x).1 (sym ((var_eq_decides x y).0 e)) in let h : true ≡ false = sym g ∙ f in cc)
    go false e true f = absurd (let g = (var_eq_decides x y).1 (sym ((var_eq_decides y x).0 f)) in let h : true ≡ false = sym g ∙ e in cc)

binds_has : (bs : Bindings) (y : Var) → has (variables_of bs) y ≡ replacement.binds bs y
binds_has no_bindings y = refl
binds_has (binding x t bs) y = ap (λ b. b || has (variables_of bs) y) (turned y x) ∙ ap (λ b. var_eq x y || b) (binds_has bs y)

has_unbound : (bs : Bindings) (y : Var) (xs : List Var) →
    has (filter (λ x. not (replacement.binds bs x)) xs) y ≡ (has xs y && not (replacement.binds bs y))
has_unbound bs y [] = refl
has_unbound bs y (x ∷ xs) = go (var_eq y x) refl (replacement.binds bs x) refl (has_unbound bs y xs)
  where
    keeps : List Var
    keeps = filter (λ x. not (replacement.binds bs x)) xs

    go : (a : Bool) → var_eq y x ≡ a → (b : Bool) → replacement.binds bs x ≡ b → has keeps y ≡ (has xs y && not (replacement.binds bs y)) →
        has (if not b then x ∷ keeps else keeps) y ≡ ((a || has xs y) && not (replacement.binds bs y))
    go true d true e h =
        let f : replacement.binds bs y ≡ true = ap (replacement.binds bs) ((var_eq_decides y x).0 d) ∙ e in
        h ∙ rw f (none (has xs y))
      where
        none : (c : Bool) → (c && false) ≡ false
        none true = refl
        none false = refl
    go true d false e h =
        let f : replacement.binds bs y ≡ false = ap (replacement.binds bs) ((var_eq_decides y x).0 d) ∙ e in
        rw (d, f) refl
    go false d true e h = h
    go false d false e h = rw d h

-- WHAT A WALK KEEPS

-- what is bound and saved stays, and these variables are free too where they are not bound
pub record Frees (old new : State Fun Var) (xs : List Var) : Type 0 where
  pub bound : new.bound ≡ old.bound
  pub saved : new.saved ≡ old.saved
  pub free : (y : Var) → has new.free y ≡ (has old.free y || (has xs y && not (has old.bound y)))

frees_none : (old new : State Fun Var) → new.bound ≡ old.bound → new.saved ≡ old.saved → new.free ≡ old.free → Frees old new []
frees_none old new b s f = record { bound = b; saved = s; free = λ y. ap (λ xs. has xs y) f ∙ sym (or_none (has old.free y)) }

frees_both : (old mid new : State Fun Var) (xs ys : List Var) → Frees old mid xs → Frees mid new ys → Frees old new (xs ++ ys)
frees_both old mid new xs ys h k = record {
  bound = k.bound ∙ h.bound;
  saved = k.saved ∙ h.saved;
  free = λ y.
      k.free y
      ∙ (ap (λ b. has mid.free y || (has ys y && not (has b y))) h.bound
      ∙ (ap (λ b. b || (has ys y && not (has old.bound y))) (h.free y)
      ∙ (two_free (has old.free y) (has xs y) (has ys y) (not (has old.bound y))
      ∙ ap (λ b. has old.free y || (b && not (has old.bound y))) (sym (has_joined y xs ys)))));
}

frees_as : (old new : State Fun Var) (xs ys : List Var) → xs ≡ ys → Frees old new xs → Frees old new ys
frees_as old new xs ys e h = subst (Frees old new) e h

frees_variable : (st : State Fun Var) (x : Var) → Frees st (after fun_eq var_eq st (variable x)) (x ∷ [])
frees_variable st x = record { bound = refl; saved = refl; free = λ y. go y (has st.bound x) refl }
  where
    inner : (y : Var) (b : Bool) → var_eq y x ≡ b → (f : Bool) → has st.bound x ≡ true → f ≡ (f || ((b || false) && not (has st.bound y)))
    inner y true d f e =
        let g : has st.bound y ≡ true = sym (same_has y x st.bound d) ∙ e in
        rw g (sym (or_none f))
    inner y false d f e = sym (or_none f)

    outer : (y : Var) (b : Bool) → var_eq y x ≡ b → (f : Bool) → has st.bound x ≡ false → (f || b) ≡ (f || ((b || false) && not (has st.bound y)))
    outer y true d f e =
        let g : has st.bound y ≡ false = sym (same_has y x st.bound d) ∙ e in
        rw g refl
    outer y false d f e = refl

    go : (y : Var) (b : Bool) → has st.bound x ≡ b →
        has (if b then st.free else added var_eq st.free x) y ≡ (has st.free y || (has (x ∷ []) y && not (has st.bound y)))
    go y true e = inner y (var_eq y x) refl (has st.free y) e
    go y false e = has_added y x st.free ∙ outer y (var_eq y x) refl (has st.free y) e

-- behind two lists of pieces
after_both : (st : State Fun Var) (ps qs : List (Piece Fun Var)) → after_all st (ps ++ qs) ≡ after_all (after_all st ps) qs
after_both st ps qs = fold-append (after fun_eq var_eq) st ps qs

frees_pieces : (st : State Fun Var) (ps qs : List (Piece Fun Var)) (xs ys : List Var) → Frees st (after_all st ps) xs →
    Frees (after_all st ps) (after_all (after_all st ps) qs) ys → Frees st (after_all st (ps ++ qs)) (xs ++ ys)
frees_pieces st ps qs xs ys h k =
    subst (λ end. Frees st end (xs ++ ys)) (sym (after_both st ps qs)) (frees_both st (after_all st ps) (after_all (after_all st ps) qs) xs ys h k)

-- BINDING

pub record Binds (old new : State Fun Var) (xs : List Var) : Type 0 where
  pub saved : new.saved ≡ old.saved
  pub free : new.free ≡ old.free
  pub bound : (y : Var) → has new.bound y ≡ (has old.bound y || has xs y)
  pub others : List Var
  pub put : new.bound ≡ old.bound ++ others

bind_one : (st : State Fun Var) (x : Var) → Binds st (after fun_eq var_eq st (bind x)) (x ∷ [])
bind_one st x = record {
  saved = refl;
  free = refl;
  bound = λ y. has_added y x st.bound ∙ ap (λ b. has st.bound y || b) (sym (or_none (var_eq y x)));
  others = if has st.bound x then [] else x ∷ [];
  put = go (has st.bound x);
}
  where
    go : (b : Bool) → (if b then st.bound else st.bound ++ x ∷ []) ≡ st.bound ++ (if b then [] else x ∷ [])
    go true = sym (append-nil st.bound)
    go false = refl

binds_all : (st : State Fun Var) (bs : Bindings) → Binds st (after_all st (bind_pieces bs)) (variables_of bs)
binds_all st no_bindings = record {
  saved = refl;
  free = refl;
  bound = λ y. sym (or_none (has st.bound y));
  others = [];
  put = sym (append-nil st.bound);
}
binds_all st (binding x t bs) =
    let h = bind_one st x in
    let k = binds_all (after fun_eq var_eq st (bind x)) bs in
    record {
      saved = k.saved;
      free = k.free;
      bound = λ y.
          k.bound y ∙ (ap (λ b. b || has (variables_of bs) y) (h.bound y)
          ∙ (ap (λ b. (has st.bound y || b) || has (variables_of bs) y) (or_none (var_eq y x))
          ∙ or_assoc (has st.bound y) (var_eq y x) (has (variables_of bs) y)));
      others = h.others ++ k.others;
      put = k.put ∙ (ap (λ xs. xs ++ k.others) h.put ∙ append_assoc st.bound h.others k.others);
    }

take_first : {X : Type 0} (xs ys : List X) → take (length xs) (xs ++ ys) ≡ xs
take_first [] ys = refl
take_first (x ∷ xs) ys = ap (λ zs. x ∷ zs) (take_first xs ys)

last_saved : (ns : List ℕ) (n : ℕ) → slice_index_or (ns ++ n ∷ []) (length (ns ++ n ∷ []) - 1) 0 ≡ n
last_saved ns n = let e : length (ns ++ n ∷ []) - 1 ≡ length ns = let l = length-append ns (n ∷ []) in omega (arith, l) in rw e (at ns)
  where
    at : (ns : List ℕ) → slice_index_or (ns ++ n ∷ []) (length ns) 0 ≡ n
    at [] = refl
    at (m ∷ ns) = at ns

first_saved : (ns : List ℕ) (n : ℕ) → take (length (ns ++ n ∷ []) - 1) (ns ++ n ∷ []) ≡ ns
first_saved ns n =
    let e : length (ns ++ n ∷ []) - 1 ≡ length ns = let l = length-append ns (n ∷ []) in omega (arith, l) in rw e (take_first ns (n ∷ []))

-- the state where a let's bindings are written, and the lets that are open are one more
abbrev opened : State Fun Var → State Fun Var
opened st = after fun_eq var_eq (after fun_eq var_eq st (bytes (codes ") "))) save

abbrev shut : State Fun Var → State Fun Var
shut st = after fun_eq var_eq (after fun_eq var_eq st (bytes (codes ")"))) restore

-- a let behind its bindings
let_frees : (st : State Fun Var) (bs : Bindings) (inner : State Fun Var) (fs xs : List Var) → (old : State Fun Var) → Frees old st fs →
    Frees (after_all (opened st) (bind_pieces bs)) inner xs →
    Frees old (shut inner) (fs ++ filter (λ x. not (replacement.binds bs x)) xs)
let_frees st bs inner fs xs old h k =
    let b = binds_all (opened st) bs in
    let saved : inner.saved ≡ st.saved ++ length st.bound ∷ [] = k.saved ∙ b.saved in
    let bound : inner.bound ≡ st.bound ++ b.others = k.bound ∙ b.put in
    record {
      bound =
          ap (λ ns. take (slice_index_or ns (length ns - 1) 0) inner.bound) saved
          ∙ (ap (λ n. take n inner.bound) (last_saved st.saved (length st.bound))
          ∙ (ap (take (length st.bound)) bound ∙ (take_first st.bound b.others ∙ h.bound)));
      saved = ap (λ ns. take (length ns - 1) ns) saved ∙ (first_saved st.saved (length st.bound) ∙ h.saved);
      free = λ y.
          k.free y
          ∙ (ap (λ c. c || (has xs y && not (has (after_all (opened st) (bind_pieces bs)).bound y))) (ap (λ ys. has ys y) b.free ∙ h.free y)
          ∙ (ap (λ c. (has old.free y || (has fs y && not (has old.bound y))) || (has xs y && not c))
          (b.bound y ∙ (ap (λ zs. has zs y || has (variables_of bs) y) h.bound ∙ ap (λ c. has old.bound y || c) (binds_has bs y)))
          ∙ (let_free (has old.free y) (has fs y) (has xs y) (has old.bound y) (replacement.binds bs y)
          ∙ (ap (λ c. has old.free y || ((has fs y || c) && not (has old.bound y))) (sym (has_unbound bs y xs))
          ∙ ap (λ c. has old.free y || (c && not (has old.bound y))) (sym (has_joined y fs (filter (λ x. not (replacement.binds bs x)) xs)))))));
    }

-- TERMS

frees_bytes : (st : State Fun Var) (b : List ℕ) → Frees st (after fun_eq var_eq st (bytes b)) []
frees_bytes st b = frees_none st (after fun_eq var_eq st (bytes b)) refl refl refl

abbrev FreesAll : List (Piece Fun Var) → List Var → Type 0
FreesAll ps xs = (st : State Fun Var) → Frees st (after_all st ps) xs

all_both : (ps qs : List (Piece Fun Var)) (xs ys : List Var) → FreesAll ps xs → FreesAll qs ys → FreesAll (ps ++ qs) (xs ++ ys)
all_both ps qs xs ys h k st = frees_pieces st ps qs xs ys (h st) (k (after_all st ps))

all_bytes : (b : List ℕ) (ps : List (Piece Fun Var)) (xs : List Var) → FreesAll ps xs → FreesAll (bytes b ∷ ps) xs
all_bytes b ps xs h st =
    frees_both st (after fun_eq var_eq st (bytes b)) (after_all (after fun_eq var_eq st (bytes b)) ps) [] xs (frees_bytes st b)
    (h (after fun_eq var_eq st (bytes b)))

all_function : (f : Fun) (ps : List (Piece Fun Var)) (xs : List Var) → FreesAll ps xs → FreesAll (function f ∷ ps) xs
all_function f ps xs h st =
    frees_both st (after fun_eq var_eq st (function f)) (after_all (after fun_eq var_eq st (function f)) ps) [] xs
    (frees_none st (after fun_eq var_eq st (function f)) refl refl refl) (h (after fun_eq var_eq st (function f)))

all_binder : (x : Var) (ps : List (Piece Fun Var)) (xs : List Var) → FreesAll ps xs → FreesAll (binder x ∷ ps) xs
all_binder x ps xs h st =
    frees_both st (after fun_eq var_eq st (binder x)) (after_all (after fun_eq var_eq st (binder x)) ps) [] xs
    (frees_none st (after fun_eq var_eq st (binder x)) refl refl refl) (h (after fun_eq var_eq st (binder x)))

no_pieces : FreesAll [] []
no_pieces st = frees_none st st refl refl refl

last_bytes : (b : List ℕ) → FreesAll (bytes b ∷ []) []
last_bytes b = all_bytes b [] [] no_pieces

mutual
  unfolding free_variables free_among free_bound

  pub term_frees : (t : Term) → FreesAll (term_pieces t) (free_variables t)
  term_frees (numeral n) = last_bytes _
  term_frees (model.variable x) = λ st. frees_variable st x
  term_frees (operation op no_terms) = last_bytes _
  term_frees (operation op (term t ts)) =
      all_bytes (codes "(") (bytes (printed_symbol (operator_symbol op)) ∷ (argument_pieces (term t ts) ++ bytes (codes ")") ∷ [])) (free_among (term t ts))
      (all_bytes (printed_symbol (operator_symbol op)) (argument_pieces (term t ts) ++ bytes (codes ")") ∷ []) (free_among (term t ts)) (λ st.
      frees_as st (after_all st (argument_pieces (term t ts) ++ bytes (codes ")") ∷ [])) (free_among (term t ts) ++ []) (free_among (term t ts))
      (append-nil (free_among (term t ts)))
      (all_both (argument_pieces (term t ts)) (bytes (codes ")") ∷ []) (free_among (term t ts)) [] (argument_frees (term t ts)) (last_bytes (codes ")")) st)))
  term_frees (call f no_terms) = all_function f [] [] no_pieces
  term_frees (call f (term t ts)) =
      all_bytes (codes "(") (function f ∷ (argument_pieces (term t ts) ++ bytes (codes ")") ∷ [])) (free_among (term t ts)) (all_function f
      (argument_pieces (term t ts) ++ bytes (codes ")") ∷ []) (free_among (term t ts)) (λ st.
      frees_as st (after_all st (argument_pieces (term t ts) ++ bytes (codes ")") ∷ [])) (free_among (term t ts) ++ []) (free_among (term t ts))
      (append-nil (free_among (term t ts)))
      (all_both (argument_pieces (term t ts)) (bytes (codes ")") ∷ []) (free_among (term t ts)) [] (argument_frees (term t ts)) (last_bytes (codes ")")) st)))
  term_frees (let_in bs t) = λ st.
      let start : State Fun Var = after fun_eq var_eq st (bytes (codes "(let (")) in
      let mid : State Fun Var = after_all start (pair_pieces [] bs) in
      let inner : State Fun Var = after_all (after_all (opened mid) (bind_pieces bs)) (term_pieces t) in
      let split : after_all st (term_pieces (let_in bs t)) ≡ shut inner =
      after_both start (pair_pieces [] bs)
      (bytes (codes ") ") ∷ save ∷ (bind_pieces bs ++ (term_pieces t ++ bytes (codes ")") ∷ restore ∷ [])))
      ∙ (after_both (opened mid) (bind_pieces bs) (term_pieces t ++ bytes (codes ")") ∷ restore ∷ [])
      ∙ after_both (after_all (opened mid) (bind_pieces bs)) (term_pieces t) (bytes (codes ")") ∷ restore ∷ [])) in
      subst (λ end. Frees st end (free_variables (let_in bs t))) (sym split)
      (let_frees mid bs inner (free_bound bs) (free_variables t) st
      (frees_both st start mid [] (free_bound bs) (frees_bytes st (codes "(let (")) (pair_frees [] bs start))
      (term_frees t (after_all (opened mid) (bind_pieces bs))))

  argument_frees : (ts : Terms) → FreesAll (argument_pieces ts) (free_among ts)
  argument_frees no_terms = no_pieces
  argument_frees (term t ts) =
      all_bytes (codes " ") (term_pieces t ++ argument_pieces ts) (free_among (term t ts)) (all_both (term_pieces t) (argument_pieces ts)
      (free_variables t) (free_among ts) (term_frees t) (argument_frees ts))

  pair_frees : (before : List ℕ) (bs : Bindings) → FreesAll (pair_pieces before bs) (free_bound bs)
  pair_frees before no_bindings = no_pieces
  pair_frees before (binding x t bs) =
      all_bytes before (bytes (codes "(") ∷ binder x ∷ bytes (codes " ") ∷ (term_pieces t ++ bytes (codes ")") ∷ pair_pieces (codes " ") bs))
      (free_bound (binding x t bs))
      (all_bytes (codes "(") (binder x ∷ bytes (codes " ") ∷ (term_pieces t ++ bytes (codes ")") ∷ pair_pieces (codes " ") bs)) (free_bound (binding x t bs))
      (all_binder x (bytes (codes " ") ∷ (term_pieces t ++ bytes (codes ")") ∷ pair_pieces (codes " ") bs)) (free_bound (binding x t bs)) (all_bytes
      (codes " ") (term_pieces t ++ bytes (codes ")") ∷ pair_pieces (codes " ") bs) (free_bound (binding x t bs))
      (all_both (term_pieces t) (bytes (codes ")") ∷ pair_pieces (codes " ") bs) (free_variables t) (free_bound bs) (term_frees t)
      (all_bytes (codes ")") (pair_pieces (codes " ") bs) (free_bound bs) (pair_frees (codes " ") bs))))))

pub question_frees : (asserted : List Term) → FreesAll (question_pieces asserted) (flat_map free_variables asserted)
question_frees [] = no_pieces
question_frees (t ∷ ts) =
    all_both (assert_pieces t) (question_pieces ts) (free_variables t) (flat_map free_variables ts)
    (all_bytes (codes "(assert ") (term_pieces t ++ bytes (41 ∷ 10 ∷ []) ∷ []) (free_variables t) (λ st.
    frees_as st (after_all st (term_pieces t ++ bytes (41 ∷ 10 ∷ []) ∷ [])) (free_variables t ++ []) (free_variables t) (append-nil (free_variables t))
    (all_both (term_pieces t) (bytes (41 ∷ 10 ∷ []) ∷ []) (free_variables t) [] (term_frees t) (last_bytes (41 ∷ 10 ∷ [])) st)))
    (question_frees ts)

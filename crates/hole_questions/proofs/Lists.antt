-- Private. Pieces of the items of a list, written one after another.
use Rattle.std.proofs.Common.{◌≡◌, refl, sym, ap, subst, ◌∙◌, arith, ℕ, zero, suc, ◌+◌, ◌<◌, ◌≤◌, Bool, true, false, List, [], ◌∷◌, ◌++◌, length}
use Rattle.std.proofs.Common.{take, drop, map, flat_map, slice_index_or, codes}
use Rattle.std.proofs.lemmas.List.{append-nil, append_assoc}
use Rattle.std.proofs.lemmas.Grind.{flat_map-append}
use Rattle.std.specs.List.{AllZip}
use Rattle.sexpr.specs.Characters.{is_word_byte, is_mark}
use Rattle.sexpr.specs.Printing.{printed_symbol}
use Rattle.sym_table.specs.Table.{Table}
use Rattle.term_model.specs.Terms.{Var, Fun, Term, terms_of, not_of}
use Rattle.term_pool.specs.Views.{TermsView, IsTerm, ReferToAll}
use Rattle.hole_fillers.specs.Questions.{clause_term, asserted_by}
use Rattle.hole_questions.specs.States.{Piece, bytes}
use Rattle.hole_questions.specs.Pieces.{term_pieces, argument_pieces, spaced_pieces, assert_pieces, question_pieces}
use Rattle.hole_questions.specs.Walks.{Writes, IsTooLong, WritesOrNot}
use Rattle.hole_questions.specs.declared.writer.Writer.{Writer}
use Rattle.hole_questions.proofs.Writing.{both, too_long_first, too_long_then}

-- words that are plain
pub or_plain : printed_symbol (codes "or") ≡ codes "or"
unfolding is_word_byte is_mark
or_plain = refl

pub not_plain : printed_symbol (codes "not") ≡ codes "not"
unfolding is_word_byte is_mark
not_plain = refl

pub false_plain : printed_symbol (codes "false") ≡ codes "false"
unfolding is_word_byte is_mark
false_plain = refl

-- what is said of a flag that is known
pub of_false : (b : Bool) (s : Table) (old new : Writer) (ps : List (Piece Fun Var)) → b ≡ false → WritesOrNot b s old new ps → IsTooLong s old ps
of_false b s old new ps e h = subst (λ b. WritesOrNot b s old new ps) e h

pub of_true : (b : Bool) (s : Table) (old new : Writer) (ps : List (Piece Fun Var)) → b ≡ true → WritesOrNot b s old new ps → Writes s old new ps
of_true b s old new ps e h = subst (λ b. WritesOrNot b s old new ps) e h

pub spaced_arguments : (ts : List Term) → flat_map spaced_pieces ts ≡ argument_pieces (terms_of ts)
spaced_arguments [] = refl
spaced_arguments (t ∷ ts) = ap (λ ps. spaced_pieces t ++ ps) (spaced_arguments ts)

mapped : {X Y Z : Type 0} (f : X → Y) (g : Y → List Z) (xs : List X) → flat_map g (map f xs) ≡ flat_map (λ x. g (f x)) xs
mapped f g [] = refl
mapped f g (x ∷ xs) = ap (λ zs. g (f x) ++ zs) (mapped f g xs)

pub asserted_pieces : (premises : List (List Term)) (clause : List Term) →
    flat_map (λ ts. assert_pieces (clause_term ts)) premises ++ flat_map (λ t. assert_pieces (not_of t)) clause
    ≡ question_pieces (asserted_by premises clause)
asserted_pieces premises clause =
    sym (flat_map-append assert_pieces (map clause_term premises) (map not_of clause)
    ∙ (ap (λ ps. ps ++ flat_map assert_pieces (map not_of clause)) (mapped clause_term assert_pieces premises)
    ∙ ap (λ ps. flat_map (λ ts. assert_pieces (clause_term ts)) premises ++ ps) (mapped not_of assert_pieces clause)))

-- the line of a denial, whose literal is written between these
abbrev pub before_denial : List (Piece Fun Var)
before_denial = bytes (codes "(assert ") ∷ bytes (codes "(") ∷ bytes (codes "not") ∷ bytes (codes " ") ∷ []

abbrev pub behind_denial : List (Piece Fun Var)
behind_denial = bytes (codes ")") ∷ bytes (41 ∷ 10 ∷ []) ∷ []

pub denial_pieces : (t : Term) → assert_pieces (not_of t) ≡ (before_denial ++ term_pieces t) ++ behind_denial
denial_pieces t =
    ap (λ w. bytes (codes "(assert ") ∷ bytes (codes "(") ∷ bytes w ∷ bytes (codes " ")
    ∷ (((term_pieces t ++ []) ++ bytes (codes ")") ∷ []) ++ bytes (41 ∷ 10 ∷ []) ∷ [])) not_plain
    ∙ ap (λ ps. bytes (codes "(assert ") ∷ bytes (codes "(") ∷ bytes (codes "not") ∷ bytes (codes " ") ∷ ps)
    (ap (λ ps. (ps ++ bytes (codes ")") ∷ []) ++ bytes (41 ∷ 10 ∷ []) ∷ []) (append-nil (term_pieces t))
    ∙ append_assoc (term_pieces t) (bytes (codes ")") ∷ []) (bytes (41 ∷ 10 ∷ []) ∷ []))

pub no_literals : term_pieces (clause_term []) ≡ bytes (codes "false") ∷ []
no_literals = ap (λ w. bytes w ∷ []) false_plain

pub some_literals : (l m : Term) (ts : List Term) →
    term_pieces (clause_term (l ∷ m ∷ ts)) ≡ bytes (codes "(") ∷ bytes (codes "or") ∷ (flat_map spaced_pieces (l ∷ m ∷ ts) ++ bytes (codes ")") ∷ [])
some_literals l m ts =
    ap (λ w. bytes (codes "(") ∷ bytes w ∷ (argument_pieces (terms_of (l ∷ m ∷ ts)) ++ bytes (codes ")") ∷ [])) or_plain
    ∙ ap (λ ps. bytes (codes "(") ∷ bytes (codes "or") ∷ (ps ++ bytes (codes ")") ∷ [])) (sym (spaced_arguments (l ∷ m ∷ ts)))

-- the item at a place of the second list, in step with that of the first one
module _ {X Y : Type 0} (R : X → Y → Type 0) where
  pub record IsStepAt (g : Y → List (Piece Fun Var)) (k : ℕ) (x : X) (ys : List Y) : Type 0 where
    pub of : Y
    pub fits : R x of
    pub more : flat_map g (take (suc k) ys) ≡ flat_map g (take k ys) ++ g of
    pub rest : flat_map g ys ≡ (flat_map g (take k ys) ++ g of) ++ flat_map g (drop (suc k) ys)

  pub step_at :
      (g : Y → List (Piece Fun Var)) (k : ℕ) (x : X) (xs : List X) (ys : List Y) → AllZip R xs ys → k < length xs → x ≡ slice_index_or xs k x →
      IsStepAt g k x ys
  step_at g k x [] ys h l e = absurd (omega (arith, l))
  step_at g k x (a ∷ xs) [] h l e = absurd h
  step_at g zero x (a ∷ xs) (y ∷ ys) h l e = record {
    of = y;
    fits = subst (λ b. R b y) (sym e) h.0;
    more = append-nil (g y);
    rest = ap (λ ps. ps ++ flat_map g ys) refl;
  }
  step_at g (suc k) x (a ∷ xs) (y ∷ ys) h l e =
      let r = step_at g k x xs ys h.1 (omega (arith, l)) e in
      record {
        of = r.of;
        fits = r.fits;
        more = ap (λ ps. g y ++ ps) r.more ∙ sym (append_assoc (g y) (flat_map g (take k ys)) (g r.of));
        rest =
            ap (λ ps. g y ++ ps) r.rest
            ∙ (sym (append_assoc (g y) (flat_map g (take k ys) ++ g r.of) (flat_map g (drop (suc k) ys)))
            ∙ ap (λ ps. ps ++ flat_map g (drop (suc k) ys)) (sym (append_assoc (g y) (flat_map g (take k ys)) (g r.of))));
      }

  module _ (g : Y → List (Piece Fun Var)) (s : Table) (old mid new : Writer) (k : ℕ) (x : X) (xs : List X) (ys : List Y) (h : AllZip R xs ys)
      (l : k < length xs) (e : x ≡ slice_index_or xs k x) (before : Writes s old mid (flat_map g (take k ys))) where
    pub one_more : ((y : Y) → R x y → Writes s mid new (g y)) → Writes s old new (flat_map g (take (k + 1) ys))
    one_more wrote =
        let r = step_at g k x xs ys h l e in
        let next : suc k ≡ k + 1 = omega arith in
        subst (λ n. Writes s old new (flat_map g (take n ys))) next
        (subst (Writes s old new) (sym r.more) (both s old mid new (flat_map g (take k ys)) (g r.of) before (wrote r.of r.fits)))

    pub one_too_long : ((y : Y) → R x y → IsTooLong s mid (g y)) → IsTooLong s old (flat_map g ys)
    one_too_long long =
        let r = step_at g k x xs ys h l e in
        subst (IsTooLong s old) (sym r.rest)
        (too_long_first s old (flat_map g (take k ys) ++ g r.of) (flat_map g (drop (suc k) ys))
        (too_long_then s old mid (flat_map g (take k ys)) (g r.of) before (long r.of r.fits)))

  all_taken : (k : ℕ) (xs : List X) (ys : List Y) → AllZip R xs ys → length xs ≤ k → take k ys ≡ ys
  all_taken zero [] [] h l = refl
  all_taken (suc k) [] [] h l = refl
  all_taken k [] (y ∷ ys) h l = absurd h
  all_taken k (x ∷ xs) [] h l = absurd h
  all_taken zero (x ∷ xs) (y ∷ ys) h l = absurd (omega (arith, l))
  all_taken (suc k) (x ∷ xs) (y ∷ ys) h l = ap (λ zs. y ∷ zs) (all_taken k xs ys h.1 (omega (arith, l)))

  pub all_written : (g : Y → List (Piece Fun Var)) (s : Table) (old new : Writer) (k : ℕ) (xs : List X) (ys : List Y) → AllZip R xs ys → length xs ≤ k
      → Writes s old new (flat_map g (take k ys)) → Writes s old new (flat_map g ys)
  all_written g s old new k xs ys h l wrote = subst (λ zs. Writes s old new (flat_map g zs)) (all_taken k xs ys h l) wrote

-- a clause, by the number of its literals
pub clause_none : {X : Type 0} (R : X → Term → Type 0) (xs : List X) (ts : List Term) (P : List (Piece Fun Var) → Type 0) → AllZip R xs ts → length xs ≡ 0
    → P (bytes (codes "false") ∷ []) → P (term_pieces (clause_term ts))
clause_none R [] [] P h e p = subst P (sym no_literals) p
clause_none R [] (t ∷ ts) P h e p = absurd h
clause_none R (x ∷ xs) ts P h e p = absurd (omega (arith, e))

pub clause_one : {X : Type 0} (R : X → Term → Type 0) (x : X) (xs : List X) (ts : List Term) (P : List (Piece Fun Var) → Type 0) → AllZip R xs ts
    → length xs ≡ 1 → x ≡ slice_index_or xs 0 x → ((t : Term) → R x t → P (term_pieces t)) → P (term_pieces (clause_term ts))
clause_one R x [] ts P h e at p = absurd (omega (arith, e))
clause_one R x (y ∷ []) [] P h e at p = absurd h
clause_one R x (y ∷ []) (t ∷ []) P h e at p = p t (subst (λ z. R z t) (sym at) h.0)
clause_one R x (y ∷ []) (t ∷ u ∷ ts) P h e at p = absurd h.1
clause_one R x (y ∷ z ∷ xs) ts P h e at p = absurd (omega (arith, e))

pub clause_more : {X : Type 0} (R : X → Term → Type 0) (xs : List X) (ts : List Term) (P : List (Piece Fun Var) → Type 0) → AllZip R xs ts
    → (length xs ≡ 0 → ⊥) → (length xs ≡ 1 → ⊥)
    → P (bytes (codes "(") ∷ bytes (codes "or") ∷ (flat_map spaced_pieces ts ++ bytes (codes ")") ∷ [])) → P (term_pieces (clause_term ts))
clause_more R [] ts P h e f p = absurd (e refl)
clause_more R (x ∷ []) ts P h e f p = absurd (f refl)
clause_more R (x ∷ y ∷ xs) [] P h e f p = absurd h
clause_more R (x ∷ y ∷ xs) (t ∷ []) P h e f p = absurd h.1
clause_more R (x ∷ y ∷ xs) (t ∷ u ∷ ts) P h e f p = subst P (sym (some_literals t u ts)) p

-- references that stand for terms, place by place
pub all_terms : (s : Table) (v : TermsView) (rs : List ℕ) (ts : List Term) → ReferToAll s v rs ts → (k d : ℕ) → k < length rs →
    IsTerm s v (slice_index_or rs k d)
all_terms s v [] ts h k d l = absurd (omega (arith, l))
all_terms s v (r ∷ rs) [] h k d l = absurd h
all_terms s v (r ∷ rs) (t ∷ ts) h zero d l = record { means = t; refers = h.0 }
all_terms s v (r ∷ rs) (t ∷ ts) h (suc k) d l = all_terms s v rs ts h.1 k d (omega (arith, l))

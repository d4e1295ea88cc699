-- Private. Pieces that are written one after another, and pieces that are too long.
use Rattle.std.proofs.Common.{◌≡◌, refl, sym, ap, subst, arith, ℕ, ◌<◌, ◌≤◌, Bool, true, false, List, [], ◌∷◌, ◌++◌, length, codes}
use Rattle.std.proofs.lemmas.Grind.{fold-append}
use Rattle.std.proofs.lemmas.List.{length-append}
use Rattle.sexpr.specs.Printing.{printed_symbol}
use Rattle.sym_table.specs.Table.{Table, IsTable}
use Rattle.term_model.specs.Terms.{Var, var_eq, Fun}
use Rattle.rule_model.specs.TermTests.{fun_eq}
use Rattle.hole_fillers.specs.Questions.{most_bytes, name_with, place_among}
use Rattle.hole_questions.specs.States.{Piece, bytes, function, binder, variable, save, bind, restore, State, after, after_leaf, after_all, state_of}
use Rattle.hole_questions.specs.States.{IsPieceOf, IsStateOf}
use Rattle.hole_questions.specs.Walks.{Writes, IsTooLong, WritesOrNot}
use Rattle.hole_questions.specs.declared.writer.Writer.{Writer}
use Rattle.hole_questions.proofs.Alike.{goes_on}

pub one_piece :
    (s : Table) → IsTable s → (old new : Writer) (p : Piece ℕ ℕ) (q : Piece Fun Var) → IsPieceOf s p q →
    state_of new ≡ after_leaf (state_of old) p → Writes s old new (q ∷ [])
one_piece s table old new p q alike e st h =
    subst (λ w. IsStateOf s w (after fun_eq var_eq st q)) (sym e) (goes_on s table (state_of old) st p q h alike)

pub some_bytes :
    (s : Table) → IsTable s → (old new : Writer) (b : List ℕ) → state_of new ≡ after_leaf (state_of old) (bytes b) → Writes s old new (bytes b ∷ [])
some_bytes s table old new b e = one_piece s table old new (bytes b) (bytes b) refl e

pub nothing : (s : Table) (w : Writer) → Writes s w w []
nothing s w st h = h

pub both : (s : Table) (old mid new : Writer) (ps qs : List (Piece Fun Var)) → Writes s old mid ps → Writes s mid new qs → Writes s old new (ps ++ qs)
both s old mid new ps qs first second st h =
    subst (IsStateOf s (state_of new)) (sym (fold-append (after fun_eq var_eq) st ps qs)) (second (after_all st ps) (first st h))

pub two_bytes :
    (s : Table) → IsTable s → (old mid new : Writer) (a b : List ℕ) → state_of mid ≡ after_leaf (state_of old) (bytes a) →
    state_of new ≡ after_leaf (state_of mid) (bytes b) → Writes s old new (bytes a ∷ bytes b ∷ [])
two_bytes s table old mid new a b e f =
    both s old mid new (bytes a ∷ []) (bytes b ∷ []) (some_bytes s table old mid a e) (some_bytes s table mid new b f)

pub four_bytes :
    (s : Table) → IsTable s → (old first second third new : Writer) (a b c d : List ℕ) → state_of first ≡ after_leaf (state_of old) (bytes a) →
    state_of second ≡ after_leaf (state_of first) (bytes b) → state_of third ≡ after_leaf (state_of second) (bytes c) →
    state_of new ≡ after_leaf (state_of third) (bytes d) → Writes s old new (bytes a ∷ bytes b ∷ bytes c ∷ bytes d ∷ [])
four_bytes s table old first second third new a b c d e f g h =
    both s old second new (bytes a ∷ bytes b ∷ []) (bytes c ∷ bytes d ∷ []) (two_bytes s table old first second a b e f)
    (two_bytes s table second third new c d g h)

-- a text only grows
one_longer : (st : State Fun Var) (p : Piece Fun Var) → length st.text ≤ length (after fun_eq var_eq st p).text
one_longer st (bytes b) = omega (arith, length-append st.text b)
one_longer st (function f) = omega (arith, length-append st.text (printed_symbol (name_with (codes "f") (place_among fun_eq f st.functions))))
one_longer st (binder x) = omega (arith, length-append st.text (printed_symbol (name_with (codes "v") (place_among var_eq x st.variables))))
one_longer st (variable x) = omega (arith, length-append st.text (printed_symbol (name_with (codes "v") (place_among var_eq x st.variables))))
one_longer st save = omega arith
one_longer st (bind x) = omega arith
one_longer st restore = omega arith

pub longer : (st : State Fun Var) (ps : List (Piece Fun Var)) → length st.text ≤ length (after_all st ps).text
longer st [] = omega arith
longer st (p ∷ ps) =
    let a = one_longer st p in
    let b = longer (after fun_eq var_eq st p) ps in
    omega (arith, a, b)

pub too_long_first : (s : Table) (old : Writer) (ps qs : List (Piece Fun Var)) → IsTooLong s old ps → IsTooLong s old (ps ++ qs)
too_long_first s old ps qs long st h =
    let e : after_all st (ps ++ qs) ≡ after_all (after_all st ps) qs = fold-append (after fun_eq var_eq) st ps qs in
    let f = ap (λ t. length t.text) e in
    let a = long st h in
    let b = longer (after_all st ps) qs in
    omega (arith, f, a, b)

pub too_long_then :
    (s : Table) (old mid : Writer) (ps qs : List (Piece Fun Var)) → Writes s old mid ps → IsTooLong s mid qs → IsTooLong s old (ps ++ qs)
too_long_then s old mid ps qs first long st h =
    subst (λ t. most_bytes < length t.text) (sym (fold-append (after fun_eq var_eq) st ps qs)) (long (after_all st ps) (first st h))

pub both_or_not :
    (b : Bool) (s : Table) (old mid new : Writer) (ps qs : List (Piece Fun Var)) → Writes s old mid ps → WritesOrNot b s mid new qs →
    WritesOrNot b s old new (ps ++ qs)
both_or_not true s old mid new ps qs first second = both s old mid new ps qs first second
both_or_not false s old mid new ps qs first second = too_long_then s old mid ps qs first second

-- what is written is longer than a question
pub long_already :
    (s : Table) (old new : Writer) (ps qs : List (Piece Fun Var)) → Writes s old new ps → most_bytes < length new.text.items →
    IsTooLong s old (ps ++ qs)
long_already s old new ps qs wrote long st h =
    let e : after_all st (ps ++ qs) ≡ after_all (after_all st ps) qs = fold-append (after fun_eq var_eq) st ps qs in
    let f = ap (λ t. length t.text) e in
    let k = ap length (wrote st h).text in
    let b = longer (after_all st ps) qs in
    omega (arith, f, k, long, b)

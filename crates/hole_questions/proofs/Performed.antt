-- Private. What is written of a part of a term, by what a walk finds of it.
use Rattle.std.proofs.Common.{◌≡◌, ℕ, pos, List, [], ◌∷◌, ◌++◌, refl, sym, ap, ◌∙◌, codes, decimal, subst}
use Rattle.std.proofs.lemmas.List.{append-nil, append_assoc}
use Rattle.sexpr.specs.Printing.{printed_symbol}
use Rattle.pair_pool.specs.Trees.{leaf}
use Rattle.sym_table.specs.Leaf.{Leaf, operator}
use Rattle.sym_table.specs.Table.{Table, IsLeaf, IsTable}
use Rattle.sym_table.specs.Words.{operator_symbol}
use Rattle.term_model.specs.Terms.{Var, Fun, Term, numeral, operation, call, let_in, Terms, no_terms, term, Bindings, no_bindings}
use Rattle.term_model.specs.Terms as model
use Rattle.term_pool.specs.StandsFor.{variable_leaf, function_leaf, StandsFor}
use Rattle.term_pool.specs.Views.{TermsView, RefersTo}
use Rattle.term_walk.specs.Walks.{ArePairsOf, IsSymbolWith, IsAppliedAt, IsLetAt, PutsArgument, IsBindingAt, PutsBinding}
use Rattle.term_walk.specs.declared.tasks.Task.{Task}
use Rattle.hole_questions.specs.States.{Piece, bytes, function, binder, variable, save, bind, restore, after_leaf, state_of, IsPieceOf}
use Rattle.hole_questions.specs.Pieces.{term_pieces, applied_pieces, argument_pieces, pair_pieces, bind_pieces}
use Rattle.hole_questions.specs.Walks.{leaf_piece, Writes, Part, whole, arguments, pairs, body, binds, close, end, part_pieces, Performs}
use Rattle.hole_questions.specs.declared.writer.Writer.{Writer}
use Rattle.hole_questions.proofs.Writing.{one_piece, some_bytes, nothing, both}

-- a symbol with arguments is this piece with them
record IsPieceWith (s : Table) (k : ℕ) (l : Leaf) (t : Term) (ts : Terms) : Type 0 where
  piece : Piece Fun Var
  alike : IsPieceOf s (leaf_piece k l) piece
  is : term_pieces t ≡ applied_pieces piece ts

piece_with : (s : Table) (k : ℕ) (l : Leaf) (t : Term) (ts : Terms) → IsLeaf s k l → IsSymbolWith t l ts → IsPieceWith s k l t ts
piece_with s k l (numeral n) ts there is = absurd is
piece_with s k l (model.variable x) ts there is = absurd is
piece_with s k l (operation op us) ts there is =
    subst (λ j. IsPieceWith s k j (operation op us) ts) (sym is.0)
    (subst (λ xs. IsPieceWith s k (operator op) (operation op us) xs) (sym is.1)
    (record { piece = bytes (printed_symbol (operator_symbol op)); alike = refl; is = refl }))
piece_with s k l (call f us) ts there is =
    subst (λ j. IsPieceWith s k j (call f us) ts) (sym is.0)
    (subst (λ xs. IsPieceWith s k (function_leaf f) (call f us) xs) (sym is.1)
    (record { piece = function f; alike = subst (λ j. IsLeaf s k j) is.0 there; is = refl }))
piece_with s k l (let_in bs t) ts there is = absurd is

module _ (s : Table) (table : IsTable s) (v : TermsView) (old_tasks new_tasks : List Task) (old new : Writer) where
  -- a part that is written whole
  pub all_of : (p : Part) → new_tasks ≡ old_tasks → Writes s old new (part_pieces p) → Performs s v old_tasks new_tasks old new p
  all_of p same wrote = record {
    written = part_pieces p;
    tasks = [];
    parts = [];
    wrote = wrote;
    put = same ∙ sym (append-nil old_tasks);
    are = tt;
    is = sym (append-nil (part_pieces p));
  }

  -- a leaf
  module _ (k : ℕ) (same : new_tasks ≡ old_tasks)
      (wrote : (l : Leaf) → IsLeaf s k l → state_of new ≡ after_leaf (state_of old) (leaf_piece k l)) where
    pub leaf_performs : (t : Term) → StandsFor s (leaf k) t → Performs s v old_tasks new_tasks old new (whole t)
    leaf_performs (numeral n) is =
        all_of (whole (numeral n)) same (some_bytes s table old new (decimal n) (wrote (Leaf.numeral (pos n)) is))
    leaf_performs (model.variable x) is =
        all_of (whole (model.variable x)) same (one_piece s table old new (variable k) (variable x) is (wrote (variable_leaf x) is))
    leaf_performs (operation op no_terms) is =
        all_of (whole (operation op no_terms)) same
        (some_bytes s table old new (printed_symbol (operator_symbol op)) (wrote (operator op) is))
    leaf_performs (operation op (term a ts)) is = absurd is
    leaf_performs (call f no_terms) is =
        all_of (whole (call f no_terms)) same (one_piece s table old new (function k) (function f) is (wrote (function_leaf f) is))
    leaf_performs (call f (term a ts)) is = absurd is
    leaf_performs (let_in bs t) is = absurd is

  -- an application, and a let
  pub application_performs : (mid : Writer) (head list : ℕ) (t : Term) → IsAppliedAt s v head list t
      → state_of mid ≡ after_leaf (state_of old) (bytes (codes "("))
      → ((l : Leaf) → IsLeaf s head l → state_of new ≡ after_leaf (state_of mid) (leaf_piece head l))
      → new_tasks ≡ old_tasks ++ (Task.Close ∷ Task.Arguments list ∷ []) → Performs s v old_tasks new_tasks old new (whole t)
  application_performs mid head list t a bracket wrote put =
      let p = piece_with s head a.symbol t (term a.first a.others) a.leaf_is a.applied in
      record {
        written = bytes (codes "(") ∷ p.piece ∷ [];
        tasks = Task.Close ∷ Task.Arguments list ∷ [];
        parts = close ∷ arguments (term a.first a.others) ∷ [];
        wrote =
            both s old mid new (bytes (codes "(") ∷ []) (p.piece ∷ []) (some_bytes s table old mid (codes "(") bracket)
            (one_piece s table mid new (leaf_piece head a.symbol) p.piece p.alike (wrote a.symbol a.leaf_is));
        put = put;
        are = (tt, (a.arguments, tt));
        is = p.is;
      }

  pub let_performs : (list of_body : ℕ) (t : Term) → IsLetAt s v list of_body t → state_of new ≡ after_leaf (state_of old) (bytes (codes "(let ("))
      → new_tasks ≡ old_tasks ++ (Task.End ∷ Task.Body list of_body ∷ Task.FirstBindings list ∷ [])
      → Performs s v old_tasks new_tasks old new (whole t)
  let_performs list of_body t h wrote put = subst (λ x. Performs s v old_tasks new_tasks old new (whole x)) (sym h.is) (record {
    written = bytes (codes "(let (") ∷ [];
    tasks = Task.End ∷ Task.Body list of_body ∷ Task.FirstBindings list ∷ [];
    parts = end ∷ body h.bindings h.inside ∷ pairs [] h.bindings ∷ [];
    wrote = some_bytes s table old new (codes "(let (") wrote;
    put = put;
    are = (tt, ((h.pairs, h.refers), ((refl, h.pairs), tt)));
    is =
        ap (λ ps. bytes (codes "(let (") ∷ (pair_pieces [] h.bindings ++ (bytes (codes ") ") ∷ save ∷ ps)))
        (sym (append_assoc (bind_pieces h.bindings) (term_pieces h.inside) (bytes (codes ")") ∷ restore ∷ [])));
  })

  pub body_performs : (mid : Writer) (list of_body : ℕ) (bs : Bindings) (t : Term) → ArePairsOf s v list bs → RefersTo s v of_body t
      → state_of mid ≡ after_leaf (state_of old) (bytes (codes ") ")) → state_of new ≡ after_leaf (state_of mid) save
      → new_tasks ≡ old_tasks ++ (Task.Term of_body ∷ Task.Binds list ∷ []) → Performs s v old_tasks new_tasks old new (body bs t)
  body_performs mid list of_body bs t are refers bracket saved put = record {
    written = bytes (codes ") ") ∷ save ∷ [];
    tasks = Task.Term of_body ∷ Task.Binds list ∷ [];
    parts = whole t ∷ binds bs ∷ [];
    wrote =
        both s old mid new (bytes (codes ") ") ∷ []) (save ∷ []) (some_bytes s table old mid (codes ") ") bracket)
        (one_piece s table mid new save save tt saved);
    put = put;
    are = (refers, (are, tt));
    is = ap (λ ps. bytes (codes ") ") ∷ save ∷ (bind_pieces bs ++ ps)) (sym (append-nil (term_pieces t)));
  }

  -- lists of arguments
  pub no_arguments : (ts : Terms) → ts ≡ no_terms → new_tasks ≡ old_tasks → old ≡ new → Performs s v old_tasks new_tasks old new (arguments ts)
  no_arguments ts is same e =
      subst (λ x. Performs s v old_tasks new_tasks old new (arguments x)) (sym is)
      (all_of (arguments no_terms) same (subst (λ w. Writes s old w []) e (nothing s old)))

  pub next_performs : (ts : Terms) → PutsArgument s v old_tasks new_tasks ts → state_of new ≡ after_leaf (state_of old) (bytes (codes " "))
      → Performs s v old_tasks new_tasks old new (arguments ts)
  next_performs ts h space = subst (λ x. Performs s v old_tasks new_tasks old new (arguments x)) (sym h.is) (record {
    written = bytes (codes " ") ∷ [];
    tasks = Task.Arguments h.of_others ∷ Task.Term h.of_first ∷ [];
    parts = arguments h.others ∷ whole h.first ∷ [];
    wrote = some_bytes s table old new (codes " ") space;
    put = h.put;
    are = (h.list, (h.refers, tt));
    is = ap (λ ps. bytes (codes " ") ∷ (term_pieces h.first ++ ps)) (sym (append-nil (argument_pieces h.others)));
  })

  -- lists of bindings
  pub no_pairs : (before : List ℕ) (bs : Bindings) → bs ≡ no_bindings → new_tasks ≡ old_tasks → old ≡ new
      → Performs s v old_tasks new_tasks old new (pairs before bs)
  no_pairs before bs is same e =
      subst (λ x. Performs s v old_tasks new_tasks old new (pairs before x)) (sym is)
      (all_of (pairs before no_bindings) same (subst (λ w. Writes s old w []) e (nothing s old)))

  pub pair_performs : (first second third : Writer) (before : List ℕ) (k : ℕ) (bs : Bindings) → PutsBinding s v k old_tasks new_tasks bs
      → state_of first ≡ after_leaf (state_of old) (bytes before)
      → state_of second ≡ after_leaf (state_of first) (bytes (codes "("))
      → state_of third ≡ after_leaf (state_of second) (binder k)
      → state_of new ≡ after_leaf (state_of third) (bytes (codes " ")) → Performs s v old_tasks new_tasks old new (pairs before bs)
  pair_performs first second third before k bs h front bracket bound space =
      subst (λ x. Performs s v old_tasks new_tasks old new (pairs before x)) (sym h.has.is) (record {
        written = bytes before ∷ bytes (codes "(") ∷ binder h.has.bound ∷ bytes (codes " ") ∷ [];
        tasks = Task.Bindings h.rest ∷ Task.Close ∷ Task.Term h.of_value ∷ [];
        parts = pairs (codes " ") h.has.others ∷ close ∷ whole h.has.value ∷ [];
        wrote =
            both s old first new (bytes before ∷ []) (bytes (codes "(") ∷ binder h.has.bound ∷ bytes (codes " ") ∷ [])
            (some_bytes s table old first before front)
            (both s first second new (bytes (codes "(") ∷ []) (binder h.has.bound ∷ bytes (codes " ") ∷ [])
            (some_bytes s table first second (codes "(") bracket)
            (both s second third new (binder h.has.bound ∷ []) (bytes (codes " ") ∷ [])
            (one_piece s table second third (binder k) (binder h.has.bound) h.has.leaf_is bound) (some_bytes s table third new (codes " ") space)));
        put = h.put;
        are = ((refl, h.has.list), (tt, (h.has.refers, tt)));
        is =
            ap (λ ps. bytes before ∷ bytes (codes "(") ∷ binder h.has.bound ∷ bytes (codes " ") ∷ (term_pieces h.has.value ++ bytes (codes ")") ∷ ps))
            (sym (append-nil (pair_pieces (codes " ") h.has.others)));
      })

  -- the variables of bindings, bound
  pub no_binds : (bs : Bindings) → bs ≡ no_bindings → new_tasks ≡ old_tasks → old ≡ new → Performs s v old_tasks new_tasks old new (binds bs)
  no_binds bs is same e =
      subst (λ x. Performs s v old_tasks new_tasks old new (binds x)) (sym is)
      (all_of (binds no_bindings) same (subst (λ w. Writes s old w []) e (nothing s old)))

  pub bind_performs : (k of_value rest : ℕ) (bs : Bindings) → IsBindingAt s v k of_value rest bs → state_of new ≡ after_leaf (state_of old) (bind k)
      → new_tasks ≡ old_tasks ++ (Task.Binds rest ∷ []) → Performs s v old_tasks new_tasks old new (binds bs)
  bind_performs k of_value rest bs h bound put = subst (λ x. Performs s v old_tasks new_tasks old new (binds x)) (sym h.is) (record {
    written = bind h.bound ∷ [];
    tasks = Task.Binds rest ∷ [];
    parts = binds h.others ∷ [];
    wrote = one_piece s table old new (bind k) (bind h.bound) h.leaf_is bound;
    put = put;
    are = (h.list, tt);
    is = ap (λ ps. bind h.bound ∷ ps) (sym (append-nil (bind_pieces h.others)));
  })

  -- brackets
  pub close_performs : new_tasks ≡ old_tasks → state_of new ≡ after_leaf (state_of old) (bytes (codes ")")) → Performs s v old_tasks new_tasks old new close
  close_performs same e = all_of close same (some_bytes s table old new (codes ")") e)

  pub end_performs : (mid : Writer) → new_tasks ≡ old_tasks → state_of mid ≡ after_leaf (state_of old) (bytes (codes ")"))
      → state_of new ≡ after_leaf (state_of mid) restore → Performs s v old_tasks new_tasks old new end
  end_performs mid same first second =
      all_of end same
      (both s old mid new (bytes (codes ")") ∷ []) (restore ∷ []) (some_bytes s table old mid (codes ")") first)
      (one_piece s table mid new restore restore tt second))

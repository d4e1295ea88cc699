-- What is printed of a term, by what it is at its top, and of its lists.
use Rattle.std.proofs.Common.{◌≡◌, ℕ, ◌<◌, ◌^◌, pos, true, false, Some, None, List, [], ◌∷◌, ◌++◌, refl, sym, ap, ◌∙◌, subst, arith, codes}
use Rattle.std.proofs.lemmas.List.{append-nil}
use Rattle.std.specs.Prelude.{decimal}
use Rattle.sexpr.specs.Printing.{printed_symbol}
use Rattle.sexpr.specs.Printed.{symbol_item, printed}
use Rattle.pair_pool.specs.Trees.{leaf}
use Rattle.sym_table.specs.Leaf.{Leaf, operator, name_of}
use Rattle.sym_table.specs.Table.{Table, IsLeaf}
use Rattle.sym_table.specs.Words.{operator_symbol}
use Rattle.term_model.specs.Terms.{Term, numeral, variable, operation, call, let_in, Terms, no_terms, term, Bindings, no_bindings}
use Rattle.term_pool.specs.StandsFor.{variable_leaf, function_leaf, StandsFor}
use Rattle.term_pool.specs.Views.{TermsView, RefersTo}
use Rattle.problem_text.specs.Scripts.{Script, with_term, with_let_name}
use Rattle.printed_proofs.specs.Parts.{Part, whole, arguments, pairs, body, close, bracket, naming, IsApplied, GoesOn}
use Rattle.printed_proofs.specs.Shared.{Plan}
use Rattle.printed_proofs.proofs.PartByPart.{operation_applied, call_applied, unnamed, first_named, named_again, alone, numeral_whole, variable_whole, let_whole}
use Rattle.printed_proofs.proofs.PartByPart.{arguments_end, arguments_next, pairs_end, pairs_next}
use Rattle.term_walk.specs.Walks.{IsSymbolWith, IsAppliedAt, IsLetAt, PutsArgument, PutsBinding}
use Rattle.term_walk.specs.declared.tasks.Task.{Task}
use Rattle.term_printer.specs.Names.{name_numbered, entry_at, AreGiven}
use Rattle.term_printer.specs.Pages.{leaf_text, PerformsIn, Performs}
use Rattle.term_printer.specs.declared.names.Entry.{Entry}
use Rattle.term_printer.specs.declared.page.Page.{Page}
use Rattle.term_printer.proofs.GivenNames.{unplanned, planned_as}
use Rattle.term_printer.proofs.Pieces.{few_for_pair, symbol_same}

-- an application is one of the name of its symbol
applied_by_name : (t : Term) (l : Leaf) (ts : Terms) → IsSymbolWith t l ts → IsApplied t (name_of l) ts
applied_by_name (numeral n) l ts is = absurd is
applied_by_name (variable x) l ts is = absurd is
applied_by_name (operation op us) l ts is =
    subst (λ k. IsApplied (operation op us) (name_of k) ts) (sym is.0)
    (subst (λ xs. IsApplied (operation op us) (operator_symbol op) xs) (sym is.1) (operation_applied op us))
applied_by_name (call f us) l ts is =
    subst (λ k. IsApplied (call f us) (name_of k) ts) (sym is.0) (subst (λ xs. IsApplied (call f us) f.name xs) (sym is.1) (call_applied f us))
applied_by_name (let_in bs t) l ts is = absurd is

module _ (plan : Plan) (s : Table) (v : TermsView) (old new : Page) where
  -- nothing is left of a part, and the state behind it is this
  whole_part : (p : Part) (bytes : List ℕ) (u w : Script) → new.text.items ≡ old.text.items ++ bytes → new.tasks.items ≡ old.tasks.items
      → AreGiven plan s v new.names w.taken → ((ps : List Part) → GoesOn plan u (p ∷ ps) bytes w ps) → PerformsIn plan s v old new p u
  whole_part p bytes u w text same given goes = record {
    bytes = bytes;
    behind = w;
    tasks = [];
    parts = [];
    text = text;
    left = same ∙ sym (append-nil old.tasks.items);
    are = tt;
    few = omega arith;
    given = given;
    goes_on = goes;
  }

  still_given : new.names ≡ old.names → (u : Script) → AreGiven plan s v old.names u.taken → AreGiven plan s v new.names u.taken
  still_given names u g = subst (λ n. AreGiven plan s v n u.taken) (sym names) g

  -- a leaf, printed
  module _ (k r : ℕ) (low : r < 2 ^ 30) (text : (l : Leaf) → IsLeaf s k l → new.text.items ≡ old.text.items ++ leaf_text l)
      (same : new.tasks.items ≡ old.tasks.items) (names : new.names ≡ old.names) where
    symbol_text : (l : Leaf) → IsLeaf s k l → leaf_text l ≡ printed_symbol (name_of l) → new.text.items ≡ old.text.items ++ printed (symbol_item (name_of l))
    symbol_text l is e = text l is ∙ ap (λ b. old.text.items ++ b) (e ∙ sym (symbol_same (name_of l)))

    -- an application of a symbol to nothing
    symbol_alone : (t : Term) (l : Leaf) → RefersTo s v r t → IsApplied t (name_of l) no_terms → IsLeaf s k l → leaf_text l ≡ printed_symbol (name_of l)
        → Performs plan s v old new (whole t)
    symbol_alone t l refers applied is e u g =
        whole_part (whole t) (printed (symbol_item (name_of l))) u (with_term t u) (symbol_text l is e) same (still_given names u g)
        (λ ps. alone plan u ps t (name_of l) applied (unplanned plan s v old.names u.taken g r t refers (g.cells r low)))

    pub leaf_performs : (t : Term) → RefersTo s v r t → StandsFor s (leaf k) t → Performs plan s v old new (whole t)
    leaf_performs (numeral n) refers is u g =
        whole_part (whole (numeral n)) (decimal n) u (with_term (numeral n) u) (text (Leaf.numeral (pos n)) is) same (still_given names u g)
        (λ ps. numeral_whole plan u ps n)
    leaf_performs (variable x) refers is u g =
        whole_part (whole (variable x)) (printed (symbol_item x.name)) u (with_term (variable x) u) (symbol_text (variable_leaf x) is refl) same
        (still_given names u g) (λ ps. variable_whole plan u ps x)
    leaf_performs (operation op no_terms) refers is u g =
        symbol_alone (operation op no_terms) (operator op) refers (operation_applied op no_terms) is refl u g
    leaf_performs (operation op (term a ts)) refers is u g = absurd is
    leaf_performs (call f no_terms) refers is u g =
        symbol_alone (call f no_terms) (function_leaf f) refers (call_applied f no_terms) is refl u g
    leaf_performs (call f (term a ts)) refers is u g = absurd is
    leaf_performs (let_in bs t) refers is u g = absurd is

  -- an application without a name, one that is given its name behind it, and one whose name is given
  module _ (r head rest : ℕ) (t : Term) (a : IsAppliedAt s v head rest t) (refers : RefersTo s v r t) where
    abbrev head_text : List ℕ
    head_text = printed (symbol_item (name_of a.symbol))

    applied : IsApplied t (name_of a.symbol) (term a.first a.others)
    applied = applied_by_name t a.symbol (term a.first a.others) a.applied

    same_head : (before : List ℕ) → ((l : Leaf) → IsLeaf s head l → new.text.items ≡ old.text.items ++ (before ++ (40 ∷ printed_symbol (name_of l))))
        → new.text.items ≡ old.text.items ++ (before ++ (40 ∷ head_text))
    same_head before text =
        text a.symbol a.leaf_is ∙ ap (λ b. old.text.items ++ (before ++ (40 ∷ b))) (sym (symbol_same (name_of a.symbol)))

    pub application_performs : entry_at old.names r ≡ None
        → ((l : Leaf) → IsLeaf s head l → new.text.items ≡ old.text.items ++ (40 ∷ printed_symbol (name_of l)))
        → new.tasks.items ≡ old.tasks.items ++ (Task.Close ∷ Task.Arguments rest ∷ []) → new.names ≡ old.names → Performs plan s v old new (whole t)
    application_performs none text left names u g = record {
      bytes = 40 ∷ head_text;
      behind = u;
      tasks = Task.Close ∷ Task.Arguments rest ∷ [];
      parts = close t ∷ arguments (term a.first a.others) ∷ [];
      text = same_head [] text;
      left = left;
      are = (tt, (a.arguments, tt));
      few = omega arith;
      given = still_given names u g;
      goes_on = λ ps. unnamed plan u ps t (name_of a.symbol) a.first a.others applied (unplanned plan s v old.names u.taken g r t refers none);
    }

    pub first_performs : (e : Entry) → entry_at old.names r ≡ Some e → e.is_given ≡ false
        → ((l : Leaf) → IsLeaf s head l → new.text.items ≡ old.text.items ++ (codes "(! " ++ (40 ∷ printed_symbol (name_of l))))
        → new.tasks.items ≡ old.tasks.items ++ (Task.Naming r ∷ Task.Close ∷ Task.Arguments rest ∷ []) → new.names ≡ old.names
        → Performs plan s v old new (whole t)
    first_performs e some not_given text left names u g =
        let p = planned_as plan s v old.names u.taken g r t e refers some in
        record {
          bytes = codes "(! " ++ (40 ∷ head_text);
          behind = u;
          tasks = Task.Naming r ∷ Task.Close ∷ Task.Arguments rest ∷ [];
          parts = naming p.named ∷ close t ∷ arguments (term a.first a.others) ∷ [];
          text = same_head (codes "(! ") text;
          left = left;
          are = (record { means = t; refers = refers; is = p.is }, (tt, (a.arguments, tt)));
          few = omega arith;
          given = still_given names u g;
          goes_on = λ ps. first_named plan u ps t (name_of a.symbol) a.first a.others p.named applied p.is (p.given ∙ not_given);
        }

    pub again_performs : (e : Entry) → entry_at old.names r ≡ Some e → e.is_given ≡ true
        → new.text.items ≡ old.text.items ++ printed_symbol (name_numbered e.number) → new.tasks.items ≡ old.tasks.items → new.names ≡ old.names
        → Performs plan s v old new (whole t)
    again_performs e some is_given text same names u g =
        let p = planned_as plan s v old.names u.taken g r t e refers some in
        whole_part (whole t) (printed (symbol_item p.named.name)) u (with_term t u)
        (text ∙ ap (λ b. old.text.items ++ b) (sym (symbol_same p.named.name ∙ ap printed_symbol p.name))) same (still_given names u g)
        (λ ps. named_again plan u ps t (name_of a.symbol) (term a.first a.others) p.named applied p.is (p.given ∙ is_given))

  -- a let
  pub let_performs : (list of_body : ℕ) (t : Term) → IsLetAt s v list of_body t → new.text.items ≡ old.text.items ++ codes "(let ("
      → new.tasks.items ≡ old.tasks.items ++ (Task.End ∷ Task.Body list of_body ∷ Task.FirstBindings list ∷ []) → new.names ≡ old.names
      → Performs plan s v old new (whole t)
  let_performs list of_body t h text left names u g =
      subst (λ x. PerformsIn plan s v old new (whole x) u) (sym h.is) (record {
        bytes = codes "(let (";
        behind = u;
        tasks = Task.End ∷ Task.Body list of_body ∷ Task.FirstBindings list ∷ [];
        parts = close (let_in h.bindings h.inside) ∷ body h.inside ∷ pairs [] h.bindings ∷ [];
        text = text;
        left = left;
        are = (tt, (h.refers, ((refl, h.pairs), tt)));
        few = omega arith;
        given = still_given names u g;
        goes_on = λ ps. let_whole plan u ps h.bindings h.inside;
      })

  -- lists of arguments
  pub no_arguments : (ts : Terms) → ts ≡ no_terms → new.text.items ≡ old.text.items → new.tasks.items ≡ old.tasks.items → new.names ≡ old.names
      → Performs plan s v old new (arguments ts)
  no_arguments ts is text tasks names u g =
      subst (λ x. PerformsIn plan s v old new (arguments x) u) (sym is)
      (whole_part (arguments no_terms) [] u u (text ∙ sym (append-nil old.text.items)) tasks (still_given names u g) (λ ps. arguments_end plan u ps))

  pub next_performs : (ts : Terms) → PutsArgument s v old.tasks.items new.tasks.items ts → new.text.items ≡ old.text.items ++ (32 ∷ [])
      → new.names ≡ old.names → Performs plan s v old new (arguments ts)
  next_performs ts h text names u g =
      subst (λ x. PerformsIn plan s v old new (arguments x) u) (sym h.is) (record {
        bytes = 32 ∷ [];
        behind = u;
        tasks = Task.Arguments h.of_others ∷ Task.Term h.of_first ∷ [];
        parts = arguments h.others ∷ whole h.first ∷ [];
        text = text;
        left = h.put;
        are = (h.list, (h.refers, tt));
        few = omega arith;
        given = still_given names u g;
        goes_on = λ ps. arguments_next plan u ps h.first h.others;
      })

  -- lists of bindings
  pub no_pairs : (before : List ℕ) (bs : Bindings) → bs ≡ no_bindings → new.text.items ≡ old.text.items → new.tasks.items ≡ old.tasks.items
      → new.names ≡ old.names → Performs plan s v old new (pairs before bs)
  no_pairs before bs is text tasks names u g =
      subst (λ x. PerformsIn plan s v old new (pairs before x) u) (sym is)
      (whole_part (pairs before no_bindings) [] u u (text ∙ sym (append-nil old.text.items)) tasks (still_given names u g)
      (λ ps. pairs_end plan u ps before))

  pub pair_performs : (before : List ℕ) (k : ℕ) (bs : Bindings) (h : PutsBinding s v k old.tasks.items new.tasks.items bs)
      → new.text.items ≡ old.text.items ++ (before ++ (40 ∷ (printed_symbol h.has.bound.name ++ 32 ∷ []))) → new.names ≡ old.names
      → Performs plan s v old new (pairs before bs)
  pair_performs before k bs h text names u g =
      subst (λ x. PerformsIn plan s v old new (pairs before x) u) (sym h.has.is) (record {
        bytes = before ++ (40 ∷ (printed (symbol_item h.has.bound.name) ++ 32 ∷ []));
        behind = with_let_name h.has.bound.name u;
        tasks = Task.Bindings h.rest ∷ Task.Close ∷ Task.Term h.of_value ∷ [];
        parts = pairs (32 ∷ []) h.has.others ∷ bracket ∷ whole h.has.value ∷ [];
        text = text ∙ ap (λ b. old.text.items ++ (before ++ (40 ∷ (b ++ 32 ∷ [])))) (sym (symbol_same h.has.bound.name));
        left = h.put;
        are = ((refl, h.has.list), (tt, (h.has.refers, tt)));
        few = few_for_pair before (printed (symbol_item h.has.bound.name));
        given = still_given names u g;
        goes_on = λ ps. pairs_next plan u ps before h.has.bound h.has.value h.has.others;
      })
